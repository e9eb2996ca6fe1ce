-- What a text spells is the name that prints as it.
use Rattle.std.proofs.Common.{◌≡◌, ◌≢◌, ◌⊎◌, inl, inr, ⊎_elim, ℕ, zero, suc, length, Bool, true, false, not, ◌&&◌, ◌||◌, ◌==◌, Contains, List, [], ◌∷◌, ◌++◌, Option, Some, None, option_map, option_and_then, cond, codes, All, refl, sym, ap, ◌∙◌, subst, arith, append_assoc, append-nil}
use Rattle.std.proofs.lemmas.Bool.{false≢true, eqb-true}
use Rattle.std.proofs.lemmas.List.Elements.{All-cons, All-nil}
use Rattle.std.proofs.lemmas.Slice.Eq.{bytes_eq-Decides}
use Rattle.std.specs.List.{list_all}
use Rattle.std.specs.Option.{option_cmp}
use Rattle.std.specs.Str.{bytes_eq}
use Rattle.cedar_ast.proofs.IdStops.{identifier_bytes}
use Rattle.cedar_ast.proofs.NameReading.{both_true, either, ids_are_identifiers, path_text}
use Rattle.cedar_ast.proofs.Names.{name_ord-name_cmp}
use Rattle.cedar_ast.specs.contracts.name.NameOrd.TheImpl as name_ord
use Rattle.cedar_json.specs.Words.{CommonTypeId, InternalName, IsIdentifier, IsNameFault, IsNameText, IsOfIdentifiers, IsReserved, IsReservedNameText, Name, NameFault, NoCommonType, NotAName, PlainName, RawName, Reserved, Text, UnreservedId, common_key, common_type_text, if_unreserved, is_among, is_identifier_byte, is_identifier_text, is_reserved, is_unreserved, joined, name_after, name_cmp, name_of, name_of_parts, name_text, namespace_key, pieces, plain_name, plain_name_in, raw_name, reserved_type_words, reserved_word, spelled_name, unreserved_id_text, with_byte}

-- a byte of an identifier is no colon
no_colon : (byte : ℕ) (test : Bool) → (byte == 58) ≡ test → is_identifier_byte byte ≡ true → test ≡ false
no_colon byte true colon inner = absurd (false≢true (subst (λ b. is_identifier_byte b ≡ true) (eqb-true byte 58 colon) inner))
no_colon byte false colon inner = refl

-- what stands before another byte than a colon isn't cut off
pieces-byte : (byte : ℕ) (rest : Text) → (byte == 58) ≡ false → pieces (byte ∷ rest) ≡ with_byte byte (pieces rest)
pieces-byte byte [] other = refl
pieces-byte byte (next ∷ rest) other =
    ap (λ test. cond (test && (next == 58)) ([] ∷ pieces rest) (with_byte byte (pieces (next ∷ rest)))) other

-- texts in a row, the first of them with some bytes before it
abbrev with_bytes : Text → List Text → List Text
with_bytes [] texts = texts
with_bytes (byte ∷ bytes) texts = with_byte byte (with_bytes bytes texts)

with_bytes-cons : (bytes first : Text) (rest : List Text) → with_bytes bytes (first ∷ rest) ≡ (bytes ++ first) ∷ rest
with_bytes-cons [] first rest = refl
with_bytes-cons (byte ∷ bytes) first rest = ap (with_byte byte) (with_bytes-cons bytes first rest)

-- the bytes of an identifier stand in one piece
pieces-part : (part rest : Text) → list_all is_identifier_byte part ≡ true → pieces (part ++ rest) ≡ with_bytes part (pieces rest)
pieces-part [] rest all = refl
pieces-part (byte ∷ part) rest all =
    let halves = both_true (is_identifier_byte byte) (list_all is_identifier_byte part) all in
    pieces-byte byte (part ++ rest) (no_colon byte (byte == 58) refl halves.0) ∙ ap (with_byte byte) (pieces-part part rest halves.1)

-- the pieces of an identifier with `::` behind it
pieces-colons : (part rest : Text) → IsIdentifier part → pieces (part ++ 58 ∷ 58 ∷ rest) ≡ part ∷ pieces rest
pieces-colons part rest is =
    pieces-part part (58 ∷ 58 ∷ rest) (identifier_bytes part is) ∙ with_bytes-cons part [] (pieces rest)
    ∙ ap (λ first. first ∷ pieces rest) (append-nil part)

-- the one piece of an identifier
pieces-identifier : (base : Text) → IsIdentifier base → pieces base ≡ base ∷ []
pieces-identifier base is =
    ap pieces (sym (append-nil base)) ∙ pieces-part base [] (identifier_bytes base is) ∙ with_bytes-cons base [] []
    ∙ ap (λ first. first ∷ []) (append-nil base)

-- the pieces of a name's text are its parts
pieces-name : (path : List Text) (base : Text) → All IsIdentifier path → IsIdentifier base
    → pieces (path_text path ++ base) ≡ path ++ base ∷ []
pieces-name [] base all is = pieces-identifier base is
pieces-name (part ∷ path) base all is =
    let first = all 0 part (omega arith) in
    let rest = pieces-name path base (λ k d below. all (suc k) d (omega (arith, below))) is in
    ap pieces (append_assoc (part ++ codes "::") (path_text path) base ∙ append_assoc part (codes "::") (path_text path ++ base))
    ∙ pieces-colons part (path_text path ++ base) first ∙ ap (λ others. part ∷ others) rest

-- the name of one part more
name_of_parts-more : (part : Text) (rest : List Text) (name : PlainName) → IsIdentifier part → name_of_parts rest ≡ Some name
    → name_of_parts (part ∷ rest) ≡ Some (name_after part name)
name_of_parts-more part [] name is e = absurd (cc)
name_of_parts-more part (next ∷ rest) name is e =
    ap (λ test. cond test (option_map (name_after part) (name_of_parts (next ∷ rest))) None) is ∙ ap (option_map (name_after part)) e

-- the parts of a name give it
name_of_parts-name : (path : List Text) (base : Text) → All IsIdentifier path → IsIdentifier base
    → name_of_parts (path ++ base ∷ []) ≡ Some (record { base = base; path = path })
name_of_parts-name [] base all is = ap (λ test. cond test (Some (record { base = base; path = [] })) None) is
name_of_parts-name (part ∷ path) base all is =
    name_of_parts-more part (path ++ base ∷ []) (record { base = base; path = path }) (all 0 part (omega arith))
    (name_of_parts-name path base (λ k d below. all (suc k) d (omega (arith, below))) is)

-- the text of a name of identifiers spells it
pub spelled_name-text : (name : PlainName) → IsOfIdentifiers name → spelled_name (name_text name) ≡ Some name
spelled_name-text name (base, path) =
    ap name_of_parts (pieces-name name.path name.base path base) ∙ name_of_parts-name name.path name.base path base

-- texts with `::` between each two
abbrev rejoined : List Text → Text
rejoined texts = joined (codes "::") texts

rejoined-byte : (byte : ℕ) (texts : List Text) → rejoined (with_byte byte texts) ≡ byte ∷ rejoined texts
rejoined-byte byte [] = refl
rejoined-byte byte (first ∷ rest) = refl

rejoined-colons : (first : Text) (rest : List Text) → rejoined ([] ∷ first ∷ rest) ≡ 58 ∷ 58 ∷ rejoined (first ∷ rest)
rejoined-colons first rest = refl

-- there is always a piece
record Piece (texts : List Text) : Type 0 where
  pub first : Text
  pub rest : List Text
  pub is : texts ≡ first ∷ rest

piece-byte : (byte : ℕ) (texts : List Text) → Piece (with_byte byte texts)
piece-byte byte [] = record { first = byte ∷ []; rest = []; is = refl }
piece-byte byte (first ∷ rest) = record { first = byte ∷ first; rest = rest; is = refl }

piece-cond : (test : Bool) (byte : ℕ) (texts others : List Text) → Piece (cond test ([] ∷ texts) (with_byte byte others))
piece-cond true byte texts others = record { first = []; rest = texts; is = refl }
piece-cond false byte texts others = piece-byte byte others

piece : (text : Text) → Piece (pieces text)
piece [] = record { first = []; rest = []; is = refl }
piece (byte ∷ []) = record { first = byte ∷ []; rest = []; is = refl }
piece (byte ∷ next ∷ rest) = piece-cond ((byte == 58) && (next == 58)) byte (pieces rest) (pieces (next ∷ rest))

rejoined-cut : (byte next : ℕ) (rest : Text) (test : Bool) → ((byte == 58) && (next == 58)) ≡ test
    → rejoined (pieces rest) ≡ rest → rejoined (pieces (next ∷ rest)) ≡ next ∷ rest
    → rejoined (cond test ([] ∷ pieces rest) (with_byte byte (pieces (next ∷ rest)))) ≡ byte ∷ next ∷ rest
rejoined-cut byte next rest true colons shorter longer =
    let halves = both_true (byte == 58) (next == 58) colons in
    let some = piece rest in
    ap (λ texts. rejoined ([] ∷ texts)) some.is ∙ ap (λ texts. 58 ∷ 58 ∷ rejoined texts) (sym some.is)
    ∙ ap (λ others. 58 ∷ 58 ∷ others) shorter
    ∙ ap (λ b. b ∷ 58 ∷ rest) (sym (eqb-true byte 58 halves.0)) ∙ ap (λ b. byte ∷ b ∷ rest) (sym (eqb-true next 58 halves.1))
rejoined-cut byte next rest false colons shorter longer =
    rejoined-byte byte (pieces (next ∷ rest)) ∙ ap (λ others. byte ∷ others) longer

-- the pieces of a text, joined again
rejoined-pieces : (text : Text) → rejoined (pieces text) ≡ text
rejoined-pieces [] = refl
rejoined-pieces (byte ∷ []) = refl
rejoined-pieces (byte ∷ next ∷ rest) =
    rejoined-cut byte next rest ((byte == 58) && (next == 58)) refl (rejoined-pieces rest) (rejoined-pieces (next ∷ rest))

-- what parts give is a name of identifiers that prints as the parts
record IsNameOf (parts : List Text) (name : PlainName) : Type 0 where
  pub identifiers : IsOfIdentifiers name
  pub prints : name_text name ≡ rejoined parts

IsNameOf-base : (base : Text) (name : PlainName) (test : Bool) → is_identifier_text base ≡ test
    → cond test (Some (record { base = base; path = [] })) None ≡ Some name → IsNameOf (base ∷ []) name
IsNameOf-base base name true is e =
    let same : record { base = base; path = [] } ≡ name = cc in
    subst (IsNameOf (base ∷ [])) same (record { identifiers = (is, All-nil IsIdentifier); prints = sym (append-nil base) })
IsNameOf-base base name false is e = absurd (cc)

IsNameOf-after : (part next : Text) (rest : List Text) (name : PlainName) → IsIdentifier part → IsNameOf (next ∷ rest) name
    → IsNameOf (part ∷ next ∷ rest) (name_after part name)
IsNameOf-after part next rest name is it = record {
  identifiers = (it.identifiers.0, All-cons IsIdentifier part name.path is it.identifiers.1);
  prints = append_assoc (part ++ codes "::") (path_text name.path) name.base ∙ append_assoc part (codes "::") (name_text name)
      ∙ ap (λ others. part ++ (codes "::" ++ others)) it.prints;
}

IsNameOf-more : (part next : Text) (rest : List Text) (name : PlainName) (test : Bool) (found : Option PlainName)
    → is_identifier_text part ≡ test → ((other : PlainName) → found ≡ Some other → IsNameOf (next ∷ rest) other)
    → cond test (option_map (name_after part) found) None ≡ Some name → IsNameOf (part ∷ next ∷ rest) name
IsNameOf-more part next rest name true (Some other) is it e =
    let same : name_after part other ≡ name = cc in
    subst (IsNameOf (part ∷ next ∷ rest)) same (IsNameOf-after part next rest other is (it other refl))
IsNameOf-more part next rest name _ _ is it e = absurd (cc)

named_by_parts : (parts : List Text) (name : PlainName) → name_of_parts parts ≡ Some name → IsNameOf parts name
named_by_parts [] name e = absurd (cc)
named_by_parts (base ∷ []) name e = IsNameOf-base base name (is_identifier_text base) refl e
named_by_parts (part ∷ next ∷ rest) name e =
    IsNameOf-more part next rest name (is_identifier_text part) (name_of_parts (next ∷ rest)) refl
    (λ other is. named_by_parts (next ∷ rest) other is) e

none_found : (found : Option PlainName) → ((name : PlainName) → found ≡ Some name → ⊥) → found ≡ None
none_found None none = refl
none_found (Some name) none = absurd (none name refl)

-- a text that no name prints as spells none
pub spelled_name-none : (text : Text) → ¬ IsNameText text → spelled_name text ≡ None
spelled_name-none text none =
    none_found (spelled_name text) (λ name e. let it = named_by_parts (pieces text) name e in
    none (name, it.identifiers, it.prints ∙ rejoined-pieces text))

-- a name spells the text that it prints as
spelled_internal : (name : InternalName) (text : Text) → name_text (name_of name) ≡ text → spelled_name text ≡ Some (name_of name)
spelled_internal name text prints =
    ap spelled_name (sym prints)
    ∙ spelled_name-text (name_of name) (name.parts.value.id.identifier, ids_are_identifiers name.parts.value.path.items)

pub spelled_raw : (name : RawName) (text : Text) → name_text (raw_name name) ≡ text → spelled_name text ≡ Some (raw_name name)
spelled_raw name text prints = spelled_internal name.0 text prints

or_true : (a : Bool) → (a || true) ≡ true
or_true true = refl
or_true false = refl

-- a text is no name where a fault of it is another than want of memory
pub no_name : (text : Text) (fault : NameFault) → IsNameFault IsNameText (λ _. ⊥) (λ _. ⊥) text fault
    → ((at : ℕ) × (fault ≡ NotAName at)) ⊎ ((fault ≡ Reserved) ⊎ (fault ≡ NoCommonType)) → ¬ IsNameText text
no_name text fault claim (inl (at, is)) = (subst (IsNameFault IsNameText (λ _. ⊥) (λ _. ⊥) text) is claim).other
no_name text fault claim (inr (inl is)) = absurd (subst (IsNameFault IsNameText (λ _. ⊥) (λ _. ⊥) text) is claim)
no_name text fault claim (inr (inr is)) = absurd (subst (IsNameFault IsNameText (λ _. ⊥) (λ _. ⊥) text) is claim)

-- a text that is among some is listed
listed-true : (text : Text) (texts : List Text) → Contains texts text → is_among text texts ≡ true
listed-true text [] (k, within, e) = absurd (omega (arith, within))
listed-true text (first ∷ rest) (zero, within, e) = ap (λ t. t || is_among text rest) ((bytes_eq-Decides text first).1 (sym e))
listed-true text (first ∷ rest) (suc k, within, e) =
    ap (λ t. bytes_eq text first || t) (listed-true text rest (k, omega (arith, within), e)) ∙ or_true (bytes_eq text first)

-- and a text that is listed is among them
pub true-listed : (text : Text) (texts : List Text) → is_among text texts ≡ true → Contains texts text
true-listed text [] e = absurd (false≢true e)
true-listed text (first ∷ rest) e =
    ⊎_elim (λ same. (0, omega arith, sym ((bytes_eq-Decides text first).0 same)))
    (λ later. let it = true-listed text rest later in (suc it.0, omega (arith, it.1), it.2))
    (either (bytes_eq text first) (is_among text rest) e)

-- a reserved name is found to be one
reserved-true : (name : PlainName) → IsReserved name → is_reserved name ≡ true
reserved-true name (inl base) = ap (λ t. t || is_among reserved_word name.path) ((bytes_eq-Decides name.base reserved_word).1 base)
reserved-true name (inr path) =
    ap (λ t. bytes_eq name.base reserved_word || t) (listed-true reserved_word name.path path) ∙ or_true (bytes_eq name.base reserved_word)

-- and none other is
true-reserved : (name : PlainName) → is_reserved name ≡ true → IsReserved name
true-reserved name e =
    ⊎_elim (λ base. inl ((bytes_eq-Decides name.base reserved_word).0 base)) (λ path. inr (true-listed reserved_word name.path path))
    (either (bytes_eq name.base reserved_word) (is_among reserved_word name.path) e)

pub unreserved_by : (name : PlainName) (test : Bool) → is_reserved name ≡ test → ¬ IsReserved name → cond test None (Some name) ≡ Some name
unreserved_by name true e other = absurd (other (true-reserved name e))
unreserved_by name false e other = refl

-- a name that isn't reserved spells the text that it prints as
pub plain_name_in-read : (name : Name) (text : Text) → name_text (plain_name name) ≡ text → plain_name_in text ≡ Some (plain_name name)
plain_name_in-read name text prints =
    ap (option_and_then if_unreserved) (spelled_internal name.name text prints)
    ∙ unreserved_by (plain_name name) (is_reserved (plain_name name)) refl name.unreserved

-- a text that no name prints as spells none
pub plain_name_in-none : (text : Text) → ¬ IsNameText text → plain_name_in text ≡ None
plain_name_in-none text none = ap (option_and_then if_unreserved) (spelled_name-none text none)

-- and so does one that a reserved name prints as
pub plain_name_in-reserved : (text : Text) → IsReservedNameText text → plain_name_in text ≡ None
plain_name_in-reserved text (name, identifiers, reserved, prints) =
    ap (option_and_then if_unreserved) (ap spelled_name (sym prints) ∙ spelled_name-text name identifiers)
    ∙ ap (λ t. cond t None (Some name)) (reserved-true name reserved)

-- a text is no name where a fault of it is that it stops being one
pub no_plain_name : (text : Text) (fault : NameFault) → IsNameFault IsNameText IsReservedNameText (λ _. ⊥) text fault
    → ((at : ℕ) × (fault ≡ NotAName at)) ⊎ (fault ≡ NoCommonType) → ¬ IsNameText text
no_plain_name text fault claim (inl (at, is)) = (subst (IsNameFault IsNameText IsReservedNameText (λ _. ⊥) text) is claim).other
no_plain_name text fault claim (inr is) = absurd (subst (IsNameFault IsNameText IsReservedNameText (λ _. ⊥) text) is claim)

-- a text is a reserved name where a fault of it is that it is one
pub reserved_name : (text : Text) (fault : NameFault) → IsNameFault IsNameText IsReservedNameText (λ _. ⊥) text fault → fault ≡ Reserved
    → IsReservedNameText text
reserved_name text fault claim is = subst (IsNameFault IsNameText IsReservedNameText (λ _. ⊥) text) is claim

pub differs : (xs ys : Text) (test : Bool) → bytes_eq xs ys ≡ test → xs ≢ ys → test ≡ false
differs xs ys true same other = absurd (other ((bytes_eq-Decides xs ys).0 same))
differs xs ys false same other = refl

unlisted : (text : Text) (texts : List Text) (test : Bool) → is_among text texts ≡ test → ¬ Contains texts text → test ≡ false
unlisted text texts true listed other = absurd (other (true-listed text texts listed))
unlisted text texts false listed other = refl

-- the text of an identifier that isn't reserved is one
pub is_unreserved-id : (id : UnreservedId) → is_unreserved (unreserved_id_text id) ≡ true
is_unreserved-id id =
    ap (λ test. test && not (bytes_eq (unreserved_id_text id) reserved_word)) id.id.identifier
    ∙ ap not (differs (unreserved_id_text id) reserved_word (bytes_eq (unreserved_id_text id) reserved_word) refl id.unreserved)

-- the base name of a common type is the key that it is read from
pub common_key-read : (id : CommonTypeId) (key : Text) → common_type_text id ≡ key → common_key key ≡ Some (common_type_text id)
common_key-read id key is =
    let text = common_type_text id in
    ap common_key (sym is)
    ∙ ap (λ test. cond (test && not (is_among text reserved_type_words)) (Some text) None) (is_unreserved-id id.id)
    ∙ ap (λ test. cond (not test) (Some text) None)
    (unlisted text reserved_type_words (is_among text reserved_type_words) refl id.common)

-- a key that isn't empty names the namespace that it spells
pub namespace_key-name : (key : Text) → length key ≢ 0 → namespace_key key ≡ option_map Some (plain_name_in key)
namespace_key-name [] some = absurd (some refl)
namespace_key-name (byte ∷ rest) some = refl

-- namespaces are ordered as their names are
pub namespace_order : (a b : Option Name)
    → option_cmp ((name_ord.ghosts).cmp) a b ≡ option_cmp name_cmp (option_map plain_name a) (option_map plain_name b)
namespace_order None None = refl
namespace_order None (Some b) = refl
namespace_order (Some a) None = refl
namespace_order (Some a) (Some b) = name_ord-name_cmp a b
