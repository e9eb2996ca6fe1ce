-- Types as they are written, and the types that are read of them.
use Rattle.std.proofs.Common.{◌≡◌, ℕ, suc, max, Bool, true, false, cond, List, [], ◌∷◌, ◌++◌, map, Option, None, codes, refl, sym, ap, ap₂, subst, ◌∙◌, inl, inr, arith, All, IsUtf8}
use Rattle.std.proofs.lemmas.Bool.{and_parts, cases_Bool}
use Rattle.std.proofs.lemmas.List.Elements.{All-cons}
use Rattle.std.specs.List.Sorted.{IsStrictlySortedBy}
use Rattle.cedar_ast.proofs.Texts.{text_cmp-total}
use Rattle.cedar_ast.specs.Words.{IsIdentifier, IsOfIdentifiers, PlainName, Text, reserved_word, text_cmp}
use Rattle.cedar_ast.specs.declared.loc.Loc.{Loc}
use Rattle.cedar_schema_ast.specs.declared.json_schema.reference_type.ReferenceType.TheVariants.{CommonOrEntity}
use Rattle.cedar_schema_semantics.specs.Words.{alias_name}
use Rattle.cedar_schema_ast.specs.Words.{Expr, Members, Reference, extension_expr, long_expr, member, named, no_member, possible_names, record_expr, reference_to, set_expr, text_expr, truth_expr}
use Rattle.cedar_schema_grammar.specs.Grammar.{AreAttributes, AreMore, Form, IsName, IsPresence, IsType, between, mark, nothing, token, ◌then◌}
use Rattle.cedar_schema_grammar.specs.Grammar.{word as word_form}
use Rattle.cedar_schema_grammar.specs.Tree.{Attributes, Name, Ty, attribute, level, level_of_all, no_attributes, record_of, set_of}
use Rattle.cedar_schema_grammar.specs.Tree.{named as path_type}
use Rattle.cedar_schema_text.specs.Faults.{attribute_names, attributes_faults, type_faults, unless, reserved, is_name}
use Rattle.cedar_schema_text.specs.Meaning.{attributes_meant, in_order, type_meant}
use Rattle.cedar_schema_text.specs.Placed.{AttributeAt, fields_from}
use Rattle.cedar_schema_text.specs.declared.fault.Repeated.TheVariants as repeated
use Rattle.cedar_schema_text_laws.proofs.InOrder.{in_order-sorted, repeats-sorted, texts_of}
use Rattle.cedar_schema_text_laws.proofs.PathTexts.{PathOf, id_of_identifier, path_says}
use Rattle.cedar_json_laws.proofs.Placed.{expr_in, members_in, names_in}
use Rattle.cedar_schema_text_laws.proofs.Said.{fields_said, type_said}
use Rattle.cedar_schema_text_laws.proofs.Tokens.{Opens, Says, says_close_brace, says_colon, says_comma, says_greater, says_last, says_less, says_line, says_nothing, says_open_brace, says_question, says_quoted, says_so, says_then, says_word}
use Rattle.cedar_schema_text_laws.specs.Sayable.{Sayable, SayableMembers, names_of_members}
use Rattle.cedar_schema_text_laws.specs.TextForm.{read_built_in, members_form, type_form}
use Rattle.cedar_schema_text_writer.proofs.Flawless.{neither}
use Rattle.cedar_schema_text_writer.proofs.Reserved.{last_possible}
use Rattle.cedar_schema_text_writer.specs.Flaws.{form_flaw, members_flaw, open_flaw}
use Rattle.cedar_schema_text_writer.specs.Names.{First, built_in_by, built_in_written, is_bare, last_name}
use Rattle.cedar_schema_text_writer.specs.Pieces.{Piece, blank, line, path_pieces, quoted, sign, word}
use Rattle.cedar_schema_text_writer.specs.TypeLayout.{close_pieces, members_pieces, name_piece, presence_pieces, type_pieces}
use Rattle.cedar_schema_text_writer.specs.declared.fault.Part.{Part}
use Rattle.cedar_schema_text_writer.specs.declared.scope.Standing.{Standing}
use Rattle.cedar_schema_text_writer.specs.declared.scope.Standing.TheVariants as standing
use Rattle.cedar_schema_tokens.specs.Token.{Token, text}
use Rattle.cedar_schema_tokens.specs.declared.token.Symbol.TheVariants as mark_of

-- ---- what is written

abbrev mutual
  -- how many sets and records stand in one another
  pub nest : Expr → ℕ
  nest text_expr = 0
  nest long_expr = 0
  nest truth_expr = 0
  nest (extension_expr name) = 0
  nest (named reference) = 0
  nest (set_expr element) = suc (nest element)
  nest (record_expr all additional) = suc (nest_members all)

  pub nest_members : Members → ℕ
  nest_members no_member = 0
  nest_members (member name required ty rest) = max (nest ty) (nest_members rest)

-- the name by which a built-in type is written is of identifiers
pub built_in_identifiers : (first : First) (namespace : Option PlainName) (name : Text) → IsIdentifier name
    → IsOfIdentifiers (built_in_written first namespace name)
built_in_identifiers first namespace name is = by (first (possible_names namespace (alias_name name))) where
  none : All IsIdentifier []
  none k d below = absurd (omega (arith, below))

  by : (standing : Standing) → IsOfIdentifiers (built_in_by standing name)
  by standing.Undeclared = (is, none)
  by standing.Common = (is, All-cons IsIdentifier reserved_word [] refl none)
  by standing.Entity = (is, All-cons IsIdentifier reserved_word [] refl none)

-- a record without a flaw is closed
pub closed : (part : Part) (additional : Bool) → open_flaw part additional ≡ None → additional ≡ false
closed part false none = refl
closed part true none = absurd cc

-- ---- what is read

-- a type that says an expression, of a level and without faults
abbrev pub TypeOf : Expr → ℕ → Form
TypeOf form high ts rest = (t : Ty) × IsType t ts rest × (type_said (type_meant t) ≡ form) × (level t ≡ high) × (type_faults t ≡ [])

-- the same of a record
abbrev pub RecordOf : Expr → ℕ → Form
RecordOf form high ts rest =
    (all : Attributes) × (loc : Loc) × IsType (record_of all loc) ts rest × (type_said (type_meant (record_of all loc)) ≡ form)
    × (level (record_of all loc) ≡ high) × (type_faults (record_of all loc) ≡ [])

-- attributes that say some members
record AreFor (form : Members) (high : ℕ) (names : List Text) (all : Attributes) : Type 0 where
  said : fields_said (fields_from (attributes_meant all)) ≡ form
  named : texts_of (attribute_names all) ≡ names
  keys : map (λ (entry : Text × AttributeAt). entry.0) (attributes_meant all) ≡ names
  level : level_of_all all ≡ high
  faultless : attributes_faults all ≡ []

-- no more attributes, or more behind a comma
abbrev MoreOf : Members → ℕ → List Text → Form
MoreOf form high names ts rest = (all : Attributes) × AreMore all ts rest × AreFor form high names all

-- one attribute and more
abbrev SomeOf : Members → ℕ → List Text → Form
SomeOf form high names ts rest =
    (x : Name) × (required : Bool) × (ty : Ty) × (more : Attributes) × AreAttributes (attribute [] x required ty more) ts rest
    × AreFor form high names (attribute [] x required ty more)

-- a name of this text
abbrev pub NameOf : Text → Form
NameOf given ts rest = (x : Name) × IsName x ts rest × (x.text ≡ given)

pub no_name_faults : (ids : List Text) (loc : Loc) → is_name ids ≡ true → unless (is_name ids) (reserved loc) ≡ []
no_name_faults ids loc is = ap (λ test. unless test (reserved loc)) is

module _ (source total : ℕ) where
  pub name_says : (given : Text) (pieces : List Piece) (form : Form) → IsUtf8 given → Opens pieces → Says source total pieces form
      → Says source total (name_piece given ∷ pieces) (NameOf given then form)
  name_says given pieces form utf8 opens says = elim (cases_Bool (is_bare given)) [
    | inl bare ↦
        subst (λ (piece : Piece). Says source total (piece ∷ pieces) (NameOf given then form)) (sym (ap (λ test. cond test (word given) (quoted given)) bare))
        (says_so source total (word given ∷ pieces) (word_form given then form) (NameOf given then form)
        (λ ts rest is. (is.0, (record { text = given; loc = is.1.0 }, inl is.1.1, refl), is.2))
        (says_word source total given pieces form (id_of_identifier given (and_parts _ _ bare).0) opens says))
    | inr not_bare ↦
        subst (λ (piece : Piece). Says source total (piece ∷ pieces) (NameOf given then form)) (sym (ap (λ test. cond test (word given) (quoted given)) not_bare))
        (says_so source total (quoted given ∷ pieces) (token (text given) then form) (NameOf given then form)
        (λ ts rest is. (is.0, (record { text = given; loc = is.1.0 }, inr is.1.1, refl), is.2))
        (says_quoted source total given pieces form utf8 says))
  ]

  -- a name as a type
  named_says : (name : PlainName) (form : Expr) → IsOfIdentifiers name → named (reference_to None CommonOrEntity name) ≡ form
      → Says source total (path_pieces name) (TypeOf form 0)
  unfolding IsType
  named_says name form identifiers same =
      says_so source total (path_pieces name) (PathOf name) (TypeOf form 0) read (path_says source total name identifiers)
    where
      read : (ts rest : List Token) → PathOf name ts rest → TypeOf form 0 ts rest
      read ts rest (p, is_path, is, valid, ids) =
          (path_type p, is_path, ap (λ (each : PlainName). named (reference_to None CommonOrEntity each)) is ∙ same, refl, no_name_faults p.ids p.loc valid)

  -- an attribute that may be absent has a mark
  presence_says : (required : Bool) (pieces : List Piece) (form : Form) → Says source total pieces form
      → Says source total (presence_pieces required ++ pieces) (IsPresence required then form)
  presence_says true pieces form says =
      says_so source total pieces form (nothing then form) (λ ts rest is. (ts, refl, is)) says
  presence_says false pieces form says = says_question source total pieces form says

  presence_opens : (required : Bool) (pieces : List Piece) → Opens (presence_pieces required ++ sign (codes ":") ∷ pieces)
  presence_opens true pieces all ended = refl
  presence_opens false pieces all ended = refl

  module _ (first : First) (namespace : Option PlainName) (part : Part) where
    -- the pieces of a type, and of attributes
    abbrev type_written : ℕ → Expr → List Piece
    type_written level e = type_pieces first namespace level (expr_in namespace e)

    abbrev members_written : ℕ → Members → List Piece
    members_written level all = members_pieces first namespace level (members_in namespace all)

    abbrev members_read : Members → Form
    members_read all = MoreOf (members_form first namespace all) (nest_members all) (names_of_members all)

    abbrev some_read : Members → Form
    some_read all = SomeOf (members_form first namespace all) (nest_members all) (names_of_members all)

    -- a built-in type
    built_in_says : (name : Text) (form : Expr) → IsIdentifier name → read_built_in first namespace name ≡ form
        → Says source total (path_pieces (built_in_written first namespace name)) (TypeOf form 0)
    built_in_says name form identifier same =
        named_says (built_in_written first namespace name) form (built_in_identifiers first namespace name identifier) same

    -- a name as it was written
    reference_says : (reference : Reference) (name : PlainName) → IsOfIdentifiers name → reference.possibilities ≡ name ∷ []
        → Says source total (type_written 0 (named reference)) (TypeOf (type_form first namespace (named reference)) 0)
    reference_says reference name identifiers is =
        subst (λ (written : PlainName). Says source total (path_pieces written) (TypeOf (type_form first namespace (named reference)) 0))
        (sym (ap (λ (possible : List PlainName). last_name (names_in namespace possible)) is ∙ last_possible namespace name))
        (named_says name (type_form first namespace (named reference)) identifiers
        (ap (λ (possible : List PlainName). named (record { possibilities = possible; kind = CommonOrEntity })) (sym is)))

    -- an attribute and those behind it
    attribute_says : (level : ℕ) (name : Text) (required : Bool) (ty : Expr) (rest : Members) → IsUtf8 name
        → Says source total (type_written level ty) (TypeOf (type_form first namespace ty) (nest ty))
        → Says source total (sign (codes ",") ∷ members_written level rest) (members_read rest)
        → Says source total (members_written level (member name required ty rest)) (some_read (member name required ty rest))
    unfolding AreAttributes
    attribute_says level name required ty rest utf8 type_says more_say =
        let type_form = TypeOf (type_form first namespace ty) (nest ty) in
        let more = sign (codes ",") ∷ members_written level rest in
        let typed = says_then source total (type_written level ty) more type_form (members_read rest) type_says (λ all ended. refl) more_say in
        let behind = blank ∷ (type_written level ty ++ more) in
        let marked = presence_says required (sign (codes ":") ∷ behind) (mark mark_of.Colon then type_form then members_read rest)
        (says_colon source total (type_written level ty ++ more) (type_form then members_read rest) typed) in
        let form = NameOf name then IsPresence required then mark mark_of.Colon then type_form then members_read rest in
        says_line source total level (name_piece name ∷ (presence_pieces required ++ sign (codes ":") ∷ behind)) (some_read (member name required ty rest))
        (says_so source total (name_piece name ∷ (presence_pieces required ++ sign (codes ":") ∷ behind)) form (some_read (member name required ty rest))
        read (name_says name (presence_pieces required ++ sign (codes ":") ∷ behind) (IsPresence required then mark mark_of.Colon then type_form then members_read rest)
        utf8 (presence_opens required behind) marked))
      where
        read : (ts left : List Token)
            → (NameOf name then IsPresence required then mark mark_of.Colon then TypeOf (type_form first namespace ty) (nest ty) then members_read rest) ts left
            → some_read (member name required ty rest) ts left
        read ts left (a, (x, named_so, same), (b, presence, (c, colon, (d, (t, is_type, said, high, clean), (others, more, are))))) = (
          x,
          required,
          t,
          others,
          (ts, refl, (a, named_so, (b, presence, (c, colon, (d, is_type, more))))),
          record {
            said = λ i. member (same i) required (said i) (are.said i);
            named = λ i. same i ∷ are.named i;
            keys = λ i. same i ∷ are.keys i;
            level = ap₂ max high are.level;
            faultless = ap₂ (λ a b. a ++ b) clean are.faultless;
          },
        )

    -- the comma behind the last attribute
    last_read : (ts rest : List Token) → (mark mark_of.Comma then nothing) ts rest → members_read no_member ts rest
    unfolding AreMore
    last_read ts rest is = (
      no_attributes,
      inl (subst (λ (last : List Token). mark mark_of.Comma ts last) is.2 is.1),
      record { said = refl; named = refl; keys = refl; level = refl; faultless = refl },
    )

    -- the comma before another
    another_read : (all : Members) (ts rest : List Token) → (mark mark_of.Comma then some_read all) ts rest → members_read all ts rest
    unfolding AreMore AreAttributes
    another_read all ts rest (a, comma, (x, required, t, more, (b, here, behind), for)) =
        (attribute [] x required t more, (a, comma, (b, here, behind)), for)

    -- a set
    set_says : (level : ℕ) (element : Expr) → Says source total (type_written level element) (TypeOf (type_form first namespace element) (nest element))
        → Says source total (type_written level (set_expr element)) (TypeOf (type_form first namespace (set_expr element)) (suc (nest element)))
    unfolding IsType
    set_says level element says =
        let inside = type_written level element in
        let form = TypeOf (type_form first namespace element) (nest element) in
        let closed = says_last source total (sign (codes ">") ∷ []) (mark mark_of.Greater) (says_greater source total [] nothing (says_nothing source total)) in
        let behind = says_then source total inside (sign (codes ">") ∷ []) form (mark mark_of.Greater) says (λ all ended. refl) closed in
        let pieces = inside ++ sign (codes ">") ∷ [] in
        says_so source total (type_written level (set_expr element)) (word_form (codes "Set") then mark mark_of.Less then form then mark mark_of.Greater)
        (TypeOf (type_form first namespace (set_expr element)) (suc (nest element)))
        (λ ts rest is. (
          set_of is.2.2.1.0,
          (is.0, is.1, (is.2.0, is.2.1, (is.2.2.0, is.2.2.1.1, is.2.2.2))),
          ap set_expr is.2.2.1.2,
          ap suc is.2.2.1.3,
          is.2.2.1.4,
        ))
        (says_word source total (codes "Set") (sign (codes "<") ∷ pieces) (mark mark_of.Less then form then mark mark_of.Greater) refl (λ all ended. refl)
        (says_less source total pieces (form then mark mark_of.Greater) behind))

    -- attributes, where there are some or none
    abbrev list_read : Members → Form
    list_read all ts rest =
        (these : Attributes) × AreAttributes these ts rest
        × AreFor (members_form first namespace all) (nest_members all) (names_of_members all) these

    -- the record of some attributes between brackets
    record_read : (all : Members) (additional : Bool) → additional ≡ false → IsStrictlySortedBy text_cmp (names_of_members all) → (ts rest : List Token)
        → (mark mark_of.OpenBrace then list_read all then mark mark_of.CloseBrace) ts rest
        → RecordOf (type_form first namespace (record_expr all additional)) (nest (record_expr all additional)) ts rest
    unfolding IsType
    record_read all additional is sorted ts rest (a, opens, (b, (these, are, for), closes)) =
        let keys_sorted : IsStrictlySortedBy text_cmp (map (λ (entry : Text × AttributeAt). entry.0) (attributes_meant these)) =
        subst (IsStrictlySortedBy text_cmp) (sym for.keys) sorted in
        let stays : in_order text_cmp (attributes_meant these) ≡ attributes_meant these = in_order-sorted text_cmp-total (attributes_meant these) keys_sorted in (
          these,
          between ts rest,
          ((a, opens, (b, are, closes)), refl),
          ap (λ (entries : List (Text × AttributeAt)). record_expr (fields_said (fields_from entries)) false) stays
              ∙ (λ i. record_expr (for.said i) (sym is i)),
          ap suc for.level,
          ap₂ (λ x y. x ++ y) (repeats-sorted repeated.Attribute (attribute_names these) (subst (IsStrictlySortedBy text_cmp) (sym for.named) sorted)) for.faultless,
        )

    -- no attributes
    none_read : (ts rest : List Token) → mark mark_of.CloseBrace ts rest → (list_read no_member then mark mark_of.CloseBrace) ts rest
    unfolding AreAttributes
    none_read ts rest is =
        (ts, (no_attributes, refl, record { said = refl; named = refl; keys = refl; level = refl; faultless = refl }), is)

    record_says : (level : ℕ) (all : Members) (additional : Bool) → additional ≡ false → IsStrictlySortedBy text_cmp (names_of_members all)
        → Says source total (members_written (suc level) all ++ close_pieces level (members_in namespace all)) (list_read all then mark mark_of.CloseBrace)
        → Says source total (type_written level (record_expr all additional))
        (RecordOf (type_form first namespace (record_expr all additional)) (nest (record_expr all additional)))
    record_says level all additional is sorted say =
        let inside = members_written (suc level) all ++ close_pieces level (members_in namespace all) in
        says_so source total (sign (codes "{") ∷ inside) (mark mark_of.OpenBrace then list_read all then mark mark_of.CloseBrace)
        (RecordOf (type_form first namespace (record_expr all additional)) (nest (record_expr all additional)))
        (record_read all additional is sorted) (says_open_brace source total inside (list_read all then mark mark_of.CloseBrace) say)

    close_says : Says source total (sign (codes "}") ∷ []) (mark mark_of.CloseBrace)
    close_says = says_last source total (sign (codes "}") ∷ []) (mark mark_of.CloseBrace) (says_close_brace source total [] nothing (says_nothing source total))

    mutual
      pub type_says : (level : ℕ) (e : Expr) → Sayable e → form_flaw first part (expr_in namespace e) ≡ None
          → Says source total (type_written level e) (TypeOf (type_form first namespace e) (nest e))
      type_says level text_expr sayable flawless = built_in_says (codes "String") (type_form first namespace text_expr) refl refl
      type_says level long_expr sayable flawless = built_in_says (codes "Long") (type_form first namespace long_expr) refl refl
      type_says level truth_expr sayable flawless = built_in_says (codes "Bool") (type_form first namespace truth_expr) refl refl
      type_says level (extension_expr name) sayable flawless = built_in_says name (type_form first namespace (extension_expr name)) sayable refl
      type_says level (named reference) sayable flawless = reference_says reference sayable.0 sayable.1 sayable.2
      type_says level (set_expr element) sayable flawless = set_says level element (type_says level element sayable flawless)
      type_says level (record_expr all additional) sayable flawless =
          says_so source total (type_written level (record_expr all additional))
          (RecordOf (type_form first namespace (record_expr all additional)) (nest (record_expr all additional)))
          (TypeOf (type_form first namespace (record_expr all additional)) (nest (record_expr all additional)))
          (λ ts rest is. (record_of is.0 is.1, is.2, is.3, is.4, is.5))
          (record_says level all additional (closed part additional (neither (open_flaw part additional) (members_flaw first part (members_in namespace all)) flawless).0) sayable.0
          (list_says level all sayable.1 (neither (open_flaw part additional) (members_flaw first part (members_in namespace all)) flawless).1))

      list_says : (level : ℕ) (all : Members) → SayableMembers all → members_flaw first part (members_in namespace all) ≡ None
          → Says source total (members_written (suc level) all ++ close_pieces level (members_in namespace all)) (list_read all then mark mark_of.CloseBrace)
      list_says level no_member sayable flawless =
          says_so source total (sign (codes "}") ∷ []) (mark mark_of.CloseBrace) (list_read no_member then mark mark_of.CloseBrace) none_read close_says
      list_says level (member name required ty rest) sayable flawless =
          let all = member name required ty rest in
          let parts = neither (form_flaw first part (expr_in namespace ty)) (members_flaw first part (members_in namespace rest)) flawless in
          let inside = attribute_says (suc level) name required ty rest sayable.0 (type_says (suc level) ty sayable.1 parts.0) (more_say (suc level) rest sayable.2 parts.1) in
          says_then source total (members_written (suc level) all) (line level ∷ sign (codes "}") ∷ []) (list_read all) (mark mark_of.CloseBrace)
          (says_so source total (members_written (suc level) all) (some_read all) (list_read all) (λ ts left is. (attribute [] is.0 is.1 is.2 is.3, is.4, is.5)) inside)
          (λ text ended. refl) (says_line source total level (sign (codes "}") ∷ []) (mark mark_of.CloseBrace) close_says)

      more_say : (level : ℕ) (all : Members) → SayableMembers all → members_flaw first part (members_in namespace all) ≡ None
          → Says source total (sign (codes ",") ∷ members_written level all) (members_read all)
      more_say level no_member sayable flawless =
          says_so source total (sign (codes ",") ∷ []) (mark mark_of.Comma then nothing) (members_read no_member) last_read
          (says_comma source total [] nothing (says_nothing source total))
      more_say level (member name required ty rest) sayable flawless =
          let all = member name required ty rest in
          let parts = neither (form_flaw first part (expr_in namespace ty)) (members_flaw first part (members_in namespace rest)) flawless in
          says_so source total (sign (codes ",") ∷ members_written level all) (mark mark_of.Comma then some_read all) (members_read all) (another_read all)
          (says_comma source total (members_written level all) (some_read all)
          (attribute_says level name required ty rest sayable.0 (type_says level ty sayable.1 parts.0) (more_say level rest sayable.2 parts.1)))

    -- a record
    pub fields_say : (level : ℕ) (all : Members) (additional : Bool) → Sayable (record_expr all additional)
        → form_flaw first part (expr_in namespace (record_expr all additional)) ≡ None
        → Says source total (type_written level (record_expr all additional))
        (RecordOf (type_form first namespace (record_expr all additional)) (nest (record_expr all additional)))
    fields_say level all additional sayable flawless =
        let parts = neither (open_flaw part additional) (members_flaw first part (members_in namespace all)) flawless in
        record_says level all additional (closed part additional parts.0) sayable.0 (list_says level all sayable.1 parts.1)
