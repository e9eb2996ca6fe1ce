-- Names of paths, and which may stand where.
use Rattle.std.proofs.Common.{◌≡◌, ◌≢◌, ◌⊎◌, inl, inr, ℕ, zero, suc, ◌+◌, ◌-◌, ◌<◌, ◌≤◌, List, [], ◌∷◌, ◌++◌, length, map, take, get_or, Bool, true, false, not, ◌&&◌, Contains, String, Global, bytes_eq, string_bytes, refl, ap, ap₂, sym, subst, ◌∙◌, arith}
use Rattle.std.specs.Bool.{Decides}
use Rattle.std.specs.List.{list_all, list_any}
use Rattle.std.proofs.lemmas.List.{get_or-map, get_or_push, length-map, length_push, map-append, map-id, take_all, take_at, take_more}
use Rattle.std.proofs.lemmas.List.Elements.{Contains-append_left, Contains-push, Contains-push_cases}
use Rattle.std.proofs.lemmas.List.Folds.{list_all-append}
use Rattle.std.proofs.lemmas.Slice.Eq.{bytes_eq-Decides}
use Rattle.cedar_ast.proofs.Lists.{list_any-Contains}
use Rattle.cedar_ast.specs.declared.id.Id.{Id}
use Rattle.cedar_ast.specs.Words.{IsIdentifier, IsReserved, PlainName, Text, id_text, is_identifier_text, reserved_word}
use Rattle.cedar_ast.specs.declared.loc.Loc.{Loc}
use Rattle.cedar_schema_ast.specs.ReservedTypeWord.{IsReservedTypeWord, reserved_type_words}
use Rattle.cedar_schema_text.proofs.Among.{among_left}
use Rattle.cedar_schema_text.proofs.SoFar.{plain_more}
use Rattle.cedar_schema_text.specs.Faults.{Fault, IsAmong, is_common_id, is_name, is_namespace_name, is_unreserved, reserved, unless}
use Rattle.cedar_schema_text.specs.Meaning.{name_from}
use Rattle.cedar_schema_text.specs.declared.fault.MeaningFault.{MeaningFault}

-- a test that something would pass that is absent fails
pub none_valid : (b : Bool) → (b ≡ true → false ≡ true) → b ≡ false
none_valid true h = sym (h refl)
none_valid false h = refl

-- nothing is at fault where a test passes
pub unless_true : (b : Bool) (it : Fault) → b ≡ true → unless b it ≡ []
unless_true true it e = refl
unless_true false it e = absurd cc

-- a fault of a weaker test is one of both
pub unless_both : (a b : Bool) (loc : Loc) (e : MeaningFault) → IsAmong (unless a (reserved loc)) e → IsAmong (unless (a && b) (reserved loc)) e
unless_both true b loc e h = among_left [] (unless b (reserved loc)) e h
unless_both false b loc e h = h

-- ---- ids

neither : (a b : Bool) → (a ≡ true → b ≡ false → false ≡ true) → (a && not b) ≡ false
neither true true h = refl
neither true false h = sym (h refl refl)
neither false b h = refl

differs : (a b : Text) → bytes_eq a b ≡ false → a ≢ b
differs a b other e = let same = (bytes_eq-Decides a b).1 e in cc

and_false : (b : Bool) → (b && false) ≡ false
and_false true = refl
and_false false = refl

-- what is no id of an entity type
pub unreserved_none : (text : Text) → (IsIdentifier text × (text ≢ reserved_word) → false ≡ true) → is_unreserved text ≡ false
unreserved_none text h =
    neither (is_identifier_text text) (bytes_eq text reserved_word) (λ valid other. h (valid, differs text reserved_word other))

-- the search for a text among others decides whether it is there
pub listed : (text : Text) (texts : List Text) → Decides (list_any (bytes_eq text) texts) (Contains texts text)
listed text texts =
    subst (λ ys. Decides (list_any (bytes_eq text) texts) (Contains ys text)) (map-id texts)
    (list_any-Contains (λ y. y) text (bytes_eq text) (λ y. (λ e. sym ((bytes_eq-Decides text y).0 e), λ e. (bytes_eq-Decides text y).1 (sym e))) texts)

false_unless : (b : Bool) {P : Type 0} → Decides b P → (P → ⊥) → b ≡ false
false_unless true d h = absurd (h (d.0 refl))
false_unless false d h = refl

true_where : (a b : Bool) → a ≡ true → b ≡ false → (a && not b) ≡ true
true_where true false e f = refl
true_where true true e f = absurd cc
true_where false b e f = absurd cc

-- an id of an entity type that is no word of a form of types is that of a common type
pub common_some : (text : Text) → is_unreserved text ≡ true → (IsReservedTypeWord text → ⊥) → is_common_id text ≡ true
common_some text valid h =
    true_where (is_unreserved text) (list_any (bytes_eq text) reserved_type_words) valid
    (false_unless (list_any (bytes_eq text) reserved_type_words) (listed text reserved_type_words) h)

common_by : (b : Bool) (text : Text) → list_any (bytes_eq text) reserved_type_words ≡ b
    → ((IsReservedTypeWord text → ⊥) → false ≡ true) → (is_unreserved text && not b) ≡ false
common_by true text e h = and_false (is_unreserved text)
common_by false text e h =
    absurd (let open_end = h (λ it. let found = (listed text reserved_type_words).1 it in cc) in cc)

-- and one that is such a word is not
pub common_none : (text : Text) → ((IsReservedTypeWord text → ⊥) → false ≡ true) → is_common_id text ≡ false
common_none text h = common_by (list_any (bytes_eq text) reserved_type_words) text refl h

-- ---- paths

-- the identifiers that the first of some texts are
pub record IdsSoFar (written : List (String Global)) (i : ℕ) (found : List Id) : Type 0 where
  pub texts : map id_text found ≡ map string_bytes (take i written)
  pub valid : list_all is_identifier_text (map string_bytes (take i written)) ≡ true

pub ids_none : (written : List (String Global)) (found : List Id) → found ≡ [] → IdsSoFar written 0 found
ids_none written found e = record { texts = ap (map id_text) e; valid = refl }

-- one more text is one
pub ids_more : (written : List (String Global)) (i : ℕ) (x : String Global) (found new : List Id) (b : Id) → i < length written
    → x ≡ get_or written i x → id_text b ≡ string_bytes x → is_identifier_text (string_bytes x) ≡ true → new ≡ found ++ b ∷ []
    → IdsSoFar written i found → IdsSoFar written (i + 1) new
ids_more written i x found new b lt is same valid pushed so_far =
    let more = plain_more string_bytes written i x lt is in
    let done = map string_bytes (take i written) in
    record {
      texts = ap (map id_text) pushed ∙ map-append id_text found (b ∷ []) ∙ ap₂ (λ a c. a ++ c ∷ []) so_far.texts same ∙ sym more;
      valid = ap (list_all is_identifier_text) more ∙ list_all-append is_identifier_text done (string_bytes x ∷ [])
          ∙ ap₂ (λ a c. a && (c && true)) so_far.valid valid;
    }

-- where none is left, all are
pub ids_all : (written : List (String Global)) (i : ℕ) (found : List Id) → length written ≤ i → IdsSoFar written i found
    → (map id_text found ≡ map string_bytes written) × (list_all is_identifier_text (map string_bytes written) ≡ true)
ids_all written i found end so_far =
    let all = take_all i written end in
    (so_far.texts ∙ ap (map string_bytes) all, ap (λ xs. list_all is_identifier_text (map string_bytes xs)) (sym all) ∙ so_far.valid)

not_all : (ps : List Text) (i : ℕ) (p : Text) → i < length ps → p ≡ get_or ps i p → is_identifier_text p ≡ false → list_all is_identifier_text ps ≡ false
not_all [] i p lt is e = absurd (omega (arith, lt))
not_all (q ∷ qs) zero p lt is e = ap (λ b. b && list_all is_identifier_text qs) (ap is_identifier_text (sym is) ∙ e)
not_all (q ∷ qs) (suc i) p lt is e =
    ap (λ b. is_identifier_text q && b) (not_all qs i p (omega (arith, lt)) is e) ∙ and_false (is_identifier_text q)

among_by : (b : Bool) (ps : List Text) (i : ℕ) (p : Text) (loc : Loc) (e : MeaningFault) → i < length ps → p ≡ get_or ps i p
    → is_identifier_text p ≡ b → IsAmong (unless b (reserved loc)) e → IsAmong (unless (list_all is_identifier_text ps) (reserved loc)) e
among_by true ps i p loc e lt is valid h = among_left [] (unless (list_all is_identifier_text ps) (reserved loc)) e h
among_by false ps i p loc e lt is valid h = subst (λ b. IsAmong (unless b (reserved loc)) e) (sym (not_all ps i p lt is valid)) h

-- where one text is no identifier, not all are
pub id_among : (written : List (String Global)) (i : ℕ) (x : String Global) (loc : Loc) (e : MeaningFault) → i < length written → x ≡ get_or written i x
    → IsAmong (unless (is_identifier_text (string_bytes x)) (reserved loc)) e
    → IsAmong (unless (list_all is_identifier_text (map string_bytes written)) (reserved loc)) e
id_among written i x loc e lt is h =
    let within : i < length (map string_bytes written) = rw length-map lt in
    among_by (is_identifier_text (string_bytes x)) (map string_bytes written) i (string_bytes x) loc e within
    (ap string_bytes is ∙ sym (get_or-map string_bytes written i x (string_bytes x) lt)) refl h

-- a path whose ids are not all identifiers is no name
pub ids_among : (ps : List Text) (loc : Loc) (e : MeaningFault) → IsAmong (unless (list_all is_identifier_text ps) (reserved loc)) e
    → IsAmong (unless (is_name ps) (reserved loc)) e
ids_among [] loc e h = among_left [] (reserved loc ∷ []) e h
ids_among (p ∷ ps) loc e h = h

-- the last id by itself is the base name
pub name_popped : (ps before : List Text) (last : Text) → ps ≡ before ++ last ∷ [] → name_from ps ≡ record { base = last; path = before }
name_popped ps before last e =
    let n : length ps - 1 ≡ length before = omega (arith, ap length e, length_push before last) in
    ap₂ (λ (b : Text) (p : List Text). record { base = b; path = p })
    (ap₂ (λ xs k. get_or xs k []) e n ∙ get_or_push before last [] (length before) refl)
    (ap₂ (λ k xs. take k xs) n e ∙ take_at before (last ∷ []) (length before) refl)

-- some ids that are identifiers are a name
pub is_name_popped : (ps before : List Text) (last : Text) → ps ≡ before ++ last ∷ [] → list_all is_identifier_text ps ≡ true → is_name ps ≡ true
is_name_popped [] [] last e valid = absurd cc
is_name_popped [] (x ∷ before) last e valid = absurd cc
is_name_popped (p ∷ ps) before last e valid = valid

-- what a name is made of
pub same_name : (name : PlainName) (b : Text) (p : List Text) → name.base ≡ b → name.path ≡ p → name ≡ record { base = b; path = p }
same_name name b p e f = ap₂ (λ (x : Text) (y : List Text). record { base = x; path = y }) e f

some_ids : (ids : List Text) → is_name ids ≡ true → 0 < length ids
some_ids [] e = absurd cc
some_ids (id ∷ ids) e = omega arith

split_last : (ids : List Text) → 0 < length ids → take (length ids - 1) ids ++ get_or ids (length ids - 1) [] ∷ [] ≡ ids
split_last ids some =
    let n : length ids - 1 + 1 ≡ length ids = omega arith in
    sym (take_more ids (length ids - 1) [] (omega arith)) ∙ ap (λ k. take k ids) n ∙ take_all (length ids) ids (omega arith)

-- a name is reserved just where one of its ids is the word
pub reserved_listed : (ids : List Text) → is_name ids ≡ true → IsReserved (name_from ids) → Contains ids reserved_word
reserved_listed ids valid (inl base) =
    let n = length ids - 1 in
    subst (λ xs. Contains xs reserved_word) (split_last ids (some_ids ids valid))
    (subst (λ x. Contains (take n ids ++ get_or ids n [] ∷ []) x) base (Contains-push (take n ids) (get_or ids n [])))
reserved_listed ids valid (inr path) =
    let n = length ids - 1 in
    subst (λ xs. Contains xs reserved_word) (split_last ids (some_ids ids valid))
    (Contains-append_left (take n ids) (get_or ids n [] ∷ []) reserved_word path)

swapped : {A B : Type 0} → A ⊎ B → B ⊎ A
swapped (inl a) = inr a
swapped (inr b) = inl b

pub listed_reserved : (ids : List Text) → is_name ids ≡ true → Contains ids reserved_word → IsReserved (name_from ids)
listed_reserved ids valid there =
    let n = length ids - 1 in
    swapped (Contains-push_cases (take n ids) (get_or ids n []) reserved_word
    (subst (λ xs. Contains xs reserved_word) (sym (split_last ids (some_ids ids valid))) there))

-- a name that isn't reserved may be a namespace's
pub namespace_some : (ids : List Text) → is_name ids ≡ true → (IsReserved (name_from ids) → ⊥) → is_namespace_name ids ≡ true
namespace_some ids valid h =
    true_where (is_name ids) (list_any (bytes_eq reserved_word) ids) valid
    (false_unless (list_any (bytes_eq reserved_word) ids) (listed reserved_word ids) (λ there. h (listed_reserved ids valid there)))

reserved_by : (b : Bool) (ids : List Text) → is_name ids ≡ true → list_any (bytes_eq reserved_word) ids ≡ b
    → ((IsReserved (name_from ids) → ⊥) → false ≡ true) → (is_name ids && not b) ≡ false
reserved_by true ids valid e h = ap (λ t. t && false) valid
reserved_by false ids valid e h =
    absurd (let open_end = h (λ it. let found = (listed reserved_word ids).1 (reserved_listed ids valid it) in cc) in cc)

-- and one that is may not
pub namespace_none : (ids : List Text) → is_name ids ≡ true → ((IsReserved (name_from ids) → ⊥) → false ≡ true) → is_namespace_name ids ≡ false
namespace_none ids valid h = reserved_by (list_any (bytes_eq reserved_word) ids) ids valid refl h
