-- Copies of values.
use Rattle.std.proofs.Common.{◌≡◌, Bool, refl, ap, sym, ◌∙◌, List, [], ◌∷◌, ◌++◌, map, Contains, arith, string_bytes, string_cmp, append_assoc, Global, inl, inr}
use Rattle.std.proofs.lemmas.List.{map-append, append-nil}
use Rattle.std.proofs.lemmas.Str.{IsUtf8-string_bytes}
use Rattle.std.specs.BTreeMap.{BTreeMap, insert_entry}
use Rattle.std.specs.List.{AllByRecursion}
use Rattle.std.specs.List.Sorted.{IsStrictlySortedBy}
use Rattle.std.specs.Map.{keys_of}
use Rattle.std.specs.declared.cmp.Ordering.TheVariants.{Less, Greater}
use Rattle.std.specs.declared.string.String.{String}
use Rattle.cedar_ast.proofs.Lists.{Contains-cons_cases}
use Rattle.cedar_ast.proofs.Ordered.{IsStrictlySortedBy-map, above_front, insert_entry-end, not_itself}
use Rattle.cedar_ast.proofs.Texts.{text_cmp-total}
use Rattle.cedar_ast.proofs.TreeLemmas.{entry_names-entries}
use Rattle.cedar_ast.proofs.ValueLemmas.{IsName-type_name}
use Rattle.cedar_ast.specs.Words.{AreCopies, AreEntries, AreEntryCopies, AreValues, EntityUID, IsCopy, IsValue, RestrictedExpr, Text, Tree, entries_from, entries_of, fold-roll-RestrictedExpr, no_entry, roll-RestrictedExpr, text_cmp, text_value, tree_of, tree_step, trees_from, trees_of, truth_value, uid_of, uid_value}
use Rattle.cedar_ast.specs.declared.value.RestrictedExpr.TheOpen as layer
use Rattle.cedar_ast.specs.declared.value.RestrictedExpr.TheVariants as expr

-- the values of a record, by name
abbrev pub Pairs : Type 0
Pairs = List (String Global × RestrictedExpr)

-- what they stand for
abbrev pub plain_pairs : Pairs → List (Text × Tree)
plain_pairs pairs = map (λ pair. (string_bytes pair.0, tree_of pair.1)) pairs

-- a text stands for itself
pub tree_of-text : (text : String Global) → tree_of (expr.String text) ≡ text_value (string_bytes text)
tree_of-text text =
    ap tree_of (sym (expr.rolls-String text))
    ∙ (let e : tree_of (roll-RestrictedExpr (layer.String text)) ≡ text_value (string_bytes text) =
    fold-roll-RestrictedExpr Tree tree_step (layer.String text) in
    e)

-- a truth value stands for itself
pub tree_of-truth : (value : Bool) → tree_of (expr.Bool value) ≡ truth_value value
tree_of-truth value =
    ap tree_of (sym (expr.rolls-Bool value))
    ∙ (let e : tree_of (roll-RestrictedExpr (layer.Bool value)) ≡ truth_value value =
    fold-roll-RestrictedExpr Tree tree_step (layer.Bool value) in
    e)

-- a map without entries has no values
pub no_entries : (values : BTreeMap (String Global) RestrictedExpr) → values.entries ≡ [] → entries_of values ≡ no_entry
no_entries values nothing = ap (λ (pairs : Pairs). entries_from (plain_pairs pairs)) nothing

-- an expression for a copy of a value is a copy of an expression for the value
pub copied_at : (value copy : Tree) (of made : RestrictedExpr) → tree_of of ≡ value → tree_of made ≡ copy → IsCopy value copy
    → IsCopy (tree_of of) (tree_of made)
copied_at value copy of made is also one = (also ∙ (one.0 ∙ sym is), rw also one.1)

-- a uid is a real value
pub uid_real : (uid : EntityUID) → IsValue (uid_value (uid_of uid))
uid_real uid = (IsName-type_name uid.ty, IsUtf8-string_bytes uid.eid.value.0)

-- a row of values with one more are values
values_more : (values : List RestrictedExpr) (value : RestrictedExpr) → AreValues (trees_of values) → IsValue (tree_of value)
    → AreValues (trees_of (values ++ value ∷ []))
values_more [] value real one = (one, tt)
values_more (first ∷ rest) value real one = (real.0, values_more rest value real.1 one)

-- values are copied so far: the copies, with those that are left, are all, and the copies are real
abbrev pub CopiedSoFar : List RestrictedExpr → List RestrictedExpr → List RestrictedExpr → Type 0
CopiedSoFar all made left = (map tree_of made ++ map tree_of left ≡ map tree_of all) × AreValues (trees_of made)

-- one more is copied
pub copied_more : (all made rest : List RestrictedExpr) (value copy : RestrictedExpr) → CopiedSoFar all made (value ∷ rest)
    → IsCopy (tree_of value) (tree_of copy) → CopiedSoFar all (made ++ copy ∷ []) rest
copied_more all made rest value copy so_far one = (
  ap (λ trees. trees ++ map tree_of rest) (map-append tree_of made (copy ∷ []))
      ∙ (append_assoc (map tree_of made) (tree_of copy ∷ []) (map tree_of rest)
      ∙ (ap (λ first. map tree_of made ++ first ∷ map tree_of rest) one.0 ∙ so_far.0)),
  values_more made copy so_far.1 one.1,
)

-- where none is left, all are copied
pub copied_all : (all made left : List RestrictedExpr) → left ≡ [] → CopiedSoFar all made left → AreCopies (trees_of all) (trees_of made)
copied_all all made left nothing so_far = (
  ap trees_from (sym (append-nil (map tree_of made)) ∙ (ap (λ rest. map tree_of made ++ map tree_of rest) (sym nothing) ∙ so_far.0)),
  so_far.1,
)

-- their names
abbrev pub texts : Pairs → List Text
texts pairs = map (λ pair. string_bytes pair.0) pairs

-- the names are those of what they stand for
texts-plain : (pairs : Pairs) → texts pairs ≡ map (λ (pair : Text × Tree). pair.0) (plain_pairs pairs)
texts-plain [] = refl
texts-plain (pair ∷ rest) = ap (λ names. string_bytes pair.0 ∷ names) (texts-plain rest)

-- each of the values is real
abbrev pub AreReal : Pairs → Type 0
AreReal [] = Unit {0}
AreReal (pair ∷ rest) = IsValue (tree_of pair.1) × AreReal rest

-- a text below each of some isn't one of them
absent_below : (name : Text) (names : List Text) → AllByRecursion (λ other. text_cmp name other ≡ Less) names → ¬ Contains names name
absent_below name [] below among = omega (arith, among.1)
absent_below name (first ∷ rest) below among =
    elim (Contains-cons_cases first rest name among) [
      | inl same ↦ not_itself text_cmp text_cmp-total name first (sym same) below.0
      | inr right ↦ absent_below name rest below.1 right
    ]

-- real values whose names are sorted without duplicates are the values of a record
pub entries_real : (pairs : Pairs) → IsStrictlySortedBy text_cmp (texts pairs) → AreReal pairs → AreEntries (entries_from (plain_pairs pairs))
unfolding IsStrictlySortedBy
entries_real [] sorted_by_name real = tt
entries_real (pair ∷ rest) sorted_by_name real = (
  IsUtf8-string_bytes pair.0,
  real.0,
  entries_real rest sorted_by_name.1 real.1,
  (rw (entry_names-entries rest) (absent_below (string_bytes pair.0) (texts rest) sorted_by_name.0)),
)

-- the values of a record are real
pub real_entries : (pairs : Pairs) → AreEntries (entries_from (plain_pairs pairs)) → AreReal pairs
real_entries [] real = tt
real_entries (pair ∷ rest) real = (real.1, real_entries rest real.2)

-- where the keys are sorted without duplicates, so are the names
pub texts_sorted : (pairs : Pairs) → IsStrictlySortedBy string_cmp (keys_of pairs) → IsStrictlySortedBy text_cmp (texts pairs)
texts_sorted pairs sorted_by_name =
    rw (keys-texts pairs) at (IsStrictlySortedBy-map string_cmp text_cmp (λ key. string_bytes key) (λ a b. refl) (keys_of pairs) sorted_by_name)
  where
    keys-texts : (pairs : Pairs) → map (λ key. string_bytes key) (keys_of pairs) ≡ texts pairs
    keys-texts [] = refl
    keys-texts (pair ∷ rest) = ap (λ names. string_bytes pair.0 ∷ names) (keys-texts rest)

-- the values of a record are copied so far: the copies stand for the same as those that are done,
-- others are left, and the copies are real
pub record EntriesSoFar (all made left : Pairs) : Type 0 where
  pub done : Pairs
  pub split : all ≡ done ++ left
  pub same : plain_pairs made ≡ plain_pairs done
  pub real : AreReal made

-- a key above the names of all others is above their keys
keys_below : (key : String Global) (name : Text) (pairs : Pairs) → string_bytes key ≡ name
    → AllByRecursion (λ other. text_cmp name other ≡ Greater) (texts pairs)
    → AllByRecursion (λ other. string_cmp key other ≡ Greater) (keys_of pairs)
keys_below key name [] is above = tt
keys_below key name (pair ∷ rest) is above = (rw is above.0, keys_below key name rest is above.1)

-- values with one more at the end are real
real_more : (pairs : Pairs) (pair : String Global × RestrictedExpr) → AreReal pairs → IsValue (tree_of pair.1) → AreReal (pairs ++ pair ∷ [])
real_more [] pair real one = (one, tt)
real_more (first ∷ rest) pair real one = (real.0, real_more rest pair real.1 one)

-- one more is copied, and goes to the end
pub entries_more : (all made left rest : Pairs) (key copied : String Global) (value copy : RestrictedExpr)
    → IsStrictlySortedBy text_cmp (texts all) → left ≡ (key, value) ∷ rest → string_bytes copied ≡ string_bytes key
    → IsCopy (tree_of value) (tree_of copy) → EntriesSoFar all made left → EntriesSoFar all (insert_entry string_cmp made copied copy) rest
entries_more all made left rest key copied value copy sorted_by_name is named one so_far =
    let name = string_bytes key in
    let whole : texts all ≡ texts so_far.done ++ name ∷ texts rest =
    ap texts (so_far.split ∙ ap (λ others. so_far.done ++ others) is) ∙ map-append (λ pair. string_bytes pair.0) so_far.done ((key, value) ∷ rest) in
    let before : texts so_far.done ≡ texts made =
    texts-plain so_far.done ∙ (ap (map (λ (pair : Text × Tree). pair.0)) (sym so_far.same) ∙ sym (texts-plain made)) in
    let above = rw before at (above_front text_cmp-total (texts so_far.done) name (texts rest) (rw whole at sorted_by_name)) in
    let at_end : insert_entry string_cmp made copied copy ≡ made ++ (copied, copy) ∷ [] =
    insert_entry-end string_cmp made copied copy (keys_below copied name made named above) in
    let pair : (string_bytes copied, tree_of copy) ≡ (name, tree_of value) = λ i. (named i, one.0 i) in
    rw at_end (record {
      done = so_far.done ++ (key, value) ∷ [];
      split = so_far.split ∙ (ap (λ others. so_far.done ++ others) is ∙ sym (append_assoc so_far.done ((key, value) ∷ []) rest));
      same = map-append (λ each. (string_bytes each.0, tree_of each.1)) made ((copied, copy) ∷ [])
          ∙ (ap (λ pairs. pairs ++ (string_bytes copied, tree_of copy) ∷ []) so_far.same
          ∙ (ap (λ last. plain_pairs so_far.done ++ last ∷ []) pair
          ∙ sym (map-append (λ each. (string_bytes each.0, tree_of each.1)) so_far.done ((key, value) ∷ []))));
      real = real_more made (copied, copy) so_far.real one.1;
    })

-- where none is left, all are copied
pub entries_all : (all made left : Pairs) → left ≡ [] → IsStrictlySortedBy text_cmp (texts all) → EntriesSoFar all made left
    → AreEntryCopies (entries_from (plain_pairs all)) (entries_from (plain_pairs made))
entries_all all made left nothing sorted_by_name so_far =
    let same : plain_pairs made ≡ plain_pairs all =
    so_far.same ∙ ap plain_pairs (sym (so_far.split ∙ (ap (λ others. so_far.done ++ others) nothing ∙ append-nil so_far.done))) in
    let names : texts all ≡ texts made =
    texts-plain all ∙ (ap (map (λ (pair : Text × Tree). pair.0)) (sym same) ∙ sym (texts-plain made)) in
    (ap entries_from same, entries_real made (rw names at sorted_by_name) so_far.real)
