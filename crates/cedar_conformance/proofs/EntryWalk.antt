-- Walks over the entries of a record and the elements of a set.
use Rattle.std.proofs.Common.{◌≡◌, ◌≢◌, ◌⊎◌, refl, sym, ◌∙◌, inl, inr, ℕ, List, Some, length, get_or, drop, map, string_bytes, ◌<◌, ◌≤◌, ◌+◌}
use Rattle.std.proofs.Math.ListN.{drop_of_length-le}
use Rattle.std.proofs.lemmas.Simd.{map-map}
use Rattle.std.specs.List.{AllByRecursion}
use Rattle.std.specs.List.Sorted.{IsStrictlySortedBy}
use Rattle.std.specs.declared.cmp.Ordering.TheVariants.{Less}
use Rattle.std.specs.Map.{keys_of}
use Rattle.std.specs.String.{string_cmp}
use Rattle.std.specs.declared.alloc.Global.{Global}
use Rattle.std.specs.declared.string.String.{String}
use Rattle.cedar_ast.proofs.Ordered.{IsStrictlySortedBy-map, not_itself}
use Rattle.cedar_ast.proofs.Texts.{text_cmp-total}
use Rattle.cedar_ast.proofs.TreeLemmas.{drop-at, entry_names-entries}
use Rattle.cedar_ast.specs.Words.{Entries, PlainUid, Text, Tree, entries_from, entry, entry_at, entry_names, no_entry, text_cmp, tree_of, trees_of}
use Rattle.cedar_ast.specs.declared.value.RestrictedExpr.{RestrictedExpr}
use Rattle.cedar_entities.specs.Words.{EachNamesOnly, EntriesNameOnly, NamesOnly}
use Rattle.cedar_type_rules.proofs.SampleValues.{entry_here, entry_there}

-- an entry of that name and that value is among others
abbrev pub HasEntry : Text → Tree → Entries → Type 0
HasEntry name value no_entry = ⊥
HasEntry name value (entry other first rest) = ((name ≡ other) × (value ≡ first)) ⊎ HasEntry name value rest

-- what holds of each name holds of that of an entry
name_of : (P : Text → Type 0) (name : Text) (value : Tree) (values : Entries) → AllByRecursion P (entry_names values) → HasEntry name value values
    → P name
name_of P name value no_entry all has = absurd has
name_of P name value (entry other first rest) all has = elim has [
  | inl same ↦ rw same.0 all.0
  | inr there ↦ name_of P name value rest all.1 there
]

-- among entries in the order of their names an entry is found under its name
pub entry_found : (name : Text) (value : Tree) (values : Entries) → IsStrictlySortedBy text_cmp (entry_names values) → HasEntry name value values
    → entry_at name values ≡ Some value
unfolding IsStrictlySortedBy
entry_found name value no_entry ordered has = absurd has
entry_found name value (entry other first rest) ordered has = elim has [
  | inl same ↦ rw (same.1) (entry_here name other first rest same.0)
  | inr there ↦
      let below = name_of (λ each. text_cmp other each ≡ Less) name value rest ordered.0 there in
      let differ : name ≢ other = λ same. not_itself text_cmp text_cmp-total other name (sym same) below in
      entry_there name other first rest differ ∙ entry_found name value rest ordered.1 there
]

-- a walk over the entries of a record of which each names only uids that a fact holds of: those that
-- are left decide about all, and are found under their names
pub record EntriesSoFar (Is : PlainUid → Type 0) (all left : Entries) : Type 0 where
  pub before : EntriesNameOnly Is left → EntriesNameOnly Is all
  pub within : (name : Text) (value : Tree) → HasEntry name value left → entry_at name all ≡ Some value

module _ (Is : PlainUid → Type 0) (all : Entries) where
  -- at first all are left
  pub entries_start : IsStrictlySortedBy text_cmp (entry_names all) → EntriesSoFar Is all all
  entries_start ordered = record {
    before = λ each. each;
    within = λ name value has. entry_found name value all ordered has;
  }

  -- past one that does the others decide
  pub entries_next : (name : Text) (value : Tree) (rest : Entries) → EntriesSoFar Is all (entry name value rest) → NamesOnly Is value
      → EntriesSoFar Is all rest
  entries_next name value rest so_far only = record {
    before = λ others. so_far.before (only, others);
    within = λ n v has. so_far.within n v (inr has);
  }

  -- where none is left, all do
  pub entries_none : (left : Entries) → left ≡ no_entry → EntriesSoFar Is all left → EntriesNameOnly Is all
  entries_none left nothing so_far = let done = rw nothing at so_far in done.before tt

-- a walk over the elements of a set of which each names only uids that a fact holds of: those from
-- an index on decide about all
abbrev pub NamingSoFar : (PlainUid → Type 0) → List RestrictedExpr → ℕ → Type 0
NamingSoFar Is values index = EachNamesOnly Is (trees_of (drop index values)) → EachNamesOnly Is (trees_of values)

-- past an element that does the others decide
pub naming_next : (Is : PlainUid → Type 0) (values : List RestrictedExpr) (i : ℕ) (x : RestrictedExpr) → i < length values → x ≡ get_or values i x
    → NamesOnly Is (tree_of x) → NamingSoFar Is values i → NamingSoFar Is values (i + 1)
naming_next Is values i x below is only so_far = λ others. so_far (rw (drop-at values i x below is) (only, others))

-- where no index is left, all do
pub naming_none : (Is : PlainUid → Type 0) (values : List RestrictedExpr) (i : ℕ) → length values ≤ i → NamingSoFar Is values i
    → EachNamesOnly Is (trees_of values)
naming_none Is values i past so_far = so_far (rw (drop_of_length-le values past) tt)

-- where the keys of a map are in order, so are the names of the record that it stands for
pub keys_in_order : (entries : List (String Global × RestrictedExpr)) → IsStrictlySortedBy string_cmp (keys_of entries)
    → IsStrictlySortedBy text_cmp (entry_names (entries_from (map (λ entry. (string_bytes entry.0, tree_of entry.1)) entries)))
keys_in_order entries ordered =
    rw (entry_names-entries entries ∙ sym (map-map string_bytes (λ entry. entry.0) entries))
    (IsStrictlySortedBy-map string_cmp text_cmp string_bytes (λ a b. refl) _ ordered)
