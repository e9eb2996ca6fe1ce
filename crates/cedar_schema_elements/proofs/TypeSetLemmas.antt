-- Entity types that are put in order, each once, and sets of these.
use Rattle.std.proofs.Common.{◌≡◌, ◌≢◌, AllPairs, List, [], map, sym, subst}
use Rattle.std.proofs.lemmas.Bool.Decides.{Decides-like}
use Rattle.std.proofs.lemmas.List.Filters.{dedup_is}
use Rattle.std.specs.Bool.{Decides}
use Rattle.std.specs.Cmp.Lexicographic.{pointwise}
use Rattle.std.specs.List.Retain.{DiffersFromLast, IsFiltered}
use Rattle.std.specs.List.Sorted.{IsPermutation, IsSorted}
use Rattle.cedar_ast.proofs.Names.{entity_type_eq-same}
use Rattle.cedar_ast.proofs.PlainNames.{name_cmp-total}
use Rattle.cedar_ast.specs.contracts.entity_type.EntityTypeOrd.TheImpl as entity_type_ord
use Rattle.cedar_ast.specs.contracts.entity_type.EntityTypePartialEq.TheImpl as entity_type_eq
use Rattle.cedar_schema_elements.proofs.NamedTypes.{same_type}
use Rattle.cedar_schema_elements.proofs.SetLemmas.{SameItems-equal, once}
use Rattle.cedar_schema_elements.specs.Words.{EntityType, SameItems, TypeSet, name_cmp, set_names, type_name}
use Rattle.cedar_type_rules.proofs.AntisymmetryLaws.{Included-same}
use Rattle.cedar_type_rules.proofs.SubtypeLemmas.{pointwise-map_Decides}
use Rattle.cedar_types.proofs.MergedLemmas.{same_names-distinct, sorted_names-distinct}
use Rattle.cedar_types.specs.TypesInOrder.{AreInOrder}

-- entity types that are sorted, and of which repeats are dropped, are in order
pub kept_in_order : (sorted all : List EntityType) → IsFiltered (DiffersFromLast same_type) [] sorted all
    → IsSorted (entity_type_ord.ghosts).cmp sorted → AreInOrder all
kept_in_order sorted all filtered order =
    let P : List EntityType → Type 0 = AreInOrder in
    subst P (sym (dedup_is _ _ _ filtered)) (sorted_names-distinct sorted order)

-- and their names are those of all that were put in order
pub names_kept : (types sorted all : List EntityType) → IsPermutation types sorted
    → IsFiltered (DiffersFromLast same_type) [] sorted all → SameItems (map type_name all) (map type_name types)
names_kept types sorted all permutation filtered =
    let P : List EntityType → Type 0 = λ items. SameItems (map type_name items) (map type_name types) in
    subst P (sym (dedup_is _ _ _ filtered)) (same_names-distinct types sorted permutation)

-- sets are equal exactly where they have the same names
pub type_sets-Decides : (a b : TypeSet) → Decides (pointwise (entity_type_eq.ghosts).eq a.types.items b.types.items)
    (SameItems (set_names a) (set_names b))
type_sets-Decides a b =
    Decides-like
    _ (SameItems-equal (set_names a) (set_names b))
    (λ items. Included-same name_cmp name_cmp-total (set_names a) (set_names b) a.sorted b.sorted (λ name. (items name).0) (λ name. (items name).1))
    (pointwise-map_Decides type_name _ entity_type_eq-same a.types.items b.types.items)

-- names of a set are each there once
pub set_once : (set : TypeSet) → AllPairs (λ a b. a ≢ b) (set_names set)
set_once set = once name_cmp name_cmp-total (set_names set) set.sorted
