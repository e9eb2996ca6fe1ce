use Rattle.std.proofs.Common.{List, subst, length}
use Rattle.std.specs.List.Sorted.{IsBinarySearchResult, IsSearchInRange}
use Rattle.cedar_ast.specs.contracts.entity_type.EntityTypeOrd.TheImpl as entity_type_ord
use Rattle.cedar_schema_elements.proofs.type_set.TypeSet.contains.Goals as goal
use Rattle.cedar_schema_elements.specs.Words.{EntityType, set_types}
use Rattle.cedar_types.proofs.UnionSteps.{searched-Decides}

pub returns : goal.returns
returns c =
    let ty = c.args.ty.now in
    let r = c.binary_search.result in
    let IsFoundIn : List EntityType → Type 0 = λ types. IsSearchInRange r (length types)
    × IsBinarySearchResult (λ y. (entity_type_ord.ghosts).cmp y ty) types r in
    let both = subst IsFoundIn c.deref.ensures.value (c.binary_search.ensures.bound, c.binary_search.ensures.position) in
    rw c.is_ok.ensures.value (searched-Decides (set_types c.args.self.now) c.args.self.now.sorted ty r both.0 both.1)
