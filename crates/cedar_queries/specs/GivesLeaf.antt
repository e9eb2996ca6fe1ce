use Rattle.std.specs.Borrow.{Bor}
use Rattle.std.specs.List.Sorted.{IsPermutation}
use Rattle.std.specs.Prelude.{◌≡◌, List, [], ◌∷◌, Option, None, Some, Result, Ok, Err}
use Rattle.cedar_ast.specs.declared.memory.Memory.{Memory}
use Rattle.cedar_queries.specs.Leaves.{leaves_of, shown_types}
use Rattle.cedar_queries.specs.declared.leaves.TypeIterator.{TypeIterator}
use Rattle.cedar_type_rules.specs.Ty.{Ty}
use Rattle.cedar_types.specs.Meaning.{ty_of}
use Rattle.cedar_types.specs.declared.types.Type.{«Type»}

-- the types that are yet to be visited
abbrev pub pending_types : TypeIterator → List Ty
pending_types it = shown_types it.pending.items

-- one step over the leaves of some types, to the types that are yet to be visited: one leaf, with
-- all others left; or the end, where there are none; or out of memory, after which nothing is left
abbrev pub GivesLeaf : List Ty → Option (Result (Bor «Type») Memory) → List Ty → Type 0
GivesLeaf before None after = (leaves_of before ≡ []) × (after ≡ [])
GivesLeaf before (Some (Ok ty)) after =
    IsPermutation (leaves_of before) (ty_of ty.now ∷ leaves_of after)
GivesLeaf before (Some (Err refused)) after = after ≡ []
