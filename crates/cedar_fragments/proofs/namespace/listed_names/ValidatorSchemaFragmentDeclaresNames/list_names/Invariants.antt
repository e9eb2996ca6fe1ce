use Rattle.std.proofs.Common.{take}
use Rattle.cedar_fragments.proofs.namespace.listed_names.ValidatorSchemaFragmentDeclaresNames.list_names.Given as goal
use Rattle.cedar_fragments.specs.DeclaredNames.{names_of_definitions}
use Rattle.cedar_name_resolution.specs.HeldNames.{HoldsAlso, listed_names}

abbrev pub invariant-loop-definition : goal.invariant-loop-definition
invariant-loop-definition g l =
    HoldsAlso (listed_names l.lists) (listed_names l.initial.lists)
    (names_of_definitions g.row.N.Denot g.row.A.Denot (take l.definition-index l.definition-items))
