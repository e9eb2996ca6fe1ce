use Rattle.std.specs.Prelude.{Contains}
use Rattle.cedar_name_resolution.proofs.ShadowLemmas.{PassedSoFar}
use Rattle.cedar_name_resolution.proofs.defs.all_defs.AllDefs.check_types.Given as goal
use Rattle.cedar_name_resolution.specs.Words.{PlainName, ShadowsType, held_names, name_of, type_names}

abbrev pub invariant-loop-name : goal.invariant-loop-name
invariant-loop-name l =
    PassedSoFar (λ name. (plain : PlainName) → Contains (type_names (held_names l.self)) plain → ¬ ShadowsType plain name)
    name_of l.names.keys l.name-iterator
