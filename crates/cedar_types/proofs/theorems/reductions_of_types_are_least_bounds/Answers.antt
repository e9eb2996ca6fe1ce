use Rattle.std.proofs.Common.{map}
use Rattle.cedar_type_rules.proofs.ReduceLemmas.{reduce_least_clean}
use Rattle.cedar_types.proofs.ReduceSteps.{reduced_in_any_order}
use Rattle.cedar_types.proofs.theorems.reductions_of_types_are_least_bounds.Goals as goal
use Rattle.cedar_types.specs.Meaning.{ty_of}

pub returns-clause-of_clean : goal.returns-clause-of_clean
returns-clause-of_clean c mode answer clean right = reduce_least_clean mode (map ty_of c.args.types.now) answer clean right

pub returns-clause-any_order : goal.returns-clause-any_order
returns-clause-any_order c mode join answer clean forth back right also given =
    reduced_in_any_order mode c.args.types.now c.args.others.now join answer clean forth back right also given
