use Rattle.cedar_type_rules.proofs.ValueInclusion.{below_parts, inclusion_by_parts}
use Rattle.cedar_type_rules.proofs.theorems.parts_tell_inclusion_of_values.Goals as goal

pub returns-clause-inclusion : goal.returns-clause-inclusion
returns-clause-inclusion c = inclusion_by_parts

pub returns-clause-subtyping : goal.returns-clause-subtyping
returns-clause-subtyping c = λ a b below. below_parts b a below
