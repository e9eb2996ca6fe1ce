use Rattle.cedar_schema_ast.proofs.Equality.{conditional_name-Decides, conditional_name_hash-same}
use Rattle.cedar_schema_ast.proofs.theorems.conditional_names_compare_by_possibilities.Goals as goal

pub returns-clause-equality : goal.returns-clause-equality
returns-clause-equality c = conditional_name-Decides

pub returns-clause-hash : goal.returns-clause-hash
returns-clause-hash c = conditional_name_hash-same
