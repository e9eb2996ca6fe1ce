use Rattle.cedar_schema_ast.proofs.Equality.{raw_name-Decides, raw_name_hash-same}
use Rattle.cedar_schema_ast.proofs.theorems.raw_names_compare_by_name.Goals as goal

pub returns-clause-equality : goal.returns-clause-equality
returns-clause-equality c = raw_name-Decides

pub returns-clause-hash : goal.returns-clause-hash
returns-clause-hash c = raw_name_hash-same
