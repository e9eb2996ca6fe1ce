use Rattle.std.proofs.Common.{refl}
use Rattle.cedar_schema_ast.proofs.Equality.{common_type_id-Decides, common_type_id_hash-same}
use Rattle.cedar_schema_ast.proofs.theorems.common_type_ids_compare_by_text.Goals as goal

pub returns-clause-equality : goal.returns-clause-equality
returns-clause-equality c = common_type_id-Decides

pub returns-clause-order : goal.returns-clause-order
returns-clause-order c = λ a b. refl

pub returns-clause-hash : goal.returns-clause-hash
returns-clause-hash c = common_type_id_hash-same
