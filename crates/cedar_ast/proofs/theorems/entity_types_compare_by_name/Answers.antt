use Rattle.cedar_ast.proofs.Names.{entity_type_eq-same, entity_type_ord-name_cmp, entity_type_hash-same}
use Rattle.cedar_ast.proofs.theorems.entity_types_compare_by_name.Goals as goal

pub returns-clause-equality : goal.returns-clause-equality
returns-clause-equality c = entity_type_eq-same

pub returns-clause-order : goal.returns-clause-order
returns-clause-order c = entity_type_ord-name_cmp

pub returns-clause-hash : goal.returns-clause-hash
returns-clause-hash c = entity_type_hash-same
