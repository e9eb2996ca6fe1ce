use Rattle.cedar_ast.proofs.Uids.{entity_uid_eq-same, entity_uid_ord-uid_cmp, entity_uid_hash-same}
use Rattle.cedar_ast.proofs.theorems.uids_compare_by_type_and_id.Goals as goal

pub returns-clause-equality : goal.returns-clause-equality
returns-clause-equality c = entity_uid_eq-same

pub returns-clause-order : goal.returns-clause-order
returns-clause-order c = entity_uid_ord-uid_cmp

pub returns-clause-hash : goal.returns-clause-hash
returns-clause-hash c = entity_uid_hash-same
