use Rattle.cedar_ast.proofs.Ids.{unreserved_id_eq-same, unreserved_id_ord-text_cmp, unreserved_id_hash-same}
use Rattle.cedar_ast.proofs.theorems.unreserved_ids_compare_by_text.Goals as goal

pub returns-clause-equality : goal.returns-clause-equality
returns-clause-equality c = unreserved_id_eq-same

pub returns-clause-order : goal.returns-clause-order
returns-clause-order c = unreserved_id_ord-text_cmp

pub returns-clause-hash : goal.returns-clause-hash
returns-clause-hash c = unreserved_id_hash-same
