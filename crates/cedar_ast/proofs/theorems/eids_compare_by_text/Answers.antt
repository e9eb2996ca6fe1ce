use Rattle.cedar_ast.proofs.Ids.{eid_eq-same, eid_ord-text_cmp, eid_hash-same}
use Rattle.cedar_ast.proofs.theorems.eids_compare_by_text.Goals as goal

pub returns-clause-equality : goal.returns-clause-equality
returns-clause-equality c = eid_eq-same

pub returns-clause-order : goal.returns-clause-order
returns-clause-order c = eid_ord-text_cmp

pub returns-clause-hash : goal.returns-clause-hash
returns-clause-hash c = eid_hash-same
