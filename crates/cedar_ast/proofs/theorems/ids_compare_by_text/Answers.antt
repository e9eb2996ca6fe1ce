use Rattle.cedar_ast.proofs.Ids.{id_eq-same, id_ord-text_cmp, id_hash-same}
use Rattle.cedar_ast.proofs.theorems.ids_compare_by_text.Goals as goal

pub returns-clause-equality : goal.returns-clause-equality
returns-clause-equality c = id_eq-same

pub returns-clause-order : goal.returns-clause-order
returns-clause-order c = id_ord-text_cmp

pub returns-clause-hash : goal.returns-clause-hash
returns-clause-hash c = id_hash-same
