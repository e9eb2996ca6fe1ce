use Rattle.cedar_ast.proofs.Names.{name_eq-same, name_ord-name_cmp, name_hash-same}
use Rattle.cedar_ast.proofs.theorems.names_compare_by_name.Goals as goal

pub returns-clause-equality : goal.returns-clause-equality
returns-clause-equality c = name_eq-same

pub returns-clause-order : goal.returns-clause-order
returns-clause-order c = name_ord-name_cmp

pub returns-clause-hash : goal.returns-clause-hash
returns-clause-hash c = name_hash-same
