use Rattle.cedar_ast.proofs.Names.{internal_name_eq-same, internal_name_ord-name_cmp, internal_name_hash-same}
use Rattle.cedar_ast.proofs.theorems.internal_names_compare_by_name.Goals as goal

pub returns-clause-equality : goal.returns-clause-equality
returns-clause-equality c = internal_name_eq-same

pub returns-clause-order : goal.returns-clause-order
returns-clause-order c = internal_name_ord-name_cmp

pub returns-clause-hash : goal.returns-clause-hash
returns-clause-hash c = internal_name_hash-same
