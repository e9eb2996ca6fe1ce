use Rattle.cedar_ast.proofs.PlainNames.{uid_cmp-total, uid_cmp-Equal}
use Rattle.cedar_ast.proofs.theorems.uids_are_totally_ordered.Goals as goal

pub returns-clause-total : goal.returns-clause-total
returns-clause-total c = uid_cmp-total

pub returns-clause-same : goal.returns-clause-same
returns-clause-same c = uid_cmp-Equal
