use Rattle.cedar_ast.proofs.PlainNames.{name_cmp-total, name_cmp-Equal}
use Rattle.cedar_ast.proofs.theorems.names_are_totally_ordered.Goals as goal

pub returns-clause-total : goal.returns-clause-total
returns-clause-total c = name_cmp-total

pub returns-clause-same : goal.returns-clause-same
returns-clause-same c = name_cmp-Equal
