use Rattle.cedar_ast.proofs.Lists.{list_any-Contains}
use Rattle.cedar_ast.proofs.Names.{name_eq-same}
use Rattle.cedar_ast.proofs.type_names.has_name.Goals as goal
use Rattle.cedar_ast.specs.Name.{plain_name}

pub returns : goal.returns
returns c = rw c.contains.ensures.value (list_any-Contains plain_name _ _ (λ listed. name_eq-same listed c.args.name.now) c.args.names.now)
