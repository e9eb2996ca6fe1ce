use Rattle.cedar_ast.proofs.TextsOfNames.{IsOfIdentifiers-name_of}
use Rattle.cedar_ast.proofs.name.Name.from_str.Goals as goal
use Rattle.cedar_ast.specs.InternalName.{name_of}

pub returns-then-is_reserved-clause-fault : goal.returns-then-is_reserved-clause-fault
returns-then-is_reserved-clause-fault c = (
  name_of c.in_ok-name.name,
  IsOfIdentifiers-name_of c.in_ok-name.name,
  c.is_reserved.ensures.0 c.if-is_reserved.true,
  c.in_ok-name.ensures.name,
)
