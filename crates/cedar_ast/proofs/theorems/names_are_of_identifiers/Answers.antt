use Rattle.cedar_ast.proofs.ValueLemmas.{IsName-plain_name}
use Rattle.cedar_ast.proofs.theorems.names_are_of_identifiers.Goals as goal

pub returns : goal.returns
returns c = IsName-plain_name c.args.name.now
