use Rattle.cedar_ast.proofs.Names.{name_eq-same}
use Rattle.cedar_ast.proofs.name.Name.is_same.Goals as goal

pub returns : goal.returns
returns c = rw c.eq.ensures (name_eq-same c.args.self.now c.args.other.now)
