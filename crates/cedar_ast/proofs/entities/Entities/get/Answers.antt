use Rattle.std.proofs.Common.{◌∙◌}
use Rattle.cedar_ast.proofs.Collected.{get-find}
use Rattle.cedar_ast.proofs.entities.Entities.get.Goals as goal

pub returns : goal.returns
returns c = c.get.ensures.value ∙ get-find c.args.self.now.entities c.args.uid.now c.args.self.now.keyed
