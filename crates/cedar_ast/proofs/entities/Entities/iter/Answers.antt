use Rattle.cedar_ast.proofs.Collected.{uids_ordered}
use Rattle.cedar_ast.proofs.entities.Entities.iter.Goals as goal

pub returns-clause-ordered : goal.returns-clause-ordered
returns-clause-ordered c = uids_ordered c.args.self.now.entities c.args.self.now.keyed c.values.ensures.ordered
