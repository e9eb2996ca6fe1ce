use Rattle.cedar_ast.proofs.Uids.{entity_uid_ord-Equal}
use Rattle.cedar_ast.specs.EntityUID.{uid_of}
use Rattle.cedar_ast.specs.contracts.entity_uid.EntityUIDOrd.TheImpl as order
use Rattle.cedar_name_resolution.proofs.SetLemmas.{found-Decides}
use Rattle.cedar_name_resolution.proofs.defs.all_defs.AllDefs.is_defined_as_action.Goals as goal

pub returns : goal.returns
returns c =
    rw c.contains.ensures
    (found-Decides ((order.ghosts).cmp) uid_of entity_uid_ord-Equal c.args.self.now.action_defs.keys c.args.uid.now)
