use Rattle.cedar_ast.proofs.Uids.{entity_uid_ord-Equal}
use Rattle.cedar_ast.specs.EntityUID.{uid_of}
use Rattle.cedar_ast.specs.contracts.entity_uid.EntityUIDOrd.TheImpl as order
use Rattle.cedar_name_resolution.proofs.SetLemmas.{stands_where}
use Rattle.cedar_name_resolution.proofs.defs.all_defs.AllDefs.declared_action.Goals as goal

pub returns : goal.returns
returns c =
    stands_where ((order.ghosts).cmp) uid_of entity_uid_ord-Equal (λ one. one.now) c.args.self.now.action_defs.keys c.args.uid.now c.get.result
    c.get.ensures.variant c.get.ensures.same_key
