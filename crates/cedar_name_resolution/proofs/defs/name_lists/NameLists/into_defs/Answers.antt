use Rattle.cedar_ast.proofs.Names.{internal_name_ord-Equal}
use Rattle.cedar_ast.proofs.Uids.{entity_uid_ord-Equal}
use Rattle.cedar_ast.specs.contracts.entity_uid.EntityUIDOrd.TheImpl as uid_order
use Rattle.cedar_ast.specs.contracts.internal_name.InternalNameOrd.TheImpl as name_order
use Rattle.cedar_name_resolution.proofs.SetLemmas.{collected}
use Rattle.cedar_name_resolution.proofs.defs.name_lists.NameLists.into_defs.Goals as goal
use Rattle.cedar_name_resolution.specs.Words.{name_of, uid_of}

pub returns : goal.returns
returns c = record {
  common = collected ((name_order.ghosts).cmp) name_of internal_name_ord-Equal _ c.args.self.common.items c.in_ok-set_of-2.ensures;
  entities = collected ((name_order.ghosts).cmp) name_of internal_name_ord-Equal _ c.args.self.entities.items c.in_ok-set_of.ensures;
  actions = collected ((uid_order.ghosts).cmp) uid_of entity_uid_ord-Equal _ c.args.self.actions.items c.in_ok-set_of-3.ensures;
}
