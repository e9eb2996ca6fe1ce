use Rattle.cedar_ast.proofs.Names.{internal_name_ord-Equal}
use Rattle.cedar_ast.specs.InternalName.{name_of}
use Rattle.cedar_ast.specs.contracts.internal_name.InternalNameOrd.TheImpl as order
use Rattle.cedar_name_resolution.proofs.SetLemmas.{stands_where}
use Rattle.cedar_name_resolution.proofs.defs.all_defs.AllDefs.declared_common.Goals as goal

pub returns : goal.returns
returns c =
    stands_where ((order.ghosts).cmp) name_of internal_name_ord-Equal (λ one. one.now) c.args.self.now.common_defs.keys c.args.name.now c.get.result
    c.get.ensures.variant c.get.ensures.same_key
