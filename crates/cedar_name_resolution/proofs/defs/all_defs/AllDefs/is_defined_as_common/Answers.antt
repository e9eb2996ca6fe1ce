use Rattle.cedar_ast.proofs.Names.{internal_name_ord-Equal}
use Rattle.cedar_ast.specs.InternalName.{name_of}
use Rattle.cedar_ast.specs.contracts.internal_name.InternalNameOrd.TheImpl as order
use Rattle.cedar_name_resolution.proofs.SetLemmas.{found-Decides}
use Rattle.cedar_name_resolution.proofs.defs.all_defs.AllDefs.is_defined_as_common.Goals as goal

pub returns : goal.returns
returns c =
    rw c.contains.ensures
    (found-Decides ((order.ghosts).cmp) name_of internal_name_ord-Equal c.args.self.now.common_defs.keys c.args.name.now)
