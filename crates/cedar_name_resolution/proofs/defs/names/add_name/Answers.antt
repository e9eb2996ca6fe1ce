use Rattle.cedar_ast.proofs.Names.{internal_name_ord-Equal}
use Rattle.cedar_ast.specs.InternalName.{name_of}
use Rattle.cedar_ast.specs.contracts.internal_name.InternalNameOrd.TheImpl as order
use Rattle.cedar_name_resolution.proofs.SetLemmas.{inserted}
use Rattle.cedar_name_resolution.proofs.defs.names.add_name.Goals as goal

pub returns-clause-added : goal.returns-clause-added
returns-clause-added c =
    rw c.in_ok-_is_new.ensures.keys
    (inserted ((order.ghosts).cmp) name_of internal_name_ord-Equal c.args.names.now.keys c.args.name)
