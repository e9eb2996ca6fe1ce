use Rattle.cedar_ast.proofs.Names.{entity_type_eq-same}
use Rattle.cedar_ast.proofs.fits.is_same_type.Goals as goal

pub returns : goal.returns
returns c = rw c.eq.ensures (entity_type_eq-same c.args.ty.now c.args.other.now)
