use Rattle.std.proofs.Common.{refl}
use Rattle.cedar_types.proofs.ReduceSteps.{types-reduced}
use Rattle.cedar_types.proofs.types.Type.reduce_to_least_upper_bound.Goals as goal

pub returns : goal.returns
returns c = types-reduced c.args.mode _ c.args.items.now c.reduce.result refl c.reduce.ensures.pairwise
