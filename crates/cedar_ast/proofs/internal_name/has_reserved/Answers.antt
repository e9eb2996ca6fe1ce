use Rattle.std.proofs.Common.{below_more, arith}
use Rattle.std.proofs.lemmas.Grind.{common_steps}
use Rattle.cedar_ast.proofs.internal_name.has_reserved.Goals as goal

pub loop-part-preserved : goal.loop-part-preserved
loop-part-preserved c = below_more _ _ c.loop-part.invariant (grind (arith, common_steps))
