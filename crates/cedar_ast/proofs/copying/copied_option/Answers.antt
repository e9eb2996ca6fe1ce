use Rattle.std.proofs.Common.{refl}
use Rattle.std.proofs.lemmas.Fn.{says_at}
use Rattle.cedar_ast.proofs.copying.copied_option.Goals as goal

pub returns : goal.returns
returns g c = rw c.in-Some.is (rw c.in_ok-copy-in-Some.was at (says_at g.F.Fn c.copy.ensures refl))
