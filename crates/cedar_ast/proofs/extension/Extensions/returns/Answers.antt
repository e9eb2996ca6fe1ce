use Rattle.std.proofs.Common.{◌≡◌}
use Rattle.cedar_ast.proofs.extension.Extensions.returns.Goals as goal

pub returns-in-Ok : goal.returns-in-Ok
returns-in-Ok c =
    let known = c.in-Ok.ensures.function in (
      λ e. (c.in-Ok.function.now, known, c.returns.ensures.0 e),
      λ gives. let same : gives.0 ≡ c.in-Ok.function.now = (let found = gives.1 in cc) in c.returns.ensures.1 (rw same at gives.2),
    )
