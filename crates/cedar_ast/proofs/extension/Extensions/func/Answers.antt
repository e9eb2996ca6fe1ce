use Rattle.std.proofs.Common.{◌∙◌}
use Rattle.cedar_ast.proofs.Lookups.{get-at_name, ok_or-found}
use Rattle.cedar_ast.proofs.extension.Extensions.func.Goals as goal

pub returns-clause-known : goal.returns-clause-known
returns-clause-known c =
    rw (c.ok_or.ensures.value, ← (c.get.ensures.value ∙ get-at_name c.args.self.now.functions c.args.name.now))
    (ok_or-found c.get.result _).0

pub returns-clause-function : goal.returns-clause-function
returns-clause-function c =
    rw (c.ok_or.ensures.value, ← (c.get.ensures.value ∙ get-at_name c.args.self.now.functions c.args.name.now))
    (ok_or-found c.get.result _).1
