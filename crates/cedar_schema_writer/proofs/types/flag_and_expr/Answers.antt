use Rattle.std.proofs.Common.{◌∙◌}
use Rattle.cedar_schema_ast.proofs.ExprLemmas.{raw_attribute-parts}
use Rattle.cedar_schema_writer.proofs.types.flag_and_expr.Goals as goal

pub returns : goal.returns
returns c = λ namespace. raw_attribute-parts namespace _ ∙ (λ i. (c.args.required, c.plain.ensures namespace i))
