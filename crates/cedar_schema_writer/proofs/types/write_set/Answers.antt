use Rattle.std.proofs.Common.{Some, ap, sym, ◌∙◌}
use Rattle.std.specs.Option.{option_map}
use Rattle.cedar_schema_ast.proofs.VariantLemmas.{variant-Set}
use Rattle.cedar_schema_writer.proofs.types.write_set.Goals as goal
use Rattle.cedar_schema_writer.specs.Words.{RawName, raw_expr, raw_reference, set_expr}

pub returns : goal.returns
returns c = λ namespace ty is.
    ap (option_map set_expr) is
    ∙ ap Some (sym (variant-Set RawName (raw_reference namespace) c.in_ok-new.field-0
    ∙ ap set_expr (ap (raw_expr namespace) c.in_ok-new.ensures.ok ∙ c.plain.ensures namespace)))
