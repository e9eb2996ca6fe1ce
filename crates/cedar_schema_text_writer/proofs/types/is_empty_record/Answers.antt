use Rattle.std.proofs.Common.{ap, sym, ◌∙◌}
use Rattle.cedar_schema_ast.proofs.VariantLemmas.{raw_expr-Plain}
use Rattle.cedar_schema_ast.specs.Words.{raw_expr}
use Rattle.cedar_schema_ast.specs.declared.json_schema.raw_name.RawName.{RawName}
use Rattle.cedar_schema_ast.specs.declared.json_schema.type_of.Type.{«Type»}
use Rattle.cedar_schema_text_writer.specs.TypeLayout.{is_empty_record}
use Rattle.cedar_schema_text_writer.proofs.types.is_empty_record.Goals as goal

pub returns-in-Plain : goal.returns-in-Plain
returns-in-Plain c namespace =
    c.is_empty_variant.ensures namespace
    ∙ sym (ap (λ (ty : «Type» RawName). is_empty_record (raw_expr namespace ty)) c.in-Plain.is
    ∙ ap is_empty_record (raw_expr-Plain namespace c.in-Plain.ty c.in-Plain.loc))
