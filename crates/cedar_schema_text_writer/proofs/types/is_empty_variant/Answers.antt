use Rattle.std.proofs.Common.{ap, sym, ◌∙◌}
use Rattle.cedar_schema_ast.proofs.ExprLemmas.{raw_record-entries}
use Rattle.cedar_schema_ast.proofs.VariantLemmas.{raw_variant-Record}
use Rattle.cedar_schema_ast.specs.Words.{raw_variant}
use Rattle.cedar_schema_ast.specs.declared.json_schema.raw_name.RawName.{RawName}
use Rattle.cedar_schema_ast.specs.declared.json_schema.type_of.RecordType.{out-RecordType}
use Rattle.cedar_schema_ast.specs.declared.json_schema.type_of.TypeVariant.{TypeVariant}
use Rattle.cedar_schema_text_writer.proofs.Written.{empty_by, none_by}
use Rattle.cedar_schema_text_writer.specs.TypeLayout.{is_empty_record}
use Rattle.cedar_schema_text_writer.proofs.types.is_empty_variant.Goals as goal

pub returns-in-Record : goal.returns-in-Record
returns-in-Record c namespace =
    let it = c.in-Record.it in
    let entries = (out-RecordType RawName it).attributes.entries in
    none_by c.is_empty.result entries c.is_empty.ensures.0 c.is_empty.ensures.1
    ∙ sym (ap (λ (ty : TypeVariant RawName). is_empty_record (raw_variant namespace ty)) c.in-Record.is
    ∙ ap is_empty_record (raw_variant-Record namespace it ∙ raw_record-entries namespace it)
    ∙ empty_by namespace entries (out-RecordType RawName it).additional_attributes)
