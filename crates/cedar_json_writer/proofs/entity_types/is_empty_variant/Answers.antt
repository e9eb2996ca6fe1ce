use Rattle.std.proofs.Common.{None, ap, sym, ◌∙◌}
use Rattle.std.proofs.lemmas.Bool.{false≢true}
use Rattle.cedar_json_writer.proofs.WrittenEntities.{filled_record}
use Rattle.cedar_json_writer.proofs.entity_types.is_empty_variant.Goals as goal
use Rattle.cedar_json_writer.specs.Words.{RawName, TypeVariant, is_empty_record, out-RecordType, raw_variant}
use Rattle.cedar_schema_ast.proofs.ExprLemmas.{raw_record-entries}
use Rattle.cedar_schema_ast.proofs.VariantLemmas.{raw_variant-Record}

pub returns-else-is_empty : goal.returns-else-is_empty
returns-else-is_empty c =
    let it = c.in-Record.it in
    c.if-is_empty.false
    ∙ sym (ap (λ (ty : TypeVariant RawName). is_empty_record (raw_variant None ty)) c.in-Record.is
    ∙ ap is_empty_record (raw_variant-Record None it ∙ raw_record-entries None it)
    ∙ filled_record (out-RecordType RawName it).attributes.entries (out-RecordType RawName it).additional_attributes
    (λ none. false≢true (sym c.if-is_empty.false ∙ c.is_empty.ensures.1 none)))
