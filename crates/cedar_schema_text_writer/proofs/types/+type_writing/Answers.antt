use Rattle.cedar_ast.proofs.Basics.{OnOk-map}
use Rattle.cedar_schema_text_writer.proofs.Written.{attribute_written, none_by, record_written, set_written, variant_written}
use Rattle.cedar_schema_ast.proofs.VariantLemmas.{raw_variant-Boolean, raw_variant-Long, raw_variant-Record, raw_variant-String}
use Rattle.cedar_schema_ast.specs.Words.{long_expr, raw_expr, raw_record, text_expr, truth_expr}
use Rattle.cedar_schema_ast.specs.declared.json_schema.type_of.TypeVariant as variant
use Rattle.cedar_schema_ast.specs.declared.json_schema.raw_name.RawName.{RawName}
use Rattle.cedar_schema_ast.specs.declared.json_schema.type_of.RecordType.{out-RecordType}
use Rattle.cedar_schema_text_writer.specs.Scope.{first_in, namespace_in}
use Rattle.cedar_schema_text_writer.proofs.types.+type_writing.Goals as goal

pub put_record-returns : goal.put_record-returns
put_record-returns t c =
    OnOk-map c.close_record.result c.close_record.ensures (λ closing.
    record_written (first_in c.args.scope) (namespace_in c.args.scope) c.args.level c.in_ok-inner.inner c.args.out.now c.push_str.new.self
    c.loop-name.out c.close_record.new.out c.args.record_type.now c.loop-name.name-iterator c.is_empty.result
    c.in_ok-push_str.ensures.bytes c.in_ok-inner.ensures c.in-None.ensures.steps.0 c.loop-name.invariant
    (none_by c.is_empty.result (out-RecordType RawName c.args.record_type.now).attributes.entries c.is_empty.ensures.0 c.is_empty.ensures.1) closing)

pub put_attribute-returns : goal.put_attribute-returns
put_attribute-returns t c =
    attribute_written (first_in c.args.scope) (namespace_in c.args.scope) c.args.level c.args.out.now c.put_presence.new.out c.push_str.new.self
    c.put_type.new.out c.push_str-2.new.self c.args.attribute.now c.in_ok-put_presence.ensures c.in_ok-push_str.ensures.bytes c.in_ok-put_type.ensures
    c.in_ok-push_str-2.ensures.bytes

pub put_set-returns : goal.put_set-returns
put_set-returns t c =
    set_written (first_in c.args.scope) (namespace_in c.args.scope) c.args.level c.args.out.now c.push_str.new.self c.put_type.new.out
    c.push_str-2.new.self (raw_expr (namespace_in c.args.scope) c.args.element.now) c.in_ok-push_str.ensures.bytes c.in_ok-put_type.ensures
    c.in_ok-push_str-2.ensures.bytes

pub put_variant-returns-in-String : goal.put_variant-returns-in-String
put_variant-returns-in-String t c =
    let namespace = namespace_in c.args.scope in
    variant_written (first_in c.args.scope) namespace c.args.level c.args.out.now c.put_built_in.new.out c.put_built_in.result c.args.ty.now variant.String text_expr
    c.in-String.is (raw_variant-String namespace) c.put_built_in.ensures

pub put_variant-returns-in-Long : goal.put_variant-returns-in-Long
put_variant-returns-in-Long t c =
    let namespace = namespace_in c.args.scope in
    variant_written (first_in c.args.scope) namespace c.args.level c.args.out.now c.put_built_in-in-Long.new.out c.put_built_in-in-Long.result c.args.ty.now variant.Long long_expr
    c.in-Long.is (raw_variant-Long namespace) c.put_built_in-in-Long.ensures

pub put_variant-returns-in-Boolean : goal.put_variant-returns-in-Boolean
put_variant-returns-in-Boolean t c =
    let namespace = namespace_in c.args.scope in
    variant_written (first_in c.args.scope) namespace c.args.level c.args.out.now c.put_built_in-in-Boolean.new.out c.put_built_in-in-Boolean.result c.args.ty.now variant.Boolean truth_expr
    c.in-Boolean.is (raw_variant-Boolean namespace) c.put_built_in-in-Boolean.ensures

pub put_variant-returns-in-Record : goal.put_variant-returns-in-Record
put_variant-returns-in-Record t c =
    let namespace = namespace_in c.args.scope in
    variant_written (first_in c.args.scope) namespace c.args.level c.args.out.now c.put_record.new.out c.put_record.result c.args.ty.now (variant.Record c.in-Record.record_type) (raw_record namespace c.in-Record.record_type)
    c.in-Record.is (raw_variant-Record namespace c.in-Record.record_type) c.put_record.ensures
