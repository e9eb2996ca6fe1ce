use Rattle.std.proofs.Common.{sym, ◌∙◌, ap}
use Rattle.cedar_diagnosis.proofs.MentionLemmas.{adds_open, alike_mentioned, long_mentioned, mentioned_more, mentioned_none, record_mentioned, set_mentioned, text_mentioned, truth_mentioned}
use Rattle.cedar_diagnosis.proofs.mentions.+add.Goals as goal
use Rattle.cedar_schema_ast.proofs.VariantLemmas.{type-CommonTypeRef, type-Plain, variant-Boolean, variant-Entity, variant-EntityOrCommon, variant-Extension, variant-Long, variant-Record, variant-Set, variant-String}
use Rattle.cedar_schema_ast.specs.Words.{namespace_name, raw_reference, set_expr, type_expr, variant_expr}
use Rattle.cedar_schema_ast.specs.declared.json_schema.raw_name.RawName.{RawName}

pub add_type-returns-in-Plain : goal.add_type-returns-in-Plain
add_type-returns-in-Plain t c =
    let refer = raw_reference (namespace_name c.args.namespace) in
    alike_mentioned c.add_variant.result (type_expr RawName refer c.args.ty.now) (variant_expr RawName refer c.in-Plain.ty)
    c.args.mentions.now c.add_variant.new.mentions
    (ap (type_expr RawName refer) c.in-Plain.is ∙ type-Plain RawName refer _ _) c.add_variant.ensures

pub add_type-returns-in-CommonTypeRef : goal.add_type-returns-in-CommonTypeRef
add_type-returns-in-CommonTypeRef t c =
    let refer = raw_reference (namespace_name c.args.namespace) in
    alike_mentioned c.add_reference.result (type_expr RawName refer c.args.ty.now) _
    c.args.mentions.now c.add_reference.new.mentions
    (ap (type_expr RawName refer) c.in-CommonTypeRef.is ∙ type-CommonTypeRef RawName refer _ _) c.add_reference.ensures

-- at first no attribute was gone through
pub add_record-loop-attribute-init : goal.add_record-loop-attribute-init
add_record-loop-attribute-init t c =
    mentioned_none (namespace_name c.args.namespace) c.args.record_type.now c.args.mentions.now
    c.into_iter-attribute-iterator.result (sym c.into_iter-attribute-iterator.ensures.into_iter_gives.0)

-- one more was
pub add_record-loop-attribute-preserved : goal.add_record-loop-attribute-preserved
add_record-loop-attribute-preserved t c =
    mentioned_more (namespace_name c.args.namespace) c.args.record_type.now c.args.mentions.now c.loop-attribute.mentions c.add_type.new.mentions
    c.loop-attribute.attribute-iterator c.next.new.self c.in-Some.field-0-0.now c.in-Some.attribute.now c.in-Some.ensures.steps
    c.in_ok-add_type.ensures c.loop-attribute.invariant

-- at the end all were
pub add_record-returns : goal.add_record-returns
add_record-returns t c =
    record_mentioned (namespace_name c.args.namespace) c.args.record_type.now c.args.mentions.now c.loop-attribute.mentions c.note_open.new.mentions
    c.loop-attribute.attribute-iterator c.in-None.ensures.steps.0 c.loop-attribute.invariant
    (adds_open c.loop-attribute.mentions c.note_open.new.mentions _ c.note_open.ensures.references c.note_open.ensures.extensions c.note_open.ensures.open_record)

-- a set mentions what its elements do
pub add_variant-returns-in-Set : goal.add_variant-returns-in-Set
add_variant-returns-in-Set t c =
    let refer = raw_reference (namespace_name c.args.namespace) in
    set_mentioned c.add_type.result (variant_expr RawName refer c.args.ty.now) (type_expr RawName refer c.deref.result.now)
    c.args.mentions.now c.add_type.new.mentions
    (ap (variant_expr RawName refer) c.in-Set.is
    ∙ (variant-Set RawName refer c.in-Set.element ∙ ap (λ ty. set_expr (type_expr RawName refer ty)) (sym c.deref.ensures)))
    c.add_type.ensures

pub add_variant-returns-in-Record : goal.add_variant-returns-in-Record
add_variant-returns-in-Record t c =
    let refer = raw_reference (namespace_name c.args.namespace) in
    alike_mentioned c.add_record.result (variant_expr RawName refer c.args.ty.now) _ c.args.mentions.now c.add_record.new.mentions
    (ap (variant_expr RawName refer) c.in-Record.is ∙ variant-Record RawName refer _) c.add_record.ensures

pub add_variant-returns-in-Entity : goal.add_variant-returns-in-Entity
add_variant-returns-in-Entity t c =
    let refer = raw_reference (namespace_name c.args.namespace) in
    alike_mentioned c.add_reference.result (variant_expr RawName refer c.args.ty.now) _ c.args.mentions.now c.add_reference.new.mentions
    (ap (variant_expr RawName refer) c.in-Entity.is ∙ variant-Entity RawName refer _) c.add_reference.ensures

pub add_variant-returns-in-EntityOrCommon : goal.add_variant-returns-in-EntityOrCommon
add_variant-returns-in-EntityOrCommon t c =
    let refer = raw_reference (namespace_name c.args.namespace) in
    alike_mentioned c.add_reference-in-EntityOrCommon.result (variant_expr RawName refer c.args.ty.now) _ c.args.mentions.now
    c.add_reference-in-EntityOrCommon.new.mentions
    (ap (variant_expr RawName refer) c.in-EntityOrCommon.is ∙ variant-EntityOrCommon RawName refer _) c.add_reference-in-EntityOrCommon.ensures

pub add_variant-returns-in-Extension : goal.add_variant-returns-in-Extension
add_variant-returns-in-Extension t c =
    let refer = raw_reference (namespace_name c.args.namespace) in
    alike_mentioned c.add_extension.result (variant_expr RawName refer c.args.ty.now) _ c.args.mentions.now c.add_extension.new.mentions
    (ap (variant_expr RawName refer) c.in-Extension.is ∙ variant-Extension RawName refer _) c.add_extension.ensures

-- primitive types mention nothing
pub add_variant-returns-in-String : goal.add_variant-returns-in-String
add_variant-returns-in-String t c =
    let refer = raw_reference (namespace_name c.args.namespace) in
    text_mentioned (variant_expr RawName refer c.args.ty.now) c.args.mentions.now
    (ap (variant_expr RawName refer) c.in-String.is ∙ variant-String RawName refer)

pub add_variant-returns-in-Long : goal.add_variant-returns-in-Long
add_variant-returns-in-Long t c =
    let refer = raw_reference (namespace_name c.args.namespace) in
    long_mentioned (variant_expr RawName refer c.args.ty.now) c.args.mentions.now
    (ap (variant_expr RawName refer) c.in-Long.is ∙ variant-Long RawName refer)

pub add_variant-returns-in-Boolean : goal.add_variant-returns-in-Boolean
add_variant-returns-in-Boolean t c =
    let refer = raw_reference (namespace_name c.args.namespace) in
    truth_mentioned (variant_expr RawName refer c.args.ty.now) c.args.mentions.now
    (ap (variant_expr RawName refer) c.in-Boolean.is ∙ variant-Boolean RawName refer)
