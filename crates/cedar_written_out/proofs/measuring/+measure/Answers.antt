use Rattle.std.proofs.Common.{[], sym, ◌∙◌, ap, refl}
use Rattle.cedar_ast.specs.Words.{unreserved_id_text}
use Rattle.cedar_schema_ast.proofs.VariantLemmas.{type-CommonTypeRef, type-Plain, variant-Boolean, variant-Entity, variant-EntityOrCommon, variant-Extension, variant-Long, variant-Record, variant-Set, variant-String}
use Rattle.cedar_type_rules.specs.Ty.{extension_of, long, text, truth}
use Rattle.cedar_type_rules.specs.declared.bool_type.BoolType.TheVariants.{AnyBool}
use Rattle.cedar_written_out.proofs.MeasureLemmas.{IsMeasured-single, Knows-element, MeasuredSoFar-more, MeasuredSoFar-none, measured_as, record_measured, record_not_measured, set_measured, set_not_measured}
use Rattle.cedar_written_out.proofs.measuring.+measure.Goals as goal
use Rattle.cedar_written_out.specs.Words.{RawName, as_extension, as_long, as_text, as_truth, namespace_name, raw_reference, record_type_expr, set_expr, type_expr, variant_expr}

-- a type has the figure of what it is written as
pub measure-returns-in-Plain : goal.measure-returns-in-Plain
measure-returns-in-Plain t c =
    let refer = raw_reference (namespace_name c.args.namespace) in
    measured_as c.measure_variant.result c.args.scope.now (type_expr RawName refer c.args.ty.now) (variant_expr RawName refer c.in-Plain.ty)
    (ap (type_expr RawName refer) c.in-Plain.is ∙ type-Plain RawName refer _ _) c.measure_variant.ensures

pub measure-returns-in-CommonTypeRef : goal.measure-returns-in-CommonTypeRef
measure-returns-in-CommonTypeRef t c =
    let refer = raw_reference (namespace_name c.args.namespace) in
    measured_as c.measure_reference.result c.args.scope.now (type_expr RawName refer c.args.ty.now) _
    (ap (type_expr RawName refer) c.in-CommonTypeRef.is ∙ type-CommonTypeRef RawName refer _ _) c.measure_reference.ensures

-- at first no attribute is measured
pub measure_record-loop-attribute-init : goal.measure_record-loop-attribute-init
measure_record-loop-attribute-init t c =
    MeasuredSoFar-none RawName (raw_reference (namespace_name c.args.namespace)) c.args.scope.now c.args.record_type.now c.single-whole.result
    c.into_iter-attribute-iterator.result (sym c.into_iter-attribute-iterator.ensures.into_iter_gives.0)
    c.single-whole.ensures.depth c.single-whole.ensures.size

-- where an attribute has no figure, the record has none
pub measure_record-returns-in_default : goal.measure_record-returns-in_default
measure_record-returns-in_default t c =
    record_not_measured RawName (raw_reference (namespace_name c.args.namespace)) c.args.scope.now c.args.record_type.now c.loop-attribute.whole
    c.loop-attribute.attribute-iterator c.next.new.self c.in-Some.field-0-0.now c.in-Some.attribute.now c.in-Some.ensures.steps
    c.loop-attribute.invariant (rw c.in_default.is at c.in_ok-figure.ensures)

-- one more attribute is measured
pub measure_record-loop-attribute-preserved : goal.measure_record-loop-attribute-preserved
measure_record-loop-attribute-preserved t c =
    MeasuredSoFar-more RawName (raw_reference (namespace_name c.args.namespace)) c.args.scope.now c.args.record_type.now c.loop-attribute.whole
    c.loop-attribute.attribute-iterator c.next.new.self c.in-Some.field-0-0.now c.in-Some.attribute.now c.in-Some.ensures.steps
    c.loop-attribute.invariant c.in-Some-2.figure c.with-whole.result (rw c.in-Some-2.is at c.in_ok-figure.ensures)
    c.with-whole.ensures.depth c.with-whole.ensures.size

-- at the end the record is measured
pub measure_record-returns : goal.measure_record-returns
measure_record-returns t c =
    record_measured RawName (raw_reference (namespace_name c.args.namespace)) c.args.scope.now c.args.record_type.now c.loop-attribute.whole
    c.loop-attribute.attribute-iterator c.in-None.ensures.steps.0 c.loop-attribute.invariant

-- a set has a figure where its elements have one
pub measure_variant-returns-in-Some : goal.measure_variant-returns-in-Some
measure_variant-returns-in-Some t c defined knows =
    let refer = raw_reference (namespace_name c.args.namespace) in
    let same = ap (variant_expr RawName refer) c.in-Set.is
    ∙ (variant-Set RawName refer c.in-Set.element ∙ ap (λ ty. set_expr (type_expr RawName refer ty)) (sym c.deref.ensures)) in
    let found = rw c.in-Some.is at c.in_ok-figure-in-Set.ensures in
    set_measured defined (variant_expr RawName refer c.args.ty.now) (type_expr RawName refer c.deref.result.now) c.single.result c.in-Some.figure
    c.with.result same c.single.ensures.depth c.single.ensures.size c.with.ensures.depth c.with.ensures.size
    (found defined (Knows-element defined c.args.scope.now (variant_expr RawName refer c.args.ty.now) (type_expr RawName refer c.deref.result.now) same knows))

-- and only there
pub measure_variant-returns-in-None : goal.measure_variant-returns-in-None
measure_variant-returns-in-None t c defined knows =
    let refer = raw_reference (namespace_name c.args.namespace) in
    let same = ap (variant_expr RawName refer) c.in-Set.is
    ∙ (variant-Set RawName refer c.in-Set.element ∙ ap (λ ty. set_expr (type_expr RawName refer ty)) (sym c.deref.ensures)) in
    let found = rw c.in-None.is at c.in_ok-figure-in-Set.ensures in
    set_not_measured defined (variant_expr RawName refer c.args.ty.now) (type_expr RawName refer c.deref.result.now) same
    (found defined (Knows-element defined c.args.scope.now (variant_expr RawName refer c.args.ty.now) (type_expr RawName refer c.deref.result.now) same knows))

-- a record type has the figure of its attributes together
pub measure_variant-returns-in-Record : goal.measure_variant-returns-in-Record
measure_variant-returns-in-Record t c =
    let refer = raw_reference (namespace_name c.args.namespace) in
    measured_as c.measure_record.result c.args.scope.now (variant_expr RawName refer c.args.ty.now) (record_type_expr RawName refer c.in-Record.record_type)
    (ap (variant_expr RawName refer) c.in-Record.is ∙ variant-Record RawName refer _) c.measure_record.ensures

-- a name has that of what it stands for
pub measure_variant-returns-in-Entity : goal.measure_variant-returns-in-Entity
measure_variant-returns-in-Entity t c =
    let refer = raw_reference (namespace_name c.args.namespace) in
    measured_as c.measure_reference.result c.args.scope.now (variant_expr RawName refer c.args.ty.now) _
    (ap (variant_expr RawName refer) c.in-Entity.is ∙ variant-Entity RawName refer _) c.measure_reference.ensures

pub measure_variant-returns-in-EntityOrCommon : goal.measure_variant-returns-in-EntityOrCommon
measure_variant-returns-in-EntityOrCommon t c =
    let refer = raw_reference (namespace_name c.args.namespace) in
    measured_as c.measure_reference-in-EntityOrCommon.result c.args.scope.now (variant_expr RawName refer c.args.ty.now) _
    (ap (variant_expr RawName refer) c.in-EntityOrCommon.is ∙ variant-EntityOrCommon RawName refer _) c.measure_reference-in-EntityOrCommon.ensures

-- in primitive types and extension types no other stands
pub measure_variant-returns-in-String : goal.measure_variant-returns-in-String
measure_variant-returns-in-String t c defined knows =
    let refer = raw_reference (namespace_name c.args.namespace) in
    IsMeasured-single defined (variant_expr RawName refer c.args.ty.now) _ text c.single-in-String.result
    (ap (variant_expr RawName refer) c.in-String.is ∙ variant-String RawName refer) as_text refl refl
    c.single-in-String.ensures.depth c.single-in-String.ensures.size

pub measure_variant-returns-in-Long : goal.measure_variant-returns-in-Long
measure_variant-returns-in-Long t c defined knows =
    let refer = raw_reference (namespace_name c.args.namespace) in
    IsMeasured-single defined (variant_expr RawName refer c.args.ty.now) _ long c.single-in-Long.result
    (ap (variant_expr RawName refer) c.in-Long.is ∙ variant-Long RawName refer) as_long refl refl
    c.single-in-Long.ensures.depth c.single-in-Long.ensures.size

pub measure_variant-returns-in-Boolean : goal.measure_variant-returns-in-Boolean
measure_variant-returns-in-Boolean t c defined knows =
    let refer = raw_reference (namespace_name c.args.namespace) in
    IsMeasured-single defined (variant_expr RawName refer c.args.ty.now) _ (truth AnyBool) c.single-in-Boolean.result
    (ap (variant_expr RawName refer) c.in-Boolean.is ∙ variant-Boolean RawName refer) as_truth refl refl
    c.single-in-Boolean.ensures.depth c.single-in-Boolean.ensures.size

pub measure_variant-returns-in-Extension : goal.measure_variant-returns-in-Extension
measure_variant-returns-in-Extension t c defined knows =
    let refer = raw_reference (namespace_name c.args.namespace) in
    IsMeasured-single defined (variant_expr RawName refer c.args.ty.now) _ (extension_of (record { base = unreserved_id_text c.in-Extension.name; path = [] }))
    c.single-in-Extension.result (ap (variant_expr RawName refer) c.in-Extension.is ∙ variant-Extension RawName refer _)
    (as_extension (unreserved_id_text c.in-Extension.name)) refl refl
    c.single-in-Extension.ensures.depth c.single-in-Extension.ensures.size
