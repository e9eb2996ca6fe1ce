use Rattle.std.proofs.Common.{sym, ap, ◌∙◌, refl}
use Rattle.std.specs.String.{string_cmp_total}
use Rattle.cedar_fragments.proofs.LocLemmas.{KeepsAttribute, keep_attributes, keeps_attribute, keeps_common, keeps_either, keeps_entity, keeps_extension, keeps_long, keeps_plain, keeps_record, keeps_set, keeps_text, keeps_truth}
use Rattle.cedar_fragments.proofs.QualifiedLemmas.{ResolvesAttribute, Made, resolved_record_type, refers_record, resolves_as, resolves_name, refers_name, refers_as}
use Rattle.cedar_fragments.proofs.namespace.qualify_types.+qualify.Goals as goal
use Rattle.cedar_fragments.specs.Words.{Common, CommonOrEntity, Entity, InternalName, Refers, held_names, namespace_name, out-RecordType, out-TypeOfAttribute, record_type_expr, resolved_expr, resolved_reference, resolves_extension, resolves_long, resolves_set, resolves_text, resolves_truth, set_expr, type_expr, variant_expr}
use Rattle.cedar_name_resolution.proofs.ExitLemmas.{exit_holds}
use Rattle.cedar_name_resolution.proofs.Pairwise.{related_none, related_more, related_all}
use Rattle.cedar_name_resolution.proofs.RefusedLemmas.{refused_wider, refused_one}
use Rattle.cedar_schema_ast.proofs.VariantLemmas.{variant-String, variant-Long, variant-Boolean, variant-Set, variant-Record, variant-Entity, variant-EntityOrCommon, variant-Extension, type-Plain, type-CommonTypeRef}

-- references that an attribute refuses are among those of the record
pub qualify_record-returns-in_err-ty-clause-refused : goal.qualify_record-returns-in_err-ty-clause-refused
qualify_record-returns-in_err-ty-clause-refused g t c =
    let N = g.row.N.Denot in
    let refer = g.N.WrittenName.refer (namespace_name c.args.namespace) in
    let names = held_names c.args.all_defs.now in
    let it = c.args.record_type in
    let ty = (out-TypeOfAttribute N c.in-Some.attribute).ty in
    exit_holds _ _ _ c.from_residual.ensures.1
    (refused_wider names (Refers (type_expr N refer ty)) (Refers (record_type_expr N refer it))
    (refers_record refer it c.loop-name.invariant.0.done c.loop-name.name-iterator _ c.in-Some.name c.in-Some.attribute
    c.loop-name.invariant.0.split c.in-Some.ensures.steps) c.in_err-ty.field-0.0 c.in_err-ty.ensures.refused)

-- one more attribute is resolved and keeps its locations
pub qualify_record-loop-name-preserved : goal.qualify_record-loop-name-preserved
qualify_record-loop-name-preserved g t c =
    let N = g.row.N.Denot in
    let refer = g.N.WrittenName.refer (namespace_name c.args.namespace) in
    let names = held_names c.args.all_defs.now in
    let all = (out-RecordType N c.args.record_type).attributes.entries in
    rw c.in_ok-put.ensures (
      related_more (ResolvesAttribute names refer) string_cmp_total all c.loop-name.name-iterator c.next.new.self c.loop-name.attributes.entries
          c.in-Some.name c.in-Some.attribute _ c.into_iter-name-iterator.ensures.into_iter_gives.5 c.in-Some.ensures.steps
          (refl, c.in_ok-ty.ensures.resolved) c.loop-name.invariant.0,
      related_more KeepsAttribute string_cmp_total all c.loop-name.name-iterator c.next.new.self c.loop-name.attributes.entries
          c.in-Some.name c.in-Some.attribute _ c.into_iter-name-iterator.ensures.into_iter_gives.5 c.in-Some.ensures.steps
          (keeps_attribute c.in-Some.attribute _ refl c.in_ok-ty.ensures.locs) c.loop-name.invariant.1,
    )

-- at the end the record type is resolved
pub qualify_record-returns-clause-resolved : goal.qualify_record-returns-clause-resolved
qualify_record-returns-clause-resolved g t c =
    let N = g.row.N.Denot in
    let refer = g.N.WrittenName.refer (namespace_name c.args.namespace) in
    let names = held_names c.args.all_defs.now in
    let it : Made names refer = record {
      attributes = c.loop-name.attributes;
      additional_attributes = (out-RecordType N c.args.record_type).additional_attributes;
    } in
    resolved_record_type names refer c.args.record_type it refl
    (related_all (ResolvesAttribute names refer) _ _ _ c.in-None.ensures.steps.0 c.loop-name.invariant.0)

-- at first no attribute is resolved
pub qualify_record-loop-name-init : goal.qualify_record-loop-name-init
qualify_record-loop-name-init g t c = (
  related_none _ _ _ _ (sym c.into_iter-name-iterator.ensures.into_iter_gives.0) c.new-attributes.ensures.empty,
  related_none _ _ _ _ (sym c.into_iter-name-iterator.ensures.into_iter_gives.0) c.new-attributes.ensures.empty,
)

-- the record type keeps its locations
pub qualify_record-returns-clause-locs : goal.qualify_record-returns-clause-locs
qualify_record-returns-clause-locs g t c =
    let N = g.row.N.Denot in
    keep_attributes c.args.record_type (record {
      attributes = c.loop-name.attributes;
      additional_attributes = (out-RecordType N c.args.record_type).additional_attributes;
    })
    (related_all KeepsAttribute _ _ _ c.in-None.ensures.steps.0 c.loop-name.invariant.1)

-- a type keeps its own location and those inside it
pub qualify_type-returns-in_ok-ty-in-Plain-clause-locs : goal.qualify_type-returns-in_ok-ty-in-Plain-clause-locs
qualify_type-returns-in_ok-ty-in-Plain-clause-locs g t c =
    let made = c.in_ok-ty-in-Plain.ty in
    rw c.in-Plain.is (keeps_plain c.in-Plain.ty made c.in-Plain.loc c.in_ok-ty-in-Plain.ensures.locs)

pub qualify_type-returns-in_ok-type_name-in-CommonTypeRef-clause-locs :
    goal.qualify_type-returns-in_ok-type_name-in-CommonTypeRef-clause-locs
qualify_type-returns-in_ok-type_name-in-CommonTypeRef-clause-locs g t c =
    let made = (c.in_ok-type_name-in-CommonTypeRef).type_name in
    rw c.in-CommonTypeRef.is (keeps_common c.in-CommonTypeRef.type_name made c.in-CommonTypeRef.loc)

-- what is refused inside a type is refused by it
pub qualify_type-returns-in_err-ty-in-Plain-clause-refused : goal.qualify_type-returns-in_err-ty-in-Plain-clause-refused
qualify_type-returns-in_err-ty-in-Plain-clause-refused g t c =
    let N = g.row.N.Denot in
    let refer = g.N.WrittenName.refer (namespace_name c.args.namespace) in
    let names = held_names c.args.all_defs.now in
    let same = ap (type_expr N refer) c.in-Plain.is ∙ type-Plain N refer c.in-Plain.ty c.in-Plain.loc in
    exit_holds _ _ _ c.from_residual.ensures.1
    (refused_wider names (Refers (variant_expr N refer c.in-Plain.ty)) (Refers (type_expr N refer c.args.ty)) (refers_as same) _
    c.in_err-ty-in-Plain.ensures.refused)

-- a name of a common type that resolves to nothing is refused
pub qualify_type-returns-in_err-type_name-in-CommonTypeRef-clause-refused :
    goal.qualify_type-returns-in_err-type_name-in-CommonTypeRef-clause-refused
qualify_type-returns-in_err-type_name-in-CommonTypeRef-clause-refused g t c =
    let N = g.row.N.Denot in
    let refer = g.N.WrittenName.refer (namespace_name c.args.namespace) in
    let names = held_names c.args.all_defs.now in
    let same = ap (type_expr N refer) c.in-CommonTypeRef.is ∙ type-CommonTypeRef N refer c.in-CommonTypeRef.type_name c.in-CommonTypeRef.loc in
    exit_holds _ _ _ (c.from_residual-in_err-type_name-in-CommonTypeRef).ensures.1
    (refused_one names (Refers (type_expr N refer c.args.ty)) (refer Common c.in-CommonTypeRef.type_name) (refers_name same) _
    (c.in_err-type_name-in-CommonTypeRef).ensures.refused)

-- one that resolves to a common type is resolved
pub qualify_type-returns-in_ok-type_name-in-CommonTypeRef-clause-resolved :
    goal.qualify_type-returns-in_ok-type_name-in-CommonTypeRef-clause-resolved
qualify_type-returns-in_ok-type_name-in-CommonTypeRef-clause-resolved g t c =
    let N = g.row.N.Denot in
    let refer = g.N.WrittenName.refer (namespace_name c.args.namespace) in
    let keeps_kind = g.N.WrittenName.keeps_kind (namespace_name c.args.namespace) in
    let names = held_names c.args.all_defs.now in
    resolves_as names (ap (type_expr N refer) c.in-CommonTypeRef.is ∙ type-CommonTypeRef N refer c.in-CommonTypeRef.type_name c.in-CommonTypeRef.loc)
    (type-CommonTypeRef InternalName resolved_reference (c.in_ok-type_name-in-CommonTypeRef).type_name c.in-CommonTypeRef.loc)
    (resolves_name names (refer Common c.in-CommonTypeRef.type_name) Common (keeps_kind Common c.in-CommonTypeRef.type_name) (c.in_ok-type_name-in-CommonTypeRef).type_name
    (c.in_ok-type_name-in-CommonTypeRef).ensures.resolved)

-- a set refuses what the type of its elements refuses
pub qualify_variant-returns-in_err-element-in-Set-clause-refused : goal.qualify_variant-returns-in_err-element-in-Set-clause-refused
qualify_variant-returns-in_err-element-in-Set-clause-refused g t c =
    let N = g.row.N.Denot in
    let refer = g.N.WrittenName.refer (namespace_name c.args.namespace) in
    let names = held_names c.args.all_defs.now in
    let same = ap (variant_expr N refer) c.in-Set.is ∙ (variant-Set N refer c.in-Set.element
    ∙ ap (λ ty. set_expr (type_expr N refer ty)) (sym c.into_inner.ensures)) in
    exit_holds _ _ _ c.from_residual.ensures.1
    (refused_wider names (Refers (type_expr N refer c.into_inner.result)) (Refers (variant_expr N refer c.args.ty)) (refers_as same) _
    c.in_err-element-in-Set.ensures.refused)

-- so does a record type, of what its attributes refuse
pub qualify_variant-returns-in_err-record_type-in-Record-clause-refused :
    goal.qualify_variant-returns-in_err-record_type-in-Record-clause-refused
qualify_variant-returns-in_err-record_type-in-Record-clause-refused g t c =
    let N = g.row.N.Denot in
    let refer = g.N.WrittenName.refer (namespace_name c.args.namespace) in
    let names = held_names c.args.all_defs.now in
    let same = ap (variant_expr N refer) c.in-Record.is ∙ variant-Record N refer c.in-Record.record_type in
    exit_holds _ _ _ (c.from_residual-in_err-record_type-in-Record).ensures.1
    (refused_wider names (Refers (record_type_expr N refer c.in-Record.record_type)) (Refers (variant_expr N refer c.args.ty)) (refers_as same) _
    (c.in_err-record_type-in-Record).ensures.refused)

-- a name of an entity type that resolves to nothing is refused
pub qualify_variant-returns-in_err-name-in-Entity-clause-refused : goal.qualify_variant-returns-in_err-name-in-Entity-clause-refused
qualify_variant-returns-in_err-name-in-Entity-clause-refused g t c =
    let N = g.row.N.Denot in
    let refer = g.N.WrittenName.refer (namespace_name c.args.namespace) in
    let names = held_names c.args.all_defs.now in
    let same = ap (variant_expr N refer) c.in-Entity.is ∙ variant-Entity N refer c.in-Entity.name in
    exit_holds _ _ _ (c.from_residual-in_err-name-in-Entity).ensures.1
    (refused_one names (Refers (variant_expr N refer c.args.ty)) (refer Entity c.in-Entity.name) (refers_name same) _
    (c.in_err-name-in-Entity).ensures.refused)

-- so is a name of either kind
pub qualify_variant-returns-in_err-type_name-in-EntityOrCommon-clause-refused :
    goal.qualify_variant-returns-in_err-type_name-in-EntityOrCommon-clause-refused
qualify_variant-returns-in_err-type_name-in-EntityOrCommon-clause-refused g t c =
    let N = g.row.N.Denot in
    let refer = g.N.WrittenName.refer (namespace_name c.args.namespace) in
    let names = held_names c.args.all_defs.now in
    let same = ap (variant_expr N refer) c.in-EntityOrCommon.is ∙ variant-EntityOrCommon N refer c.in-EntityOrCommon.type_name in
    exit_holds _ _ _ (c.from_residual-in_err-type_name-in-EntityOrCommon).ensures.1
    (refused_one names (Refers (variant_expr N refer c.args.ty)) (refer CommonOrEntity c.in-EntityOrCommon.type_name) (refers_name same) _
    (c.in_err-type_name-in-EntityOrCommon).ensures.refused)

-- the primitive types are resolved as they are
pub qualify_variant-returns-in-String-clause-resolved : goal.qualify_variant-returns-in-String-clause-resolved
qualify_variant-returns-in-String-clause-resolved g t c =
    let N = g.row.N.Denot in
    let refer = g.N.WrittenName.refer (namespace_name c.args.namespace) in
    resolves_as (held_names c.args.all_defs.now) (ap (variant_expr N refer) c.in-String.is ∙ variant-String N refer)
    (variant-String InternalName resolved_reference) resolves_text

pub qualify_variant-returns-in-Long-clause-resolved : goal.qualify_variant-returns-in-Long-clause-resolved
qualify_variant-returns-in-Long-clause-resolved g t c =
    let N = g.row.N.Denot in
    let refer = g.N.WrittenName.refer (namespace_name c.args.namespace) in
    resolves_as (held_names c.args.all_defs.now) (ap (variant_expr N refer) c.in-Long.is ∙ variant-Long N refer)
    (variant-Long InternalName resolved_reference) resolves_long

pub qualify_variant-returns-in-Boolean-clause-resolved : goal.qualify_variant-returns-in-Boolean-clause-resolved
qualify_variant-returns-in-Boolean-clause-resolved g t c =
    let N = g.row.N.Denot in
    let refer = g.N.WrittenName.refer (namespace_name c.args.namespace) in
    resolves_as (held_names c.args.all_defs.now) (ap (variant_expr N refer) c.in-Boolean.is ∙ variant-Boolean N refer)
    (variant-Boolean InternalName resolved_reference) resolves_truth

-- a set is resolved with its elements
pub qualify_variant-returns-in_ok-element-in-Set-2-clause-resolved :
    goal.qualify_variant-returns-in_ok-element-in-Set-2-clause-resolved
qualify_variant-returns-in_ok-element-in-Set-2-clause-resolved g t c =
    let N = g.row.N.Denot in
    let refer = g.N.WrittenName.refer (namespace_name c.args.namespace) in
    resolves_as (held_names c.args.all_defs.now)
    (ap (variant_expr N refer) c.in-Set.is ∙ (variant-Set N refer c.in-Set.element
    ∙ ap (λ ty. set_expr (type_expr N refer ty)) (sym c.into_inner.ensures)))
    (variant-Set InternalName resolved_reference (c.in_ok-element-in-Set-2).element
    ∙ ap (λ ty. set_expr (resolved_expr ty)) (c.in_ok-element-in-Set-2).ensures.ok)
    (resolves_set (c.in_ok-element-in-Set).ensures.resolved)

-- names are resolved to what they stand for
pub qualify_variant-returns-in_ok-name-in-Entity-clause-resolved :
    goal.qualify_variant-returns-in_ok-name-in-Entity-clause-resolved
qualify_variant-returns-in_ok-name-in-Entity-clause-resolved g t c =
    let N = g.row.N.Denot in
    let refer = g.N.WrittenName.refer (namespace_name c.args.namespace) in
    let keeps_kind = g.N.WrittenName.keeps_kind (namespace_name c.args.namespace) in
    let names = held_names c.args.all_defs.now in
    resolves_as names (ap (variant_expr N refer) c.in-Entity.is ∙ variant-Entity N refer c.in-Entity.name)
    (variant-Entity InternalName resolved_reference (c.in_ok-name-in-Entity).name)
    (resolves_name names (refer Entity c.in-Entity.name) Entity (keeps_kind Entity c.in-Entity.name) (c.in_ok-name-in-Entity).name (c.in_ok-name-in-Entity).ensures.resolved)

pub qualify_variant-returns-in_ok-type_name-in-EntityOrCommon-clause-resolved :
    goal.qualify_variant-returns-in_ok-type_name-in-EntityOrCommon-clause-resolved
qualify_variant-returns-in_ok-type_name-in-EntityOrCommon-clause-resolved g t c =
    let N = g.row.N.Denot in
    let refer = g.N.WrittenName.refer (namespace_name c.args.namespace) in
    let keeps_kind = g.N.WrittenName.keeps_kind (namespace_name c.args.namespace) in
    let names = held_names c.args.all_defs.now in
    resolves_as names (ap (variant_expr N refer) c.in-EntityOrCommon.is ∙ variant-EntityOrCommon N refer c.in-EntityOrCommon.type_name)
    (variant-EntityOrCommon InternalName resolved_reference (c.in_ok-type_name-in-EntityOrCommon).type_name)
    (resolves_name names (refer CommonOrEntity c.in-EntityOrCommon.type_name) CommonOrEntity (keeps_kind CommonOrEntity c.in-EntityOrCommon.type_name) (c.in_ok-type_name-in-EntityOrCommon).type_name
    (c.in_ok-type_name-in-EntityOrCommon).ensures.resolved)

-- an extension type is resolved as it is
pub qualify_variant-returns-in-Extension-clause-resolved : goal.qualify_variant-returns-in-Extension-clause-resolved
qualify_variant-returns-in-Extension-clause-resolved g t c =
    let N = g.row.N.Denot in
    let refer = g.N.WrittenName.refer (namespace_name c.args.namespace) in
    resolves_as (held_names c.args.all_defs.now) (ap (variant_expr N refer) c.in-Extension.is ∙ variant-Extension N refer c.in-Extension.name)
    (variant-Extension InternalName resolved_reference c.in-Extension.name) (resolves_extension _)

-- each kind of type keeps the locations inside it
pub qualify_variant-returns-in-String-clause-locs : goal.qualify_variant-returns-in-String-clause-locs
qualify_variant-returns-in-String-clause-locs g t c =
    let N = g.row.N.Denot in
    rw c.in-String.is (keeps_text N)

pub qualify_variant-returns-in-Long-clause-locs : goal.qualify_variant-returns-in-Long-clause-locs
qualify_variant-returns-in-Long-clause-locs g t c =
    let N = g.row.N.Denot in
    rw c.in-Long.is (keeps_long N)

pub qualify_variant-returns-in-Boolean-clause-locs : goal.qualify_variant-returns-in-Boolean-clause-locs
qualify_variant-returns-in-Boolean-clause-locs g t c =
    let N = g.row.N.Denot in
    rw c.in-Boolean.is (keeps_truth N)

pub qualify_variant-returns-in_ok-element-in-Set-2-clause-locs : goal.qualify_variant-returns-in_ok-element-in-Set-2-clause-locs
qualify_variant-returns-in_ok-element-in-Set-2-clause-locs g t c =
    let made = (c.in_ok-element-in-Set-2).element in
    rw c.in-Set.is (keeps_set c.in-Set.element made
    (rw (c.in_ok-element-in-Set-2).ensures.ok (rw c.into_inner.ensures at (c.in_ok-element-in-Set).ensures.locs)))

pub qualify_variant-returns-in_ok-record_type-in-Record-clause-locs :
    goal.qualify_variant-returns-in_ok-record_type-in-Record-clause-locs
qualify_variant-returns-in_ok-record_type-in-Record-clause-locs g t c =
    let made = (c.in_ok-record_type-in-Record).record_type in
    rw c.in-Record.is (keeps_record c.in-Record.record_type made (c.in_ok-record_type-in-Record).ensures.locs)

pub qualify_variant-returns-in_ok-name-in-Entity-clause-locs : goal.qualify_variant-returns-in_ok-name-in-Entity-clause-locs
qualify_variant-returns-in_ok-name-in-Entity-clause-locs g t c =
    let made = (c.in_ok-name-in-Entity).name in
    rw c.in-Entity.is (keeps_entity c.in-Entity.name made)

pub qualify_variant-returns-in_ok-type_name-in-EntityOrCommon-clause-locs :
    goal.qualify_variant-returns-in_ok-type_name-in-EntityOrCommon-clause-locs
qualify_variant-returns-in_ok-type_name-in-EntityOrCommon-clause-locs g t c =
    let made = (c.in_ok-type_name-in-EntityOrCommon).type_name in
    rw c.in-EntityOrCommon.is (keeps_either c.in-EntityOrCommon.type_name made)

pub qualify_variant-returns-in-Extension-clause-locs : goal.qualify_variant-returns-in-Extension-clause-locs
qualify_variant-returns-in-Extension-clause-locs g t c =
    let N = g.row.N.Denot in
    let name = c.in-Extension.name in
    rw c.in-Extension.is (keeps_extension N name)
