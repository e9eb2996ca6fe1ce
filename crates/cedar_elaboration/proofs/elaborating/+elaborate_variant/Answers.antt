use Rattle.std.proofs.Common.{sym, ◌∙◌, ap, rules}
use Rattle.cedar_elaboration.proofs.PrimitiveLemmas.{primitive_closed, primitive_elaborated, primitive_extensions}
use Rattle.cedar_elaboration.proofs.RecordLemmas.{ElaboratedSoFar-none, ElaboratedSoFar-more, fault_of_next, record_elaborated, record_closed, record_extensions, record_open}
use Rattle.cedar_elaboration.proofs.ScopeLemmas.{ElaboratesTo-as, set_elaborated, fault_of_set, elaborates_as, extension_elaborated, extensions_as, memory_refused}
use Rattle.cedar_elaboration.proofs.elaborating.+elaborate_variant.Goals as goal
use Rattle.cedar_elaboration.proofs.elaborating.+elaborate_variant.Goals.{elaborate_shared-in-Plain+in_default+in_ok-made-in-Plain, elaborate_shared-in-CommonTypeRef+in_ok-made-in-CommonTypeRef}
use Rattle.cedar_elaboration.specs.Words.{ClosedAttributes, as_long, as_text, as_truth, fields_of, namespace_name, record_type_expr, set_expr, ty_of, type_expr, unreserved_id_text, variant_expr}
use Rattle.cedar_schema_ast.proofs.VariantLemmas.{type-CommonTypeRef, type-Plain, variant-String, variant-Long, variant-Boolean, variant-Set, variant-Record, variant-Extension}
use Rattle.cedar_types.proofs.MemberParts.{ty_of-record}

-- the primitive types are elaborated as themselves
pub elaborate_variant-returns-in-String-clause-elaborates : goal.elaborate_variant-returns-in-String-clause-elaborates
elaborate_variant-returns-in-String-clause-elaborates g t c defined knows =
    let N = g.row.N.Denot in
    let refer = g.N.WrittenName.refer (namespace_name c.args.namespace) in
    ElaboratesTo-as defined (ap (variant_expr N refer) c.in-String.is ∙ variant-String N refer) c.primitive_string.ensures as_text

pub elaborate_variant-returns-in-Long-clause-elaborates : goal.elaborate_variant-returns-in-Long-clause-elaborates
elaborate_variant-returns-in-Long-clause-elaborates g t c defined knows =
    let N = g.row.N.Denot in
    let refer = g.N.WrittenName.refer (namespace_name c.args.namespace) in
    ElaboratesTo-as defined (ap (variant_expr N refer) c.in-Long.is ∙ variant-Long N refer) c.primitive_long.ensures as_long

pub elaborate_variant-returns-in-Boolean-clause-elaborates : goal.elaborate_variant-returns-in-Boolean-clause-elaborates
elaborate_variant-returns-in-Boolean-clause-elaborates g t c defined knows =
    let N = g.row.N.Denot in
    let refer = g.N.WrittenName.refer (namespace_name c.args.namespace) in
    ElaboratesTo-as defined (ap (variant_expr N refer) c.in-Boolean.is ∙ variant-Boolean N refer) c.primitive_boolean.ensures as_truth

-- a set is elaborated with the type of its elements
pub elaborate_variant-returns-in_ok-elaborate_shared-in-Set-clause-elaborates : goal.elaborate_variant-returns-in_ok-elaborate_shared-in-Set-clause-elaborates
elaborate_variant-returns-in_ok-elaborate_shared-in-Set-clause-elaborates g t c =
    let N = g.row.N.Denot in
    let refer = g.N.WrittenName.refer (namespace_name c.args.namespace) in
    set_elaborated c.args.scope.now (variant_expr N refer c.args.ty.now) (type_expr N refer c.deref.result.now)
    (ty_of c.set.result) (ty_of c.in_ok-elaborate_shared-in-Set.field-0.value)
    (ap (variant_expr N refer) c.in-Set.is ∙ (variant-Set N refer c.in-Set.element ∙ ap (λ ty. set_expr (type_expr N refer ty)) (sym c.deref.ensures)))
    c.set.ensures c.in_ok-elaborate_shared-in-Set.ensures.elaborates

-- what is refused of the elements is refused of the set
pub elaborate_variant-returns-in_err-elaborate_shared-in-Set-clause-fault : goal.elaborate_variant-returns-in_err-elaborate_shared-in-Set-clause-fault
elaborate_variant-returns-in_err-elaborate_shared-in-Set-clause-fault g t c =
    let N = g.row.N.Denot in
    let refer = g.N.WrittenName.refer (namespace_name c.args.namespace) in
    let at_fault = fault_of_set c.args.scope.now (variant_expr N refer c.args.ty.now) (type_expr N refer c.deref.result.now) _
    (ap (variant_expr N refer) c.in-Set.is ∙ (variant-Set N refer c.in-Set.element ∙ ap (λ ty. set_expr (type_expr N refer ty)) (sym c.deref.ensures)))
    c.in_err-elaborate_shared-in-Set.ensures.fault in
    search (rules, at_fault)

-- an extension type is elaborated as itself
pub elaborate_variant-returns-in-Extension-clause-elaborates : goal.elaborate_variant-returns-in-Extension-clause-elaborates
elaborate_variant-returns-in-Extension-clause-elaborates g t c =
    let N = g.row.N.Denot in
    let refer = g.N.WrittenName.refer (namespace_name c.args.namespace) in
    extension_elaborated c.args.scope.now (variant_expr N refer c.args.ty.now) (unreserved_id_text c.in-Extension.name)
    c.extension_type.result (ap (variant_expr N refer) c.in-Extension.is ∙ variant-Extension N refer c.in-Extension.name)
    c.extension_type.ensures.ty

-- at first no attribute is elaborated
pub elaborate_attributes-loop-name-init : goal.elaborate_attributes-loop-name-init
elaborate_attributes-loop-name-init g t c =
    let N = g.row.N.Denot in
    let refer = g.N.WrittenName.refer (namespace_name c.args.namespace) in
    ElaboratedSoFar-none N refer c.args.scope.now c.args.record_type.now c.into_iter-name-iterator.result c.in_ok-attributes.attributes.items
    (sym c.into_iter-name-iterator.ensures.into_iter_gives.0) c.in_ok-attributes.ensures.items

-- the refusal of an attribute is that of its record
pub elaborate_attributes-returns-in_err-ty-clause-fault : goal.elaborate_attributes-returns-in_err-ty-clause-fault
elaborate_attributes-returns-in_err-ty-clause-fault g t c =
    let N = g.row.N.Denot in
    let refer = g.N.WrittenName.refer (namespace_name c.args.namespace) in
    let at_fault = fault_of_next N refer c.args.scope.now c.args.record_type.now c.loop-name.name-iterator c.next.new.self
    c.loop-name.attributes.items c.in-Some.name.now c.in-Some.attribute.now c.in-Some.ensures.steps c.loop-name.invariant
    _ c.in_err-ty.ensures.fault in
    search (rules, at_fault)

-- one more attribute is elaborated
pub elaborate_attributes-loop-name-preserved : goal.elaborate_attributes-loop-name-preserved
elaborate_attributes-loop-name-preserved g t c =
    let N = g.row.N.Denot in
    let refer = g.N.WrittenName.refer (namespace_name c.args.namespace) in
    rw c.in_ok-push.ensures.items
    (ElaboratedSoFar-more N refer c.args.scope.now c.args.record_type.now c.loop-name.name-iterator c.next.new.self
    c.loop-name.attributes.items c.in-Some.name.now c.in-Some.attribute.now c.in-Some.ensures.steps c.loop-name.invariant
    c.in_ok-clone.field-0 c.new_with_loc-declared.result (ty_of c.in_ok-ty.ty.value) c.in_ok-clone.ensures.cases
    c.new_with_loc-declared.ensures.attribute c.in_ok-ty.ensures.elaborates c.in_ok-ty.ensures.closed c.in_ok-ty.ensures.extensions)

-- at the end the record type is elaborated
pub elaborate_attributes-returns-clause-elaborates : goal.elaborate_attributes-returns-clause-elaborates
elaborate_attributes-returns-clause-elaborates g t c =
    let N = g.row.N.Denot in
    let refer = g.N.WrittenName.refer (namespace_name c.args.namespace) in
    let made = c.in_ok-from_entries.ensures in
    record_elaborated N refer c.args.scope.now c.args.record_type.now c.loop-name.attributes.items c.loop-name.name-iterator
    c.in-None.ensures.steps.0 c.loop-name.invariant (fields_of c.in_ok-from_entries.field-0) c.len.ensures.ordered
    made.attributes made.sorted_by_name

-- it has no open record
pub elaborate_attributes-returns-clause-closed : goal.elaborate_attributes-returns-clause-closed
elaborate_attributes-returns-clause-closed g t c =
    let N = g.row.N.Denot in
    let refer = g.N.WrittenName.refer (namespace_name c.args.namespace) in
    record_closed N refer c.args.scope.now c.args.record_type.now c.loop-name.attributes.items c.loop-name.name-iterator
    c.in-None.ensures.steps.0 c.loop-name.invariant c.if-record_type.false

-- and its extension types are in scope
pub elaborate_attributes-returns-clause-extensions : goal.elaborate_attributes-returns-clause-extensions
elaborate_attributes-returns-clause-extensions g t c =
    let N = g.row.N.Denot in
    let refer = g.N.WrittenName.refer (namespace_name c.args.namespace) in
    record_extensions N refer c.args.scope.now c.args.record_type.now c.loop-name.attributes.items c.loop-name.name-iterator
    c.in-None.ensures.steps.0 c.loop-name.invariant

-- an open record is refused
pub elaborate_attributes-returns-then-record_type-clause-fault :
    goal.elaborate_attributes-returns-then-record_type-clause-fault
elaborate_attributes-returns-then-record_type-clause-fault g t c =
    let N = g.row.N.Denot in
    let refer = g.N.WrittenName.refer (namespace_name c.args.namespace) in
    record_open N refer c.args.scope.now c.args.record_type.now c.if-record_type.true

-- memory that runs out is a refusal
pub elaborate_attributes-returns-in_err-push-clause-fault :
    goal.elaborate_attributes-returns-in_err-push-clause-fault
elaborate_attributes-returns-in_err-push-clause-fault g t c =
    let N = g.row.N.Denot in
    let refer = g.N.WrittenName.refer (namespace_name c.args.namespace) in
    let wanting = memory_refused c.args.scope.now (record_type_expr N refer c.args.record_type.now) in
    search (rules, wanting)

-- the primitive types have no extension types
pub elaborate_variant-returns-in-String-clause-extensions :
    goal.elaborate_variant-returns-in-String-clause-extensions
elaborate_variant-returns-in-String-clause-extensions g t c =
    let N = g.row.N.Denot in
    let refer = g.N.WrittenName.refer (namespace_name c.args.namespace) in
    extensions_as c.args.scope.now (ap (variant_expr N refer) c.in-String.is ∙ variant-String N refer) (λ word mentions. absurd mentions)

pub elaborate_variant-returns-in-Long-clause-extensions :
    goal.elaborate_variant-returns-in-Long-clause-extensions
elaborate_variant-returns-in-Long-clause-extensions g t c =
    let N = g.row.N.Denot in
    let refer = g.N.WrittenName.refer (namespace_name c.args.namespace) in
    extensions_as c.args.scope.now (ap (variant_expr N refer) c.in-Long.is ∙ variant-Long N refer) (λ word mentions. absurd mentions)

pub elaborate_variant-returns-in-Boolean-clause-extensions :
    goal.elaborate_variant-returns-in-Boolean-clause-extensions
elaborate_variant-returns-in-Boolean-clause-extensions g t c =
    let N = g.row.N.Denot in
    let refer = g.N.WrittenName.refer (namespace_name c.args.namespace) in
    extensions_as c.args.scope.now (ap (variant_expr N refer) c.in-Boolean.is ∙ variant-Boolean N refer) (λ word mentions. absurd mentions)

-- a set has the extension types of its elements
pub elaborate_variant-returns-in_ok-elaborate_shared-in-Set-clause-extensions :
    goal.elaborate_variant-returns-in_ok-elaborate_shared-in-Set-clause-extensions
elaborate_variant-returns-in_ok-elaborate_shared-in-Set-clause-extensions g t c =
    let N = g.row.N.Denot in
    let refer = g.N.WrittenName.refer (namespace_name c.args.namespace) in
    extensions_as c.args.scope.now
    (ap (variant_expr N refer) c.in-Set.is ∙ (variant-Set N refer c.in-Set.element ∙ ap (λ ty. set_expr (type_expr N refer ty)) (sym c.deref.ensures)))
    c.in_ok-elaborate_shared-in-Set.ensures.extensions

-- a record is elaborated with its attributes
pub elaborate_variant-returns-in_ok-elaborate_attributes-in-Record-clause-elaborates :
    goal.elaborate_variant-returns-in_ok-elaborate_attributes-in-Record-clause-elaborates
elaborate_variant-returns-in_ok-elaborate_attributes-in-Record-clause-elaborates g t c =
    let N = g.row.N.Denot in
    let refer = g.N.WrittenName.refer (namespace_name c.args.namespace) in
    rw (ty_of-record c.in_ok-elaborate_attributes-in-Record.field-0 ClosedAttributes)
    (elaborates_as c.args.scope.now _ (ap (variant_expr N refer) c.in-Record.is ∙ variant-Record N refer _)
    c.in_ok-elaborate_attributes-in-Record.ensures.elaborates)

pub elaborate_variant-returns-in_ok-elaborate_attributes-in-Record-clause-extensions :
    goal.elaborate_variant-returns-in_ok-elaborate_attributes-in-Record-clause-extensions
elaborate_variant-returns-in_ok-elaborate_attributes-in-Record-clause-extensions g t c =
    let N = g.row.N.Denot in
    let refer = g.N.WrittenName.refer (namespace_name c.args.namespace) in
    extensions_as c.args.scope.now (ap (variant_expr N refer) c.in-Record.is ∙ variant-Record N refer _)
    c.in_ok-elaborate_attributes-in-Record.ensures.extensions

-- a primitive type is elaborated as itself, and shared
pub elaborate_shared-returns-in-Some-clause-elaborates : goal.elaborate_shared-returns-in-Some-clause-elaborates
elaborate_shared-returns-in-Some-clause-elaborates g t c =
    let N = g.row.N.Denot in
    let refer = g.N.WrittenName.refer (namespace_name c.args.namespace) in
    rw c.in_ok-clone-in-Plain.ensures.cases
    (elaborates_as c.args.scope.now _ (ap (type_expr N refer) c.in-Plain.is ∙ type-Plain N refer _ _)
    (primitive_elaborated c.args.scope.now (c.in-Some.ensures refer)))

pub elaborate_shared-returns-in-Some-clause-closed : goal.elaborate_shared-returns-in-Some-clause-closed
elaborate_shared-returns-in-Some-clause-closed g t c holds =
    let N = g.row.N.Denot in
    let refer = g.N.WrittenName.refer (namespace_name c.args.namespace) in
    primitive_closed (c.in-Some.ensures refer) (rw (c.in-Plain.is, type-Plain N refer _ _) at holds)

pub elaborate_shared-returns-in-Some-clause-extensions : goal.elaborate_shared-returns-in-Some-clause-extensions
elaborate_shared-returns-in-Some-clause-extensions g t c =
    let N = g.row.N.Denot in
    let refer = g.N.WrittenName.refer (namespace_name c.args.namespace) in
    extensions_as c.args.scope.now (ap (type_expr N refer) c.in-Plain.is ∙ type-Plain N refer _ _)
    (primitive_extensions c.args.scope.now (c.in-Some.ensures refer))

-- any other has the extension types of what it is
pub elaborate_shared-returns-clause-extensions : goal.elaborate_shared-returns-clause-extensions
elaborate_shared-returns-clause-extensions g t c =
    let N = g.row.N.Denot in
    let refer = g.N.WrittenName.refer (namespace_name c.args.namespace) in
    elim c.match-ty.branch [
      | elaborate_shared-in-Plain+in_default+in_ok-made-in-Plain w ↦
          extensions_as c.args.scope.now (ap (type_expr N refer) w.in-Plain.is ∙ type-Plain N refer _ _)
          w.in_ok-made-in-Plain.ensures.extensions
      | elaborate_shared-in-CommonTypeRef+in_ok-made-in-CommonTypeRef w ↦
          extensions_as c.args.scope.now (ap (type_expr N refer) w.in-CommonTypeRef.is ∙ type-CommonTypeRef N refer _ _)
          (λ word mentions. absurd mentions)
    ]
