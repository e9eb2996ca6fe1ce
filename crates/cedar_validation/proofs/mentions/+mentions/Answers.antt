use Rattle.std.proofs.Common.{◌≡◌, Bool, ap, inl, inr, string_bytes, sym, ◌∙◌}
use Rattle.std.proofs.lemmas.Result.{err_from_is_err_and}
use Rattle.cedar_ast.proofs.Basics.{OnOk-map}
use Rattle.cedar_types.proofs.EqualityLaws.{attribute_of-parts}
use Rattle.cedar_types.proofs.MemberParts.{ty_of-entity, ty_of-extension}
use Rattle.cedar_validation.proofs.MentionLemmas.{extension_fault}
use Rattle.cedar_validation.proofs.Results.{on_err}
use Rattle.cedar_validation.proofs.Walk.{walked_all, walked_entity, walked_extension, walked_more}
use Rattle.cedar_validation.proofs.mentions.+mentions.Goals as goal
use Rattle.cedar_validation.specs.Words.{ClosedAttributes, IsUnknownIn, Knows, KnowsExtension, Ty, attribute_of, extension_of, fault_of, fields_from, fields_of, plain_attributes, plain_name, record_of, ty_of}

-- the type of one more attribute is known throughout, so what the attributes so far mention is
-- known
pub check_attributes-loop-name-preserved : goal.check_attributes-loop-name-preserved
check_attributes-loop-name-preserved t c =
    let known = c.args.known.now in
    let attribute = c.in-Some.attribute.now in
    let same : ty_of c.deref.result.now ≡ (attribute_of attribute).1 =
    ap ty_of c.deref.ensures ∙ ap (λ (p : Bool × Ty). p.1) (sym (attribute_of-parts attribute)) in
    let sound = rw same at c.in_ok-check_type.ensures.sound in
    walked_more (Knows known) (KnowsExtension known) (fields_of c.args.attrs.now) _ _ (string_bytes c.in-Some._name.now)
    (attribute_of attribute).0 (attribute_of attribute).1
    (ap (λ entries. fields_from (plain_attributes entries)) c.in-Some.ensures.steps) c.loop-name.invariant sound.0 sound.1

-- what is unknown in the type of one attribute is unknown in the record of all of them
pub check_attributes-returns-in_err-check_type-clause-fault : goal.check_attributes-returns-in_err-check_type-clause-fault
check_attributes-returns-in_err-check_type-clause-fault t c =
    let known = c.args.known.now in
    let attribute = c.in-Some.attribute.now in
    let fault = fault_of c.in_err-check_type.field-0.0 in
    let same : ty_of c.deref.result.now ≡ (attribute_of attribute).1 =
    ap ty_of c.deref.ensures ∙ ap (λ (p : Bool × Ty). p.1) (sym (attribute_of-parts attribute)) in
    let steps = ap (λ entries. fields_from (plain_attributes entries)) c.in-Some.ensures.steps in
    let all = fields_of c.args.attrs.now in
    let at_fault : IsUnknownIn known (record_of all ClosedAttributes) fault =
    elim (rw same at c.in_err-check_type.ensures.fault) [
      | inl wanting ↦ inl wanting
      | inr one ↦ inr (elim one [
        | inl of ↦ inl (
          of.0,
          of.1,
          walked_entity (Knows known) (KnowsExtension known) all _ _ (string_bytes c.in-Some._name.now)
              (attribute_of attribute).0 (attribute_of attribute).1 steps c.loop-name.invariant of.0 of.2,
          of.3,
        )
        | inr of ↦ inr (
          of.0,
          of.1,
          walked_extension (Knows known) (KnowsExtension known) all _ _ (string_bytes c.in-Some._name.now)
              (attribute_of attribute).0 (attribute_of attribute).1 steps c.loop-name.invariant of.0 of.2,
          of.3,
        )
      ])
    ] in
    let p = err_from_is_err_and c.from_residual.result c.from_residual.ensures.1 in
    rw (p.1, p.2) at_fault

-- where no attribute is left, all that the record mentions is known
pub check_attributes-returns-clause-sound : goal.check_attributes-returns-clause-sound
check_attributes-returns-clause-sound t c =
    walked_all (Knows c.args.known.now) (KnowsExtension c.args.known.now) (fields_of c.args.attrs.now) _
    (ap (λ entries. fields_from (plain_attributes entries)) c.in-None.ensures.steps.0) c.loop-name.invariant

-- the type is that of its kind of entities, whose entity types are known
pub check_type-returns-in-Entity-clause-sound : goal.check_type-returns-in-Entity-clause-sound
check_type-returns-in-Entity-clause-sound t c =
    let kind = c.in-Entity.kind in
    OnOk-map c.check_kind.result c.check_kind.ensures.sound (λ sound. rw (sym (ap ty_of c.in-Entity.is ∙ ty_of-entity kind)) at sound)

-- an entity type that is unknown in the kind of entities is unknown in the type
pub check_type-returns-in-Entity-clause-fault : goal.check_type-returns-in-Entity-clause-fault
check_type-returns-in-Entity-clause-fault t c =
    let kind = c.in-Entity.kind in
    on_err c.check_kind.result c.check_kind.ensures.fault
    (λ error why. rw (sym (ap ty_of c.in-Entity.is ∙ ty_of-entity kind)) at why)

-- the type mentions only this extension type, and that is unknown
pub check_type-returns-in-ExtensionType-clause-fault : goal.check_type-returns-in-ExtensionType-clause-fault
check_type-returns-in-ExtensionType-clause-fault t c =
    let name = c.in-ExtensionType.name in
    let is : ty_of c.args.ty.now ≡ extension_of (plain_name name) = ap ty_of c.in-ExtensionType.is ∙ ty_of-extension name in
    on_err c.check_extension.result c.check_extension.ensures.fault
    (λ error. extension_fault c.args.known.now (ty_of c.args.ty.now) (plain_name name) (fault_of error) is)
