use Rattle.std.proofs.Common.{◌≡◌, ◌⊎◌, Some, sym, ◌∙◌, inr}
use Rattle.std.proofs.lemmas.Result.{err_from_is_err_and}
use Rattle.cedar_ast.proofs.Basics.{OnOk-map}
use Rattle.cedar_validation.proofs.MentionLemmas.{attributes_fault, kind_known, tags_of_kind}
use Rattle.cedar_validation.proofs.Results.{on_err}
use Rattle.cedar_validation.proofs.mentions.ValidatorEntityTypeTyped.check_types.Goals as goal
use Rattle.cedar_validation.specs.Words.{IsTypeOfKind, IsUnknownIn, Ty, entity_type_of, fault_of, out_of_memory, ty_of}

pub returns-in_err-check_attributes-clause-fault : goal.returns-in_err-check_attributes-clause-fault
returns-in_err-check_attributes-clause-fault c =
    let known = c.args.known.now in
    let kind = (entity_type_of c.args.self.now).kind in
    let fault = fault_of c.in_err-check_attributes.field-0.0 in
    let at_fault : (fault ≡ out_of_memory) ⊎ ((of : Ty) × IsTypeOfKind kind of × IsUnknownIn known of fault) =
    attributes_fault known kind fault (rw c.attributes.ensures.fields at c.in_err-check_attributes.ensures.fault) in
    let p = err_from_is_err_and c.from_residual.result c.from_residual.ensures.1 in
    rw (p.1, p.2) at_fault

pub returns-in-Some-clause-sound : goal.returns-in-Some-clause-sound
returns-in-Some-clause-sound c =
    let known = c.args.known.now in
    let kind = (entity_type_of c.args.self.now).kind in
    OnOk-map c.check_type.result c.check_type.ensures.sound
    (λ sound. kind_known known kind (rw c.attributes.ensures.fields at c.in_ok-check_attributes.ensures.sound)
    (λ tags is. let both : Some (ty_of c.in-Some.tags.now) ≡ Some tags = c.in-Some.ensures.ty ∙ is in
    let same : ty_of c.in-Some.tags.now ≡ tags = cc in rw same at sound))

pub returns-in-Some-clause-fault : goal.returns-in-Some-clause-fault
returns-in-Some-clause-fault c =
    let kind = (entity_type_of c.args.self.now).kind in
    let tags = ty_of c.in-Some.tags.now in
    on_err c.check_type.result c.check_type.ensures.fault
    (λ error why. inr (tags, tags_of_kind kind tags (sym c.in-Some.ensures.ty), why))
