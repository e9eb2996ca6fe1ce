use Rattle.std.proofs.Common.{◌≡◌, ◌⊎◌, subst, sym, inl, inr, ⊎_elim}
use Rattle.std.proofs.lemmas.Result.{err_from_is_err_and}
use Rattle.cedar_ast.proofs.Basics.{Contains-image, OnOk-map}
use Rattle.cedar_ast.proofs.Lists.{Contains-preimage}
use Rattle.cedar_validation.proofs.Results.{on_err}
use Rattle.cedar_validation.proofs.mentions.check_mentions.Goals as goal
use Rattle.cedar_validation.specs.Words.{IsTypeIn, IsTypeOfKind, IsUnknownIn, PlainName, SchemaEntityType, Ty, fault_of, out_of_memory, plain_action_entry, plain_entry, plain_parts}

pub returns-clause-sound : goal.returns-clause-sound
returns-clause-sound c =
    let parts = c.args.known.now.parts.now in
    OnOk-map c.check_each-2.result c.check_each-2.ensures.sound
    (λ sound of. ⊎_elim
    (λ in_type.
    let entry = Contains-preimage plain_entry parts.entity_types.entries in_type.0 in_type.1 in
    let P : PlainName × SchemaEntityType → Type 0 = λ it. IsTypeOfKind it.1.kind of in
    c.in_ok-check_each.ensures.sound entry.0 entry.1 of (subst P (sym entry.2) in_type.2))
    (λ in_action.
    let entry = Contains-preimage plain_action_entry parts.actions.entries in_action.0 in_action.1 in
    sound entry.0 entry.1 of (rw (sym entry.2) at in_action.2)))

pub returns-clause-fault : goal.returns-clause-fault
returns-clause-fault c =
    let parts = c.args.known.now.parts.now in
    on_err c.check_each-2.result c.check_each-2.ensures.fault
    (λ error. ⊎_elim
    (λ wanting. inl wanting)
    (λ at. inr (at.2.0, inr (plain_action_entry at.0, Contains-image plain_action_entry parts.actions.entries at.0 at.1, at.2.1), at.2.2)))

pub returns-in_err-check_each-clause-fault : goal.returns-in_err-check_each-clause-fault
returns-in_err-check_each-clause-fault c =
    let known = c.args.known.now in
    let fault = fault_of c.in_err-check_each.field-0.0 in
    let at_fault : (fault ≡ out_of_memory) ⊎ ((of : Ty) × IsTypeIn (plain_parts known.parts.now) of × IsUnknownIn known of fault) =
    elim c.in_err-check_each.ensures.fault [ inl wanting ↦ inl wanting | inr at ↦ inr (at.2.0, inl (plain_entry at.0, Contains-image plain_entry known.parts.now.entity_types.entries at.0 at.1, at.2.1), at.2.2) ] in
    let p = err_from_is_err_and c.from_residual.result c.from_residual.ensures.1 in
    rw (p.1, p.2) at_fault
