use Rattle.std.proofs.Common.{◌≡◌, ◌⊎◌, Contains, inl, inr}
use Rattle.std.proofs.lemmas.Result.{err_from_is_err_and}
use Rattle.cedar_validation.proofs.Checking.{checking_all, checking_here, checking_more, checking_none}
use Rattle.cedar_validation.proofs.mentions.check_each.Goals as goal
use Rattle.cedar_validation.specs.Words.{IsKnownThroughout, IsUnknownIn, Ty, fault_of, out_of_memory}

pub loop-name-init : goal.loop-name-init
loop-name-init g c = checking_none _ c.args.typed.now.entries _ c.into_iter-name-iterator.ensures.into_iter_gives.0

pub loop-name-preserved : goal.loop-name-preserved
loop-name-preserved g c =
    checking_more (λ entry. (of : Ty) → g.V.Typed.HasType entry.1 of → IsKnownThroughout c.args.known.now of) c.args.typed.now.entries _ _
    (c.in-Some._name.now, c.in-Some.value.now) c.in-Some.ensures.steps c.loop-name.invariant c.in_ok-check_types.ensures.sound

pub returns-clause-sound : goal.returns-clause-sound
returns-clause-sound g c = checking_all _ c.args.typed.now.entries _ c.in-None.ensures.steps.0 c.loop-name.invariant

pub returns-in_err-check_types-clause-fault : goal.returns-in_err-check_types-clause-fault
returns-in_err-check_types-clause-fault g c =
    let known = c.args.known.now in
    let entries = c.args.typed.now.entries in
    let fault = fault_of c.in_err-check_types.field-0.0 in
    let entry : g.row.K.Denot × g.row.V.Denot = (c.in-Some._name.now, c.in-Some.value.now) in
    let among = checking_here _ entries _ _ entry c.in-Some.ensures.steps c.loop-name.invariant in
    let at_fault : (fault ≡ out_of_memory) ⊎ ((it : g.row.K.Denot × g.row.V.Denot) × Contains entries it
    × ((of : Ty) × g.V.Typed.HasType it.1 of × IsUnknownIn known of fault)) =
    elim c.in_err-check_types.ensures.fault [ inl wanting ↦ inl wanting | inr at ↦ inr (entry, among, at) ] in
    let p = err_from_is_err_and c.from_residual.result c.from_residual.ensures.1 in
    rw (p.1, p.2) at_fault
