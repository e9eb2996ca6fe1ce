use Rattle.std.proofs.Common.{◌≡◌, ◌⊎◌, sym, ◌∙◌, None, Some, inl, inr}
use Rattle.std.proofs.lemmas.Result.{err_from_is_err_and}
use Rattle.cedar_ast.specs.contracts.entity_type.EntityTypeOrd.TheImpl as entity_type_ord
use Rattle.cedar_validation.proofs.Checking.{checking_all, checking_here, checking_more, checking_none}
use Rattle.cedar_validation.proofs.hierarchy.check_below.Goals as goal
use Rattle.cedar_validation.specs.Words.{EntityType, IsBelowFault, IsKindSound, Parts, StandsAt, ValidatorEntityType, entity_type_of, fault_of, get_by, out_of_memory, type_name}

-- what stands at the key is of a kind that may stand below
abbrev IsChecked : Parts → ValidatorEntityType → EntityType → Type 0
IsChecked parts above lower =
    (below : ValidatorEntityType) → StandsAt parts lower below → IsKindSound (entity_type_of below).kind (entity_type_of above).kind

pub loop-lower-init : goal.loop-lower-init
loop-lower-init c =
    checking_none (IsChecked c.args.parts.now c.args.above.now) c.args.above.now.descendants.keys _
    c.into_iter-lower-iterator.ensures.into_iter_gives.0

pub returns-clause-sound : goal.returns-clause-sound
returns-clause-sound c = λ lower below among.
    checking_all (IsChecked c.args.parts.now c.args.above.now) c.args.above.now.descendants.keys _ c.in-None.ensures.steps.0
    c.loop-lower.invariant lower among below

pub loop-lower-preserved : goal.loop-lower-preserved
loop-lower-preserved c =
    let parts = c.args.parts.now in
    let lower = c.in-Some.lower.now in
    let none : get_by ((entity_type_ord.ghosts).cmp lower) parts.entity_types ≡ None = sym c.in-None-get.ensures.value in
    checking_more (IsChecked parts c.args.above.now) c.args.above.now.descendants.keys _ _ lower c.in-Some.ensures.steps
    c.loop-lower.invariant (λ below stands. let e : None ≡ Some below = sym none ∙ stands in absurd cc)

pub loop-lower-preserved-in-Continue-1 : goal.loop-lower-preserved-in-Continue-1
loop-lower-preserved-in-Continue-1 c =
    let parts = c.args.parts.now in
    let lower = c.in-Some.lower.now in
    let found : get_by ((entity_type_ord.ghosts).cmp lower) parts.entity_types ≡ Some c.in-Some-get.below.now = sym c.in-Some-get.ensures.value in
    checking_more (IsChecked parts c.args.above.now) c.args.above.now.descendants.keys _ _ lower c.in-Some.ensures.steps
    c.loop-lower.invariant
    (λ below stands.
    let e : Some c.in-Some-get.below.now ≡ Some below = sym found ∙ stands in
    let same : c.in-Some-get.below.now ≡ below = cc in
    rw same at c.in_ok-check_kinds-in-Some-get.ensures.sound)

pub returns-in_err-check_kinds-in-Some-get-clause-fault : goal.returns-in_err-check_kinds-in-Some-get-clause-fault
returns-in_err-check_kinds-in-Some-get-clause-fault c =
    let parts = c.args.parts.now in
    let above = c.args.above.now in
    let lower = c.in-Some.lower.now in
    let fault = fault_of c.in_err-check_kinds-in-Some-get.field-0.0 in
    let among =
    checking_here (IsChecked parts above) above.descendants.keys _ _ lower c.in-Some.ensures.steps c.loop-lower.invariant in
    let at_fault : (fault ≡ out_of_memory) ⊎ IsBelowFault parts (type_name c.args.upper.now) above fault =
    elim c.in_err-check_kinds-in-Some-get.ensures.fault [ inl wanting ↦ inl wanting | inr why ↦ inr (lower, c.in-Some-get.below.now, among, sym c.in-Some-get.ensures.value, why) ] in
    let p = err_from_is_err_and c.from_residual.result c.from_residual.ensures.1 in
    rw (p.1, p.2) at_fault
