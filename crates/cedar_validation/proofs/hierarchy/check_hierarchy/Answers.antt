use Rattle.std.proofs.Common.{ap, map}
use Rattle.std.proofs.lemmas.Result.{err_from_is_err_and}
use Rattle.cedar_validation.proofs.Checking.{checking_all, checking_here, checking_more, checking_none}
use Rattle.cedar_validation.proofs.HierarchyLemmas.{IsCheckedBelow, Item, below_fault, pair_sound, undeclared_fault}
use Rattle.cedar_validation.proofs.hierarchy.check_hierarchy.Goals as goal
use Rattle.cedar_validation.specs.Words.{IsValidationFault, fault_of, plain_parts, type_name}

-- at first no entity type is checked, and all are left
pub loop-upper-init : goal.loop-upper-init
loop-upper-init c =
    checking_none (IsCheckedBelow c.args.parts.now) c.args.parts.now.entity_types.entries _
    c.into_iter-upper-iterator.ensures.into_iter_gives.0

-- one more entity type is checked: its descendants are declared, and each may stand below it
pub loop-upper-preserved : goal.loop-upper-preserved
loop-upper-preserved c =
    let parts = c.args.parts.now in
    let entry : Item = (c.in-Some.upper.now, c.in-Some.above.now) in
    checking_more (IsCheckedBelow parts) parts.entity_types.entries _ _ entry c.in-Some.ensures.steps c.loop-upper.invariant
    (rw (ap (map type_name) c.iter.ensures.rest) at c.in_ok-check_declared.ensures.sound, c.in_ok-check_below.ensures.sound)

-- a descendant that isn't declared is one of an entity type of the schema, so the schema is at
-- fault
pub returns-in_err-check_declared-clause-fault : goal.returns-in_err-check_declared-clause-fault
returns-in_err-check_declared-clause-fault c =
    let parts = c.args.parts.now in
    let entry : Item = (c.in-Some.upper.now, c.in-Some.above.now) in
    let fault = fault_of c.in_err-check_declared.field-0.0 in
    let among =
    checking_here (IsCheckedBelow parts) parts.entity_types.entries _ _ entry c.in-Some.ensures.steps c.loop-upper.invariant in
    let at_fault : IsValidationFault (plain_parts parts) fault =
    undeclared_fault parts entry among fault _ (ap (map type_name) c.iter.ensures.rest) c.in_err-check_declared.ensures.fault in
    let p = err_from_is_err_and c.from_residual.result c.from_residual.ensures.1 in
    rw (p.1, p.2) at_fault

-- a descendant of a kind that may not stand there is a fault of the schema that lists it
pub returns-in_err-check_below-clause-fault : goal.returns-in_err-check_below-clause-fault
returns-in_err-check_below-clause-fault c =
    let parts = c.args.parts.now in
    let entry : Item = (c.in-Some.upper.now, c.in-Some.above.now) in
    let fault = fault_of c.in_err-check_below.field-0.0 in
    let among =
    checking_here (IsCheckedBelow parts) parts.entity_types.entries _ _ entry c.in-Some.ensures.steps c.loop-upper.invariant in
    let at_fault : IsValidationFault (plain_parts parts) fault = below_fault parts entry among fault c.in_err-check_below.ensures.fault in
    let p = err_from_is_err_and c.from_residual-in_err-check_below.result c.from_residual-in_err-check_below.ensures.1 in
    rw (p.1, p.2) at_fault

-- where no entity type is left, each descendant listed anywhere was checked below its upper
pub returns-clause-sound : goal.returns-clause-sound
returns-clause-sound c =
    pair_sound c.args.parts.now c.into_iter-upper-iterator.ensures.into_iter_gives.1
    (checking_all (IsCheckedBelow c.args.parts.now) c.args.parts.now.entity_types.entries _ c.in-None.ensures.steps.0
    c.loop-upper.invariant)
