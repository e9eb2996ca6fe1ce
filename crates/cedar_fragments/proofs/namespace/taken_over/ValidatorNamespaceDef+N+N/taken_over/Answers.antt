use Rattle.std.proofs.Common.{◌++◌}
use Rattle.std.specs.Option.{option_map}
use Rattle.cedar_fragments.proofs.AttributeLemmas.{none_named, named_in_all, no_actions_among}
use Rattle.cedar_fragments.proofs.FragmentLemmas.{refusal_included, second_included, third_included}
use Rattle.cedar_fragments.proofs.SoundLemmas.{sound_bag, common_sound}
use Rattle.cedar_fragments.proofs.namespace.taken_over.ValidatorNamespaceDef+N+N.taken_over.Goals as goal
use Rattle.cedar_fragments.specs.Words.{IsSound, RawName, action_declarations, common_declarations, entity_declarations, fault_of, name_of, raw_declarations, raw_reference}
use Rattle.cedar_name_resolution.proofs.EachLemmas.{AllByRecursion-append}
use Rattle.cedar_name_resolution.proofs.ExitLemmas.{exit_holds}

-- a fault of the entity types is one of the whole definition
pub returns-in_err-entity_types-clause-fault : goal.returns-in_err-entity_types-clause-fault
returns-in_err-entity_types-clause-fault g c =
    let it = c.args.definition in
    let fault = fault_of c.in_err-entity_types.field-0.0 in
    let namespace = option_map name_of c.args.namespace in
    exit_holds _ _ _ c.from_residual-in_err-entity_types.ensures.1
    (refusal_included (entity_declarations RawName (raw_reference namespace) namespace it.entity_types.entries) _
    (second_included (common_declarations RawName (raw_reference namespace) namespace it.common_types.entries) _
    (action_declarations RawName (raw_reference namespace) namespace it.actions.entries)) fault
    (rw c.lend-within.ensures at c.in_err-entity_types.ensures.fault))

-- a refusal of the entity types names no actions
pub returns-in_err-entity_types-clause-all_named : goal.returns-in_err-entity_types-clause-all_named
returns-in_err-entity_types-clause-all_named g c =
    exit_holds _ _ _ c.from_residual-in_err-entity_types.ensures.1
    (none_named _ _ _ c.in_err-entity_types.ensures.no_actions)

-- a fault of the actions is one of the whole definition
pub returns-in_err-actions-clause-fault : goal.returns-in_err-actions-clause-fault
returns-in_err-actions-clause-fault g c =
    let it = c.args.definition in
    let fault = fault_of c.in_err-actions.field-0.0 in
    let namespace = option_map name_of c.args.namespace in
    exit_holds _ _ _ c.from_residual-in_err-actions.ensures.1
    (refusal_included (action_declarations RawName (raw_reference namespace) namespace it.actions.entries) _
    (third_included (common_declarations RawName (raw_reference namespace) namespace it.common_types.entries)
    (entity_declarations RawName (raw_reference namespace) namespace it.entity_types.entries) _) fault
    (rw c.lend-within.ensures at c.in_err-actions.ensures.fault))

-- only actions have attributes, so those of the actions are all
pub returns-in_err-actions-clause-all_named : goal.returns-in_err-actions-clause-all_named
returns-in_err-actions-clause-all_named g c =
    let it = c.args.definition in
    let fault = fault_of c.in_err-actions.field-0.0 in
    let namespace = option_map name_of c.args.namespace in
    exit_holds _ _ _ c.from_residual-in_err-actions.ensures.1
    (named_in_all (common_declarations RawName (raw_reference namespace) namespace it.common_types.entries
    ++ entity_declarations RawName (raw_reference namespace) namespace it.entity_types.entries) _ namespace
    (no_actions_among namespace it.common_types.entries it.entity_types.entries) fault
    (rw c.lend-within.ensures at c.in_err-actions.ensures.all_named))

-- common types, entity types and actions are sound each
pub returns-clause-sound : goal.returns-clause-sound
returns-clause-sound g c =
    let it = c.args.definition in
    let namespace = option_map name_of c.args.namespace in
    AllByRecursion-append IsSound _ _
    (AllByRecursion-append IsSound _ _ (common_sound namespace it.common_types.entries)
    (rw c.lend-within.ensures at c.in_ok-entity_types.ensures.sound))
    (rw c.lend-within.ensures at c.in_ok-actions.ensures.sound)

-- and so the definition has no fault
pub returns-clause-no_fault : goal.returns-clause-no_fault
returns-clause-no_fault g c =
    let it = c.args.definition in
    let namespace = option_map name_of c.args.namespace in
    sound_bag (raw_declarations namespace it)
    (AllByRecursion-append IsSound _ _
    (AllByRecursion-append IsSound _ _ (common_sound namespace it.common_types.entries)
    (rw c.lend-within.ensures at c.in_ok-entity_types.ensures.sound))
    (rw c.lend-within.ensures at c.in_ok-actions.ensures.sound))

-- what is declared by sort is declared together
pub returns-clause-declarations : goal.returns-clause-declarations
returns-clause-declarations g c =
    let common = rw c.lend-within.ensures at c.in_ok-common_types.ensures.declarations in
    let entities = rw c.lend-within.ensures at c.in_ok-entity_types.ensures.declarations in
    let actions = rw c.lend-within.ensures at c.in_ok-actions.ensures.declarations in
    λ i. common i ++ entities i ++ actions i
