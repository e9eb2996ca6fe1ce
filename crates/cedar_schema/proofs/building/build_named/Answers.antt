use Rattle.std.proofs.Common.{map, refl}
use Rattle.cedar_fragments.proofs.SoundFragments.{written_have_no_fault}
use Rattle.cedar_name_resolution.proofs.ExitLemmas.{exit_holds}
use Rattle.cedar_schema.proofs.BuiltNames.{actions_ready, common_ready, types_ready}
use Rattle.cedar_schema.proofs.DeclaredParts.{declared_parts}
use Rattle.cedar_schema.proofs.SchemaNames.{names_of_types_sorted, uids_of_actions_sorted}
use Rattle.cedar_schema.proofs.SurePieces.{pieces_well}
use Rattle.cedar_schema.proofs.building.build_named.Goals as goal
use Rattle.cedar_schema.specs.Words.{plain_action_entry, plain_entry}
use Rattle.cedar_schema_elements.proofs.ListedEntities.{listed_of_keys}
use Rattle.cedar_schema_elements.specs.Words.{listed_entities}

-- a refused common type is a fault of the bag
pub returns-in_err-common-clause-fault : goal.returns-in_err-common-clause-fault
returns-in_err-common-clause-fault g c =
    exit_holds _ _ _ c.from_residual-in_err-common.ensures.1
    (λ fragments is over. c.in_err-common.ensures.fault _ (common_ready fragments is over))

-- so is a refused entity type
pub returns-in_err-entity_types-clause-fault : goal.returns-in_err-entity_types-clause-fault
returns-in_err-entity_types-clause-fault g c =
    exit_holds _ _ _ c.from_residual-in_err-entity_types.ensures.1
    (λ fragments is over.
    let common = common_ready fragments is over in
    let written = c.in_ok-common.ensures.elaborates _ common in
    let sound = c.in_ok-common.ensures.sound _ common in
    c.in_err-entity_types.ensures.fault _ _ (types_ready fragments is over _ refl refl written sound))

-- and a refused action
pub returns-in_err-actions-clause-fault : goal.returns-in_err-actions-clause-fault
returns-in_err-actions-clause-fault g c =
    exit_holds _ _ _ c.from_residual-in_err-actions.ensures.1
    (λ fragments is over.
    let common = common_ready fragments is over in
    let written = c.in_ok-common.ensures.elaborates _ common in
    let sound = c.in_ok-common.ensures.sound _ common in
    let built = c.in_ok-entity_types.ensures.declared _ _ (types_ready fragments is over _ refl refl written sound) in
    c.in_err-actions.ensures.fault _ _ (actions_ready fragments is over _ refl refl written sound c.in_ok-entity_types.entity_types built))

-- nothing in the bag is at fault
pub returns-clause-well_formed : goal.returns-clause-well_formed
returns-clause-well_formed g c fragments is over =
    let common = common_ready fragments is over in
    let written = c.in_ok-common.ensures.elaborates _ common in
    let sound = c.in_ok-common.ensures.sound _ common in
    let built = c.in_ok-entity_types.ensures.declared _ _ (types_ready fragments is over _ refl refl written sound) in
    pieces_well _ _ _ _ over (written_have_no_fault _ g.N.WrittenName.refer fragments) sound
    (c.in_ok-entity_types.ensures.sound _ _ (types_ready fragments is over _ refl refl written sound))
    (c.in_ok-actions.ensures.sound _ _ (actions_ready fragments is over _ refl refl written sound c.in_ok-entity_types.entity_types built))

-- and what is built is what it declares
pub returns-clause-declared : goal.returns-clause-declared
returns-clause-declared g c fragments is over =
    let common = common_ready fragments is over in
    let written = c.in_ok-common.ensures.elaborates _ common in
    let sound = c.in_ok-common.ensures.sound _ common in
    let types = c.in_ok-entity_types.entity_types in
    let actions = c.in_ok-actions.actions.entries in
    let built = c.in_ok-entity_types.ensures.declared _ _ (types_ready fragments is over _ refl refl written sound) in
    declared_parts _ _ types.entries actions (listed_entities (map plain_action_entry actions)) built
    (names_of_types_sorted types.entries c.keys_ascend.ensures)
    (c.in_ok-actions.ensures.declared _ _ (actions_ready fragments is over _ refl refl written sound types built))
    (uids_of_actions_sorted actions c.keys_ascend-2.ensures)
    (listed_of_keys (map plain_entry types.entries) actions c.keys_ascend-2.ensures)
