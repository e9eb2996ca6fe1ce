-- Copies of entity types and of actions are pairwise the same.
use Rattle.std.proofs.Common.{List, map, sym, ◌∙◌}
use Rattle.cedar_schema_elements.specs.ValidatorActionId as action_specs
use Rattle.cedar_schema_elements.specs.ValidatorEntityType as type_specs
use Rattle.cedar_schema_semantics.proofs.TurnLemmas.{turn_back}
use Rattle.cedar_validation.proofs.Pairwise.{pairwise_back, pairwise_map}
use Rattle.cedar_validation.specs.Words.{EntityType, EntityUID, HoldsPairwise, IsActionCopied, IsTypeCopied, SameAction, SameEntityType, ValidatorActionId, ValidatorEntityType, plain_action_entry, plain_entry}

-- copies of entity types are pairwise the same
pub types_same : (types copies : List (EntityType × ValidatorEntityType)) → HoldsPairwise IsTypeCopied types copies
    → HoldsPairwise SameEntityType (map plain_entry copies) (map plain_entry types)
types_same types copies turn =
    pairwise_map SameEntityType plain_entry plain_entry copies types
    (turn_back IsTypeCopied (λ copy it. SameEntityType (plain_entry copy) (plain_entry it)) (λ it copy is. is.same) types copies turn)

-- copies of actions are pairwise the same
pub actions_same : (actions copies : List (EntityUID × ValidatorActionId)) → HoldsPairwise IsActionCopied actions copies
    → HoldsPairwise SameAction (map plain_action_entry copies) (map plain_action_entry actions)
actions_same actions copies turn =
    pairwise_map SameAction plain_action_entry plain_action_entry copies actions
    (turn_back IsActionCopied (λ copy it. SameAction (plain_action_entry copy) (plain_action_entry it)) (λ it copy is. is.same)
    actions copies turn)

-- copies of entity types are located as their keys where those are
pub type_copies_located : (types copies : List (EntityType × ValidatorEntityType)) → HoldsPairwise IsTypeCopied types copies
    → type_specs.AreLocatedAsKeys types → type_specs.AreLocatedAsKeys copies
type_copies_located types copies turn located copy among =
    let it = pairwise_back IsTypeCopied types copies turn copy among in
    it.2.key_loc ∙ located it.0 it.1 ∙ sym it.2.name_loc

-- the same of actions
pub action_copies_located : (actions copies : List (EntityUID × ValidatorActionId)) → HoldsPairwise IsActionCopied actions copies
    → action_specs.AreLocatedAsKeys actions → action_specs.AreLocatedAsKeys copies
action_copies_located actions copies turn located copy among =
    let it = pairwise_back IsActionCopied actions copies turn copy among in
    let at = located it.0 it.1 in
    record {
      uid = it.2.key_loc ∙ at.uid ∙ sym it.2.name_loc;
      ty = it.2.key_type_loc ∙ at.ty ∙ sym it.2.name_type_loc;
    }
