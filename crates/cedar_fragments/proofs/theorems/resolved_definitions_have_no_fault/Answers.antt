use Rattle.cedar_fragments.proofs.SoundFragments.{fragments_have_no_fault}
use Rattle.cedar_fragments.proofs.theorems.resolved_definitions_have_no_fault.Goals as goal
use Rattle.cedar_fragments.specs.Words.{EntityType, InternalName, action_attributes, action_entity_type, reserved_name, resolved_action_type, resolved_reference}

pub returns-clause-attributes : goal.returns-clause-attributes
returns-clause-attributes c fragments extensions ids =
    fragments_have_no_fault InternalName resolved_reference EntityType resolved_action_type fragments extensions (action_attributes ids) tt

pub returns-clause-action_types : goal.returns-clause-action_types
returns-clause-action_types c fragments extensions name =
    fragments_have_no_fault InternalName resolved_reference EntityType resolved_action_type fragments extensions (action_entity_type name) tt

pub returns-clause-reserved : goal.returns-clause-reserved
returns-clause-reserved c fragments extensions name =
    fragments_have_no_fault InternalName resolved_reference EntityType resolved_action_type fragments extensions (reserved_name name) tt
