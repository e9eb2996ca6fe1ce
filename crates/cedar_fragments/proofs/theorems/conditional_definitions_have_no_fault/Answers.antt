use Rattle.cedar_fragments.proofs.SoundFragments.{fragments_have_no_fault}
use Rattle.cedar_fragments.proofs.theorems.conditional_definitions_have_no_fault.Goals as goal
use Rattle.cedar_fragments.specs.Words.{ConditionalName, action_attributes, action_entity_type, positional_reference, reserved_name}

pub returns-clause-attributes : goal.returns-clause-attributes
returns-clause-attributes c fragments extensions ids =
    fragments_have_no_fault ConditionalName positional_reference ConditionalName positional_reference fragments extensions (action_attributes ids) tt

pub returns-clause-action_types : goal.returns-clause-action_types
returns-clause-action_types c fragments extensions name =
    fragments_have_no_fault ConditionalName positional_reference ConditionalName positional_reference fragments extensions (action_entity_type name) tt

pub returns-clause-reserved : goal.returns-clause-reserved
returns-clause-reserved c fragments extensions name =
    fragments_have_no_fault ConditionalName positional_reference ConditionalName positional_reference fragments extensions (reserved_name name) tt
