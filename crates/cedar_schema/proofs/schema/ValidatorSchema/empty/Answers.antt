use Rattle.std.proofs.Common.{map}
use Rattle.std.proofs.lemmas.Grind.{merely}
use Rattle.cedar_graph.proofs.Lists.{empty_lacks}
use Rattle.cedar_schema.proofs.SchemaNames.{schema_in_order}
use Rattle.cedar_schema.proofs.schema.ValidatorSchema.empty.Goals as goal
use Rattle.cedar_schema.specs.Words.{plain_action_entry}
use Rattle.cedar_schema_elements.specs.ValidatorActionId as actions
use Rattle.cedar_schema_elements.specs.ValidatorEntityType as types
use Rattle.cedar_schema_elements.specs.Words.{listed_entities}

pub invariant_of-content-clause-in_order : goal.invariant_of-content-clause-in_order
invariant_of-content-clause-in_order c =
    merely (schema_in_order c.new.result.entries c.new-2.result.entries
    (listed_entities (map plain_action_entry c.new-2.result.entries)) c.new.ensures.ordered c.new-2.ensures.ordered)

pub invariant_of-content-clause-types_located : goal.invariant_of-content-clause-types_located
invariant_of-content-clause-types_located c = empty_lacks types.IsLocatedAsKey c.new.result.entries c.new.ensures.empty

pub invariant_of-content-clause-actions_located : goal.invariant_of-content-clause-actions_located
invariant_of-content-clause-actions_located c = empty_lacks actions.IsLocatedAsKey c.new-2.result.entries c.new-2.ensures.empty
