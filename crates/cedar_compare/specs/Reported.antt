-- Differences as plain data.
use Rattle.std.specs.Prelude.{None, Some}
use Rattle.cedar_ast.specs.Words.{type_name, uid_of}
use Rattle.cedar_compare.specs.Difference.{PlainCause, PlainDifference, action_above, action_lost, choice_removed, entity_lost, removed, request_lost, type_above, values_apart}
use Rattle.cedar_entities.specs.Requests.{PlainRequest}
use Rattle.cedar_compare.specs.declared.difference.Cause.{Cause}
use Rattle.cedar_compare.specs.declared.difference.Cause.TheVariants as cause
use Rattle.cedar_compare.specs.declared.difference.Difference.{Difference}
use Rattle.cedar_compare.specs.declared.difference.Difference.TheVariants as difference
use Rattle.cedar_compare.specs.declared.difference.Part.TheVariants as part
use Rattle.cedar_compare.specs.declared.difference.Request.{Request}
use Rattle.cedar_counterexample.specs.Steps.{steps_of}
use Rattle.cedar_schema_elements.specs.ActionEntities.{plain_action_entity}
use Rattle.cedar_types.specs.Samples.{value_tree}

-- a request as plain data
abbrev pub plain_request : Request → PlainRequest
plain_request it = record {
  principal = uid_of it.principal;
  action = uid_of it.action;
  resource = uid_of it.resource;
  context = value_tree it.context;
}

-- a cause as plain data
abbrev pub plain_cause : Cause → PlainCause
plain_cause cause.Gone = removed
plain_cause (cause.Choice uid) = choice_removed (uid_of uid)
plain_cause (cause.AncestorType ty) = type_above (type_name ty)
plain_cause (cause.AncestorAction uid) = action_above (uid_of uid)
plain_cause (cause.Attributes steps) = values_apart part.Attributes (steps_of steps) None
plain_cause (cause.Tags steps) = values_apart part.Tags (steps_of steps) None
plain_cause (cause.Context steps) = values_apart part.Context (steps_of steps) None
plain_cause (cause.NoSuchEntity it steps uid) =
    values_apart it (steps_of steps) (Some (uid_of uid))

-- a difference as plain data
abbrev pub plain_difference : Difference → PlainDifference
plain_difference (difference.EntityType witness cause) =
    entity_lost (plain_action_entity witness) (plain_cause cause)
plain_difference (difference.Action witness cause) =
    action_lost (plain_action_entity witness) (plain_cause cause)
plain_difference (difference.Environment witness cause) =
    request_lost (plain_request witness) (plain_cause cause)
