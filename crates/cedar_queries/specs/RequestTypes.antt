-- The types of the requests that the actions of a schema are for.
use Rattle.std.specs.List.{flat_map}
use Rattle.std.specs.Map.{lookup}
use Rattle.std.specs.Option.{option_and_then}
use Rattle.std.specs.Ordering.{is_eq}
use Rattle.std.specs.Prelude.{◌&&◌, List, Option}
use Rattle.cedar_ast.specs.Words.{PlainName, PlainUid, uid_cmp}
use Rattle.cedar_queries.specs.Hierarchy.{has_name}
use Rattle.cedar_queries.specs.Selected.{keys_where}
use Rattle.cedar_schema_elements.specs.ActionKind.{kind_context, kind_principals, kind_resources}
use Rattle.cedar_schema_semantics.specs.PlainSchema.{SchemaAction}
use Rattle.cedar_type_rules.specs.Ty.{Ty}

-- the action of a uid
abbrev pub action_at : PlainUid → List (PlainUid × SchemaAction) → Option SchemaAction
action_at uid actions = lookup (λ other. is_eq (uid_cmp uid other)) actions

-- the type of the context of an action's requests; of one that is external, or isn't there, none
abbrev pub context_at : PlainUid → List (PlainUid × SchemaAction) → Option Ty
context_at uid actions = option_and_then (λ it. kind_context it.kind) (action_at uid actions)

-- the principals of each action in turn
abbrev pub all_principals : List (PlainUid × SchemaAction) → List PlainName
all_principals actions = flat_map (λ it. kind_principals it.1.kind) actions

-- the resources of each action in turn
abbrev pub all_resources : List (PlainUid × SchemaAction) → List PlainName
all_resources actions = flat_map (λ it. kind_resources it.1.kind) actions

-- the uids of the actions that are for requests of this principal with this resource
abbrev pub actions_for : PlainName → PlainName → List (PlainUid × SchemaAction) → List PlainUid
actions_for principal resource actions =
    keys_where (λ it. has_name (kind_principals it.kind) principal
    && has_name (kind_resources it.kind) resource) actions
