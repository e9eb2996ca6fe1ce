-- The environments of the requests that actions are for.
use Rattle.std.specs.List.{flat_map}
use Rattle.std.specs.Prelude.{List, [], map}
use Rattle.cedar_ast.specs.Words.{PlainName, PlainUid}
use Rattle.cedar_schema_semantics.specs.Words.{ActionKind, Environment, SchemaAction, defined_action, external_action}
use Rattle.cedar_type_rules.specs.Ty.{Ty}

-- the environments of one principal with each of some resources
abbrev pub with_resources : PlainUid → Ty → PlainName → List PlainName → List Environment
with_resources uid context principal resources =
    map (λ resource. record {
      principal = principal;
      action = uid;
      resource = resource;
      context = context;
    }) resources

-- the environments of each of some principals with each of some resources
abbrev pub with_principals : PlainUid → Ty → List PlainName → List PlainName → List Environment
with_principals uid context principals resources =
    flat_map (λ principal. with_resources uid context principal resources) principals

-- the environments of an action of a kind; external actions have none
abbrev pub kind_environments : PlainUid → ActionKind → List Environment
kind_environments uid (defined_action principals resources context) =
    with_principals uid context principals resources
kind_environments uid external_action = []

-- the environments of some actions, each under its uid
abbrev pub action_environments : List (PlainUid × SchemaAction) → List Environment
action_environments actions = flat_map (λ it. kind_environments it.0 it.1.kind) actions
