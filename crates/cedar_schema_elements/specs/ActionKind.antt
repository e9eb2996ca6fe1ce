use Rattle.std.specs.Prelude.{List, [], Option, Some, None}
use Rattle.cedar_ast.specs.PlainName.{PlainName}
use Rattle.cedar_schema_elements.specs.Requests.{kind_of_requests}
use Rattle.cedar_schema_elements.specs.declared.action_kind.ValidatorActionKind.{ValidatorActionKind}
use Rattle.cedar_schema_elements.specs.declared.action_kind.ValidatorActionKind.TheVariants as variant
use Rattle.cedar_schema_semantics.specs.PlainSchema.{ActionKind, defined_action, external_action}
use Rattle.cedar_type_rules.specs.Ty.{Ty}

-- a kind as plain data
abbrev pub plain_kind : ValidatorActionKind → ActionKind
plain_kind (variant.Defined requests) = kind_of_requests requests.value
plain_kind variant.External = external_action

-- the names of the principals that a kind is for; external actions have none
abbrev pub kind_principals : ActionKind → List PlainName
kind_principals (defined_action principals resources context) = principals
kind_principals external_action = []

-- the names of the resources that a kind is for; external actions have none
abbrev pub kind_resources : ActionKind → List PlainName
kind_resources (defined_action principals resources context) = resources
kind_resources external_action = []

-- the context of a kind; external actions have none
abbrev pub kind_context : ActionKind → Option Ty
kind_context (defined_action principals resources context) = Some context
kind_context external_action = None
