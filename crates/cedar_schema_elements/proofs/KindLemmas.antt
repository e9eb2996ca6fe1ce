-- What kinds of actions are for.
use Rattle.std.proofs.Common.{arith, inl, inr, Contains}
use Rattle.cedar_ast.specs.PlainName.{PlainName}
use Rattle.cedar_schema_elements.specs.ActionKind.{kind_principals, kind_resources}
use Rattle.cedar_schema_semantics.specs.PlainSchema.{ActionKind, defined_action, external_action}
use Rattle.cedar_schema_semantics.specs.ValidSchema.{IsPrincipalOrResourceOf}

-- a principal of a kind is one of what it is for
pub principal_of : (kind : ActionKind) (name : PlainName) → Contains (kind_principals kind) name → IsPrincipalOrResourceOf kind name
principal_of (defined_action principals resources context) name among = inl among
principal_of external_action name among = omega (arith, among.1)

-- so is a resource
pub resource_of : (kind : ActionKind) (name : PlainName) → Contains (kind_resources kind) name → IsPrincipalOrResourceOf kind name
resource_of (defined_action principals resources context) name among = inr among
resource_of external_action name among = omega (arith, among.1)
