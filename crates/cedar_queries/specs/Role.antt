-- What entity types are to requests.
use Rattle.std.specs.Prelude.{List}
use Rattle.cedar_ast.specs.PlainName.{PlainName}
use Rattle.cedar_queries.specs.declared.requests.Role.{Role}
use Rattle.cedar_queries.specs.declared.requests.Role.TheVariants as role
use Rattle.cedar_schema_elements.specs.ActionKind.{kind_principals, kind_resources}
use Rattle.cedar_schema_semantics.specs.PlainSchema.{ActionKind}

-- the types that a kind of action names in a role
abbrev pub types_in_role : Role → ActionKind → List PlainName
types_in_role role.Principal kind = kind_principals kind
types_in_role role.Resource kind = kind_resources kind
