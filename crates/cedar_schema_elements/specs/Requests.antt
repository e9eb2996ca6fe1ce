-- What an action is for, and its environments share.
use Rattle.std.specs.Prelude.{List}
use Rattle.cedar_ast.specs.Words.{PlainName}
use Rattle.cedar_schema_elements.specs.TypeSet.{set_names}
use Rattle.cedar_schema_elements.specs.declared.action_kind.DefinedRequests.{DefinedRequests}
use Rattle.cedar_schema_semantics.specs.PlainSchema.{ActionKind, defined_action}
use Rattle.cedar_types.specs.Meaning.{ty_of}

-- the names of the principals of the requests
abbrev pub requested_principals : DefinedRequests → List PlainName
requested_principals it = set_names it.principals

-- the names of the resources of the requests
abbrev pub requested_resources : DefinedRequests → List PlainName
requested_resources it = set_names it.resources

-- the kind of the action that is for these requests
abbrev pub kind_of_requests : DefinedRequests → ActionKind
kind_of_requests it =
    defined_action (requested_principals it) (requested_resources it) (ty_of it.context)
