use Rattle.cedar_ast.specs.Words.{PlainName, name_of}
use Rattle.cedar_fragments.specs.declared.namespace.action_type.UnqualifiedActionType.{UnqualifiedActionType}

-- the name of the type that actions of no namespace share
abbrev pub unqualified_action_type : UnqualifiedActionType → PlainName
unqualified_action_type it = name_of it.name
