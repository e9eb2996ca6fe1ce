use Rattle.std.specs.Prelude.{List, map, Option}
use Rattle.cedar_ast.specs.Words.{PlainName, unreserved_id_text}
use Rattle.cedar_ast.specs.declared.unreserved_id.UnreservedId.{UnreservedId}
use Rattle.cedar_fragments.specs.DeclaredAs.{declared_as}
use Rattle.cedar_schema_ast.specs.Words.{Declaration, common_type, name_within, positional_expr}
use Rattle.cedar_schema_ast.specs.declared.json_schema.conditional_name.ConditionalName.{ConditionalName}
use Rattle.cedar_schema_ast.specs.declared.json_schema.type_of.Type.{«Type»}

-- what a common type of the id declares in a namespace, None being the empty one
abbrev pub given_common_type : Option PlainName → UnreservedId × «Type» ConditionalName
    → Declaration
given_common_type namespace entry =
    declared_as (name_within namespace (unreserved_id_text entry.0))
    (common_type (positional_expr entry.1))

-- what some common types declare in a namespace, in their order
abbrev pub given_common_types : Option PlainName → List (UnreservedId × «Type» ConditionalName)
    → List Declaration
given_common_types namespace = map (given_common_type namespace)
