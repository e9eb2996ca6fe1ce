use Rattle.std.specs.List.{flat_map}
use Rattle.std.specs.Option.{option_map}
use Rattle.std.specs.Prelude.{List, ◌++◌, map, Option, string_bytes}
use Rattle.std.specs.declared.alloc.Global.{Global}
use Rattle.std.specs.declared.string.String.{String}
use Rattle.cedar_ast.specs.Words.{PlainName, Text, plain_name, unreserved_id_text}
use Rattle.cedar_ast.specs.declared.unreserved_id.UnreservedId.{UnreservedId}
use Rattle.cedar_schema_ast.specs.ActionBody.{ActionBody, action_body}
use Rattle.cedar_schema_ast.specs.CommonTypeId.{common_type_text}
use Rattle.cedar_schema_ast.specs.EntityBody.{EntityBody, entity_body}
use Rattle.cedar_schema_ast.specs.Expr.{Expr}
use Rattle.cedar_schema_ast.specs.RawExpr.{raw_reference}
use Rattle.cedar_schema_ast.specs.Reference.{Reference}
use Rattle.cedar_schema_ast.specs.TypeExpr.{type_expr}
use Rattle.cedar_schema_ast.specs.declared.json_schema.action_type.ActionType.{ActionType}
use Rattle.cedar_schema_ast.specs.declared.json_schema.common_type_id.CommonTypeId.{CommonTypeId}
use Rattle.cedar_schema_ast.specs.declared.json_schema.entity_type.EntityType.{EntityType}
use Rattle.cedar_schema_ast.specs.declared.json_schema.fragment.CommonType.{CommonType}
use Rattle.cedar_schema_ast.specs.declared.json_schema.fragment.Fragment.{Fragment}
use Rattle.cedar_schema_ast.specs.declared.json_schema.fragment.NamespaceDefinition.{NamespaceDefinition}
use Rattle.cedar_schema_ast.specs.declared.json_schema.raw_name.RawName.{RawName}
use Rattle.cedar_schema_ast.specs.declared.json_schema.reference_type.ReferenceType.{ReferenceType}

-- what is declared: a common type with its definition, an entity type, or an action
pub data Body : Type 0 where
  common_type : Expr → Body
  entity_type : EntityBody → Body
  action : ActionBody → Body

-- a declaration: the namespace in which it stands, its id, and what is declared
pub record Declaration : Type 0 where
  pub namespace : Option PlainName
  pub id : Text
  pub body : Body

-- declarations over names of some form in a namespace, where it is given what a name refers to at a
-- place of each kind
module _ (N : Type 0) (refer : ReferenceType → N → Reference) (namespace : Option PlainName) where
  -- the declarations of some common types
  abbrev pub common_declarations : List (CommonTypeId × CommonType N) → List Declaration
  common_declarations entries =
      map (λ entry. record {
        namespace = namespace;
        id = common_type_text entry.0;
        body = common_type (type_expr N refer entry.1.ty);
      }) entries

  -- the declarations of some entity types
  abbrev pub entity_declarations : List (UnreservedId × EntityType N) → List Declaration
  entity_declarations entries =
      map (λ entry. record {
        namespace = namespace;
        id = unreserved_id_text entry.0;
        body = entity_type (entity_body N refer entry.1);
      }) entries

  -- the declarations of some actions
  abbrev pub action_declarations : List (String Global × ActionType N) → List Declaration
  action_declarations entries =
      map (λ entry. record {
        namespace = namespace;
        id = string_bytes entry.0;
        body = action (action_body N refer namespace entry.1);
      }) entries

  -- the declarations of a namespace's definition: its common types, its entity types and its
  -- actions
  abbrev pub declarations : NamespaceDefinition N → List Declaration
  declarations it =
      common_declarations it.common_types.entries ++ entity_declarations it.entity_types.entries
      ++ action_declarations it.actions.entries

-- the declarations of a definition that is written in the namespace
abbrev pub raw_declarations : Option PlainName → NamespaceDefinition RawName → List Declaration
raw_declarations namespace = declarations RawName (raw_reference namespace) namespace

-- the declarations of a fragment whose names are as they were written
abbrev pub raw_fragment : Fragment RawName → List Declaration
raw_fragment fragment = flat_map (λ entry.
    raw_declarations (option_map plain_name entry.0) entry.1) fragment.0.entries

-- the bag of declarations of some fragments whose names are as they were written
abbrev pub raw_bag : List (Fragment RawName) → List Declaration
raw_bag fragments = flat_map raw_fragment fragments
