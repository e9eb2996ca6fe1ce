-- What each fragment of the library holds to: names are of identifiers, texts are UTF-8, and maps
-- stand in the order of their keys.
use Rattle.std.specs.Bool.{⊤}
use Rattle.std.specs.List.{AllByRecursion}
use Rattle.std.specs.List.Sorted.{IsStrictlySortedBy}
use Rattle.std.specs.Option.{option_cmp}
use Rattle.std.specs.Prelude.{◌≡◌, List, [], ◌∷◌, map, Option, None, Some, option_map, string_bytes}
use Rattle.std.specs.Str.{IsUtf8}
use Rattle.cedar_ast.specs.Words.{IsIdentifier, IsOfIdentifiers, PlainName, Text, name_cmp, plain_name, text_cmp, unreserved_id_text}
use Rattle.cedar_schema_ast.specs.Words.{Expr, Members, common_type_text, extension_expr, long_expr, member, named, no_member, raw_expr, record_expr, set_expr, text_expr, truth_expr}
use Rattle.cedar_schema_ast.specs.declared.json_schema.action_type.ActionType.{ActionType}
use Rattle.cedar_schema_ast.specs.declared.json_schema.action_type.ApplySpec.{ApplySpec}
use Rattle.cedar_schema_ast.specs.declared.json_schema.entity_type.EntityType.{EntityType}
use Rattle.cedar_schema_ast.specs.declared.json_schema.entity_type.EntityTypeKind.{EntityTypeKind}
use Rattle.cedar_schema_ast.specs.declared.json_schema.entity_type.EntityTypeKind.TheVariants as kind
use Rattle.cedar_schema_ast.specs.declared.json_schema.fragment.CommonType.{CommonType}
use Rattle.cedar_schema_ast.specs.declared.json_schema.fragment.Fragment.{Fragment}
use Rattle.cedar_schema_ast.specs.declared.json_schema.fragment.NamespaceDefinition.{NamespaceDefinition}
use Rattle.cedar_schema_ast.specs.declared.json_schema.raw_name.RawName.{RawName}
use Rattle.cedar_schema_ast.specs.declared.json_schema.type_of.Type.{«Type»}

-- the names of attributes
abbrev pub names_of_members : Members → List Text
names_of_members no_member = []
names_of_members (member name required ty rest) = name ∷ names_of_members rest

abbrev mutual
  -- each reference in a type is a name by itself; attributes stand in the order of their names
  pub Sayable : Expr → Type 0
  Sayable text_expr = ⊤
  Sayable long_expr = ⊤
  Sayable truth_expr = ⊤
  Sayable (extension_expr name) = IsIdentifier name
  Sayable (named reference) =
      (name : PlainName) × IsOfIdentifiers name × (reference.possibilities ≡ name ∷ [])
  Sayable (set_expr element) = Sayable element
  Sayable (record_expr all additional) =
      IsStrictlySortedBy text_cmp (names_of_members all) × SayableMembers all

  -- the same of attributes
  pub SayableMembers : Members → Type 0
  SayableMembers no_member = ⊤
  SayableMembers (member name required ty rest) = IsUtf8 name × Sayable ty × SayableMembers rest

-- the same of a type of the library
abbrev pub SayableType : «Type» RawName → Type 0
SayableType ty = Sayable (raw_expr None ty)

-- and of the type of tags, where there is one
abbrev pub SayableIf : Option («Type» RawName) → Type 0
SayableIf None = ⊤
SayableIf (Some ty) = SayableType ty

-- the same of the definition of a common type
abbrev pub SayableCommonType : CommonType RawName → Type 0
SayableCommonType it = SayableType it.ty

-- the same of what is declared of an entity type
abbrev pub SayableKind : EntityTypeKind RawName → Type 0
SayableKind (kind.Standard it) = SayableType it.shape.0 × SayableIf it.tags
SayableKind (kind.Enum ids) = ⊤

-- the same of the declaration of an entity type
abbrev pub SayableEntityType : EntityType RawName → Type 0
SayableEntityType it = SayableKind it.kind

-- the same of the requests that an action is for, where they are declared
abbrev pub SayableRequests : Option (ApplySpec RawName) → Type 0
SayableRequests None = ⊤
SayableRequests (Some it) = SayableType it.context.0

-- the same of the declaration of an action
abbrev pub SayableAction : ActionType RawName → Type 0
SayableAction it = SayableRequests it.applies_to

-- the same of a definition, whose declarations stand in the order of their ids
pub record SayableDefinition (it : NamespaceDefinition RawName) : Type 0 where
  pub commons : AllByRecursion (λ entry. SayableCommonType entry.1) it.common_types.entries
  pub entities : AllByRecursion (λ entry. SayableEntityType entry.1) it.entity_types.entries
  pub actions : AllByRecursion (λ entry. SayableAction entry.1) it.actions.entries
  pub commons_sorted : IsStrictlySortedBy text_cmp
      (map (λ entry. common_type_text entry.0) it.common_types.entries)
  pub entities_sorted : IsStrictlySortedBy text_cmp
      (map (λ entry. unreserved_id_text entry.0) it.entity_types.entries)
  pub actions_sorted : IsStrictlySortedBy text_cmp
      (map (λ entry. string_bytes entry.0) it.actions.entries)

-- the same of a fragment, whose namespaces stand in the order of their names
pub record SayableFragment (it : Fragment RawName) : Type 0 where
  pub sorted : IsStrictlySortedBy (option_cmp name_cmp)
      (map (λ entry. option_map plain_name entry.0) it.0.entries)
  pub each : AllByRecursion (λ entry. SayableDefinition entry.1) it.0.entries
