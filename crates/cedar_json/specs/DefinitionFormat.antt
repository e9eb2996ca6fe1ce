-- Which definitions of namespaces, and which fragments, JSON values and texts describe.
use Rattle.std.specs.BTreeMap.{BTreeMap, insert_entry}
use Rattle.std.specs.Option.{option_cmp}
use Rattle.std.specs.Prelude.{◌≡◌, List, [], ◌∷◌, not, ◌&&◌, map, Option, Some, None, cond, option_map, option_and_then, codes, string_bytes}
use Rattle.std.specs.declared.alloc.Global.{Global}
use Rattle.std.specs.declared.cmp.Ordering.{Ordering}
use Rattle.std.specs.declared.string.String.{String}
use Rattle.cedar_ast.specs.Words.{PlainName, Text, name_cmp, plain_name, text_cmp, unreserved_id_text}
use Rattle.cedar_ast.specs.declared.name.Name.{Name}
use Rattle.cedar_ast.specs.declared.unreserved_id.UnreservedId.{UnreservedId}
use Rattle.cedar_json.specs.ActionFormat.{WrittenAction, action_of, written_action}
use Rattle.cedar_json.specs.EntityFormat.{WrittenEntity, entity_of, written_entity}
use Rattle.cedar_json.specs.Fields.{annotations_fit, has_only, is_among, known_fields}
use Rattle.cedar_json.specs.Lists.{field_or}
use Rattle.cedar_json.specs.TypeFormat.{if_so, type_with}
use Rattle.cedar_json.specs.WrittenName.{is_unreserved, plain_name_in}
use Rattle.cedar_json.specs.declared.fault.Row.TheVariants.{OfCommonType, OfDefinition}
use Rattle.cedar_schema_ast.specs.Words.{Expr, common_type_text, raw_expr, reserved_type_words}
use Rattle.cedar_schema_ast.specs.declared.json_schema.action_type.ActionType.{ActionType}
use Rattle.cedar_schema_ast.specs.declared.json_schema.common_type_id.CommonTypeId.{CommonTypeId}
use Rattle.cedar_schema_ast.specs.declared.json_schema.entity_type.EntityType.{EntityType}
use Rattle.cedar_schema_ast.specs.declared.json_schema.fragment.CommonType.{CommonType}
use Rattle.cedar_schema_ast.specs.declared.json_schema.fragment.Fragment.{Fragment}
use Rattle.cedar_schema_ast.specs.declared.json_schema.fragment.NamespaceDefinition.{NamespaceDefinition}
use Rattle.cedar_schema_ast.specs.declared.json_schema.raw_name.RawName.{RawName}
use Rattle.json.specs.Find.{as_object, get}
use Rattle.json.specs.Json.{Json, Members, no_members, member}

-- what is declared in a namespace, as it was written: common types, entity types and actions, each
-- in the order of ids
pub record WrittenDefinition : Type 0 where
  pub common_types : List (Text × Expr)
  pub entity_types : List (Text × WrittenEntity)
  pub actions : List (Text × WrittenAction)

-- what is declared in each namespace, in the order of their names; None is the empty namespace
abbrev pub WrittenFragment : Type 0
WrittenFragment = List (Option PlainName × WrittenDefinition)

-- the plain data of common types
abbrev pub written_common_types : BTreeMap CommonTypeId (CommonType RawName) → List (Text × Expr)
written_common_types all = map (λ entry.
    (common_type_text entry.0, raw_expr None entry.1.ty)) all.entries

-- the plain data of entity types
abbrev pub written_entity_types : BTreeMap UnreservedId (EntityType RawName)
    → List (Text × WrittenEntity)
written_entity_types all = map (λ entry.
    (unreserved_id_text entry.0, written_entity entry.1)) all.entries

-- the plain data of actions
abbrev pub written_actions : BTreeMap (String Global) (ActionType RawName)
    → List (Text × WrittenAction)
written_actions all = map (λ entry. (string_bytes entry.0, written_action entry.1)) all.entries

-- the plain data of a definition
abbrev pub written_definition : NamespaceDefinition RawName → WrittenDefinition
written_definition it = record {
  common_types = written_common_types it.common_types;
  entity_types = written_entity_types it.entity_types;
  actions = written_actions it.actions;
}

-- the plain data of namespaces
abbrev pub written_namespaces : BTreeMap (Option Name) (NamespaceDefinition RawName)
    → WrittenFragment
written_namespaces all = map (λ entry.
    (option_map plain_name entry.0, written_definition entry.1)) all.entries

-- the plain data of a fragment
abbrev pub written_fragment : Fragment RawName → WrittenFragment
written_fragment it = written_namespaces it.0

-- an entry was put to others whose key stands for what was read of a key, and whose value is shown
-- as what was read of a value
abbrev pub IsEntryPut : {K A L B : Type 0} → (K → K → Ordering) → (K → L) → (A → B) → Option L
    → Option B → List (K × A) → List (K × A) → Type 0
IsEntryPut {K} {A} cmp shown_key shown key described old new =
    (entry : K × A) × (key ≡ Some (shown_key entry.0)) × (described ≡ Some (shown entry.1))
    × (new ≡ insert_entry cmp old entry.0 entry.1)

-- what members describe, each under what its key stands for, put to what those before them do
abbrev pub entries_of : {K A : Type 0} → (K → K → Ordering) → (Text → Option K) → (Json → Option A)
    → Members → List (K × A) → Option (List (K × A))
entries_of order key describes no_members before = Some before
entries_of order key describes (member name j rest) before =
    option_and_then (λ k. option_and_then (λ it.
    entries_of order key describes rest (insert_entry order before k it)) (describes j)) (key name)

-- what the members of an object describe
abbrev pub entries_in : {K A : Type 0} → (K → K → Ordering) → (Text → Option K) → (Json → Option A)
    → Json → Option (List (K × A))
entries_in order key describes j =
    option_and_then (λ ms. entries_of order key describes ms []) (as_object j)

-- the id of an entity type that a key is
abbrev pub id_key : Text → Option Text
id_key text = cond (is_unreserved text) (Some text) None

-- the id of a common type that a key is
abbrev pub common_key : Text → Option Text
common_key text = cond (is_unreserved text && not (is_among text reserved_type_words))
    (Some text) None

-- the namespace that a key names: the empty one, or one that isn't reserved
abbrev pub namespace_key : Text → Option (Option PlainName)
namespace_key [] = Some None
namespace_key (byte ∷ rest) = option_map Some (plain_name_in (byte ∷ rest))

-- the common type that a value describes
abbrev pub common_type_of : Json → Option Expr
common_type_of j = if_so (annotations_fit (get (codes "annotations") j)) (type_with OfCommonType j)

-- the common types that a value describes
abbrev pub common_types_in : Json → Option (List (Text × Expr))
common_types_in = entries_in text_cmp common_key common_type_of

-- the entity types that a value describes
abbrev pub entity_types_in : Json → Option (List (Text × WrittenEntity))
entity_types_in = entries_in text_cmp id_key entity_of

-- the actions that a value describes
abbrev pub actions_in : Json → Option (List (Text × WrittenAction))
actions_in = entries_in text_cmp Some action_of

-- the definition over its parts
abbrev pub definition_by : Option (List (Text × Expr)) → Option (List (Text × WrittenEntity))
    → Option (List (Text × WrittenAction)) → Option WrittenDefinition
definition_by common_types entity_types actions =
    option_and_then
    (λ c. option_and_then
    (λ e. option_map (λ a. record {
      common_types = c;
      entity_types = e;
      actions = a;
    }) actions) entity_types) common_types

-- the definition that a value describes
abbrev pub definition_of : Json → Option WrittenDefinition
definition_of j =
    if_so (has_only (known_fields OfDefinition j) j)
    (if_so (annotations_fit (get (codes "annotations") j))
    (definition_by (field_or [] common_types_in (get (codes "commonTypes") j))
    (option_and_then entity_types_in (get (codes "entityTypes") j))
    (option_and_then actions_in (get (codes "actions") j))))

-- the fragment that a value describes
abbrev pub fragment_of : Json → Option WrittenFragment
fragment_of = entries_in (option_cmp name_cmp) namespace_key definition_of
