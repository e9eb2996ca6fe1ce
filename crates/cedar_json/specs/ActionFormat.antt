-- Which declarations of actions JSON values describe.
use Rattle.std.specs.BTreeMap.{BTreeMap}
use Rattle.std.specs.Prelude.{List, [], Bool, false, map, Option, Some, None, option_map, option_and_then, codes, string_bytes}
use Rattle.std.specs.declared.alloc.Global.{Global}
use Rattle.std.specs.declared.string.String.{String}
use Rattle.cedar_ast.specs.Words.{Text, tree_of, value_expr}
use Rattle.cedar_ast.specs.declared.value.Value.{Value}
use Rattle.cedar_json.specs.EntityFormat.{entity_reference, references_in, shape_in}
use Rattle.cedar_json.specs.Fields.{annotations_fit, flag_or, has_only, known_fields, text_held}
use Rattle.cedar_json.specs.Lists.{all_of, field_or}
use Rattle.cedar_json.specs.TypeFormat.{if_so}
use Rattle.cedar_json.specs.ValueFormat.{Pairs, pairs_of}
use Rattle.cedar_json.specs.declared.fault.Row.TheVariants.{OfAction, OfAppliesTo, OfParent}
use Rattle.cedar_schema_ast.specs.Words.{Expr, Reference, Requests, raw_expr, raw_reference, requests}
use Rattle.cedar_schema_ast.specs.declared.json_schema.action_type.ActionEntityUID.{ActionEntityUID}
use Rattle.cedar_schema_ast.specs.declared.json_schema.action_type.ActionType.{ActionType}
use Rattle.cedar_schema_ast.specs.declared.json_schema.action_type.ApplySpec.{ApplySpec}
use Rattle.cedar_schema_ast.specs.declared.json_schema.raw_name.RawName.{RawName}
use Rattle.cedar_schema_ast.specs.declared.json_schema.reference_type.ReferenceType.TheVariants.{Entity}
use Rattle.json.specs.Find.{as_array, as_object, get}
use Rattle.json.specs.Json.{Json, null, boolean, number, string, array, object}

-- a parent of an action as it was written: its id, and the name of its type, where one is written
abbrev pub WrittenParent : Type 0
WrittenParent = Text × Option Reference

-- what is declared of an action, as it was written
pub record WrittenAction : Type 0 where
  pub attributes : Option Pairs
  pub applies_to : Option Requests
  pub member_of : Option (List WrittenParent)
  pub external : Bool

-- the plain data of a parent
abbrev pub written_parent : ActionEntityUID RawName → WrittenParent
written_parent it = (string_bytes it.id, option_map (raw_reference None Entity) it.ty)

-- the plain data of the requests that an action is for
abbrev pub written_requests : ApplySpec RawName → Requests
written_requests it =
    requests (map (raw_reference None Entity) it.principal_types.items)
    (map (raw_reference None Entity) it.resource_types.items)
    (raw_expr None it.context.0)

-- the plain data of attributes
abbrev pub written_pairs : BTreeMap (String Global) Value → Pairs
written_pairs it = map (λ entry. (string_bytes entry.0, tree_of (value_expr entry.1))) it.entries

-- the plain data of a declaration
abbrev pub written_action : ActionType RawName → WrittenAction
written_action it = record {
  attributes = option_map written_pairs it.attributes;
  applies_to = option_map written_requests it.applies_to;
  member_of = option_map (λ parents. map written_parent parents.items) it.member_of;
  external = it.external;
}

-- what a field holds, where `null` stands for absence
abbrev pub unless_null : Option Json → Option Json
unless_null None = None
unless_null (Some null) = None
unless_null (Some (boolean b)) = Some (boolean b)
unless_null (Some (number s)) = Some (number s)
unless_null (Some (string s)) = Some (string s)
unless_null (Some (array js)) = Some (array js)
unless_null (Some (object ms)) = Some (object ms)

-- what a field describes that may be absent or `null`
abbrev pub optional : {A : Type 0} → (Json → Option A) → Option Json → Option (Option A)
optional describes held = field_or None (λ j. option_map Some (describes j)) (unless_null held)

-- the parent that a value describes over its id and its type
abbrev pub parent_by : Option Text → Option (Option Reference) → Option WrittenParent
parent_by id ty = option_and_then (λ text. option_map (λ reference. (text, reference)) ty) id

-- the parent that a value describes
abbrev pub parent_of : Json → Option WrittenParent
parent_of j =
    if_so (has_only (known_fields OfParent j) j)
    (parent_by (text_held (codes "id") j) (optional entity_reference (get (codes "type") j)))

-- the parents that an array lists
abbrev pub parents_of : Json → Option (List WrittenParent)
parents_of j = option_and_then (all_of parent_of) (as_array j)

-- the requests over principals, resources and context
abbrev pub requests_by : Option (List Reference) → Option (List Reference) → Option Expr
    → Option Requests
requests_by principals resources context =
    option_and_then (λ p. option_and_then (λ r.
    option_map (requests p r) context) resources) principals

-- the requests that a value describes
abbrev pub requests_of : Json → Option Requests
requests_of j =
    if_so (has_only (known_fields OfAppliesTo j) j)
    (requests_by (option_and_then references_in (get (codes "principalTypes") j))
    (option_and_then references_in (get (codes "resourceTypes") j))
    (shape_in (get (codes "context") j)))

-- the attributes that a value describes
abbrev pub pairs_in : Json → Option Pairs
pairs_in j = option_and_then (λ ms. pairs_of ms []) (as_object j)

-- the declaration over its parts
abbrev pub action_by : Option (Option Pairs) → Option (Option Requests)
    → Option (Option (List WrittenParent)) → Option Bool → Option WrittenAction
action_by attributes applies_to member_of external =
    option_and_then
    (λ a. option_and_then
    (λ r. option_and_then
    (λ m. option_map (λ e. record {
      attributes = a;
      applies_to = r;
      member_of = m;
      external = e;
    }) external) member_of) applies_to) attributes

-- the declaration that a value describes
abbrev pub action_of : Json → Option WrittenAction
action_of j =
    if_so (has_only (known_fields OfAction j) j)
    (if_so (annotations_fit (get (codes "annotations") j))
    (action_by (optional pairs_in (get (codes "attributes") j))
    (optional requests_of (get (codes "appliesTo") j))
    (optional parents_of (get (codes "memberOf") j)) (flag_or false (get (codes "external") j))))
