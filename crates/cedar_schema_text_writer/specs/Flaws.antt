-- What of a fragment Cedar's schema text can't say: the first such thing, in the order of writing.
use Rattle.std.specs.Option.{option_or, is_some}
use Rattle.std.specs.Prelude.{◌≡◌, ℕ, Bool, true, false, List, [], ◌∷◌, Option, None, Some, Result, Ok, Err, ⊤, cond, nat_lt, option_map, string_bytes}
use Rattle.cedar_ast.specs.Words.{PlainName, Text, plain_name}
use Rattle.cedar_ast.specs.declared.name.Name.{Name}
use Rattle.cedar_schema_ast.specs.Words.{Expr, Members, Reference, common_type_text, extension_expr, long_expr, member, named, no_member, raw_expr, record_expr, set_expr, text_expr, truth_expr, type_nesting, unreserved_id_text}
use Rattle.cedar_schema_ast.specs.declared.json_schema.action_type.ActionType.{ActionType}
use Rattle.cedar_schema_ast.specs.declared.json_schema.action_type.ApplySpec.{ApplySpec}
use Rattle.cedar_schema_ast.specs.declared.json_schema.entity_type.EntityType.{EntityType}
use Rattle.cedar_schema_ast.specs.declared.json_schema.entity_type.EntityTypeKind.{EntityTypeKind}
use Rattle.cedar_schema_ast.specs.declared.json_schema.entity_type.EntityTypeKind.TheVariants as kind
use Rattle.cedar_schema_ast.specs.declared.json_schema.fragment.CommonType.{CommonType}
use Rattle.cedar_schema_ast.specs.declared.json_schema.fragment.Fragment.{Fragment}
use Rattle.cedar_schema_ast.specs.declared.json_schema.fragment.NamespaceDefinition.{NamespaceDefinition}
use Rattle.cedar_schema_ast.specs.declared.json_schema.reference_type.ReferenceType.TheVariants as refers
use Rattle.cedar_schema_ast.specs.declared.json_schema.reference_type.ReferenceType.{ReferenceType}
use Rattle.cedar_schema_ast.specs.declared.json_schema.raw_name.RawName.{RawName}
use Rattle.cedar_schema_ast.specs.declared.json_schema.type_of.Type.{«Type»}
use Rattle.cedar_schema_text_writer.specs.Names.{First, is_among, last_name, may_be_built_in, primitive_words}
use Rattle.cedar_schema_text_writer.specs.declared.fault.Declared.{Declared}
use Rattle.cedar_schema_text_writer.specs.declared.fault.Declared.TheVariants as declared
use Rattle.cedar_schema_text_writer.specs.declared.fault.Part.{Part}
use Rattle.cedar_schema_text_writer.specs.declared.fault.Part.TheVariants as part
use Rattle.cedar_schema_text_writer.specs.declared.fault.Place.{Place}
use Rattle.cedar_schema_text_writer.specs.declared.fault.TextWriteFault.{TextWriteFault}
use Rattle.cedar_schema_text_writer.specs.declared.fault.TextWriteFault.TheVariants as fault
use Rattle.cedar_schema_text_writer.specs.declared.fault.Unwritable.{Unwritable}
use Rattle.cedar_schema_text_writer.specs.declared.fault.Unwritable.TheVariants as what
use Rattle.cedar_schema_text_writer.specs.declared.scope.Standing.{Standing}
use Rattle.cedar_schema_text_writer.specs.declared.scope.Standing.TheVariants as standing
use Rattle.cedar_schema_text_writer.specs.declared.stop.Flaw.{Flaw}
use Rattle.cedar_schema_text_writer.specs.declared.stop.Stop.{Stop}
use Rattle.cedar_schema_text_writer.specs.declared.stop.Stop.TheVariants as stop

-- a thing that can't be written, in a part of a declaration
abbrev pub found : Unwritable → Part → Option Flaw
found it in_part = Some (record { what = it; part = in_part })

-- how many levels a type has at most
abbrev pub most_levels : ℕ
most_levels = 128

-- a reference to a common type would be one to the entity type of the name
abbrev pub common_flaw : Part → Standing → Option Flaw
common_flaw in_part standing.Entity = found what.CommonIsEntity in_part
common_flaw in_part standing.Common = None
common_flaw in_part standing.Undeclared = None

-- a reference to an entity type would be one to the common type of the name, or to a built-in type
-- where nothing is declared
abbrev pub entity_flaw : Part → PlainName → Standing → Option Flaw
entity_flaw in_part name standing.Common = found what.EntityIsCommon in_part
entity_flaw in_part name standing.Entity = None
entity_flaw in_part name standing.Undeclared =
    cond (may_be_built_in name) (found what.EntityIsBuiltIn in_part) None

-- a reference of a kind in a type
abbrev pub kind_flaw : Part → ReferenceType → PlainName → Standing → Option Flaw
kind_flaw in_part refers.Common name it = common_flaw in_part it
kind_flaw in_part refers.Entity name it = entity_flaw in_part name it
kind_flaw in_part refers.CommonOrEntity name it = None

-- an extension type has the name of a primitive type
abbrev pub extension_flaw : Part → Text → Option Flaw
extension_flaw in_part name =
    cond (is_among name primitive_words) (found what.ExtensionOfOwnName in_part) None

-- a record may have attributes that aren't listed
abbrev pub open_flaw : Part → Bool → Option Flaw
open_flaw in_part true = found what.OpenRecord in_part
open_flaw in_part false = None

-- types, where it is known what names would name
module _ (first : First) (in_part : Part) where
  -- a reference in a type
  abbrev pub reference_flaw : Reference → Option Flaw
  reference_flaw it =
      kind_flaw in_part it.kind (last_name it.possibilities) (first it.possibilities)

  abbrev mutual
    -- a type, but for how deep it is nested
    pub form_flaw : Expr → Option Flaw
    form_flaw text_expr = None
    form_flaw long_expr = None
    form_flaw truth_expr = None
    form_flaw (extension_expr name) = extension_flaw in_part name
    form_flaw (named reference) = reference_flaw reference
    form_flaw (set_expr element) = form_flaw element
    form_flaw (record_expr all additional) =
        option_or (open_flaw in_part additional) (members_flaw all)

    -- the types of attributes
    pub members_flaw : Members → Option Flaw
    members_flaw no_member = None
    members_flaw (member name required ty rest) = option_or (form_flaw ty) (members_flaw rest)

-- the type is a record
abbrev pub is_record : Expr → Bool
is_record (record_expr all additional) = true
is_record text_expr = false
is_record long_expr = false
is_record truth_expr = false
is_record (set_expr element) = false
is_record (named reference) = false
is_record (extension_expr name) = false

-- a context that is no record refers to no common type, or would refer to an entity type
abbrev pub context_kind_flaw : ReferenceType → Standing → Option Flaw
context_kind_flaw refers.Common it = None
context_kind_flaw refers.Entity it = found what.ContextIsNoRecord part.Context
context_kind_flaw refers.CommonOrEntity it = common_flaw part.Context it

-- a context that is no record
abbrev pub context_name_flaw : First → Expr → Option Flaw
context_name_flaw first (named reference) =
    context_kind_flaw reference.kind (first reference.possibilities)
context_name_flaw first (record_expr all additional) = found what.ContextIsNoRecord part.Context
context_name_flaw first text_expr = found what.ContextIsNoRecord part.Context
context_name_flaw first long_expr = found what.ContextIsNoRecord part.Context
context_name_flaw first truth_expr = found what.ContextIsNoRecord part.Context
context_name_flaw first (set_expr element) = found what.ContextIsNoRecord part.Context
context_name_flaw first (extension_expr name) = found what.ContextIsNoRecord part.Context

-- declarations that are written in a namespace, where it is known what names would name
module _ (first : First) (namespace : Option PlainName) where
  -- a type: it has more levels than are read, or something in it can't be written
  abbrev pub type_flaw : Part → «Type» RawName → Option Flaw
  type_flaw in_part ty =
      cond (nat_lt most_levels (type_nesting RawName ty)) (found what.TooDeep in_part)
      (form_flaw first in_part (raw_expr namespace ty))

  -- a shape
  abbrev pub shape_flaw : «Type» RawName → Option Flaw
  shape_flaw ty =
      cond (is_record (raw_expr namespace ty)) (type_flaw part.Shape ty)
      (found what.ShapeIsNoRecord part.Shape)

  -- a context
  abbrev pub context_flaw : «Type» RawName → Option Flaw
  context_flaw ty =
      cond (is_record (raw_expr namespace ty)) (type_flaw part.Context ty)
      (context_name_flaw first (raw_expr namespace ty))

  -- the type of the tags, where there is one
  abbrev pub tags_flaw : Option («Type» RawName) → Option Flaw
  tags_flaw None = None
  tags_flaw (Some ty) = type_flaw part.Tags ty

  -- what is declared of an entity type
  abbrev pub entity_kind_flaw : EntityTypeKind RawName → Option Flaw
  entity_kind_flaw (kind.Enum choices) = None
  entity_kind_flaw (kind.Standard it) = option_or (shape_flaw it.shape.0) (tags_flaw it.tags)

  -- the requests that an action is for
  abbrev pub applies_to_flaw : Option (ApplySpec RawName) → Option Flaw
  applies_to_flaw None = None
  applies_to_flaw (Some it) = context_flaw it.context.0

  -- a common type
  abbrev pub common_type_flaw : CommonType RawName → Option Flaw
  common_type_flaw it = type_flaw part.Definition it.ty

  -- an entity type
  abbrev pub entity_type_flaw : EntityType RawName → Option Flaw
  entity_type_flaw it = entity_kind_flaw it.kind

  -- an action
  abbrev pub action_flaw : ActionType RawName → Option Flaw
  action_flaw it =
      cond (is_some it.attributes) (found what.Attributes part.Attributes)
      (applies_to_flaw it.applies_to)

-- a declaration: its kind and its id
pub data Id : Type 0 where
  common_id : Text → Id
  entity_id : Text → Id
  action_id : Text → Id

-- where something can't be written, and what
pub record Found : Type 0 where
  pub namespace : Option PlainName
  pub id : Id
  pub flaw : Flaw

-- a flaw, where there is one, with the declaration that has it
abbrev pub found_in : Option PlainName → Id → Option Flaw → Option Found
found_in namespace id flaw =
    option_map (λ it. record { namespace = namespace; id = id; flaw = it }) flaw

-- the first flaw of some declarations of one kind, with the declaration that has it
abbrev pub declared_flaw : {K T : Type 0} → Option PlainName → (K → Id) → (T → Option Flaw)
    → List (K × T) → Option Found
declared_flaw namespace id flaw [] = None
declared_flaw namespace id flaw (entry ∷ rest) =
    option_or (found_in namespace (id entry.0) (flaw entry.1))
    (declared_flaw namespace id flaw rest)

module _ (first : First) (namespace : Option PlainName) where
  -- the common types of a definition
  abbrev pub common_types_flaw : NamespaceDefinition RawName → Option Found
  common_types_flaw it =
      declared_flaw namespace (λ id. common_id (common_type_text id))
      (common_type_flaw first namespace) it.common_types.entries

  -- its entity types
  abbrev pub entity_types_flaw : NamespaceDefinition RawName → Option Found
  entity_types_flaw it =
      declared_flaw namespace (λ id. entity_id (unreserved_id_text id))
      (entity_type_flaw first namespace) it.entity_types.entries

  -- its actions
  abbrev pub actions_flaw : NamespaceDefinition RawName → Option Found
  actions_flaw it =
      declared_flaw namespace (λ id. action_id (string_bytes id)) (action_flaw first namespace)
      it.actions.entries

  -- the definition of a namespace
  abbrev pub definition_flaw : NamespaceDefinition RawName → Option Found
  definition_flaw it =
      option_or (common_types_flaw it) (option_or (entity_types_flaw it) (actions_flaw it))

module _ (first : First) where
  -- namespaces, in order
  abbrev pub namespaces_flaw : List (Option Name × NamespaceDefinition RawName) → Option Found
  namespaces_flaw [] = None
  namespaces_flaw (entry ∷ rest) =
      option_or (definition_flaw first (option_map plain_name entry.0) entry.1)
      (namespaces_flaw rest)

  -- a fragment
  abbrev pub fragment_flaw : Fragment RawName → Option Found
  fragment_flaw it = namespaces_flaw it.0.entries

  -- the fragment can be written
  abbrev pub IsWritable : Fragment RawName → Type 0
  IsWritable it = fragment_flaw it ≡ None

-- a check that ends finds nothing that can't be written; one that stops has found the first such
-- thing, or is out of memory
abbrev pub Checks : Option Flaw → Result (Unit {0}) Stop → Type 0
Checks flaw (Ok _) = flaw ≡ None
Checks flaw (Err (stop.Flaw it)) = flaw ≡ Some it
Checks flaw (Err stop.Memory) = ⊤

-- the kind and the id of what a refusal says is declared
abbrev pub id_of : Declared → Id
id_of (declared.CommonType id) = common_id (common_type_text id)
id_of (declared.EntityType id) = entity_id (unreserved_id_text id)
id_of (declared.Action id) = action_id (string_bytes id)

-- what a refusal says that can't be written, and where
abbrev pub found_at : Unwritable → Place → Found
found_at it place = record {
  namespace = option_map plain_name place.namespace;
  id = id_of place.declared;
  flaw = record { what = it; part = place.part };
}

-- a refusal names the first flaw of a fragment, or is want of memory
abbrev pub IsFaultOf : Option Found → TextWriteFault → Type 0
IsFaultOf flaw (fault.Unwritable it place) = flaw ≡ Some (found_at it place)
IsFaultOf flaw fault.Memory = ⊤

-- a check of declarations that ends finds nothing that can't be written; one that is refused names
-- the first such thing, or is out of memory
abbrev pub Judges : Option Found → Result (Unit {0}) TextWriteFault → Type 0
Judges flaw (Ok _) = flaw ≡ None
Judges flaw (Err refusal) = IsFaultOf flaw refusal
