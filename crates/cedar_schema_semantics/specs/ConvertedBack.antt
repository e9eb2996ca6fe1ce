-- A schema converted back as a bag of declarations, with each name in full.
use Rattle.std.specs.List.Sorted.{IsPermutation}
use Rattle.std.specs.Option.{option_map, option_zip}
use Rattle.std.specs.Prelude.{◌≡◌, ◌⊎◌, ◌↔◌, ◌++◌, false, List, [], ◌∷◌, map, Option, Some, None, IsSome, Contains}
use Rattle.cedar_ast.specs.Words.{HoldsPairwise, IsActionType, PlainName, PlainUid, Text}
use Rattle.cedar_schema_ast.specs.Words.{ActionReference, Declaration, EntityBody, Expr, Members, Reference, Requests, action, elsewhere, entity_type, enumerated, extension_expr, external, long_expr, member, named, no_member, path_within, record_expr, reference_to, requests, set_expr, standard, text_expr, truth_expr}
use Rattle.cedar_schema_ast.specs.declared.json_schema.reference_type.ReferenceType.TheVariants.{Entity}
use Rattle.cedar_schema_semantics.specs.Bag.{Bag, declared_name, declared_uid}
use Rattle.cedar_schema_semantics.specs.EntityTypeKind.{EntityTypeKind, standard_kind, enumerated_kind, external_kind}
use Rattle.cedar_schema_semantics.specs.Names.{Names, ResolvesTo, NamesAction}
use Rattle.cedar_schema_semantics.specs.PlainSchema.{PlainSchema, SchemaEntityType, SchemaAction, ActionKind, defined_action, external_action}
use Rattle.cedar_schema_semantics.specs.TypeMentions.{MentionsEntity}
use Rattle.cedar_schema_semantics.specs.ValidSchema.{IsTypeOfKind, IsContextOf, IsPrincipalOrResourceOf, HasEntityType, HasAction, ListsDescendant, ListsDescendantAction, IsOfKind, IsEnumerated}
use Rattle.cedar_type_rules.specs.Words.{Fields, Ty, any_entity, any_set, end, extension_of, field, long, never, only_name, record_of, set_of, text, truth, union_of}
use Rattle.cedar_type_rules.specs.declared.bool_type.BoolType.{BoolType}
use Rattle.cedar_type_rules.specs.declared.bool_type.BoolType.TheVariants.{AnyBool, True, False}
use Rattle.cedar_type_rules.specs.declared.open_tag.OpenTag.{OpenTag}
use Rattle.cedar_type_rules.specs.declared.open_tag.OpenTag.TheVariants.{OpenAttributes, ClosedAttributes}

-- the expression of what is known of a truth value; only all of them together have one
abbrev pub truth_written : BoolType → Option Expr
truth_written AnyBool = Some truth_expr
truth_written True = None
truth_written False = None

-- the expression of a record type whose attributes are written; an open one has none
abbrev pub record_written : OpenTag → Option Members → Option Expr
record_written ClosedAttributes members = option_map (λ written. record_expr written false) members
record_written OpenAttributes members = None

-- the expression of an extension type of this base name and path: the base name, where there is no
-- path
abbrev pub extension_written : Text → List Text → Option Expr
extension_written base [] = Some (extension_expr base)
extension_written base (part ∷ path) = None

-- where this namespace is written in
module _ (namespace : Option PlainName) where
  -- the name of an entity type in full, as it is written in the namespace
  abbrev pub full_name : PlainName → Reference
  full_name name = reference_to namespace Entity name

  -- the uid of an action with the name of its type in full, as it is written in the namespace
  abbrev pub full_uid : PlainUid → ActionReference
  full_uid uid = record { id = uid.eid; ty = full_name uid.ty }

  abbrev mutual
    -- the expression that is elaborated as the type, with each name in full; a type that isn't
    -- elaborated from any has none
    pub type_written : Ty → Option Expr
    type_written never = None
    type_written (truth known) = truth_written known
    type_written long = Some long_expr
    type_written text = Some text_expr
    type_written any_entity = None
    type_written (union_of names) = option_map (λ name. named (full_name name)) (only_name names)
    type_written any_set = None
    type_written (set_of ty) = option_map set_expr (type_written ty)
    type_written (record_of fields openness) = record_written openness (fields_written fields)
    type_written (extension_of name) = extension_written name.base name.path

    -- the attributes with the expressions of their types, under the same names and with the same
    -- flags, if each has one
    pub fields_written : Fields → Option Members
    fields_written end = Some no_member
    fields_written (field name required ty rest) =
        option_map (λ both. member name required both.0 both.1)
        (option_zip (type_written ty) (fields_written rest))

  -- the type of tags is written as the expression, or there is none
  abbrev pub AreTagsWritten : Option Ty → Option Expr → Type 0
  AreTagsWritten (Some ty) (Some expr) = type_written ty ≡ Some expr
  AreTagsWritten None None = Unit {0}
  AreTagsWritten _ _ = ⊥

  -- the references are just those to the names of which a fact holds, in full
  abbrev pub AreFullNames : (PlainName → Type 0) → List Reference → Type 0
  AreFullNames P references =
      (reference : Reference) → Contains references reference
      ↔ ((name : PlainName) × P name × (full_name name ≡ reference))

  -- the references are just those to the actions of whose uids a fact holds, in full
  abbrev pub AreFullUids : (PlainUid → Type 0) → List ActionReference → Type 0
  AreFullUids P references =
      (reference : ActionReference) → Contains references reference
      ↔ ((uid : PlainUid) × P uid × (full_uid uid ≡ reference))

  -- an entity type of the kind is declared so, with these parents: with its attributes and the type
  -- of its tags written, with the same choices, or as external
  abbrev pub IsKindWritten : (PlainName → Type 0) → EntityTypeKind → EntityBody → Type 0
  IsKindWritten IsAbove (standard_kind fields openness tags) (standard parents shape written) =
      AreFullNames IsAbove parents × (type_written (record_of fields openness) ≡ Some shape)
      × AreTagsWritten tags written
  IsKindWritten IsAbove (enumerated_kind choices) (enumerated ids) = ids ≡ choices
  IsKindWritten IsAbove external_kind (external parents) = AreFullNames IsAbove parents
  IsKindWritten IsAbove _ _ = ⊥

  -- an action of the kind is declared for just these requests: with the names of its principals and
  -- resources and with its context written, or as external
  abbrev pub AreRequestsWritten : ActionKind → Requests → Type 0
  AreRequestsWritten (defined_action principals resources context)
      (requests principal_types resource_types expr) =
      AreFullNames (λ name. Contains principals name) principal_types
      × AreFullNames (λ name. Contains resources name) resource_types
      × (type_written context ≡ Some expr)
  AreRequestsWritten external_action elsewhere = Unit {0}
  AreRequestsWritten _ _ = ⊥

-- the declaration is that of the entity type: in the namespace and with the id of its name, of its
-- kind, and with all those as parents that have it among their descendants
pub record IsTypeDeclaration (schema : PlainSchema) (it : PlainName × SchemaEntityType)
    (declaration : Declaration) : Type 0 where
  pub name : declared_name declaration ≡ it.0
  pub body : EntityBody
  pub declares : declaration.body ≡ entity_type body
  pub kind : IsKindWritten declaration.namespace (λ upper.
      ListsDescendant schema it.0 upper) it.1.kind body

-- the declaration is that of the action: in the namespace and with the id of its uid, without
-- attributes, for its requests, and with all those as parents that have it among their descendants
pub record IsActionDeclaration (schema : PlainSchema) (it : PlainUid × SchemaAction)
    (declaration : Declaration) : Type 0 where
  pub uid : declared_uid declaration ≡ it.0
  pub parents : List ActionReference
  pub applies_to : Requests
  pub declares : declaration.body
      ≡ action (record { has_attributes = false; parents = parents; applies_to = applies_to })
  pub above : AreFullUids declaration.namespace (λ upper.
      ListsDescendantAction schema it.0 upper) parents
  pub kind : AreRequestsWritten declaration.namespace it.1.kind applies_to

-- the bag is the schema converted back: one declaration for each entity type and one for each
-- action, in whatever order
pub record IsConvertedBack (schema : PlainSchema) (bag : Bag) : Type 0 where
  pub entity_types : List Declaration
  pub actions : List Declaration
  pub each_entity_type : HoldsPairwise (IsTypeDeclaration schema) schema.entity_types entity_types
  pub each_action : HoldsPairwise (IsActionDeclaration schema) schema.actions actions
  pub in_some_order : IsPermutation (entity_types ++ actions) bag

-- a name that stands in the namespace has this path
abbrev pub IsPathOf : Option PlainName → List Text → Type 0
IsPathOf namespace path = path_within namespace ≡ path

-- the type is written in the namespace: for the attributes or tags of an entity type of it, or for
-- the context of an action
abbrev pub IsTypeWrittenIn : PlainSchema → Option PlainName → Ty → Type 0
IsTypeWrittenIn schema namespace ty =
    ((it : PlainName × SchemaEntityType) × Contains schema.entity_types it
    × IsPathOf namespace it.0.path × IsTypeOfKind it.1.kind ty)
    ⊎ ((it : PlainUid × SchemaAction) × Contains schema.actions it × IsPathOf namespace it.0.ty.path
    × IsContextOf it.1.kind ty)

-- the name of an entity type is written in the namespace: in a type, as that of a parent of an
-- entity type of it, or as that of a principal or resource of an action of it
abbrev pub IsNameWrittenIn : PlainSchema → Option PlainName → PlainName → Type 0
IsNameWrittenIn schema namespace name =
    ((ty : Ty) × IsTypeWrittenIn schema namespace ty × MentionsEntity ty name)
    ⊎ (((lower : PlainName) × IsPathOf namespace lower.path × ListsDescendant schema lower name)
    ⊎ ((it : PlainUid × SchemaAction) × Contains schema.actions it × IsPathOf namespace it.0.ty.path
    × IsPrincipalOrResourceOf it.1.kind name))

-- the uid is written in the namespace, as that of a parent of an action of it
abbrev pub IsUidWrittenIn : PlainSchema → Option PlainName → PlainUid → Type 0
IsUidWrittenIn schema namespace uid =
    (lower : PlainUid) × IsPathOf namespace lower.ty.path × ListsDescendantAction schema lower uid

-- the names that the schema defines, once it is converted back: its entity types, the types of its
-- actions, and its actions
abbrev pub schema_names : PlainSchema → Names
schema_names schema = record {
  common = [];
  entities = map (λ it. it.0) schema.entity_types ++ map (λ it. it.0.ty) schema.actions;
  actions = map (λ it. it.0) schema.actions;
}

-- the name, written in full in the namespace, names no other entity type there
abbrev pub NamesNoOther : Names → Option PlainName → PlainName → Type 0
NamesNoOther names namespace name = (other : PlainName)
    → ResolvesTo names (full_name namespace name) other → other ≡ name

-- the uid, written in full in the namespace, names no other action there
abbrev pub NamesNoOtherAction : Names → Option PlainName → PlainUid → Type 0
NamesNoOtherAction names namespace uid =
    (other : PlainUid) → NamesAction names.actions (full_uid namespace uid) other → other ≡ uid

-- the schema can be converted back: its types have expressions, so no entity type is open; no name
-- that is written names another entity type or action; the uids of actions are such; and each
-- descendant is in the schema and isn't enumerated
pub record IsWritable (schema : PlainSchema) : Type 0 where
  pub types : (namespace : Option PlainName) (ty : Ty) → IsTypeWrittenIn schema namespace ty
      → IsSome (type_written namespace ty)
  pub names : (namespace : Option PlainName) (name : PlainName)
      → IsNameWrittenIn schema namespace name
      → NamesNoOther (schema_names schema) namespace name
  pub uids : (namespace : Option PlainName) (uid : PlainUid) → IsUidWrittenIn schema namespace uid
      → NamesNoOtherAction (schema_names schema) namespace uid
  pub action_types : (uid : PlainUid) → HasAction schema uid → IsActionType uid.ty
  pub entity_types_below : (lower upper : PlainName) → ListsDescendant schema lower upper
      → HasEntityType schema lower
  pub none_enumerated : (lower upper : PlainName) → ListsDescendant schema lower upper
      → ¬ IsOfKind schema lower IsEnumerated
  pub actions_below : (lower upper : PlainUid) → ListsDescendantAction schema lower upper
      → HasAction schema lower
