use Rattle.std.specs.Prelude.{◌≡◌, ◌≢◌, ◌⊎◌, [], map, Some, Contains}
use Rattle.cedar_ast.specs.Words.{Chain, IsActionType, PlainName, PlainUid, extension_types}
use Rattle.cedar_ast.specs.declared.extension.Extensions.{Extensions}
use Rattle.cedar_schema_semantics.specs.EntityTypeKind.{EntityTypeKind, standard_kind, enumerated_kind, external_kind}
use Rattle.cedar_schema_semantics.specs.Fault.{Fault, undeclared_entity_types, type_shadowing, action_shadowing, action_cycle, action_entity_type, unknown_extension_type, external_below_enumerated, enumerated_below, undeclared_action_descendant, invalid_action_type}
use Rattle.cedar_schema_semantics.specs.PlainSchema.{SchemaEntityType, ActionKind, defined_action, external_action, SchemaAction, PlainSchema}
use Rattle.cedar_schema_semantics.specs.Shadowing.{ShadowsType, ShadowsAction}
use Rattle.cedar_schema_semantics.specs.TypeMentions.{MentionsEntity, MentionsExtensionType}
use Rattle.cedar_type_rules.specs.Ty.{Ty, record_of}

-- the type is one that a kind of entity type gives: that of the attributes as a record, or that of
-- the tags
abbrev pub IsTypeOfKind : EntityTypeKind → Ty → Type 0
IsTypeOfKind (standard_kind fields openness tags) ty =
    (ty ≡ record_of fields openness) ⊎ (tags ≡ Some ty)
IsTypeOfKind _ ty = ⊥

-- the type is the context of a kind of action
abbrev pub IsContextOf : ActionKind → Ty → Type 0
IsContextOf (defined_action principals resources context) ty = context ≡ ty
IsContextOf external_action ty = ⊥

-- the entity type is a principal or a resource of a kind of action
abbrev pub IsPrincipalOrResourceOf : ActionKind → PlainName → Type 0
IsPrincipalOrResourceOf (defined_action principals resources context) name =
    Contains principals name
    ⊎ Contains resources name
IsPrincipalOrResourceOf external_action name = ⊥

-- the type is that of attributes, tags or a context in the schema
abbrev pub IsTypeIn : PlainSchema → Ty → Type 0
IsTypeIn schema ty =
    ((it : PlainName × SchemaEntityType) × Contains schema.entity_types it
    × IsTypeOfKind it.1.kind ty)
    ⊎ ((it : PlainUid × SchemaAction) × Contains schema.actions it × IsContextOf it.1.kind ty)

-- the schema has an entity type of the name
abbrev pub HasEntityType : PlainSchema → PlainName → Type 0
HasEntityType schema name = Contains (map (λ it. it.0) schema.entity_types) name

-- the schema has an action of the uid
abbrev pub HasAction : PlainSchema → PlainUid → Type 0
HasAction schema uid = Contains (map (λ it. it.0) schema.actions) uid

-- the schema lists the one entity type among the descendants of the other
abbrev pub ListsDescendant : PlainSchema → PlainName → PlainName → Type 0
ListsDescendant schema lower upper =
    (it : SchemaEntityType) × Contains schema.entity_types (upper, it)
    × Contains it.descendants lower

-- the schema lists the one action among the descendants of the other
abbrev pub ListsDescendantAction : PlainSchema → PlainUid → PlainUid → Type 0
ListsDescendantAction schema lower upper = (it : SchemaAction) × Contains schema.actions (upper, it)
    × Contains it.descendants lower

-- the entity type of the name is of the kind
abbrev pub IsOfKind : PlainSchema → PlainName → (EntityTypeKind → Type 0) → Type 0
IsOfKind schema name P = (it : SchemaEntityType) × Contains schema.entity_types (name, it)
    × P it.kind

-- the kind is that of enumerated entity types
abbrev pub IsEnumerated : EntityTypeKind → Type 0
IsEnumerated (enumerated_kind choices) = Unit {0}
IsEnumerated _ = ⊥

-- the kind is that of external entity types
abbrev pub IsExternal : EntityTypeKind → Type 0
IsExternal external_kind = Unit {0}
IsExternal _ = ⊥

-- the name is that of an entity type of the schema, or the type of one of its actions
abbrev pub IsKnownType : PlainSchema → PlainName → Type 0
IsKnownType schema name = HasEntityType schema name
    ⊎ ((uid : PlainUid) × HasAction schema uid × (uid.ty ≡ name))

-- the entity type stands in a type of the schema and isn't known, or it is a descendant, a
-- principal or a resource and isn't an entity type of the schema
abbrev pub IsUnknownType : PlainSchema → PlainName → Type 0
IsUnknownType schema name =
    ((ty : Ty) × IsTypeIn schema ty × MentionsEntity ty name × ¬ IsKnownType schema name)
    ⊎ (((upper : PlainName) × ListsDescendant schema name upper × ¬ HasEntityType schema name)
    ⊎ ((it : PlainUid × SchemaAction) × Contains schema.actions it
    × IsPrincipalOrResourceOf it.1.kind name
    × ¬ HasEntityType schema name))

-- the refusal names a fault of the schema, over the extensions that are handed in, where a
-- descendant is what one or more steps of the listed ones reach
abbrev pub IsSchemaFault : Extensions → PlainSchema → Fault → Type 0
-- each of these is named where a known one has to stand (the Cedar reference on schemas, as all
-- that no RFC is named for)
IsSchemaFault extensions schema (undeclared_entity_types names) =
    (names ≢ []) × ((name : PlainName) → Contains names name → IsUnknownType schema name)
-- an extension type stands in a type and wasn't handed in
IsSchemaFault extensions schema (unknown_extension_type name) =
    (ty : Ty) × IsTypeIn schema ty × MentionsExtensionType ty name
    × ¬ Contains (extension_types extensions) name
-- an entity type has the base name of actions' types, or an action hasn't
IsSchemaFault extensions schema (action_entity_type name) =
    HasEntityType schema name × IsActionType name
IsSchemaFault extensions schema (invalid_action_type uid) =
    HasAction schema uid × ¬ IsActionType uid.ty
-- an action is on a cycle
IsSchemaFault extensions schema (action_cycle uid) = Chain (ListsDescendantAction schema) uid uid
-- an external entity type is below an enumerated one, or an enumerated one below any (RFC 53 and
-- RFC 116)
IsSchemaFault extensions schema (external_below_enumerated lower upper) =
    IsOfKind schema lower IsExternal × IsOfKind schema upper IsEnumerated
    × Chain (ListsDescendant schema) lower upper
IsSchemaFault extensions schema (enumerated_below lower upper) =
    IsOfKind schema lower IsEnumerated × Chain (ListsDescendant schema) lower upper
-- a descendant of an action is no action of the schema
IsSchemaFault extensions schema (undeclared_action_descendant uid) =
    (upper : PlainUid) × ListsDescendantAction schema uid upper × ¬ HasAction schema uid
-- an entity type or an action is shadowed (RFC 70)
IsSchemaFault extensions schema (type_shadowing plain qualified) =
    HasEntityType schema plain × HasEntityType schema qualified × ShadowsType plain qualified
IsSchemaFault extensions schema (action_shadowing plain qualified) =
    HasAction schema plain × HasAction schema qualified × ShadowsAction plain qualified
-- no other refusal is one of a schema
IsSchemaFault extensions schema _ = ⊥

-- the schema is valid: nothing in it is at fault
abbrev pub IsValidSchema : Extensions → PlainSchema → Type 0
IsValidSchema extensions schema = (fault : Fault) → ¬ IsSchemaFault extensions schema fault
