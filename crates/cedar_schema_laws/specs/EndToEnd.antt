use Rattle.std.specs.List.Sorted.{IsPermutation, IsStrictlySortedBy}
use Rattle.std.specs.Prelude.{◌≡◌, ◌⊎◌, ◌↔◌, Result, IfOk, IfErr, OnOk, Option, Some, Contains, List, map}
use Rattle.cedar_ast.specs.Words.{Chain, PlainName, PlainUid, Tree, TypeNamesFit, extension_types, name_cmp, no_entry, reserved_word, uid_cmp}
use Rattle.cedar_ast.specs.declared.extension.Extensions.{Extensions}
use Rattle.cedar_schema_ast.specs.Words.{Expr, Reference, requests, standard}
use Rattle.cedar_schema_semantics.specs.Words.{ActionEntity, Admits, AreDeclaredEnvironments, Bag, ClosesSchema, Defined, ElaboratesTo, Fault, HasAction, HasEntityType, IsContextOf, IsConvertedBack, IsDeclaredSchema, IsDescendant, IsDescendantAction, IsFault, IsIllFormed, IsNameWrittenIn, IsRecordType, IsTypeIn, IsValidSchema, IsWritable, ListsDescendant, ListsDescendantAction, MentionsEntity, PlainSchema, PositionsFit, ResolvesBag, ResolvesTo, SameBag, SameSchema, SchemaAction, SchemaEntityType, declared_entities, defined_action, defined_actions, defined_names, definitions, full_name, names_of, out_of_memory, schema_names, standard_kind, type_written}
use Rattle.cedar_type_rules.specs.Words.{Fields, Has, IsClean, Ty, record_of}
use Rattle.cedar_type_rules.specs.declared.open_tag.OpenTag.{OpenTag}

-- the type has just the values that the expression admits
abbrev pub AdmitsTheSame : Bag → Extensions → Expr → Ty → Type 0
AdmitsTheSame bag extensions expr ty = (value : Tree) → Has extensions value ty
    ↔ Admits (definitions bag extensions) extensions value expr

-- the attributes of each standard entity type, its tags, and the context of each action have just
-- the values that what is declared of them admits
pub record TypesAdmitTheDeclared (bag : Bag) (extensions : Extensions)
    (schema : PlainSchema) : Type 0 where
  pub attributes : (name : PlainName) (parents : List Reference) (shape : Expr) (tags : Option Expr)
      (it : SchemaEntityType) (fields : Fields) (openness : OpenTag) (tag_type : Option Ty)
      → Contains (declared_entities bag) (name, standard parents shape tags)
      → Contains schema.entity_types (name, it)
      → it.kind ≡ standard_kind fields openness tag_type
      → AdmitsTheSame bag extensions shape (record_of fields openness)
  pub tags : (name : PlainName) (parents : List Reference) (shape tags : Expr)
      (it : SchemaEntityType) (fields : Fields)
      (openness : OpenTag) (tag_type : Ty)
      → Contains (declared_entities bag) (name, standard parents shape (Some tags))
      → Contains schema.entity_types (name, it)
      → it.kind ≡ standard_kind fields openness (Some tag_type)
      → AdmitsTheSame bag extensions tags tag_type
  pub contexts : (uid : PlainUid) (principals resources : List Reference) (context : Expr)
      (it : SchemaAction)
      (principal_types resource_types : List PlainName) (ty : Ty)
      → Contains (defined_actions bag) (uid, requests principals resources context)
      → Contains schema.actions (uid, it)
      → it.kind ≡ defined_action principal_types resource_types ty
      → AdmitsTheSame bag extensions context ty

-- what a builder answers for a bag is right, unless memory runs out: a refusal names a fault of
-- the bag; otherwise nothing is at fault, the schema is the declared one and the only one, its
-- types have just the declared values, and its environments are the declared ones
pub record IsBuiltFrom (bag : Bag) (extensions : Extensions)
    (answer : Result PlainSchema Fault) : Type 0 where
  pub fault : IfErr answer (λ fault. (fault ≡ out_of_memory) ⊎ IsFault bag extensions fault)
  pub well_formed : OnOk answer (¬ IsIllFormed bag extensions)
  pub declared : IfOk answer (IsDeclaredSchema bag extensions)
  pub only : IfOk answer (λ schema.
      (other : PlainSchema) → IsDeclaredSchema bag extensions other → SameSchema other schema)
  pub admits : IfOk answer (TypesAdmitTheDeclared bag extensions)
  pub environments : IfOk answer (AreDeclaredEnvironments bag extensions)

-- a law: a bag that isn't ill-formed declares at most one schema
abbrev pub BagsDeclareAtMostOneSchema : Type 0
BagsDeclareAtMostOneSchema = (bag : Bag) (extensions : Extensions)
    → TypeNamesFit (extension_types extensions)
    → ¬ IsIllFormed bag extensions
    → (schema other : PlainSchema) → IsDeclaredSchema bag extensions schema
    → IsDeclaredSchema bag extensions other
    → SameSchema schema other

-- a law: the types of the schema that a bag declares which isn't ill-formed have just the declared
-- values
abbrev pub DeclaredTypesHaveTheDeclaredValues : Type 0
DeclaredTypesHaveTheDeclaredValues = (bag : Bag) (extensions : Extensions)
    → TypeNamesFit (extension_types extensions)
    → ¬ IsIllFormed bag extensions
    → (schema : PlainSchema) → IsDeclaredSchema bag extensions schema
    → TypesAdmitTheDeclared bag extensions schema

-- a law: a bag that isn't ill-formed declares a schema
abbrev pub BagsDeclareASchema : Type 0
BagsDeclareASchema = (bag : Bag) (extensions : Extensions) → ¬ IsIllFormed bag extensions
    → (schema : PlainSchema) × IsDeclaredSchema bag extensions schema

-- the entity is that of an action that the bag defines: without attributes and tags, and just below
-- the actions whose descendant it is
pub record IsEntityOfDefinition (bag : Bag) (it : ActionEntity) : Type 0 where
  pub defined : Contains (map (λ it. it.0) (defined_actions bag)) it.uid
  pub attributes : it.attributes ≡ no_entry
  pub tags : it.tags ≡ no_entry
  pub ancestors : (upper : PlainUid)
      → Contains it.ancestors upper ↔ IsDescendantAction bag it.uid upper

-- a law: the entities of actions of the schema that a bag declares are those of the actions that
-- the bag defines
abbrev pub ActionEntitiesAreDeclared : Type 0
ActionEntitiesAreDeclared = (bag : Bag) (extensions : Extensions) (schema : PlainSchema)
    → IsDeclaredSchema bag extensions schema
    → ((it : ActionEntity) → Contains schema.action_entities it → IsEntityOfDefinition bag it)
    × ((uid : PlainUid) → Contains (map (λ it. it.0) (defined_actions bag)) uid
    → Contains (map (λ it. it.uid) schema.action_entities) uid)

-- a law: a bag in another order is the same bag
abbrev pub OrderIsNothing : Type 0
OrderIsNothing = (bag other : Bag) → IsPermutation bag other → SameBag bag other

-- a law: where each reference of a bag is resolved, over the names that the bag defines, it has the
-- same faults as before and declares the same schemas
abbrev pub ResolutionChangesNothing : Type 0
ResolutionChangesNothing = (bag resolved : Bag) (extensions : Extensions)
    → ResolvesBag (defined_names bag extensions) bag resolved
    → ((fault : Fault) → IsFault bag extensions fault ↔ IsFault resolved extensions fault)
    × ((schema : PlainSchema) → IsDeclaredSchema bag extensions schema
    ↔ IsDeclaredSchema resolved extensions schema)

-- a law: bags that are the same are ill-formed both or neither, and declare the same schemas
abbrev pub SameBagsDeclareTheSame : Type 0
SameBagsDeclareTheSame = (bag other : Bag) (extensions : Extensions) → SameBag bag other
    → (IsIllFormed bag extensions ↔ IsIllFormed other extensions)
    × ((schema : PlainSchema) → IsDeclaredSchema bag extensions schema
    ↔ IsDeclaredSchema other extensions schema)

-- a law: the schema that a bag declares is valid, where the bag isn't ill-formed and its references
-- fit their positions
abbrev pub DeclaredSchemasAreValid : Type 0
DeclaredSchemasAreValid = (bag : Bag) (extensions : Extensions) (schema : PlainSchema)
    → TypeNamesFit (extension_types extensions) → PositionsFit bag
    → ¬ IsIllFormed bag extensions → IsDeclaredSchema bag extensions schema
    → IsValidSchema extensions schema

-- a law: the any-set stands in no type of the schema that a bag declares
abbrev pub DeclaredTypesAreClean : Type 0
DeclaredTypesAreClean = (bag : Bag) (extensions : Extensions) (schema : PlainSchema)
    → IsDeclaredSchema bag extensions schema
    → (ty : Ty) → IsTypeIn schema ty → IsClean ty

-- a law: closing the schema that a bag declares gives that schema
abbrev pub DeclaredSchemasAreClosed : Type 0
DeclaredSchemasAreClosed = (bag : Bag) (extensions : Extensions) (schema : PlainSchema)
    → IsDeclaredSchema bag extensions schema → ClosesSchema schema schema

-- a law: the environments of the schema that a bag declares which isn't ill-formed are the declared
-- ones
abbrev pub EnvironmentsAreDeclared : Type 0
EnvironmentsAreDeclared = (bag : Bag) (extensions : Extensions)
    → TypeNamesFit (extension_types extensions)
    → ¬ IsIllFormed bag extensions → (schema : PlainSchema) → IsDeclaredSchema bag extensions schema
    → AreDeclaredEnvironments bag extensions schema

-- the name of an entity type that is written in full in the namespace names it again: it resolves
-- to itself, and the entity type is defined
pub record IsNamedAgain (defined : Defined) (namespace : Option PlainName)
    (name : PlainName) : Type 0 where
  pub resolves : ResolvesTo (names_of defined) (full_name namespace name) name
  pub there : Contains (names_of defined).entities name

-- a law: a type that is written in a namespace is what is elaborated of the expression, over
-- whatever is defined, where each name in it names its entity type again
abbrev pub ConvertedTypesElaborate : Type 0
ConvertedTypesElaborate = (defined : Defined) (namespace : Option PlainName) (ty : Ty) (expr : Expr)
    → type_written namespace ty ≡ Some expr
    → ((name : PlainName) → MentionsEntity ty name → IsNamedAgain defined namespace name)
    → ElaboratesTo defined expr ty

-- a law: in the bag of a schema that is writable and converted back, each name of an entity type
-- that is written names it again, where the schema has it, as an entity type or as the type of an
-- action
abbrev pub ConvertedNamesAreNamedAgain : Type 0
ConvertedNamesAreNamedAgain = (schema : PlainSchema) (bag : Bag) (extensions : Extensions)
    → IsWritable schema → IsConvertedBack schema bag
    → (namespace : Option PlainName) (name : PlainName) → IsNameWrittenIn schema namespace name
    → Contains (schema_names schema).entities name
    → IsNamedAgain (definitions bag extensions) namespace name

-- the entity types and the actions of the schema stand in the order of their names
pub record IsInOrder (schema : PlainSchema) : Type 0 where
  pub entity_types : IsStrictlySortedBy name_cmp (map (λ it. it.0) schema.entity_types)
  pub actions : IsStrictlySortedBy uid_cmp (map (λ it. it.0) schema.actions)

-- each entity type and each action of the schema stands under its own name
pub record StandsUnderItsNames (schema : PlainSchema) : Type 0 where
  pub entity_types : (it : PlainName × SchemaEntityType) → Contains schema.entity_types it
      → it.1.name ≡ it.0
  pub actions : (it : PlainUid × SchemaAction) → Contains schema.actions it → it.1.uid ≡ it.0

-- no entity type of the schema stands in a reserved namespace, and no action
pub record HasNoReservedName (schema : PlainSchema) : Type 0 where
  pub entity_types : (name : PlainName) → HasEntityType schema name
      → ¬ Contains name.path reserved_word
  pub actions : (uid : PlainUid) → HasAction schema uid → ¬ Contains uid.ty.path reserved_word

-- the context of each action of the schema is a record
abbrev pub HasRecordContexts : PlainSchema → Type 0
HasRecordContexts schema =
    (it : PlainUid × SchemaAction) (ty : Ty) → Contains schema.actions it → IsContextOf it.1.kind ty
    → IsRecordType ty

-- a law: the bag of a valid schema that is writable and converted back isn't ill-formed, where its
-- entity types and actions are in order, none of them is reserved, and its contexts are records
abbrev pub ConvertedSchemasAreWellFormed : Type 0
ConvertedSchemasAreWellFormed = (schema : PlainSchema) (bag : Bag) (extensions : Extensions)
    → TypeNamesFit (extension_types extensions)
    → IsInOrder schema → HasNoReservedName schema → HasRecordContexts schema → IsWritable schema
    → IsValidSchema extensions schema → IsConvertedBack schema bag → ¬ IsIllFormed bag extensions

-- a law: a valid schema that is writable and converted back, with its entity types and actions in
-- order and under their own names, is declared by its bag with its descendants closed
abbrev pub ConvertedSchemasAreDeclared : Type 0
ConvertedSchemasAreDeclared = (schema closed : PlainSchema) (bag : Bag) (extensions : Extensions)
    → IsInOrder schema
    → StandsUnderItsNames schema → IsWritable schema → IsValidSchema extensions schema
    → IsConvertedBack schema bag
    → ClosesSchema schema closed → IsDeclaredSchema bag extensions closed

-- a law: in the bag of a schema that is writable and converted back the descendants are those that
-- one or more steps of the listed ones reach
abbrev pub ConvertedDescendantsAreReached : Type 0
ConvertedDescendantsAreReached = (schema : PlainSchema) (bag : Bag) (extensions : Extensions)
    → IsWritable schema
    → IsConvertedBack schema bag
    → ((lower upper : PlainName) → IsDescendant bag extensions lower upper
    ↔ Chain (ListsDescendant schema) lower upper)
    × ((lower upper : PlainUid) → IsDescendantAction bag lower upper
    ↔ Chain (ListsDescendantAction schema) lower upper)

-- a law: the schema that a bag declares which isn't ill-formed comes back, where the references of
-- the bag fit their positions and the schema is writable: the bag of it converted back isn't
-- ill-formed either, and declares it
abbrev pub DeclaredSchemasComeBack : Type 0
DeclaredSchemasComeBack = (bag again : Bag) (extensions : Extensions) (schema : PlainSchema)
    → TypeNamesFit (extension_types extensions) → PositionsFit bag → ¬ IsIllFormed bag extensions
    → IsDeclaredSchema bag extensions schema → IsWritable schema → IsConvertedBack schema again
    → (¬ IsIllFormed again extensions) × IsDeclaredSchema again extensions schema
