-- What the private steps promise of declarations: those of one uid together, their parents, and
-- what is elaborated.
use Rattle.std.specs.List.{flat_map}
use Rattle.std.specs.Prelude.{Bool, true, false, ◌≡◌, ◌⊎◌, ◌↔◌, ◌∷◌, [], List, Contains, map}
use Rattle.cedar_ast.specs.Words.{PlainName, PlainUid, type_name}
use Rattle.cedar_ast.specs.declared.entity_type.EntityType.{EntityType}
use Rattle.cedar_elaboration.specs.Words.{CoversExtensions, ElaboratesAs, IsElaborationFault, ResolvesEach}
use Rattle.cedar_elaboration.specs.declared.type_scope.TypeScope.{TypeScope}
use Rattle.cedar_name_resolution.specs.Words.{IsUnresolvable, held_names}
use Rattle.cedar_schema_ast.specs.Words.{ActionBody, ActionReference, Expr, Reference, Requests, elsewhere, requests}
use Rattle.cedar_schema_ast.specs.declared.json_schema.reference_type.ReferenceType.TheVariants.{Entity}
use Rattle.cedar_schema_elements.specs.declared.entity_type.ValidatorEntityType.{ValidatorEntityType}
use Rattle.cedar_schema_semantics.specs.Words.{ActionKind, CountsInRequests, Fault, HasOpenRecord, IsActionKindOver, IsNamedBy, IsPrincipalOrResource, IsRecordType, Names, ResolvesTo, action_definition_in, context_not_record, out_of_memory, undeclared_entity_types}
use Rattle.cedar_table.specs.Entries.{Entries}
use Rattle.cedar_type_rules.specs.Ty.{Ty}

-- the names of the entity types of a map
abbrev pub names_in : Entries EntityType ValidatorEntityType → List PlainName
names_in types = map (λ it. type_name it.0) types.entries

-- each declaration of an action, with the requests that it is for
abbrev pub requests_in : List (PlainUid × ActionBody) → List (PlainUid × Requests)
requests_in entries = map (λ it. (it.0, it.1.applies_to)) entries

-- the uids of declarations
abbrev pub entry_uids : List (PlainUid × Requests) → List PlainUid
entry_uids entries = map (λ it. it.0) entries

-- the declarations that aren't external
abbrev pub definitions_in : List (PlainUid × Requests) → List (PlainUid × Requests)
definitions_in entries = flat_map (λ it. action_definition_in it.0 it.1) entries

-- the names are just those that the references resolve to
abbrev pub AreNamed : Names → List Reference → List PlainName → Type 0
AreNamed names references found = (name : PlainName)
    → Contains found name ↔ IsNamedBy names references name

-- the kind is the one that is declared, over a scope
abbrev pub IsElaboratedKind : TypeScope → Requests → ActionKind → Type 0
IsElaboratedKind scope =
    IsActionKindOver (AreNamed (held_names scope.defs.now)) (ElaboratesAs scope)

-- the context is elaborated as a record type
abbrev pub HasRecord : TypeScope → Requests → Type 0
HasRecord scope (requests principals resources context) =
    (ty : Ty) × ElaboratesAs scope context ty × IsRecordType ty
HasRecord scope elsewhere = Unit {0}

-- what counts in the requests has no open record, its extension types are known and its references
-- resolve, the context is a record type, and the principals and the resources resolve to names of
-- these entity types
pub record AreSoundRequests (scope : TypeScope) (types : List PlainName)
    (applies_to : Requests) : Type 0 where
  pub closed : (expr : Expr) → CountsInRequests applies_to expr → ¬ HasOpenRecord expr
  pub extensions : (expr : Expr) → CountsInRequests applies_to expr → CoversExtensions scope expr
  pub resolves : (expr : Expr) → CountsInRequests applies_to expr → ResolvesEach scope expr
  pub record_context : HasRecord scope applies_to
  pub placed : (reference : Reference) → IsPrincipalOrResource applies_to reference
      → (name : PlainName) × ResolvesTo (held_names scope.defs.now) reference name
      × Contains types name

-- the context is elaborated as a type that is no record type
abbrev pub HasNoRecord : TypeScope → Requests → Type 0
HasNoRecord scope (requests principals resources context) =
    (ty : Ty) × ElaboratesAs scope context ty × ¬ IsRecordType ty
HasNoRecord scope elsewhere = ⊥

-- the reference is one to entity types, and resolves to the name
abbrev pub NamesType : Names → Reference → PlainName → Type 0
NamesType names reference name = (reference.kind ≡ Entity) × ResolvesTo names reference name

-- why a reference to an entity type is refused: it resolves to nothing, or to a reserved name; or
-- memory ran out
abbrev pub IsTypeFault : Names → Reference → Fault → Type 0
IsTypeFault names reference = IsUnresolvable names (λ it. reference ≡ it) (λ _. ⊥)
    (λ it. (reference ≡ it) × (it.kind ≡ Entity))

-- why a parent of an action is refused: it names none; or memory ran out
abbrev pub IsParentActionFault : Names → ActionReference → Fault → Type 0
IsParentActionFault names parent = IsUnresolvable names (λ _. ⊥) (λ it. parent ≡ it) (λ _. ⊥)

-- why a reference to a principal or a resource is refused: as one to an entity type, or what it
-- resolves to is none of these entity types
abbrev pub IsPlaceFault : Names → List PlainName → Reference → Fault → Type 0
IsPlaceFault names types reference fault = IsTypeFault names reference fault
    ⊎ ((name : PlainName) × (fault ≡ undeclared_entity_types (name ∷ []))
    × NamesType names reference name × ¬ Contains types name)

-- why references to principals or resources are refused: one is, or memory ran out
abbrev pub IsRequestTypeFault : Names → List PlainName → List Reference → Fault → Type 0
IsRequestTypeFault names types references fault = (fault ≡ out_of_memory)
    ⊎ ((reference : Reference) × Contains references reference
    × IsPlaceFault names types reference fault)

-- why the requests of an action are refused: what counts in them is, the context is no record type,
-- or a principal or a resource is refused; or memory ran out
abbrev pub IsRequestsFault : TypeScope → List PlainName → PlainUid → Requests → Fault → Type 0
IsRequestsFault scope types uid applies_to fault = (fault ≡ out_of_memory)
    ⊎ (((expr : Expr) × CountsInRequests applies_to expr × IsElaborationFault scope expr fault)
    ⊎ (((fault ≡ context_not_record uid) × HasNoRecord scope applies_to)
    ⊎ ((reference : Reference) × IsPrincipalOrResource applies_to reference
    × IsPlaceFault (held_names scope.defs.now) types reference fault)))

-- the declaration of an action is its definition: it isn't external (RFC 116)
abbrev pub is_action_definition : Requests → Bool
is_action_definition elsewhere = false
is_action_definition _ = true
