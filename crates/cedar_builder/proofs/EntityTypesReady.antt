-- What the steps promise, read of a bag for which they are ready.
use Rattle.std.proofs.Common.{◌≡◌, ◌⊎◌, true, is_some, List, [], ◌∷◌, Option, None, Some, IsSome, map, ap, sym, ◌∙◌, refl, inl, inr, arith, Contains}
use Rattle.std.proofs.lemmas.Bool.{false≢true}
use Rattle.std.proofs.lemmas.List.Elements.{Contains-append_cases}
use Rattle.std.specs.List.{flat_map}
use Rattle.cedar_ast.proofs.Basics.{Contains-image, Contains-single}
use Rattle.cedar_ast.specs.contracts.entity_type.EntityTypePartialEq.TheImpl as entity_type_eq
use Rattle.cedar_builder.proofs.EntityTypeParents.{AreEdges, an_edge, chain_descends, descends_by_chain, edge_has_parent, edge_names, listed_parent, parent_edge, parent_placed, parent_resolves}
use Rattle.cedar_builder.proofs.NodeParents.{with_parents}
use Rattle.cedar_builder.proofs.NodesCollected.{by_test}
use Rattle.cedar_builder.proofs.NodesLinked.{alike_after, alike_before, collected_apart, descendants}
use Rattle.cedar_builder.proofs.ReadyLemmas.{action_type, expr_fault, type_fault}
use Rattle.cedar_builder.specs.EntityTypeSteps.{IsElaboratedKind}
use Rattle.cedar_builder.specs.Words.{AreDeclaredTags, AreElaboratedTags, AreLinked, AreUnlinked, Bag, CountsInEntity, Covers, Defined, Entity, EntityBody, EntitySays, EntityType, EntityTypeKind, EntityTypesAreSound, Expr, Extensions, Fault, HasNoRecord, HasParent, IsAbove, IsActionType, IsBodyFault, IsCollected, IsCollectedAt, IsCollectingFault, IsCounted, IsDeclaredEntityType, IsDeclaredKind, IsDefined, IsDescendant, IsElaboratedEntity, IsEnumerated, IsEnumeratedAt, IsExternalAt, IsExternalType, IsFault, IsLinkingFault, IsNoRecord, IsParent, IsParentFault, IsReady, IsSoundBody, IsTypeFault, EntityTypeLeadsTo, NamesType, PlainEntityType, PlainName, Reference, ResolvesTo, SameType, SaysTogether, Text, Twice, Ty, TypeScope, ValidatorEntityType, action_uids, declared_entities, defined_entities, defined_in, defined_names, definition_in, definitions, duplicate_entity_type, entity_definition_in, entity_definitions, entity_parents, entity_type_of, entry_names, enumerated, enumerated_below, enumerated_kind, extensions_in_scope, external, external_kind, has_descendant, held_names, is_entity_definition, node_at, out_of_memory, parents_in, plain_entry, shape_not_record, standard, standard_kind, type_name, undeclared_entity_types}
use Rattle.cedar_schema_semantics.proofs.DeclarationLemmas.{entity_declaration}
use Rattle.cedar_schema_semantics.proofs.Definitions.{declared_definition, key_defined, said_declared, said_definition}
use Rattle.cedar_schema_semantics.proofs.OccurrenceLemmas.{value_once}
use Rattle.cedar_schema_semantics.proofs.ResolutionLemmas.{elaborated_once, first_defined}
use Rattle.cedar_schema_semantics.proofs.TogetherLemmas.{IsDefinition, entity_counted}
use Rattle.cedar_types.proofs.MemberLemmas.{list_any-names}

abbrev Entry : Type 0
Entry = PlainName × EntityBody

-- an entity type is external
abbrev pub IsExternal : ValidatorEntityType → Type 0
IsExternal it = (entity_type_of it).kind ≡ external_kind

-- the name of an entity type
abbrev pub name_of : ValidatorEntityType → PlainName
name_of it = (entity_type_of it).name

-- the entity type is what is declared gives, under whatever name
abbrev pub GivesEntity : TypeScope → EntityBody → ValidatorEntityType → Type 0
GivesEntity scope body it = IsElaboratedEntity scope (name_of it) body it

-- a definition passes the test
passes : (body : EntityBody) → IsDefinition body → is_entity_definition body ≡ true
passes (external parents) is = absurd is
passes _ is = refl

-- declarations give the same definitions by the test
definitions_alike : (entries : List Entry) → flat_map (definition_in is_entity_definition) entries ≡ entity_definitions entries
definitions_alike entries = ap (λ give. flat_map give entries) (λ i it. alike it.0 it.1 i) where
  alike : (name : PlainName) (body : EntityBody) → definition_in is_entity_definition (name, body) ≡ entity_definition_in name body
  alike name (external parents) = refl
  alike name _ = refl

-- the type of tags that is elaborated is the declared one
tags_declared : (scope : TypeScope) (defined : Defined) (tags : Option Expr) (ty : Option Ty)
    → ((expr : Expr) → tags ≡ Some expr → Covers defined scope expr) → AreElaboratedTags scope tags ty → AreDeclaredTags defined tags ty
tags_declared scope defined (Some expr) (Some ty) knows elaborated = elaborated defined (knows expr refl)
tags_declared scope defined None None knows elaborated = tt
tags_declared scope defined _ _ knows elaborated = elaborated

-- the kind that is elaborated is the declared one, where enough is known
kind_declared : (scope : TypeScope) (defined : Defined) (body : EntityBody) (kind : EntityTypeKind)
    → ((expr : Expr) → CountsInEntity body expr → Covers defined scope expr) → IsElaboratedKind scope body kind
    → IsDeclaredKind defined body kind
kind_declared scope defined (standard parents shape tags) (standard_kind fields openness ty) knows elaborated = (
  elaborated.0 defined (knows shape (inl refl)),
  elaborated.1,
  tags_declared scope defined tags ty (λ expr is. knows expr (inr is)) elaborated.2,
)
kind_declared scope defined (enumerated ids) (enumerated_kind choices) knows elaborated = elaborated
kind_declared scope defined (external parents) external_kind knows elaborated = elaborated
kind_declared scope defined _ _ knows elaborated = elaborated

-- what counts in a declaration of an entity type counts in the bag
counted : (bag : Bag) (name : PlainName) (body : EntityBody) (expr : Expr) → Contains (declared_entities bag) (name, body)
    → CountsInEntity body expr → IsCounted bag expr
counted bag name body expr among counts =
    let it = entity_declaration bag name body among in
    (it.0, it.1, rw it.2 counts)

-- what is elaborated as an enumerated kind is a declaration by its choices
enumerated_elaborated : (scope : TypeScope) (body : EntityBody) (kind : EntityTypeKind) → IsElaboratedKind scope body kind → IsEnumerated kind
    → (choices : List Text) × (body ≡ enumerated choices)
enumerated_elaborated scope (enumerated ids) kind elaborated is = (ids, refl)
enumerated_elaborated scope _ (enumerated_kind choices) elaborated is = absurd elaborated
enumerated_elaborated scope _ _ elaborated is = absurd is

-- a declaration by choices is elaborated as an enumerated kind
elaborated_enumerated : (scope : TypeScope) (choices : List Text) (kind : EntityTypeKind) → IsElaboratedKind scope (enumerated choices) kind
    → IsEnumerated kind
elaborated_enumerated scope choices (enumerated_kind ids) elaborated = tt
elaborated_enumerated scope choices _ elaborated = absurd elaborated

-- an external declaration is elaborated as the external kind
elaborated_external : (scope : TypeScope) (parents : List Reference) (kind : EntityTypeKind) → IsElaboratedKind scope (external parents) kind
    → kind ≡ external_kind
elaborated_external scope parents external_kind elaborated = refl
elaborated_external scope parents _ elaborated = absurd elaborated

-- what is elaborated as the external kind is an external declaration
external_kind_elaborated : (scope : TypeScope) (body : EntityBody) (kind : EntityTypeKind) → IsElaboratedKind scope body kind
    → kind ≡ external_kind → (parents : List Reference) × (body ≡ external parents)
external_kind_elaborated scope (standard parents shape tags) (standard_kind fields openness ty) elaborated is = cc
external_kind_elaborated scope (enumerated ids) (enumerated_kind choices) elaborated is = cc
external_kind_elaborated scope (external parents) kind elaborated is = (parents, refl)
external_kind_elaborated scope _ _ elaborated is = absurd elaborated

-- at each name stands what its declarations say together
abbrev pub AreCollected : TypeScope → List Entry → List (EntityType × ValidatorEntityType) → Type 0
AreCollected scope entries nodes =
    (key : EntityType) → IsCollectedAt is_entity_definition IsExternal name_of (GivesEntity scope) entries (type_name key) (node_at nodes key)

-- no entity type leads to another as they are collected
pub no_edges : (scope : TypeScope) (entries : List Entry) (nodes : List (EntityType × ValidatorEntityType))
    → AreCollected scope entries nodes → (upper lower : EntityType) → ¬ EntityTypeLeadsTo nodes upper lower
no_edges scope entries nodes collected = collected_apart (entity_type_eq.ghosts).eq type_name has_descendant (λ it. it.descendants.keys)
    (λ it key. list_any-names key it.descendants.keys) is_entity_definition IsExternal name_of (GivesEntity scope) (λ body it given. given.no_descendants)
    entries nodes collected

module _ (bag : Bag) (extensions : Extensions) (declared : List Entry)
    (scope : TypeScope) (ready : IsReady bag extensions declared scope)
    (keyed : (name : PlainName) → Contains (entry_names declared) name → (key : EntityType) × (type_name key ≡ name)) where
  abbrev Entries : List Entry
  Entries = declared

  -- a declared entity type of the bag is among those that are handed in
  among_collected : (name : PlainName) (body : EntityBody) → Contains (declared_entities bag) (name, body) → Contains Entries (name, body)
  among_collected name body among =
      rw ready.entities among

  -- and the other way round
  among_declared : (name : PlainName) (body : EntityBody) → Contains Entries (name, body) → Contains (declared_entities bag) (name, body)
  among_declared name body among =
      rw ready.entities at among

  -- a declared name is that of an entity type that is handed in
  key_of : (name : PlainName) → Contains (entry_names (declared_entities bag)) name → (key : EntityType) × (type_name key ≡ name)
  key_of name among = keyed name (rw ready.entities among)

  -- enough is known for what counts in a declaration
  known_counted : (name : PlainName) (body : EntityBody) (expr : Expr) → Contains Entries (name, body) → CountsInEntity body expr
      → Covers (definitions bag extensions) scope expr
  known_counted name body expr among counts = ready.known.knows expr (counted bag name body expr (among_declared name body among) counts)

  -- the kind of an entity type is the declared one
  said_kind : (name : PlainName) (body : EntityBody) (kind : EntityTypeKind) → SaysTogether is_entity_definition Entries name body
      → IsElaboratedKind scope body kind → IsDeclaredKind (definitions bag extensions) body kind
  said_kind name body kind says elaborated =
      kind_declared scope (definitions bag extensions) body kind
      (λ expr counts. known_counted name body expr (said_definition (by_test is_entity_definition) Entries name body (passes body (entity_counted body expr counts)) says) counts)
      elaborated

  -- the definitions that are handed in are those of the bag
  same_definitions : flat_map (definition_in is_entity_definition) Entries ≡ defined_entities bag
  same_definitions = definitions_alike Entries ∙ ap entity_definitions ready.entities

  -- what is said of the declarations the bag says
  said_in_bag : (name : PlainName) (body : EntityBody) → SaysTogether is_entity_definition Entries name body → EntitySays bag name body
  said_in_bag name (external parents) says = (
    rw ready.entities at says.0,
    λ among. says.1 (rw same_definitions among),
  )
  said_in_bag name (standard parents shape tags) says =
      rw same_definitions at says
  said_in_bag name (enumerated ids) says = rw same_definitions at says

  -- a shape that is no record type is a fault of the bag
  shape_fault : (name : PlainName) (body : EntityBody) → Contains Entries (name, body) → HasNoRecord scope body
      → IsFault bag extensions (shape_not_record name)
  shape_fault name (standard parents shape tags) among none = (
    parents,
    shape,
    tags,
    among_declared name (standard parents shape tags) among,
    (
      none.0,
      none.1 (definitions bag extensions) (known_counted name (standard parents shape tags) shape among (inl refl)),
      none.2,
    ),
  )
  shape_fault name _ among none = absurd none

  -- a refusal of parents is a fault of the bag, unless memory ran out
  pub parent_fault : (fault : Fault)
      → IsParentFault (IsTypeFault (held_names scope.defs.now)) (parents_in (map (with_parents entity_parents) declared)) fault
      → (fault ≡ out_of_memory) ⊎ IsFault bag extensions fault
  parent_fault fault refused = elim refused [
    | inl wanting ↦ inl wanting
    | inr one ↦
        let parent = listed_parent bag extensions declared scope ready one.0 one.1 one.2 in
        type_fault bag extensions (held_names scope.defs.now) ready.known.names ready.known.unreserved one.1 (parent_placed bag one.0 one.1 parent) fault one.3
  ]

  -- a refusal of declarations is a fault of the bag, unless memory ran out
  pub collecting_fault : (fault : Fault) → IsCollectingFault is_entity_definition type_name (λ key. IsBodyFault scope (type_name key)) duplicate_entity_type Entries fault → (fault ≡ out_of_memory) ⊎ IsFault bag extensions fault
  collecting_fault fault refused = elim refused [
    | inl wanting ↦ inl wanting
    | inr (inl one) ↦ elim one.3 [
      | inl wanting ↦ inl wanting
      | inr (inl expr) ↦ expr_fault bag extensions (extensions_in_scope scope) ready.known.extensions ready.known.unreserved expr.0 fault (counted bag (type_name one.0) one.1 expr.0 (among_declared (type_name one.0) one.1 one.2) expr.1)
          (expr.2.each (definitions bag extensions) (known_counted (type_name one.0) one.1 expr.0 one.2 expr.1))
      | inr (inr shape) ↦ inr (rw shape.0 (shape_fault (type_name one.0) one.1 one.2 shape.1))
    ]
    | inr (inr twice) ↦ inr (rw twice.1 (rw same_definitions at twice.2))
  ]

  module _ (before : List (EntityType × ValidatorEntityType)) (collected : AreCollected scope Entries before)
      (once : (name : PlainName) → ¬ Twice (defined_in is_entity_definition Entries) name) where
    -- a definition is what is said of its name
    said_is : (name : PlainName) (body other : EntityBody) → is_entity_definition body ≡ true → Contains Entries (name, body)
        → SaysTogether is_entity_definition Entries name other → other ≡ body
    said_is name body (external parents) is among says = absurd (says.1 (key_defined (by_test is_entity_definition) Entries name body is among))
    said_is name body (standard parents shape tags) is among says =
        value_once (flat_map (definition_in is_entity_definition) Entries) once name (standard parents shape tags) body says (declared_definition (by_test is_entity_definition) Entries name body is among)
    said_is name body (enumerated ids) is among says =
        value_once (flat_map (definition_in is_entity_definition) Entries) once name (enumerated ids) body says (declared_definition (by_test is_entity_definition) Entries name body is among)

    -- a declared name has an entity type
    pub stands : (key : EntityType) → Contains (entry_names Entries) (type_name key) → IsSome (node_at before key)
    stands key among = by (node_at before key) (collected key) where
      by : (o : Option ValidatorEntityType) → IsCollectedAt is_entity_definition IsExternal name_of (GivesEntity scope) Entries (type_name key) o → IsSome o
      by None none = absurd (none among)
      by (Some it) is = refl

    -- an entity type stands under a declared name
    stands_declared : (key : EntityType) → IsSome (node_at before key) → Contains (entry_names Entries) (type_name key)
    stands_declared key there = by (node_at before key) (collected key) there where
      by : (o : Option ValidatorEntityType) → IsCollectedAt is_entity_definition IsExternal name_of (GivesEntity scope) Entries (type_name key) o → IsSome o
          → Contains (entry_names Entries) (type_name key)
      by None none there = absurd (false≢true there)
      by (Some it) is there = said_declared (by_test is_entity_definition) Entries (type_name key) is.body is.says

    -- a name that is declared by its choices has an enumerated entity type
    enumerated_at : (key : EntityType) (choices : List Text) → Contains Entries (type_name key, enumerated choices)
        → IsEnumeratedAt (node_at before key)
    enumerated_at key choices among = by (node_at before key) (collected key) (stands key named) where
      named : Contains (entry_names Entries) (type_name key)
      named = Contains-image (λ (it : Entry). it.0) Entries (type_name key, enumerated choices) among

      by : (o : Option ValidatorEntityType) → IsCollectedAt is_entity_definition IsExternal name_of (GivesEntity scope) Entries (type_name key) o → IsSome o → IsEnumeratedAt o
      by None none there = absurd (false≢true there)
      by (Some it) is there =
          elaborated_enumerated scope choices (entity_type_of it).kind
          (rw (said_is (type_name key) (enumerated choices) is.body refl among is.says) at is.given.kind)

    -- and the other way round
    at_enumerated : (key : EntityType) → IsEnumeratedAt (node_at before key)
        → (choices : List Text) × Contains Entries (type_name key, enumerated choices)
    at_enumerated key there = by (node_at before key) (collected key) there where
      by : (o : Option ValidatorEntityType) → IsCollectedAt is_entity_definition IsExternal name_of (GivesEntity scope) Entries (type_name key) o → IsEnumeratedAt o
          → (choices : List Text) × Contains Entries (type_name key, enumerated choices)
      by None none there = absurd there
      by (Some it) is there =
          let found = enumerated_elaborated scope is.body (entity_type_of it).kind is.given.kind there in
          (found.0, said_definition (by_test is_entity_definition) Entries (type_name key) (enumerated found.0) refl (rw found.1 at is.says))

    -- a name that is declared and not defined has an external entity type
    external_at : (key : EntityType) → Contains (entry_names Entries) (type_name key)
        → ¬ Contains (entry_names (flat_map (definition_in is_entity_definition) Entries)) (type_name key) → IsExternalAt (node_at before key)
    external_at key among none = by (node_at before key) (collected key) (stands key among) where
      said : (body : EntityBody) (kind : EntityTypeKind) → SaysTogether is_entity_definition Entries (type_name key) body → IsElaboratedKind scope body kind
          → kind ≡ external_kind
      said (external parents) kind says elaborated = elaborated_external scope parents kind elaborated
      said (standard parents shape tags) kind says elaborated =
          absurd (none (Contains-image (λ (it : Entry). it.0) (flat_map (definition_in is_entity_definition) Entries) (type_name key, standard parents shape tags) says))
      said (enumerated ids) kind says elaborated =
          absurd (none (Contains-image (λ (it : Entry). it.0) (flat_map (definition_in is_entity_definition) Entries) (type_name key, enumerated ids) says))

      by : (o : Option ValidatorEntityType) → IsCollectedAt is_entity_definition IsExternal name_of (GivesEntity scope) Entries (type_name key) o → IsSome o → IsExternalAt o
      by None none there = absurd (false≢true there)
      by (Some it) is there = said is.body (entity_type_of it).kind is.says is.given.kind

    -- and the other way round
    at_external : (key : EntityType) → IsExternalAt (node_at before key) → (parents : List Reference)
        × SaysTogether is_entity_definition Entries (type_name key) (external parents)
    at_external key there = by (node_at before key) (collected key) there where
      by : (o : Option ValidatorEntityType) → IsCollectedAt is_entity_definition IsExternal name_of (GivesEntity scope) Entries (type_name key) o → IsExternalAt o
          → (parents : List Reference) × SaysTogether is_entity_definition Entries (type_name key) (external parents)
      by None none there = absurd there
      by (Some it) is there =
          let found = external_kind_elaborated scope is.body (entity_type_of it).kind is.given.kind there in
          (found.0, rw found.1 at is.says)

    module _ (edges : List (EntityType × EntityType)) (are : AreEdges (held_names scope.defs.now) declared edges) where
      -- a node stands at the lower end of each edge, and none has descendants
      pub unlinked : AreUnlinked edges before
      unlinked = record {
        apart = no_edges scope Entries before collected;
        lowers = λ upper lower above.
            let parent = (edge_names bag extensions declared scope ready edges are upper lower above).1 in
            stands lower (Contains-image (λ (it : Entry). it.0) Entries (type_name lower, parent.0)
            (among_collected (type_name lower) parent.0 parent.1));
      }

      -- an edge to what isn't declared is to a type of actions
      undeclared_fault : (upper lower : EntityType) → IsAbove edges upper lower → node_at before upper ≡ None
          → IsFault bag extensions (undeclared_entity_types (type_name upper ∷ []))
      undeclared_fault upper lower above none = (
        (λ wrong. cc),
        λ name among.
            let same : type_name upper ≡ name = Contains-single (type_name upper) name among in
            rw (← same) (is_action, edge.0, parent_placed bag (type_name lower) edge.0 edge.1, edge.2.1),
      )
        where
          edge : (reference : Reference) × IsParent bag (type_name lower) reference
              × NamesType (defined_names bag extensions) reference (type_name upper)
          edge = edge_names bag extensions declared scope ready edges are upper lower above

          undeclared : ¬ Contains (entry_names (declared_entities bag)) (type_name upper)
          undeclared among =
              false≢true (ap is_some (sym none) ∙ stands upper (rw ready.entities among))

          defined_entity : IsDefined (defined_names bag extensions) Entity (type_name upper) → IsActionType (type_name upper)
          defined_entity defined = elim defined [
            | inl common ↦ absurd common.0
            | inr is_entity ↦ elim (Contains-append_cases (entry_names (declared_entities bag)) (map (λ uid. uid.ty) (action_uids bag)) (type_name upper)
                is_entity.1) [
                  | inl among ↦ absurd (undeclared among)
                  | inr action ↦ action_type bag (type_name upper) action
                ]
          ]

          is_action : IsActionType (type_name upper)
          is_action =
              let defined = (first_defined (defined_names bag extensions) edge.0.kind edge.0.possibilities (type_name upper) edge.2.1).1 in
              defined_entity (rw edge.2.0 at defined)

      -- a parent of an enumerated entity type is one by an external declaration
      enumerated_fault : (upper lower : EntityType) → IsAbove edges upper lower → IsEnumeratedAt (node_at before lower)
          → IsFault bag extensions (enumerated_below (type_name lower) (type_name upper))
      enumerated_fault upper lower above there =
          let found = at_enumerated lower there in
          let has = edge_has_parent bag extensions declared scope ready edges are upper lower above in
          by found.0 found.1 has.0 has.1.0 has.1.1 has.1.2 has.2
        where
          by : (choices : List Text) → Contains Entries (type_name lower, enumerated choices) → (reference : Reference)
              → (body : EntityBody) → Contains (declared_entities bag) (type_name lower, body)
              → Contains (entity_parents body) reference
              → ResolvesTo (defined_names bag extensions) reference (type_name upper)
              → IsFault bag extensions (enumerated_below (type_name lower) (type_name upper))
          by choices enumerated_so reference (external parents) among parent resolves = (
            choices,
            parents,
            reference,
            among_declared (type_name lower) (enumerated choices) enumerated_so,
            among,
            parent,
            resolves,
          )
          by choices enumerated_so reference (enumerated ids) among parent resolves = absurd (omega (arith, parent.1))
          by choices enumerated_so reference (standard parents shape tags) among parent resolves =
              let other = said_is (type_name lower) (enumerated choices) (standard parents shape tags) refl enumerated_so
              (declared_definition (by_test is_entity_definition) Entries (type_name lower) (standard parents shape tags) refl
              (among_collected (type_name lower) (standard parents shape tags) among)) in
              cc

      -- a refusal of edges is a fault of the bag, unless memory ran out
      pub linking_fault : (fault : Fault) → IsLinkingFault edges before fault → (fault ≡ out_of_memory) ⊎ IsFault bag extensions fault
      linking_fault fault refused = elim refused [
        | inl wanting ↦ inl wanting
        | inr (inl one) ↦ inr (let above : IsAbove edges one.0.0 one.0.1 = an_edge edges one.0 one.0.0 one.0.1 one.1 refl refl in
            elim one.2 [
              | inl missing ↦ rw missing.0 (undeclared_fault one.0.0 one.0.1 above missing.1)
              | inr alone ↦ rw alone.0 (enumerated_fault one.0.0 one.0.1 above alone.1)
            ])
        | inr (inr below) ↦ inr (let upper = at_enumerated below.0 below.3 in
            let lower = at_external below.1 below.4 in
            rw below.5 (
              upper.0,
              said_in_bag (type_name below.1) (external lower.0) lower.1,
              among_declared (type_name below.0) (enumerated upper.0) upper.1,
              chain_descends bag extensions declared scope ready edges are below.2,
            ))
      ]

      module _ (after : List (EntityType × ValidatorEntityType)) (linked : AreLinked edges before after) where
        -- what stands at a key after all is what the bag declares of the name
        pub declared_at : (key : EntityType) (it : ValidatorEntityType) → node_at after key ≡ Some it
            → IsDeclaredEntityType bag extensions (plain_entry (key, it))
        declared_at key it found =
            let old = alike_before SameType (node_at before key) it (rw found at (linked.same key)) in
            let is : IsCollected is_entity_definition IsExternal name_of (GivesEntity scope) Entries (type_name key) old.0 =
            rw old.1 at (collected key) in
            record {
              body = is.body;
              says = said_in_bag (type_name key) is.body is.says;
              name = ap (λ (each : PlainEntityType). each.name) (sym old.2) ∙ is.name;
              kind = rw (ap (λ (each : PlainEntityType). each.kind) old.2) at
                  (said_kind (type_name key) is.body (entity_type_of old.0).kind is.says is.given.kind);
              descendants = descendants (entity_type_eq.ghosts).eq type_name has_descendant (λ each. each.descendants.keys)
                  (λ each other. list_any-names other each.descendants.keys) edges (IsDescendant bag extensions)
                  (λ upper lower. chain_descends bag extensions declared scope ready edges are)
                  (λ lower upper. descends_by_chain bag extensions declared scope ready edges are)
                  after linked.linked key it found;
            }

        -- under each declared name something stands after all
        pub stands_after : (name : PlainName) → Contains (entry_names (declared_entities bag)) name
            → (key : EntityType) × (type_name key ≡ name) × IsSome (node_at after key)
        stands_after name among =
            let key = key_of name among in
            let there = stands key.0 (rw (key.1, ready.entities) among) in
            (key.0, key.1, alike_after SameType (node_at before key.0) (node_at after key.0) (linked.same key.0) there)

        -- what is certain of the declarations
        pub certain : ((name : PlainName) (body : EntityBody) → Contains Entries (name, body) → IsSoundBody scope body)
            → EntityTypesAreSound bag extensions
        certain sound = record {
          once = λ name twice. once name
              (rw same_definitions twice);
          records = λ name fault. no_shape_fault name fault.0 fault.1 fault.2 fault.3 fault.4;
          closed = λ name body expr among counts. (sound name body (among_collected name body among)).closed expr counts;
          extension_types = λ name body expr among counts word mentioned.
              rw ready.known.extensions at ((sound name body (among_collected name body among)).extensions expr counts word mentioned);
          resolves = λ name body expr among counts reference refers.
              (sound name body (among_collected name body among)).resolves expr counts (definitions bag extensions)
              (known_counted name body expr (among_collected name body among) counts) reference refers;
          placed = λ name reference parent. parent_resolves bag extensions declared scope ready edges are name reference parent;
          parents = λ name upper reference parent resolves. parent_declared name upper (reference, parent, resolves);
          external_above = λ lower upper fault. no_external_below lower upper fault.0 fault.1 fault.2 fault.3;
          enumerated_alone = λ lower upper fault. no_enumerated_below lower upper fault.0 fault.3
              (fault.2, (external fault.1, fault.4, fault.5), fault.6);
        }
          where
            no_shape_fault : (name : PlainName) (parents : List Reference) (shape : Expr) (tags : Option Expr)
                → Contains (declared_entities bag) (name, standard parents shape tags)
                → ¬ IsNoRecord (definitions bag extensions) shape
            no_shape_fault name parents shape tags among none =
                let body = among_collected name (standard parents shape tags) among in
                let record_shape = (sound name (standard parents shape tags) body).record_shape in
                none.2 (rw (← elaborated_once (definitions bag extensions) ready.known.one_definition
                (record_shape.1 (definitions bag extensions) (known_counted name (standard parents shape tags) shape body (inl refl)))
                none.1) tt)

            parent_declared : (name upper : PlainName) → HasParent bag extensions name upper
                → Contains (entry_names (declared_entities bag)) upper
            parent_declared name upper parent =
                let edge = parent_edge bag extensions declared scope ready edges are name upper parent in
                let there = linked.ancestors edge.0.0 edge.0.1 (an_edge edges edge.0 edge.0.0 edge.0.1 edge.1 refl refl) in
                rw (edge.2, ready.entities) at (stands_declared edge.0.0 there)

            no_enumerated_below : (lower upper : PlainName) (choices : List Text)
                → Contains (declared_entities bag) (lower, enumerated choices) → ¬ HasParent bag extensions lower upper
            no_enumerated_below lower upper choices among parent =
                let edge = parent_edge bag extensions declared scope ready edges are lower upper parent in
                linked.lowers edge.0.0 edge.0.1 (an_edge edges edge.0 edge.0.0 edge.0.1 edge.1 refl refl)
                (enumerated_at edge.0.1 choices (rw edge.3 (among_collected lower (enumerated choices) among)))

            no_external_below : (lower upper : PlainName) (choices : List Text) → IsExternalType bag lower
                → Contains (declared_entities bag) (upper, enumerated choices) → ¬ IsDescendant bag extensions lower upper
            no_external_below lower upper choices is among descends =
                let key = key_of upper (Contains-image (λ (it : Entry). it.0) (declared_entities bag) (upper, enumerated choices) among) in
                let chain = descends_by_chain bag extensions declared scope ready edges are descends key.0 (sym key.1) in
                linked.external_above key.0 chain.0 chain.2
                (enumerated_at key.0 choices (rw key.1 (among_collected upper (enumerated choices) among)))
                (external_at chain.0
                (rw (chain.1, ready.entities) is.0)
                (λ defined. is.1 (rw (chain.1, same_definitions) at defined)))
