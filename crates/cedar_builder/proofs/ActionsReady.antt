-- What the steps promise, read of a bag for which they are ready.
use Rattle.std.proofs.Common.{◌≡◌, ◌⊎◌, ◌↔◌, List, [], ◌∷◌, Option, None, Some, IsSome, map, ap, sym, subst, ◌∙◌, refl, inl, inr, Contains}
use Rattle.std.proofs.lemmas.List.Elements.{Contains-append_cases}
use Rattle.std.proofs.lemmas.List.Folds.{flat_map-map}
use Rattle.std.proofs.lemmas.Simd.{map-map}
use Rattle.std.specs.List.{flat_map}
use Rattle.cedar_ast.proofs.Basics.{Contains-image, Contains-single}
use Rattle.cedar_ast.proofs.Lists.{Contains-cons, Contains-preimage}
use Rattle.cedar_ast.specs.contracts.entity_uid.EntityUIDPartialEq.TheImpl as uid_eq
use Rattle.cedar_builder.proofs.ActionParents.{AreEdges, chain_descends, chain_to_same, descendant_declared, descends_by_chain, edge_declared, listed_parent, lower_declared, parent_named, parents_of}
use Rattle.cedar_builder.proofs.ActionsTogether.{definitions_alike}
use Rattle.cedar_builder.proofs.NodeParents.{with_parents}
use Rattle.cedar_builder.proofs.NodesCollected.{by_test}
use Rattle.cedar_builder.proofs.NodesLinked.{alike_after, alike_before, collected_apart, descendants}
use Rattle.cedar_builder.proofs.ReadyLemmas.{action_type, expr_fault, type_fault}
use Rattle.cedar_builder.specs.ActionNodes.{AreLinked, IsLinkingFault, has_descendant, node_at}
use Rattle.cedar_builder.specs.ActionSteps.{HasNoRecord}
use Rattle.cedar_builder.specs.Words.{ActionBody, ActionKind, ActionReference, ActionSays, ActionsAreSound, AreActionsOf, AreNamed, AreReady, AreSoundRequests, Bag, CountsInRequests, Covers, Entity, EntityType, EntityUID, Expr, Extensions, Fault, IsActionParent, IsActionType, IsAtEntityTypePosition, IsCollected, IsCollectedAt, IsCollectingFault, IsCounted, IsDeclaredAction, IsDeclaredActionKind, IsDefined, IsDescendantAction, IsElaboratedAction, IsElaboratedKind, IsFault, IsNamedBy, IsParentActionFault, IsParentFault, IsPlaceFault, IsPrincipalOrResource, IsRequestsFault, Names, NamesNoAction, PlainName, PlainUid, Reference, Requests, ResolvesTo, SameAction, SaysTogether, Twice, TypeScope, ValidatorActionId, ValidatorEntityType, action_definition_in, action_not_defined, action_of, action_uids, context_not_record, declared_actions, declared_entities, defined_action, defined_actions, defined_in, defined_names, definition_in, definitions, duplicate_action, elsewhere, extensions_in_scope, external_action, held_names, is_action_definition, names_in, names_of, out_of_memory, parents_in, plain_action_entry, requests, requests_in, reserved_name, type_not_defined, uid_of}
use Rattle.cedar_elaboration.proofs.ScopeLemmas.{same_resolves}
use Rattle.cedar_schema_elements.proofs.SetLemmas.{list_any-uids}
use Rattle.cedar_schema_elements.specs.ValidatorActionId.{parts_of}
use Rattle.cedar_schema_semantics.proofs.DeclarationLemmas.{action_declaration}
use Rattle.cedar_schema_semantics.proofs.Definitions.{declared_definition, said_definition}
use Rattle.cedar_schema_semantics.proofs.ResolutionLemmas.{IsFirst-same, elaborated_once, first_defined}
use Rattle.cedar_table.specs.Entries.{Entries as TableEntries}

abbrev Entry : Type 0
Entry = PlainUid × Requests

-- an action is external
abbrev pub IsExternal : ValidatorActionId → Type 0
IsExternal it = (action_of it).kind ≡ external_action

-- the uid of an action
abbrev pub uid_in : ValidatorActionId → PlainUid
uid_in it = (action_of it).uid

-- the action is what is declared gives, under whatever uid
abbrev pub GivesAction : TypeScope → Requests → ValidatorActionId → Type 0
GivesAction scope applies_to it = IsElaboratedAction scope (uid_in it) applies_to it

-- a declaration with the requests that it is for
abbrev requested : PlainUid × ActionBody → Entry
requested it = (it.0, it.1.applies_to)

-- the definitions of a bag, by the test
bag_definitions : (bag : Bag) → flat_map (definition_in is_action_definition) (requests_in (declared_actions bag)) ≡ defined_actions bag
bag_definitions bag =
    definitions_alike (requests_in (declared_actions bag))
    ∙ flat_map-map (λ (it : Entry). action_definition_in it.0 it.1) requested (declared_actions bag)

-- what the declarations of a bag say together, the bag says
bag_says : (bag : Bag) (uid : PlainUid) (applies_to : Requests)
    → SaysTogether is_action_definition (requests_in (declared_actions bag)) uid applies_to
    → ActionSays bag uid applies_to
bag_says bag uid applies_to says = by applies_to says where
  same_uids : map (λ it. it.0) (requests_in (declared_actions bag)) ≡ action_uids bag
  same_uids = map-map _ _ (declared_actions bag)

  P : List PlainUid → Type 0
  P uids = Contains uids uid

  by : (of : Requests) → SaysTogether is_action_definition (requests_in (declared_actions bag)) uid of → ActionSays bag uid of
  by elsewhere there = (
    rw same_uids at there.0,
    λ among. there.1 (rw (ap (map (λ it. it.0)) (bag_definitions bag)) among),
  )
  by (requests principals resources context) there =
      rw (bag_definitions bag) at there

-- at each uid stands what its declarations say together
abbrev pub AreCollected : TypeScope → List Entry → List (EntityUID × ValidatorActionId) → Type 0
AreCollected scope entries nodes =
    (key : EntityUID) → IsCollectedAt is_action_definition IsExternal uid_in (GivesAction scope) entries (uid_of key) (node_at nodes key)

module _ (bag : Bag) (extensions : Extensions) (declared : List (PlainUid × ActionBody))
    (types : TableEntries EntityType ValidatorEntityType) (scope : TypeScope)
    (ready : AreActionsOf bag extensions declared types scope)
    (keyed : (uid : PlainUid) → Contains (map (λ it. it.0) declared) uid → (key : EntityUID) × (uid_of key ≡ uid)) where
  abbrev Entries : List Entry
  Entries = requests_in declared

  -- the names that are in scope
  abbrev held : Names
  held = held_names scope.defs.now

  -- what resolves over these does so over those of the bag
  resolves : (reference : Reference) (name : PlainName) → ResolvesTo held reference name → ResolvesTo (defined_names bag extensions) reference name
  resolves = same_resolves held (defined_names bag extensions) ready.known.names

  -- and the other way round
  held_resolves : (reference : Reference) (name : PlainName) → ResolvesTo (defined_names bag extensions) reference name → ResolvesTo held reference name
  held_resolves = same_resolves (defined_names bag extensions) held (record {
    common = λ name. ((ready.known.names.common name).1, (ready.known.names.common name).0);
    entities = λ name. ((ready.known.names.entities name).1, (ready.known.names.entities name).0);
    actions = λ uid. ((ready.known.names.actions uid).1, (ready.known.names.actions uid).0);
  })

  -- a reference resolves to one name
  one_name : (reference : Reference) (name other : PlainName) → ResolvesTo (defined_names bag extensions) reference name
      → ResolvesTo (defined_names bag extensions) reference other → name ≡ other
  one_name reference = IsFirst-same (IsDefined (defined_names bag extensions) reference.kind) reference.possibilities

  -- those of the bag, each with the requests that it is for
  same_entries : Entries ≡ requests_in (declared_actions bag)
  same_entries = ap requests_in ready.actions

  -- a declared action of the bag is among those that are handed in
  among_collected : (uid : PlainUid) (body : ActionBody) → Contains (declared_actions bag) (uid, body)
      → Contains Entries (uid, body.applies_to)
  among_collected uid body among =
      rw same_entries (Contains-image requested (declared_actions bag) (uid, body) among)

  -- and the other way round
  among_declared : (uid : PlainUid) (applies_to : Requests) → Contains Entries (uid, applies_to)
      → (body : ActionBody) × Contains (declared_actions bag) (uid, body) × (body.applies_to ≡ applies_to)
  among_declared uid applies_to among =
      let it = Contains-preimage requested (declared_actions bag) (uid, applies_to) (rw same_entries at among) in
      let Declares : PlainUid → Type 0 = λ each. Contains (declared_actions bag) (each, it.0.1) in
      (it.0.1, subst Declares (ap (λ (each : Entry). each.0) it.2) it.1, ap (λ (each : Entry). each.1) it.2)

  -- the uids that are handed in are those of the bag
  same_uids : map (λ it. it.0) Entries ≡ action_uids bag
  same_uids = ap (map (λ (it : Entry). it.0)) same_entries ∙ map-map _ _ (declared_actions bag)

  -- the definitions that are handed in are those of the bag
  same_definitions : flat_map (definition_in is_action_definition) Entries ≡ defined_actions bag
  same_definitions = ap (flat_map (definition_in is_action_definition)) same_entries ∙ bag_definitions bag

  -- a declared uid is that of an action that is handed in
  key_of : (uid : PlainUid) → Contains (action_uids bag) uid → (key : EntityUID) × (uid_of key ≡ uid)
  key_of uid among = keyed uid (rw ready.actions among)

  -- what counts in a declaration counts in the bag
  counted : (uid : PlainUid) (applies_to : Requests) (expr : Expr) → Contains Entries (uid, applies_to)
      → CountsInRequests applies_to expr → IsCounted bag expr
  counted uid applies_to expr among counts =
      let found = among_declared uid applies_to among in
      let it = action_declaration bag uid found.0 found.1 in
      (it.0, it.1, rw (it.2, found.2) counts)

  -- a principal or a resource of a declaration has to be an entity type
  placed : (uid : PlainUid) (applies_to : Requests) (reference : Reference) → Contains Entries (uid, applies_to)
      → IsPrincipalOrResource applies_to reference → IsAtEntityTypePosition bag reference
  placed uid applies_to reference among place =
      let found = among_declared uid applies_to among in
      let it = action_declaration bag uid found.0 found.1 in
      (it.0, it.1, rw (it.2, found.2) place)

  -- enough is known for what counts in a declaration
  known_counted : (uid : PlainUid) (applies_to : Requests) (expr : Expr) → Contains Entries (uid, applies_to)
      → CountsInRequests applies_to expr → Covers (definitions bag extensions) scope expr
  known_counted uid applies_to expr among counts = ready.known.knows expr (counted uid applies_to expr among counts)

  -- the names of principals or resources are those that these resolve to
  names_resolved : (references : List Reference) (names : List PlainName) → AreNamed held references names → (name : PlainName)
      → Contains names name ↔ IsNamedBy (names_of (definitions bag extensions)) references name
  names_resolved references names named name = (
    λ there. let it = (named name).0 there in (it.0, it.1, resolves it.0 name it.2),
    λ by. (named name).1 (by.0, by.1, held_resolves by.0 name by.2),
  )

  -- the kind of an action is the declared one
  said_kind : (uid : PlainUid) (applies_to : Requests) (kind : ActionKind) → SaysTogether is_action_definition Entries uid applies_to
      → IsElaboratedKind scope applies_to kind → IsDeclaredActionKind (definitions bag extensions) applies_to kind
  said_kind uid elsewhere (defined_action principal_types resource_types ty) says elaborated = elaborated
  said_kind uid elsewhere external_action says elaborated = tt
  said_kind uid (requests principals resources context) external_action says elaborated = elaborated
  said_kind uid (requests principals resources context) (defined_action principal_types resource_types ty) says elaborated =
      let all = requests principals resources context in
      let among = said_definition (by_test is_action_definition) Entries uid all refl says in (
        names_resolved principals principal_types elaborated.0,
        names_resolved resources resource_types elaborated.1,
        elaborated.2 (definitions bag extensions) (known_counted uid all context among refl),
      )

  -- what is said of the declarations the bag says
  said_in_bag : (uid : PlainUid) (applies_to : Requests) → SaysTogether is_action_definition Entries uid applies_to → ActionSays bag uid applies_to
  said_in_bag uid applies_to says =
      bag_says bag uid applies_to (rw same_entries at says)

  -- a context that is no record type is a fault of the bag
  context_fault : (uid : PlainUid) (applies_to : Requests) → Contains Entries (uid, applies_to) → HasNoRecord scope applies_to
      → IsFault bag extensions (context_not_record uid)
  context_fault uid elsewhere among none = absurd none
  context_fault uid (requests principals resources context) among none =
      let all = requests principals resources context in (
        principals,
        resources,
        context,
        rw same_definitions at (declared_definition (by_test is_action_definition) Entries uid all refl among),
        (none.0, none.1 (definitions bag extensions) (known_counted uid all context among refl), none.2),
      )

  -- a name that is no declared entity type's and yet resolves is that of a type of actions
  undeclared_action_type : (name : PlainName) → ¬ Contains (names_in types) name
      → IsDefined (defined_names bag extensions) Entity name → IsActionType name
  undeclared_action_type name none is_defined = elim is_defined [
    | inl common ↦ absurd common.0
    | inr is_entity ↦ elim (Contains-append_cases (map (λ it. it.0) (declared_entities bag)) (map (λ uid. uid.ty) (action_uids bag)) name is_entity.1) [
      | inl among ↦ absurd (none ((ready.entity_types name).1 among))
      | inr action ↦ action_type bag name action
    ]
  ]

  -- a refusal of a principal or a resource is a fault of the bag, unless memory ran out
  place_fault : (uid : PlainUid) (applies_to : Requests) (reference : Reference) (fault : Fault) → Contains Entries (uid, applies_to)
      → IsPrincipalOrResource applies_to reference → IsPlaceFault held (names_in types) reference fault
      → (fault ≡ out_of_memory) ⊎ IsFault bag extensions fault
  place_fault uid applies_to reference fault among place refused =
      let is_placed = placed uid applies_to reference among place in
      elim refused [
        | inl at_fault ↦ type_fault bag extensions held ready.known.names ready.known.unreserved reference is_placed fault at_fault
        | inr undeclared ↦
            let name = undeclared.0 in
            let resolved = resolves reference name undeclared.2.1 in
            let kinds = (first_defined (defined_names bag extensions) reference.kind reference.possibilities name resolved).1 in
            inr (rw undeclared.1 (
              (λ wrong. cc),
              λ each there.
                  rw (← Contains-single name each there)
                  (undeclared_action_type name undeclared.3 (rw undeclared.2.0 at kinds), reference, is_placed, resolved),
            ))
      ]

  -- a refusal of a parent of an action is a fault of the bag, unless memory ran out
  parent_refused : (uid : PlainUid) (reference : ActionReference) → IsActionParent bag uid reference → (fault : Fault)
      → IsParentActionFault held reference fault → (fault ≡ out_of_memory) ⊎ IsFault bag extensions fault
  parent_refused uid reference parent (type_not_defined []) refused = absurd (refused.0 refl)
  parent_refused uid reference parent (type_not_defined (first ∷ rest)) refused =
      absurd (refused.1 first (Contains-cons first rest first (inl refl))).0
  parent_refused uid reference parent (action_not_defined actions) refused = inr (
    refused.0,
    λ carried among.
        let found = refused.1 carried among in
        let nothing : NamesNoAction (action_uids bag) found.0 = λ ty possible action.
        found.3 ty possible ((ready.known.names.actions (record { ty = ty; eid = found.0.id })).1 action) in
        (uid, found.0, rw found.1 at parent, found.2, nothing),
  )
  parent_refused uid reference parent (reserved_name name) refused = absurd refused.1
  parent_refused uid reference parent out_of_memory refused = inl refl
  parent_refused uid reference parent _ refused = absurd refused

  -- so is one of the parents of all
  pub parent_fault : (fault : Fault)
      → IsParentFault (IsParentActionFault held) (parents_in (map (with_parents parents_of) declared)) fault
      → (fault ≡ out_of_memory) ⊎ IsFault bag extensions fault
  parent_fault fault refused = elim refused [
    | inl wanting ↦ inl wanting
    | inr one ↦ parent_refused one.0 one.1 (listed_parent bag extensions declared types scope ready one.0 one.1 one.2) fault one.3
  ]

  -- a refusal of declarations is a fault of the bag, unless memory ran out
  pub collecting_fault : (fault : Fault) → IsCollectingFault is_action_definition uid_of (λ key. IsRequestsFault scope (names_in types) (uid_of key)) duplicate_action Entries fault
      → (fault ≡ out_of_memory) ⊎ IsFault bag extensions fault
  collecting_fault fault refused = elim refused [
    | inl wanting ↦ inl wanting
    | inr (inl one) ↦ elim one.3 [
      | inl wanting ↦ inl wanting
      | inr (inl expr) ↦ expr_fault bag extensions (extensions_in_scope scope) ready.known.extensions ready.known.unreserved expr.0 fault (counted (uid_of one.0) one.1 expr.0 one.2 expr.1)
          (expr.2.each (definitions bag extensions) (known_counted (uid_of one.0) one.1 expr.0 one.2 expr.1))
      | inr (inr (inl context)) ↦ inr (rw context.0 (context_fault (uid_of one.0) one.1 one.2 context.1))
      | inr (inr (inr place)) ↦ place_fault (uid_of one.0) one.1 place.0 fault one.2 place.1 place.2
    ]
    | inr (inr twice) ↦ inr (rw twice.1 (rw same_definitions at twice.2))
  ]

  module _ (before : List (EntityUID × ValidatorActionId)) (collected : AreCollected scope Entries before)
      (once : (uid : PlainUid) → ¬ Twice (defined_in is_action_definition Entries) uid)
      (edges : List (EntityUID × EntityUID)) (are : AreEdges held.actions declared edges) where
    -- a declared uid has an action
    stands : (key : EntityUID) → Contains (action_uids bag) (uid_of key) → IsSome (node_at before key)
    stands key among = by (node_at before key) (collected key) where
      P : List PlainUid → Type 0
      P uids = Contains uids (uid_of key)

      by : (o : Option ValidatorActionId) → IsCollectedAt is_action_definition IsExternal uid_in (GivesAction scope) Entries (uid_of key) o → IsSome o
      by None none = absurd (none (rw same_uids among))
      by (Some it) is = refl

    -- the nodes and the edges are ready to be linked
    pub ready_to_link : AreReady (uid_eq.ghosts).eq has_descendant edges before
    ready_to_link = record {
      apart = collected_apart (uid_eq.ghosts).eq uid_of has_descendant (λ it. (parts_of it).descendants.keys) (λ it key. list_any-uids key (parts_of it).descendants.keys)
          is_action_definition IsExternal uid_in (GivesAction scope) (λ body it given. given.no_descendants) Entries before collected;
      ancestors = λ upper lower above.
          stands upper (edge_declared bag extensions declared types scope ready edges are upper lower above);
      lowers = λ upper lower above.
          stands lower (lower_declared bag extensions declared types scope ready edges are upper lower above);
    }

    -- a refusal of edges is a fault of the bag, unless memory ran out
    pub linking_fault : (fault : Fault) → IsLinkingFault edges fault → (fault ≡ out_of_memory) ⊎ IsFault bag extensions fault
    linking_fault fault refused = elim refused [
      | inl wanting ↦ inl wanting
      | inr cycle ↦ inr (rw cycle.1 (chain_descends bag extensions declared types scope ready edges are cycle.2))
    ]

    module _ (after : List (EntityUID × ValidatorActionId)) (linked : AreLinked edges before after) where
      -- what stands at a key after all is what the bag declares of the uid
      pub declared_at : (key : EntityUID) (it : ValidatorActionId) → node_at after key ≡ Some it
          → IsDeclaredAction bag extensions (plain_action_entry (key, it))
      declared_at key it found =
          let old = alike_before SameAction (node_at before key) it (rw found at (linked.same key)) in
          let is : IsCollected is_action_definition IsExternal uid_in (GivesAction scope) Entries (uid_of key) old.0 =
          rw old.1 at (collected key) in
          record {
            applies_to = is.body;
            says = said_in_bag (uid_of key) is.body is.says;
            uid = sym old.2.0 ∙ is.name;
            kind = rw old.2.1 at (said_kind (uid_of key) is.body (action_of old.0).kind is.says is.given.kind);
            descendants = descendants (uid_eq.ghosts).eq uid_of has_descendant (λ each. (parts_of each).descendants.keys)
                (λ each other. list_any-uids other (parts_of each).descendants.keys) edges (IsDescendantAction bag)
                (λ upper lower. chain_descends bag extensions declared types scope ready edges are)
                (λ lower upper. descends_by_chain bag extensions declared types scope ready edges are) after linked.linked key it found;
          }

      -- under each declared uid something stands after all
      pub stands_after : (uid : PlainUid) → Contains (action_uids bag) uid
          → (key : EntityUID) × (uid_of key ≡ uid) × IsSome (node_at after key)
      stands_after uid among =
          let key = key_of uid among in
          let there = stands key.0 (rw key.1 among) in
          (key.0, key.1, alike_after SameAction (node_at before key.0) (node_at after key.0) (linked.same key.0) there)

      -- no action is a descendant of itself
      no_cycle : (uid : PlainUid) → ¬ IsDescendantAction bag uid uid
      no_cycle uid descends =
          let key = key_of uid (descendant_declared bag descends) in
          let chain = descends_by_chain bag extensions declared types scope ready edges are descends key.0 (sym key.1) in
          linked.acyclic key.0 (chain_to_same edges key.0 chain.2 (chain.1 ∙ sym key.1))

      module _ (sound : (uid : PlainUid) (applies_to : Requests) → Contains Entries (uid, applies_to)
          → AreSoundRequests scope (names_in types) applies_to) where
        -- each context is a record type
        no_context_fault : (uid : PlainUid) → ¬ IsFault bag extensions (context_not_record uid)
        no_context_fault uid fault =
            let among = said_definition (by_test is_action_definition) Entries uid (requests fault.0 fault.1 fault.2) refl (rw same_definitions fault.3) in
            let record_context = (sound uid (requests fault.0 fault.1 fault.2) among).record_context in
            fault.4.2 (rw (elaborated_once (definitions bag extensions) ready.known.one_definition
            (record_context.1 (definitions bag extensions)
            (known_counted uid (requests fault.0 fault.1 fault.2) fault.2 among refl))
            fault.4.1) at record_context.2)

        -- principals and resources are declared entity types
        place_declared : (uid : PlainUid) (body : ActionBody) (reference : Reference) (name : PlainName)
            → Contains (declared_actions bag) (uid, body) → IsPrincipalOrResource body.applies_to reference
            → ResolvesTo (defined_names bag extensions) reference name → Contains (map (λ it. it.0) (declared_entities bag)) name
        place_declared uid body reference name among place resolved =
            let found = (sound uid body.applies_to (among_collected uid body among)).placed reference place in
            let same : found.0 ≡ name = one_name reference found.0 name (resolves reference found.0 found.1) resolved in
            (ready.entity_types name).0 (rw same at found.2)

        -- what is certain of the declarations
        pub certain : ActionsAreSound bag extensions
        certain = record {
          once = λ uid twice. once uid
              (rw same_definitions twice);
          no_cycle = no_cycle;
          records = no_context_fault;
          closed = λ uid body expr among counts.
              (sound uid body.applies_to (among_collected uid body among)).closed expr counts;
          extension_types = λ uid body expr among counts word mentioned.
              rw ready.known.extensions at
              ((sound uid body.applies_to (among_collected uid body among)).extensions expr counts word mentioned);
          resolves = λ uid body expr among counts.
              let there = among_collected uid body among in
              (sound uid body.applies_to there).resolves expr counts (definitions bag extensions)
              (known_counted uid body.applies_to expr there counts);
          named = parent_named bag extensions declared types scope ready edges are;
          placed = λ uid body reference among place.
              let found = (sound uid body.applies_to (among_collected uid body among)).placed reference place in
              (found.0, resolves reference found.0 found.1);
          entity_types = place_declared;
        }
