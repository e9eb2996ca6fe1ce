-- What holds of a bag holds of another whose declarations are alike pairwise, where references that
-- are alike resolve to the same, and expressions that are alike are elaborated as the same.
use Rattle.std.proofs.Common.{◌≡◌, ◌↔◌, ◌⊎◌, List, ◌++◌, Option, Some, None, map, sym, subst, ◌∙◌, refl, inl, inr, arith, Contains}
use Rattle.std.proofs.lemmas.List.{map-append}
use Rattle.cedar_ast.proofs.Chains.{refined}
use Rattle.cedar_schema_laws.proofs.MovedBags.{common_same, entity_same, action_same, defined_entity_same, defined_action_same, types_same, entity_moved, action_moved}
use Rattle.cedar_schema_laws.proofs.MovedLemmas.{Likeness, TurnsTo, TagsAlike, EntitiesAlike, RequestsAlike, BodiesAlike, DeclarationsAlike, bags-sym}
use Rattle.cedar_schema_laws.specs.Words.{ActionKind, ActionReference, ActionSays, AreDeclaredTags, Bag, Body, ClosedAttributes, CountsIn, CountsInEntity, CountsInRequests, Declaration, ElaboratesTo, EntityBody, EntitySays, EntityTypeKind, Expr, Extensions, Fault, HasAttributes, HasParent, HasParentAction, HoldsPairwise, IsActionParent, IsAtEntityTypePosition, IsCounted, IsDeclaredAction, IsDeclaredActionKind, IsDeclaredEntityType, IsDeclaredKind, IsDeclaredSchema, IsDescendant, IsDescendantAction, IsEntityTypePosition, IsExternalType, IsFault, IsNamedBy, IsNoRecord, IsParent, IsPrincipalOrResource, NamesAction, PlainName, PlainSchema, PlainUid, Reference, Requests, ResolvesTo, SchemaAction, SchemaEntityType, Text, Ty, action, action_attributes, action_cycle, action_entity_type, action_not_defined, action_shadowing, action_uids, built_ins, common_type, common_type_cycle, context_not_record, declared_common, declared_entities, defined_action, defined_actions, defined_names, definitions, duplicate_action, duplicate_common_type, duplicate_entity_type, elsewhere, entity_parents, entity_type, enumerated, enumerated_below, enumerated_kind, external, external_action, external_below_enumerated, external_kind, one, open_record, record_of, requests, reserved_name, shape_not_record, standard, standard_kind, type_not_defined, type_shadowing, undeclared_entity_types, unknown_extension_type}
use Rattle.cedar_schema_semantics.proofs.TogetherLemmas.{AreRequests, declared_definition, definition_declared, declared_action_definition, action_definition_declared}
use Rattle.cedar_schema_semantics.proofs.TurnLemmas.{turn_forth, turn_back}

-- a fault of this kind depends on how references and types are written
abbrev pub DependsOnWriting : Fault → Type 0
DependsOnWriting open_record = Unit {0}
DependsOnWriting (type_not_defined references) = Unit {0}
DependsOnWriting (action_not_defined actions) = Unit {0}
DependsOnWriting (common_type_cycle name) = Unit {0}
DependsOnWriting (unknown_extension_type name) = Unit {0}
DependsOnWriting _ = ⊥

-- references that are alike resolve to the same, each over what its bag defines
pub record NamesAlike (like : Likeness) (bag other : Bag) (extensions : Extensions) : Type 0 where
  pub reference : (it found : Reference) → like.reference it found → (name : PlainName)
      → ResolvesTo (defined_names bag extensions) it name ↔ ResolvesTo (defined_names other extensions) found name
  pub parent : (it found : ActionReference) → like.parent it found → (uid : PlainUid)
      → NamesAction (action_uids bag) it uid ↔ NamesAction (action_uids other) found uid

-- expressions that are alike are elaborated as the same
abbrev pub ElaboratesAlike : Likeness → Bag → Bag → Extensions → Type 0
ElaboratesAlike like bag other extensions = (it found : Expr) → like.expr it found → (ty : Ty)
    → ElaboratesTo (definitions bag extensions) it ty → ElaboratesTo (definitions other extensions) found ty

module _ (bag other : Bag) (extensions : Extensions) (like : Likeness) (turn : HoldsPairwise (DeclarationsAlike like) bag other) where
  -- a parent of an entity type moves
  parents_moved : (body found : EntityBody) → EntitiesAlike like body found → (reference : Reference)
      → Contains (entity_parents body) reference
      → (moved : Reference) × Contains (entity_parents found) moved × like.reference reference moved
  parents_moved (standard ps shape tags) (standard ps' shape' tags') alike reference among = turn_forth like.reference ps ps' alike.0 reference among
  parents_moved (external ps) (external ps') alike reference among = turn_forth like.reference ps ps' alike reference among
  parents_moved (enumerated choices) found alike reference among = absurd (omega (arith, among.1))
  parents_moved _ _ alike reference among = absurd alike

  parent_moved : (name : PlainName) (reference : Reference) → IsParent bag name reference
      → (moved : Reference) × IsParent other name moved × like.reference reference moved
  parent_moved name reference (body, among, parent) =
      let there = entity_moved like bag other turn name body among in
      let found = parents_moved body there.0 there.2 reference parent in (found.0, (there.0, there.1, found.1), found.2)

  -- a parent of an action moves
  pub action_parent_moved : (uid : PlainUid) (parent : ActionReference) → IsActionParent bag uid parent → (moved : ActionReference)
      × IsActionParent other uid moved × like.parent parent moved
  action_parent_moved uid parent (body, among, stands) =
      let there = action_moved like bag other turn uid body among in
      let found = turn_forth like.parent body.parents there.0.parents there.2.1 parent stands in
      (found.0, (there.0, there.1, found.1), found.2)

  -- a principal or a resource moves
  request_moved : (it found : Requests) → RequestsAlike like it found → (reference : Reference)
      → IsPrincipalOrResource it reference
      → (moved : Reference) × IsPrincipalOrResource found moved × like.reference reference moved
  request_moved (requests ps rs context) (requests ps' rs' context') alike reference place =
      elim place [
        | inl principal ↦
            let found = turn_forth like.reference ps ps' alike.0 reference principal in
            (found.0, inl found.1, found.2)
        | inr resource ↦
            let found = turn_forth like.reference rs rs' alike.1 reference resource in (found.0, inr found.1, found.2)
      ]
  request_moved _ _ alike _ place = absurd assumption

  -- a place of an entity type moves
  pub placed_moved : (reference : Reference) → IsAtEntityTypePosition bag reference
      → (moved : Reference) × IsAtEntityTypePosition other moved × like.reference reference moved
  placed_moved reference (it, among, place) =
      let there = turn_forth (DeclarationsAlike like) bag other turn it among in
      let found = by it.body there.0.body there.2.2 place in (found.0, (there.0, there.1, found.1), found.2)
    where
      by : (body found : Body) → BodiesAlike like body found → IsEntityTypePosition body reference → (moved : Reference)
          × IsEntityTypePosition found moved × like.reference reference moved
      by (entity_type body) (entity_type found) alike place = parents_moved body found alike reference place
      by (action body) (action found) alike place = request_moved body.applies_to found.applies_to alike.2 reference place
      by _ _ alike place = absurd assumption

  -- what counts in an entity type moves
  entity_count_moved : (body found : EntityBody) → EntitiesAlike like body found → (expr : Expr) → CountsInEntity body expr
      → (moved : Expr) × CountsInEntity found moved × like.expr expr moved
  entity_count_moved (standard ps shape tags) (standard ps' shape' tags') alike expr counts =
      elim counts [ inl is ↦ (shape', inl refl, rw is at alike.1) | inr is ↦ of_tags tags tags' alike.2 is ]
    where
      of_tags : (tags tags' : Option Expr) → TagsAlike like tags tags' → tags ≡ Some expr → (moved : Expr)
          × ((shape' ≡ moved) ⊎ (tags' ≡ Some moved)) × like.expr expr moved
      of_tags (Some it) (Some found) alike is =
          (found, inr refl, subst (λ each. TagsAlike like each (Some found)) is alike)
      of_tags _ _ alike is = absurd (first_of (assumption, cc))
  entity_count_moved _ _ alike _ counts = absurd assumption

  -- what counts moves
  pub counted_moved : (expr : Expr) → IsCounted bag expr → (moved : Expr) × IsCounted other moved × like.expr expr moved
  counted_moved expr (it, among, counts) =
      let there = turn_forth (DeclarationsAlike like) bag other turn it among in
      let found = by it.body there.0.body there.2.2 counts in (found.0, (there.0, there.1, found.1), found.2)
    where
      of_requests : (it found : Requests) → RequestsAlike like it found → CountsInRequests it expr → (moved : Expr)
          × CountsInRequests found moved × like.expr expr moved
      of_requests (requests ps rs context) (requests ps' rs' context') alike counts = (context', refl, rw counts at alike.2)
      of_requests _ _ alike counts = absurd assumption

      by : (body found : Body) → BodiesAlike like body found → CountsIn body expr → (moved : Expr)
          × CountsIn found moved × like.expr expr moved
      by (common_type definition) (common_type found) alike counts = (found, refl, rw counts at alike)
      by (entity_type body) (entity_type found) alike counts = entity_count_moved body found alike expr counts
      by (action body) (action found) alike counts = of_requests body.applies_to found.applies_to alike.2 counts
      by _ _ alike counts = absurd alike

module _ (bag other : Bag) (extensions : Extensions) (like : Likeness) (turn : HoldsPairwise (DeclarationsAlike like) bag other)
    (names_alike : NamesAlike like bag other extensions) where
  -- a descendant moves
  descendant_moved : (lower upper : PlainName) → IsDescendant bag extensions lower upper → IsDescendant other extensions lower upper
  descendant_moved lower upper = refined (λ a b (step : HasParent bag extensions a b).
      (let found = parent_moved bag other extensions like turn a step.0 step.1 in one (found.0, found.1, (names_alike.reference step.0 found.0 found.2 b).0 step.2)))

  -- the same of actions
  descendant_action_moved : (lower upper : PlainUid) → IsDescendantAction bag lower upper → IsDescendantAction other lower upper
  descendant_action_moved lower upper = refined (λ a b (step : HasParentAction bag a b).
      (let found = action_parent_moved bag other extensions like turn a step.0 step.1 in one (found.0, found.1, (names_alike.parent step.0 found.0 found.2 b).0 step.2)))

module _ (bag other : Bag) (extensions : Extensions) (like : Likeness) (turn : HoldsPairwise (DeclarationsAlike like) bag other)
    (names_alike : NamesAlike like bag other extensions) (elaborates : ElaboratesAlike like bag other extensions) where
  -- what is elaborated as no record type stays so
  no_record_moved : (it found : Expr) → like.expr it found → IsNoRecord (definitions bag extensions) it
      → IsNoRecord (definitions other extensions) found
  no_record_moved it found alike none = (none.0, elaborates it found alike none.0 none.1, none.2)

  -- an enumerated entity type moves
  enumerated_moved : (name : PlainName) (choices : List Text) → Contains (declared_entities bag) (name, enumerated choices)
      → Contains (declared_entities other) (name, enumerated choices)
  enumerated_moved name choices among =
      let there = entity_moved like bag other turn name (enumerated choices) among in by there.0 there.1 there.2 where
        by : (found : EntityBody) → Contains (declared_entities other) (name, found)
            → EntitiesAlike like (enumerated choices) found
            → Contains (declared_entities other) (name, enumerated choices)
        by (enumerated others) there alike = rw alike there
        by _ _ alike = absurd alike

  -- an external declaration moves
  external_moved : (name : PlainName) (parents : List Reference) → Contains (declared_entities bag) (name, external parents)
      → (found : List Reference) × Contains (declared_entities other) (name, external found)
      × HoldsPairwise like.reference parents found
  external_moved name parents among =
      let there = entity_moved like bag other turn name (external parents) among in by there.0 there.1 there.2 where
        by : (found : EntityBody) → Contains (declared_entities other) (name, found) → EntitiesAlike like (external parents) found
            → (found : List Reference) × Contains (declared_entities other) (name, external found)
            × HoldsPairwise like.reference parents found
        by (external ps) there alike = (ps, there, alike)
        by _ _ alike = absurd alike

  -- an external entity type is one
  external_type_moved : (name : PlainName) → IsExternalType bag name → IsExternalType other name
  external_type_moved name is_external = (
    rw (entity_same like bag other turn) at is_external.0,
    λ defined. is_external.1 (rw (defined_entity_same like bag other turn) defined),
  )

  -- the requests of a definition move
  definition_requests_moved : (uid : PlainUid) (it : Requests) → Contains (defined_actions bag) (uid, it) → (found : Requests)
      × Contains (defined_actions other) (uid, found) × RequestsAlike like it found
  definition_requests_moved uid it among =
      let body = action_definition_declared bag uid it among in
      let there = action_moved like bag other turn uid body.0 body.1 in
      let alike = rw body.2 at there.2.2 in (
        there.0.applies_to,
        declared_action_definition other uid there.0 there.0.applies_to there.1 refl
            (are it there.0.applies_to alike body.3),
        alike,
      )
    where
      are : (it found : Requests) → RequestsAlike like it found → AreRequests it → AreRequests found
      are (requests ps rs context) (requests ps' rs' context') alike is = tt
      are _ _ alike is = absurd assumption

  -- an action with attributes moves
  attributes_moved : (namespace : _) (id : Text) → HasAttributes bag namespace id → HasAttributes other namespace id
  attributes_moved namespace id (body, among, has) =
      let it : Declaration = record { namespace = namespace; id = id; body = action body } in
      let there = turn_forth (DeclarationsAlike like) bag other turn it among in
      by there.0 there.1 there.2.0 there.2.1 there.0.body refl there.2.2
    where
      by : (y : Declaration) → Contains other y → namespace ≡ y.namespace → id ≡ y.id → (found : Body) → y.body ≡ found
          → BodiesAlike like (action body) found → HasAttributes other namespace id
      by y there same_namespace same_id (action found) is alike =
          (found, subst (Contains other) (λ i. record { namespace = sym same_namespace i; id = sym same_id i; body = is i }) there, sym alike.0 ∙ has)
      by _ _ _ _ _ _ alike = absurd alike

  -- a shape that is no record moves
  shape_moved : (name : PlainName) → IsFault bag extensions (shape_not_record name) → IsFault other extensions (shape_not_record name)
  shape_moved name (parents, shape, tags, among, none) =
      let there = entity_moved like bag other turn name (standard parents shape tags) among in by there.0 there.1 there.2 where
        by : (found : EntityBody) → Contains (declared_entities other) (name, found)
            → EntitiesAlike like (standard parents shape tags) found
            → IsFault other extensions (shape_not_record name)
        by (standard ps' shape' tags') there alike =
            (ps', shape', tags', there, no_record_moved shape shape' alike.1 none)
        by _ _ alike = absurd alike

  -- a context that is no record moves
  context_moved : (uid : PlainUid) → IsFault bag extensions (context_not_record uid) → IsFault other extensions (context_not_record uid)
  context_moved uid (principals, resources, context, among, none) =
      let there = definition_requests_moved uid (requests principals resources context) among in by there.0 there.1 there.2 where
        by : (found : Requests) → Contains (defined_actions other) (uid, found)
            → RequestsAlike like (requests principals resources context) found
            → IsFault other extensions (context_not_record uid)
        by (requests ps' rs' context') there alike =
            (ps', rs', context', there, no_record_moved context context' alike.2 none)
        by elsewhere there alike = absurd alike

  -- a fault of the one is one of the other, or depends on how things are written
  pub fault_moved : (fault : Fault) → IsFault bag extensions fault → DependsOnWriting fault ⊎ IsFault other extensions fault
  fault_moved open_record at_fault = inl tt
  fault_moved (type_not_defined references) at_fault = inl tt
  fault_moved (action_not_defined actions) at_fault = inl tt
  fault_moved (common_type_cycle name) at_fault = inl tt
  fault_moved (unknown_extension_type name) at_fault = inl tt
  fault_moved (action_attributes ids) at_fault =
      inr (at_fault.0, at_fault.1, at_fault.2, λ id among. attributes_moved at_fault.2 id (at_fault.3 id among))
  fault_moved (undeclared_entity_types names) at_fault = inr (
    at_fault.0,
    λ name among.
        (let found = at_fault.1 name among in
        let placed = placed_moved bag other extensions like turn found.1 found.2 in
        (found.0, placed.0, placed.1, (names_alike.reference found.1 placed.0 placed.2 name).0 found.3)),
  )
  fault_moved (type_shadowing name qualified) at_fault =
      let same = types_same like bag other turn in inr (rw same at at_fault.0, rw same at at_fault.1, at_fault.2)
  fault_moved (action_shadowing uid qualified) at_fault =
      let same = action_same like bag other turn in inr (rw same at at_fault.0, rw same at at_fault.1, at_fault.2)
  fault_moved (duplicate_entity_type name) at_fault = inr (rw (defined_entity_same like bag other turn) at at_fault)
  fault_moved (duplicate_common_type name) at_fault =
      let key = λ (each : PlainName × Expr). each.0 in
      let same : map key (declared_common bag ++ built_ins extensions) ≡ map key (declared_common other ++ built_ins extensions) =
      map-append key (declared_common bag) (built_ins extensions)
      ∙ ((λ i. common_same like bag other turn i ++ map key (built_ins extensions))
      ∙ sym (map-append key (declared_common other) (built_ins extensions))) in
      inr (rw same at at_fault)
  fault_moved (duplicate_action uid) at_fault = inr (rw (defined_action_same like bag other turn) at at_fault)
  fault_moved (action_cycle uid) at_fault = inr (descendant_action_moved bag other extensions like turn names_alike uid uid at_fault)
  fault_moved (action_entity_type name) at_fault =
      let there = entity_moved like bag other turn name at_fault.0 at_fault.1 in inr (there.0, there.1, at_fault.2)
  fault_moved (shape_not_record name) at_fault = inr (shape_moved name at_fault)
  fault_moved (context_not_record uid) at_fault = inr (context_moved uid at_fault)
  fault_moved (reserved_name name) at_fault =
      let HasName : List PlainName → Type 0 = λ list. Contains list name in inr (
        elim at_fault.0 [
          | inl is_entity ↦ inl (rw (entity_same like bag other turn) at is_entity)
          | inr of_action ↦ inr (subst HasName (λ i. map (λ uid. uid.ty) (action_same like bag other turn i)) of_action)
        ],
        at_fault.1,
      )
  fault_moved (external_below_enumerated lower upper) at_fault = inr (
    at_fault.0,
    external_type_moved lower at_fault.1,
    enumerated_moved upper at_fault.0 at_fault.2,
    descendant_moved bag other extensions like turn names_alike lower upper at_fault.3,
  )
  fault_moved (enumerated_below lower upper) at_fault =
      let there = external_moved lower at_fault.1 at_fault.4 in
      let parent = turn_forth like.reference at_fault.1 there.0 there.2 at_fault.2 at_fault.5 in inr (
        at_fault.0,
        there.0,
        parent.0,
        enumerated_moved lower at_fault.0 at_fault.3,
        there.1,
        parent.1,
        (names_alike.reference at_fault.2 parent.0 parent.2 upper).0 at_fault.6,
      )
  fault_moved _ at_fault = absurd at_fault

  -- what some references name, those that mean the same do
  named_moved : (references others : List Reference) → HoldsPairwise like.reference references others → (name : PlainName)
      → IsNamedBy (defined_names bag extensions) references name → IsNamedBy (defined_names other extensions) others name
  named_moved references others alike name (reference, among, resolves) =
      let found = turn_forth like.reference references others alike reference among in (
        found.0,
        found.1,
        (names_alike.reference reference found.0 found.2 name).0 resolves,
      )

  -- and the other way round
  named_back : (references others : List Reference) → HoldsPairwise like.reference references others → (name : PlainName)
      → IsNamedBy (defined_names other extensions) others name → IsNamedBy (defined_names bag extensions) references name
  named_back references others alike name (found, among, resolves) =
      let it = turn_forth (λ each other. like.reference other each) others references
      (turn_back like.reference (λ each other. like.reference other each) (λ each other holds. holds) references others alike) found among in
      (it.0, it.1, (names_alike.reference it.0 found it.2 name).1 resolves)

  -- tags that are alike are declared alike
  tags_moved : (tags found : Option Expr) (ty : Option Ty) → TagsAlike like tags found
      → AreDeclaredTags (definitions bag extensions) tags ty → AreDeclaredTags (definitions other extensions) found ty
  tags_moved None None None alike fits = tt
  tags_moved (Some expr) (Some found) (Some ty) alike fits =
      elaborates expr found alike ty fits
  tags_moved _ _ _ alike fits = absurd assumption

  -- what the declarations of an entity type say moves, with its kind
  says_moved : (name : PlainName) (body : EntityBody) (kind : EntityTypeKind) → EntitySays bag name body
      → IsDeclaredKind (definitions bag extensions) body kind → (found : EntityBody) × EntitySays other name found
      × IsDeclaredKind (definitions other extensions) found kind
  says_moved name (external ps) external_kind says fits = (external ps, external_type_moved name says, tt)
  says_moved name (enumerated choices) kind says fits =
      let there = enumerated_moved name choices (definition_declared bag name (enumerated choices) says).0 in
      (enumerated choices, declared_definition other name (enumerated choices) tt there, by kind fits)
    where
      by : (kind : EntityTypeKind) → IsDeclaredKind (definitions bag extensions) (enumerated choices) kind
          → IsDeclaredKind (definitions other extensions) (enumerated choices) kind
      by (enumerated_kind ids) fits = fits
      by _ fits = absurd fits
  says_moved name (standard ps shape tags) kind says fits =
      let there = entity_moved like bag other turn name (standard ps shape tags) (definition_declared bag name
      (standard ps shape tags) says).0 in
      by there.0 there.1 there.2 kind fits
    where
      by : (found : EntityBody) → Contains (declared_entities other) (name, found)
          → EntitiesAlike like (standard ps shape tags) found
          → (kind : EntityTypeKind) → IsDeclaredKind (definitions bag extensions) (standard ps shape tags) kind → (found : EntityBody)
          × EntitySays other name found × IsDeclaredKind (definitions other extensions) found kind
      by (standard ps' shape' tags') there alike (standard_kind fields openness ty) fits = (
        standard ps' shape' tags',
        declared_definition other name (standard ps' shape' tags') tt there,
        (
          elaborates shape shape' alike.1 (record_of fields ClosedAttributes) fits.0,
          fits.1,
          tags_moved tags tags' ty alike.2 fits.2,
        ),
      )
      by _ _ alike _ fits = absurd assumption
  says_moved name (external ps) _ says fits = absurd fits

  -- what the declarations of an action say moves, with its kind
  action_says_moved : (uid : PlainUid) (it : Requests) (kind : ActionKind) → ActionSays bag uid it
      → IsDeclaredActionKind (definitions bag extensions) it kind → (found : Requests) × ActionSays other uid found
      × IsDeclaredActionKind (definitions other extensions) found kind
  action_says_moved uid elsewhere external_action says fits = (
    elsewhere,
    (
      rw (action_same like bag other turn) at says.0,
      λ defined. says.1 (rw (defined_action_same like bag other turn) defined),
    ),
    tt,
  )
  action_says_moved uid elsewhere (defined_action ps rs ty) says fits = absurd fits
  action_says_moved uid (requests ps rs context) kind says fits =
      let there = definition_requests_moved uid (requests ps rs context) says in by there.0 there.1 there.2 kind fits where
        by : (found : Requests) → Contains (defined_actions other) (uid, found) → RequestsAlike like (requests ps rs context) found
            → (kind : ActionKind) → IsDeclaredActionKind (definitions bag extensions) (requests ps rs context) kind → (found : Requests)
            × ActionSays other uid found × IsDeclaredActionKind (definitions other extensions) found kind
        by (requests ps' rs' context') there alike (defined_action principals resources ty) fits = (
          requests ps' rs' context',
          there,
          (
            λ name. (
              λ among. named_moved ps ps' alike.0 name ((fits.0 name).0 among),
              λ named. (fits.0 name).1 (named_back ps ps' alike.0 name named),
            ),
            λ name. (
              λ among. named_moved rs rs' alike.1 name ((fits.1 name).0 among),
              λ named. (fits.1 name).1 (named_back rs rs' alike.1 name named),
            ),
            elaborates context context' alike.2 ty fits.2,
          ),
        )
        by _ _ alike _ fits = absurd assumption

-- alike the other way round
abbrev pub turned : Likeness → Likeness
turned like = record {
  reference = λ it other. like.reference other it;
  parent = λ it other. like.parent other it;
  expr = λ it other. like.expr other it;
}

pub turns : (like : Likeness) → TurnsTo like (turned like)
turns like = record {
  reference = λ it other alike. alike;
  parent = λ it other alike. alike;
  expr = λ it other alike. alike;
}

-- references that are alike resolve to the same the other way round
pub names_turned : (like : Likeness) (bag other : Bag) (extensions : Extensions) → NamesAlike like bag other extensions
    → NamesAlike (turned like) other bag extensions
names_turned like bag other extensions names = record {
  reference = λ it found alike name. let both = names.reference found it alike name in (both.1, both.0);
  parent = λ it found alike uid. let both = names.parent found it alike uid in (both.1, both.0);
}

module _ (bag other : Bag) (extensions : Extensions) (like : Likeness) (turn : HoldsPairwise (DeclarationsAlike like) bag other)
    (names_alike : NamesAlike like bag other extensions) (elaborates : ElaboratesAlike like bag other extensions) where
  -- the other way round
  back : HoldsPairwise (DeclarationsAlike (turned like)) other bag
  back = bags-sym like (turned like) (turns like) bag other turn

  names_back : NamesAlike (turned like) other bag extensions
  names_back = names_turned like bag other extensions names_alike

  -- an entity type that the one declares the other does
  type_moved : (it : PlainName × SchemaEntityType) → IsDeclaredEntityType bag extensions it → IsDeclaredEntityType other extensions it
  type_moved it declared =
      let found = says_moved bag other extensions like turn names_alike elaborates it.0 declared.body it.1.kind declared.says declared.kind in
      record {
        body = found.0;
        says = found.1;
        name = declared.name;
        kind = found.2;
        descendants = λ lower. (
          λ among. descendant_moved bag other extensions like turn names_alike lower it.0 ((declared.descendants lower).0 among),
          λ below. (declared.descendants lower).1
              (descendant_moved other bag extensions (turned like) back names_back lower it.0 below),
        );
      }

  -- an action that the one declares the other does
  declared_action_moved : (it : PlainUid × SchemaAction) → IsDeclaredAction bag extensions it → IsDeclaredAction other extensions it
  declared_action_moved it declared =
      let found = action_says_moved bag other extensions like turn names_alike elaborates it.0 declared.applies_to it.1.kind declared.says declared.kind in
      record {
        applies_to = found.0;
        says = found.1;
        uid = declared.uid;
        kind = found.2;
        descendants = λ lower. (
          λ among. descendant_action_moved bag other extensions like turn names_alike lower it.0 ((declared.descendants lower).0 among),
          λ below. (declared.descendants lower).1
              (descendant_action_moved other bag extensions (turned like) back names_back lower it.0 below),
        );
      }

  -- a schema that the one declares the other does
  pub schema_moved : (schema : PlainSchema) → IsDeclaredSchema bag extensions schema → IsDeclaredSchema other extensions schema
  schema_moved schema declared = record {
    entity_types = λ it among. type_moved it (declared.entity_types it among);
    each_entity_type = λ name among. declared.each_entity_type name (rw (entity_same like bag other turn) among);
    entity_types_in_order = declared.entity_types_in_order;
    actions = λ it among. declared_action_moved it (declared.actions it among);
    each_action = λ uid among. declared.each_action uid (rw (action_same like bag other turn) among);
    actions_in_order = declared.actions_in_order;
    action_entities = declared.action_entities;
  }
