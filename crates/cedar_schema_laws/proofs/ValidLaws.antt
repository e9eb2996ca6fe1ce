-- The schema that a bag declares is valid, and its descendants are closed.
use Rattle.std.proofs.Common.{◌≡◌, ◌⊎◌, List, [], ◌∷◌, Option, Some, None, map, ap, sym, subst, ◌∙◌, refl, inl, inr, arith, Contains}
use Rattle.std.proofs.lemmas.List.Elements.{Contains-append_right, Contains-append_cases}
use Rattle.cedar_ast.proofs.Basics.{Contains-image}
use Rattle.cedar_ast.proofs.Chains.{first_step, refined}
use Rattle.cedar_ast.proofs.Lists.{Contains-cons, Contains-cons_cases, Contains-preimage}
use Rattle.cedar_schema_laws.proofs.EnumeratedLemmas.{enumerated_parent}
use Rattle.cedar_schema_laws.proofs.MentionLemmas.{mentions_entity, known_written, known_counted, known_common}
use Rattle.cedar_schema_laws.proofs.ResolutionLaws.{some_first}
use Rattle.cedar_schema_laws.specs.Words.{ActionBody, ActionKind, AreDeclaredTags, Bag, Chain, ClosesAction, ClosesSchema, ClosesType, CountsInEntity, CountsInRequests, ElaboratesTo, EntityBody, EntitySays, EntityTypeKind, Expr, Extensions, HasAction, HasEntityType, HasParent, HasParentAction, HoldsPairwise, IsActionType, IsAtEntityTypePosition, IsContextOf, IsCounted, IsDeclaredActionKind, IsDeclaredKind, IsDeclaredSchema, IsDescendant, IsDescendantAction, IsEnumerated, IsExternal, IsExternalType, IsIllFormed, IsOfKind, IsPrincipalOrResource, IsPrincipalOrResourceOf, IsTypeIn, IsTypeOfKind, IsUnknownType, IsValidSchema, ListsDescendant, ListsDescendantAction, PlainName, PlainSchema, PlainUid, PositionsFit, Reference, Requests, ResolvesTo, SchemaAction, SchemaEntityType, Text, Ty, TypeNamesFit, action_cycle, action_entity_type, action_shadowing, action_uids, declared_actions, declared_common, declared_entities, declared_types, defined_action, defined_names, definitions, elsewhere, enumerated, enumerated_below, extension_types, external, external_below_enumerated, invalid_action_type, one, record_of, requests, standard, standard_kind, type_shadowing, undeclared_action_descendant, undeclared_entity_types, unknown_extension_type}
use Rattle.cedar_schema_semantics.proofs.DeclarationLemmas.{entity_declaration, action_declaration}
use Rattle.cedar_schema_semantics.proofs.OccurrenceLemmas.{Contains-entry}
use Rattle.cedar_schema_semantics.proofs.ResolutionLemmas.{first_defined, names_no_common}
use Rattle.cedar_schema_semantics.proofs.TogetherLemmas.{definition_declared, said_is_declared, said_action_is_declared, said_definition, said_action_definition, entity_counted, requests_counted, request_placed}

-- a relation of each item to itself holds pairwise of a list and itself
itself_pairwise : {A : Type 0} (R : A → A → Type 0) (xs : List A) → ((x : A) → Contains xs x → R x x) → HoldsPairwise R xs xs
itself_pairwise R [] each = tt
itself_pairwise R (x ∷ xs) each =
    (each x (Contains-cons x xs x (inl refl)), itself_pairwise R xs (λ y among. each y (Contains-cons x xs y (inr among))))

module _ (bag : Bag) (extensions : Extensions) (schema : PlainSchema) (declared : IsDeclaredSchema bag extensions schema) where
  -- what is listed as a descendant is one
  pub listed_descendant : (lower upper : PlainName) → ListsDescendant schema lower upper → IsDescendant bag extensions lower upper
  listed_descendant lower upper (it, there, among) = ((declared.entity_types (upper, it) there).descendants lower).0 among

  -- the same of actions
  pub listed_action : (lower upper : PlainUid) → ListsDescendantAction schema lower upper → IsDescendantAction bag lower upper
  listed_action lower upper (it, there, among) = ((declared.actions (upper, it) there).descendants lower).0 among

  -- what is reached by listed descendants is a descendant
  pub reached_descendant : (lower upper : PlainName) → Chain (ListsDescendant schema) lower upper → IsDescendant bag extensions lower upper
  reached_descendant lower upper = refined listed_descendant

  -- the same of actions
  pub reached_action : (lower upper : PlainUid) → Chain (ListsDescendantAction schema) lower upper → IsDescendantAction bag lower upper
  reached_action lower upper = refined listed_action

  -- the entity types of a declared schema are closed
  type_closed : (it : PlainName × SchemaEntityType) → Contains schema.entity_types it → ClosesType schema it it
  type_closed it among = record {
    key = refl;
    name = refl;
    kind = refl;
    descendants = λ lower. (
      λ listed. one (it.1, among, listed),
      λ chain. ((declared.entity_types it among).descendants lower).1 (reached_descendant lower it.0 chain),
    );
  }

  -- the actions of a declared schema are closed
  action_closed : (it : PlainUid × SchemaAction) → Contains schema.actions it → ClosesAction schema it it
  action_closed it among = record {
    key = refl;
    uid = refl;
    kind = refl;
    descendants = λ lower. (
      λ listed. one (it.1, among, listed),
      λ chain. ((declared.actions it among).descendants lower).1 (reached_action lower it.0 chain),
    );
  }

  -- closing a declared schema gives it
  pub declared_closed : ClosesSchema schema schema
  declared_closed = record {
    entity_types = itself_pairwise (ClosesType schema) schema.entity_types type_closed;
    actions = itself_pairwise (ClosesAction schema) schema.actions action_closed;
    action_entities = declared.action_entities;
  }

module _ (bag : Bag) (extensions : Extensions) (schema : PlainSchema) (fit : TypeNamesFit (extension_types extensions))
    (places : PositionsFit bag) (well : ¬ IsIllFormed bag extensions) (declared : IsDeclaredSchema bag extensions schema) where
  -- what references can name as an entity type is declared, or the type of a declared action
  entity_known : (name : PlainName) → Contains (defined_names bag extensions).entities name → HasEntityType schema name
      ⊎ ((uid : PlainUid) × HasAction schema uid × (uid.ty ≡ name))
  entity_known name among =
      elim (Contains-append_cases (map (λ it. it.0) (declared_entities bag)) (map (λ uid. uid.ty) (action_uids bag)) name among) [
        | inl here ↦ inl (declared.each_entity_type name here)
        | inr later ↦
            let found = Contains-preimage (λ uid. uid.ty) (action_uids bag) name later in
            inr (found.0, declared.each_action found.0 found.1, found.2)
      ]

  -- a declared action's type is that of actions
  action_type : (uid : PlainUid) → HasAction schema uid → IsActionType uid.ty
  action_type uid has =
      let found = Contains-preimage (λ it. it.0) schema.actions uid has in
      let it = declared.actions found.0 found.1 in
      let body = Contains-preimage (λ (each : PlainUid × ActionBody). each.0) (declared_actions bag) found.0.0
      (said_action_is_declared bag found.0.0 it.applies_to it.says) in
      let declaration = action_declaration bag body.0.0 body.0.1 body.1 in
      ap (λ (each : PlainUid). each.ty.base) (sym (declaration.3 ∙ (body.2 ∙ found.2)))

  -- a type of an entity type is what a counted expression is elaborated as
  kind_written : (body : EntityBody) (kind : EntityTypeKind) (ty : Ty)
      → IsDeclaredKind (definitions bag extensions) body kind → IsTypeOfKind kind ty → (expr : Expr)
      × CountsInEntity body expr × ElaboratesTo (definitions bag extensions) expr ty
  kind_written (standard parents shape tags) (standard_kind fields openness tag_type) ty fits of_kind =
      elim of_kind [
        | inl same ↦ (shape, inl refl, rw (same ∙ ap (record_of fields) fits.1) fits.0)
        | inr same ↦ tags_written tags tag_type fits.2 same
      ]
    where
      tags_written : (tags : Option Expr) (tag_type : Option Ty)
          → AreDeclaredTags (definitions bag extensions) tags tag_type → tag_type ≡ Some ty → (expr : Expr)
          × ((shape ≡ expr) ⊎ (tags ≡ Some expr)) × ElaboratesTo (definitions bag extensions) expr ty
      tags_written (Some expr) (Some other) written same =
          (expr, inr refl, subst (AreDeclaredTags (definitions bag extensions) (Some expr)) same written)
      tags_written None (Some other) written same = absurd written
      tags_written _ None written same = absurd (first_of (assumption, cc))
  kind_written _ (standard_kind fields openness tag_type) ty fits of_kind = absurd fits
  kind_written _ _ _ fits of_kind = absurd assumption

  -- a context of an action is what a counted expression is elaborated as
  context_written : (body : Requests) (kind : ActionKind) (ty : Ty)
      → IsDeclaredActionKind (definitions bag extensions) body kind → IsContextOf kind ty → (expr : Expr)
      × CountsInRequests body expr × ElaboratesTo (definitions bag extensions) expr ty
  context_written (requests principals resources context) (defined_action ps rs other) ty fits same =
      (context, refl, rw same at fits.2)
  context_written elsewhere (defined_action ps rs other) ty fits same = absurd fits
  context_written _ _ _ fits same = absurd assumption

  -- each type of the schema is what a counted expression is elaborated as
  type_written : (ty : Ty) → IsTypeIn schema ty → (expr : Expr) × IsCounted bag expr × ElaboratesTo (definitions bag extensions) expr ty
  type_written ty type_in =
      elim type_in [
        | inl of_entity ↦
            let it = declared.entity_types of_entity.0 of_entity.1 in
            let found = kind_written it.body of_entity.0.1.kind ty it.kind of_entity.2 in
            let declaration = entity_declaration bag of_entity.0.0 it.body
            (said_definition bag of_entity.0.0 it.body it.says (entity_counted it.body found.0 found.1)) in
            (found.0, (declaration.0, declaration.1, rw declaration.2 found.1), found.2)
        | inr of_action ↦
            let it = declared.actions of_action.0 of_action.1 in
            let found = context_written it.applies_to of_action.0.1.kind ty it.kind of_action.2 in
            let body = said_action_definition bag of_action.0.0 it.applies_to it.says (requests_counted it.applies_to found.0 found.1) in
            let declaration = action_declaration bag of_action.0.0 body.0 body.1 in
            (found.0, (declaration.0, declaration.1, rw (declaration.2, body.2) found.1), found.2)
      ]

  -- the name of an entity type of the schema is declared
  pub declared_type : (name : PlainName) → HasEntityType schema name → Contains (map (λ it. it.0) (declared_entities bag)) name
  declared_type name has =
      let found = Contains-preimage (λ it. it.0) schema.entity_types name has in
      let it = declared.entity_types found.0 found.1 in
      rw found.2 at (said_is_declared bag found.0.0 it.body it.says)

  -- the uid of an action of the schema is declared
  pub declared_action_uid : (uid : PlainUid) → HasAction schema uid → Contains (action_uids bag) uid
  declared_action_uid uid has =
      let found = Contains-preimage (λ it. it.0) schema.actions uid has in
      let it = declared.actions found.0 found.1 in
      rw found.2 at (said_action_is_declared bag found.0.0 it.applies_to it.says)

  -- an external entity type of the schema is external
  declared_external : (name : PlainName) → IsOfKind schema name IsExternal → IsExternalType bag name
  declared_external name (it, there, is_external) =
      let found = declared.entity_types (name, it) there in by found.body it.kind found.kind is_external found.says where
        by : (body : EntityBody) (kind : EntityTypeKind) → IsDeclaredKind (definitions bag extensions) body kind
            → IsExternal kind → EntitySays bag name body → IsExternalType bag name
        by (external parents) kind fits is_external says = says
        by _ (standard_kind fields openness tag_type) fits is_external says = absurd is_external
        by _ _ fits is_external _ = absurd assumption

  -- an enumerated entity type of the schema is declared as one
  declared_enumerated : (name : PlainName) → IsOfKind schema name IsEnumerated → (choices : List Text)
      × Contains (declared_entities bag) (name, enumerated choices)
  declared_enumerated name (it, there, is_enumerated) =
      let found = declared.entity_types (name, it) there in by found.body it.kind found.kind is_enumerated found.says where
        by : (body : EntityBody) (kind : EntityTypeKind) → IsDeclaredKind (definitions bag extensions) body kind
            → IsEnumerated kind → EntitySays bag name body → (choices : List Text)
            × Contains (declared_entities bag) (name, enumerated choices)
        by (enumerated choices) kind fits is_enumerated says = (choices, (definition_declared bag name (enumerated choices) says).0)
        by _ (standard_kind fields openness tag_type) fits is_enumerated says = absurd is_enumerated
        by _ _ fits is_enumerated _ = absurd assumption

  -- a principal or a resource of an action of the schema is named at its place
  named_place : (it : PlainUid × SchemaAction) (name : PlainName) → Contains schema.actions it
      → IsPrincipalOrResourceOf it.1.kind name → (reference : Reference) × IsAtEntityTypePosition bag reference
      × ResolvesTo (defined_names bag extensions) reference name
  named_place it name there named =
      let found = declared.actions it there in
      let place = by found.applies_to it.1.kind found.kind named in
      let body = said_action_definition bag it.0 found.applies_to found.says (request_placed found.applies_to place.0 place.1) in
      let declaration = action_declaration bag it.0 body.0 body.1 in
      (place.0, (declaration.0, declaration.1, rw (declaration.2, body.2) place.1), place.2)
    where
      by : (body : Requests) (kind : ActionKind) → IsDeclaredActionKind (definitions bag extensions) body kind
          → IsPrincipalOrResourceOf kind name → (reference : Reference) × IsPrincipalOrResource body reference
          × ResolvesTo (defined_names bag extensions) reference name
      by (requests principals resources context) (defined_action ps rs ty) fits names =
          elim names [
            | inl principal ↦ let found = (fits.0 name).0 principal in (found.0, inl found.1, found.2)
            | inr resource ↦ let found = (fits.1 name).0 resource in (found.0, inr found.1, found.2)
          ]
      by elsewhere (defined_action ps rs ty) fits names = absurd fits
      by _ _ fits names = absurd assumption

  -- what a reference at the place of an entity type resolves to can be named as one
  placed_entity : (reference : Reference) (name : PlainName) → IsAtEntityTypePosition bag reference
      → ResolvesTo (defined_names bag extensions) reference name → Contains (defined_names bag extensions).entities name
  placed_entity reference name placed resolves =
      elim (first_defined (defined_names bag extensions) reference.kind reference.possibilities name resolves).1 [
        | inl common ↦ absurd (names_no_common reference.kind (places reference placed) common.0)
        | inr is_entity ↦ is_entity.1
      ]

  -- a principal or a resource of an action of the schema is an entity type of it
  request_known : (it : PlainUid × SchemaAction) (name : PlainName) → Contains schema.actions it
      → IsPrincipalOrResourceOf it.1.kind name → HasEntityType schema name
  request_known it name there named =
      let place = named_place it name there named in
      elim (entity_known name (placed_entity place.0 name place.1 place.2)) [
        | inl known ↦ known
        | inr of_action ↦
            let is_action : IsActionType name = ap (λ (each : PlainName). each.base) (sym of_action.2) ∙ action_type of_action.0 of_action.1 in
            absurd (well (
              undeclared_entity_types (name ∷ []),
              (
                λ none. cc,
                λ each among. elim (Contains-cons_cases name [] each among) [
                  | inl same ↦ rw (← same) (is_action, place.0, place.1, place.2)
                  | inr nothing ↦ absurd (omega (arith, nothing.1))
                ],
              ),
            ))
      ]

  -- a descendant that the schema lists is an entity type of it
  descendant_known : (lower upper : PlainName) → ListsDescendant schema lower upper → HasEntityType schema lower
  descendant_known lower upper lists =
      let step = (first_step (HasParent bag extensions) lower upper
      (listed_descendant bag extensions schema declared lower upper lists)).1 in
      declared.each_entity_type lower (Contains-image (λ (each : PlainName × EntityBody). each.0)
      (declared_entities bag) (lower, step.1.0) step.1.1)

  -- a descendant of an action that the schema lists is an action of it
  action_descendant_known : (lower upper : PlainUid) → ListsDescendantAction schema lower upper → HasAction schema lower
  action_descendant_known lower upper lists =
      let step = (first_step (HasParentAction bag) lower upper (listed_action bag extensions schema declared lower upper lists)).1 in
      declared.each_action lower (Contains-image (λ (each : PlainUid × ActionBody). each.0) (declared_actions bag)
      (lower, step.1.0) step.1.1)

  -- an enumerated entity type of the schema is below none
  enumerated_below_none : (lower upper : PlainName) → IsOfKind schema lower IsEnumerated → ¬ Chain (ListsDescendant schema) lower upper
  enumerated_below_none lower upper enumerated_type chain =
      let step = first_step (HasParent bag extensions) lower upper
      (reached_descendant bag extensions schema declared lower upper chain) in
      let found = declared_enumerated lower enumerated_type in
      well (enumerated_parent bag extensions lower step.0 found.0 found.1 step.1)

  -- the name of an entity type of the schema is among the declared types
  among_types : (name : PlainName) → HasEntityType schema name → Contains (declared_types bag) name
  among_types name has =
      Contains-append_right (map (λ it. it.0) (declared_common bag)) (map (λ it. it.0) (declared_entities bag)) name
      (declared_type name has)

  -- no entity type is named that isn't known
  types_known : (name : PlainName) → ¬ IsUnknownType schema name
  types_known name (inl (ty, type_in, mentions, unknown)) =
      let found = type_written ty type_in in
      unknown (entity_known name (mentions_entity (definitions bag extensions) found.2 name mentions))
  types_known name (inr (inl (upper, lists, unknown))) = unknown (descendant_known name upper lists)
  types_known name (inr (inr (it, there, named, unknown))) = unknown (request_known it name there named)

  -- no entity type of the schema has the base name of actions' types
  no_action_type : (name : PlainName) → HasEntityType schema name → ¬ IsActionType name
  no_action_type name has is_action =
      let found = Contains-entry (declared_entities bag) name (declared_type name has) in
      well (action_entity_type name, (found.0, found.1, is_action))

  -- no external entity type of the schema is below an enumerated one
  no_external_below : (lower upper : PlainName) → IsOfKind schema lower IsExternal → IsOfKind schema upper IsEnumerated
      → ¬ Chain (ListsDescendant schema) lower upper
  no_external_below lower upper first second chain =
      let enumerated_type = declared_enumerated upper second in
      well (
        external_below_enumerated lower upper,
        (
          enumerated_type.0,
          declared_external lower first,
          enumerated_type.1,
          reached_descendant bag extensions schema declared lower upper chain,
        ),
      )

  -- the schema that a bag declares is valid
  pub declared_valid : IsValidSchema extensions schema
  declared_valid (undeclared_entity_types names) at_fault =
      let found = some_first names at_fault.0 in types_known found.0 (at_fault.1 found.0 found.1)
  declared_valid (unknown_extension_type name) (ty, type_in, mentions, unknown) =
      let found = type_written ty type_in in
      unknown (known_written (definitions bag extensions) extensions (known_common bag extensions fit well) found.2
      (known_counted bag extensions well found.0 found.1) name mentions)
  declared_valid (action_entity_type name) at_fault = no_action_type name at_fault.0 at_fault.1
  declared_valid (invalid_action_type uid) at_fault = at_fault.1 (action_type uid at_fault.0)
  declared_valid (action_cycle uid) chain = well (action_cycle uid, reached_action bag extensions schema declared uid uid chain)
  declared_valid (external_below_enumerated lower upper) at_fault = no_external_below lower upper at_fault.0 at_fault.1 at_fault.2
  declared_valid (enumerated_below lower upper) at_fault = enumerated_below_none lower upper at_fault.0 at_fault.1
  declared_valid (undeclared_action_descendant uid) (upper, lists, unknown) = unknown (action_descendant_known uid upper lists)
  declared_valid (type_shadowing name qualified) (first, second, shadows) =
      well (type_shadowing name qualified, (among_types name first, among_types qualified second, shadows))
  declared_valid (action_shadowing uid qualified) (first, second, shadows) =
      well (action_shadowing uid qualified, (declared_action_uid uid first, declared_action_uid qualified second, shadows))
  declared_valid _ at_fault = at_fault
