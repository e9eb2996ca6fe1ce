-- What bags define and declare whose declarations are alike pairwise.
use Rattle.std.proofs.Common.{◌≡◌, List, [], ◌∷◌, ◌++◌, map, not, ap, sym, subst, ◌∙◌, refl, Contains, inl, inr}
use Rattle.std.proofs.lemmas.List.{map-append}
use Rattle.std.proofs.lemmas.List.Elements.{Contains-append_left, Contains-append_right, Contains-append_cases}
use Rattle.std.specs.List.{flat_map, filter, list_any}
use Rattle.std.specs.Ordering.{is_eq}
use Rattle.cedar_ast.proofs.Lists.{Contains-preimage}
use Rattle.cedar_schema_laws.proofs.MovedLemmas.{Likeness, keys_pairwise, DeclarationsAlike, BodiesAlike, EntitiesAlike, RequestsAlike, alike_name, alike_uid, common_keys, entity_keys, action_keys}
use Rattle.cedar_schema_laws.proofs.OrderLaws.{nested}
use Rattle.cedar_schema_laws.specs.Words.{ActionBody, Bag, Body, Declaration, EntityBody, Expr, Extensions, HoldsPairwise, PlainName, PlainUid, Requests, Text, action, action_definition_in, action_in, action_uids, alias_name, aliases, built_in_name, built_in_types, built_ins, common_in, common_type, declared_actions, declared_common, declared_entities, declared_name, declared_types, declared_uid, defined_actions, defined_entities, defined_names, definitions, elsewhere, entity_definition_in, entity_in, entity_type, enumerated, external, name_cmp, requests, standard}
use Rattle.cedar_schema_semantics.proofs.BuiltInLemmas.{alias_of}
use Rattle.cedar_schema_semantics.proofs.DeclarationLemmas.{Kind, actions, common_types, declaration, declared, declares, entity_types}
use Rattle.cedar_schema_semantics.proofs.TurnLemmas.{turn_forth}

-- what is declared of entity types that are alike is defined under the same key
entity_definition_keys : (like : Likeness) (name name' : PlainName) → name ≡ name' → (body body' : EntityBody)
    → EntitiesAlike like body body' → map (λ (each : PlainName × EntityBody). each.0) (entity_definition_in name body)
    ≡ map (λ (each : PlainName × EntityBody). each.0) (entity_definition_in name' body')
entity_definition_keys like name name' same (standard ps shape tags) (standard ps' shape' tags') alike = ap (λ each. each ∷ []) same
entity_definition_keys like name name' same (enumerated choices) (enumerated choices') alike = ap (λ each. each ∷ []) same
entity_definition_keys like name name' same (external ps) (external ps') alike = refl
entity_definition_keys like name name' same _ _ alike = absurd alike

-- requests that are alike are defined under the same key
action_definition_keys : (like : Likeness) (uid uid' : PlainUid) → uid ≡ uid' → (it it' : Requests)
    → RequestsAlike like it it' → map (λ (each : PlainUid × Requests). each.0) (action_definition_in uid it)
    ≡ map (λ (each : PlainUid × Requests). each.0) (action_definition_in uid' it')
action_definition_keys like uid uid' same (requests ps rs context) (requests ps' rs' context') alike = ap (λ each. each ∷ []) same
action_definition_keys like uid uid' same elsewhere elsewhere alike = refl
action_definition_keys like uid uid' same _ _ alike = absurd alike

-- a list with nothing after it
nothing_after : {A : Type 0} (xs : List A) → xs ++ [] ≡ xs
nothing_after [] = refl
nothing_after (x ∷ xs) = ap (λ rest. x ∷ rest) (nothing_after xs)

-- the entity types that a declaration defines
abbrev entity_defined_by : Declaration → List (PlainName × EntityBody)
entity_defined_by it = flat_map (λ (each : PlainName
    × EntityBody). entity_definition_in each.0 each.1) (entity_in (declared_name it) it.body)

-- the actions that a declaration defines
abbrev action_defined_by : Declaration → List (PlainUid × Requests)
action_defined_by it = flat_map (λ (each : PlainUid
    × ActionBody). action_definition_in each.0 each.1.applies_to) (action_in (declared_uid it) it.body)

module _ (like : Likeness) where
  entity_defined_keys : (it other : Declaration) → DeclarationsAlike like it other
      → map (λ (each : PlainName × EntityBody). each.0) (entity_defined_by it) ≡ map (λ (each : PlainName
      × EntityBody). each.0) (entity_defined_by other)
  entity_defined_keys it other declared = by it.body other.body declared.2 where
    by : (body body' : Body) → BodiesAlike like body body'
        → map (λ (each : PlainName × EntityBody). each.0) (flat_map (λ (each : PlainName
        × EntityBody). entity_definition_in each.0 each.1) (entity_in (declared_name it) body))
        ≡ map (λ (each : PlainName × EntityBody). each.0) (flat_map (λ (each : PlainName
        × EntityBody). entity_definition_in each.0 each.1) (entity_in (declared_name other) body'))
    by (common_type definition) (common_type definition') alike = refl
    by (entity_type body) (entity_type body') alike =
        ap (map (λ (each : PlainName × EntityBody). each.0)) (nothing_after (entity_definition_in (declared_name it) body))
        ∙ (entity_definition_keys like (declared_name it) (declared_name other)
        (alike_name like it other declared) body body' alike
        ∙ sym (ap (map (λ (each : PlainName × EntityBody). each.0)) (nothing_after (entity_definition_in (declared_name other) body'))))
    by (action body) (action body') alike = refl
    by _ _ alike = absurd alike

  action_defined_keys : (it other : Declaration) → DeclarationsAlike like it other
      → map (λ (each : PlainUid × Requests). each.0) (action_defined_by it) ≡ map (λ (each : PlainUid
      × Requests). each.0) (action_defined_by other)
  action_defined_keys it other declared = by it.body other.body declared.2 where
    by : (body body' : Body) → BodiesAlike like body body'
        → map (λ (each : PlainUid × Requests). each.0) (flat_map (λ (each : PlainUid
        × ActionBody). action_definition_in each.0 each.1.applies_to) (action_in (declared_uid it) body))
        ≡ map (λ (each : PlainUid × Requests). each.0) (flat_map (λ (each : PlainUid
        × ActionBody). action_definition_in each.0 each.1.applies_to) (action_in (declared_uid other) body'))
    by (common_type definition) (common_type definition') alike = refl
    by (entity_type body) (entity_type body') alike = refl
    by (action body) (action body') alike =
        ap (map (λ (each : PlainUid × Requests). each.0)) (nothing_after (action_definition_in (declared_uid it) body.applies_to))
        ∙ (action_definition_keys like (declared_uid it) (declared_uid other)
        (alike_uid like it other declared) body.applies_to body'.applies_to alike.2 ∙ sym (ap (map (λ (each : PlainUid
        × Requests). each.0)) (nothing_after (action_definition_in (declared_uid other) body'.applies_to))))
    by _ _ alike = absurd alike

module _ (like : Likeness) (bag other : Bag) (turn : HoldsPairwise (DeclarationsAlike like) bag other) where
  -- the same keys are declared, and defined
  pub common_same : map (λ (each : PlainName × Expr). each.0) (declared_common bag) ≡ map (λ (each : PlainName
      × Expr). each.0) (declared_common other)
  common_same = keys_pairwise (DeclarationsAlike like) (λ it. common_in (declared_name it) it.body) (λ (each : PlainName
      × Expr). each.0) (common_keys like) bag other turn

  pub entity_same : map (λ (each : PlainName × EntityBody). each.0) (declared_entities bag) ≡ map (λ (each : PlainName
      × EntityBody). each.0) (declared_entities other)
  entity_same = keys_pairwise (DeclarationsAlike like) (λ it. entity_in (declared_name it) it.body) (λ (each : PlainName
      × EntityBody). each.0) (entity_keys like) bag other turn

  pub action_same : action_uids bag ≡ action_uids other
  action_same = keys_pairwise (DeclarationsAlike like) (λ it. action_in (declared_uid it) it.body) (λ (each : PlainUid
      × ActionBody). each.0) (action_keys like) bag other turn

  pub defined_entity_same : map (λ (each : PlainName × EntityBody). each.0) (defined_entities bag)
      ≡ map (λ (each : PlainName × EntityBody). each.0) (defined_entities other)
  defined_entity_same =
      let key = λ (each : PlainName × EntityBody). each.0 in
      let given = λ (it : Declaration). entity_in (declared_name it) it.body in
      let defined = λ (each : PlainName × EntityBody). entity_definition_in each.0 each.1 in
      ap (map key) (nested given defined bag)
      ∙ (keys_pairwise (DeclarationsAlike like) entity_defined_by key (entity_defined_keys like) bag other turn
      ∙ sym (ap (map key) (nested given defined other)))

  pub defined_action_same : map (λ (each : PlainUid × Requests). each.0) (defined_actions bag)
      ≡ map (λ (each : PlainUid × Requests). each.0) (defined_actions other)
  defined_action_same =
      let key = λ (each : PlainUid × Requests). each.0 in
      let given = λ (it : Declaration). action_in (declared_uid it) it.body in
      let defined = λ (each : PlainUid × ActionBody). action_definition_in each.0 each.1.applies_to in
      ap (map key) (nested given defined bag)
      ∙ (keys_pairwise (DeclarationsAlike like) action_defined_by key (action_defined_keys like) bag other turn
      ∙ sym (ap (map key) (nested given defined other)))

  pub types_same : declared_types bag ≡ declared_types other
  types_same i = common_same i ++ entity_same i

  -- and the same aliases
  pub aliases_same : (extensions : Extensions) → aliases bag extensions ≡ aliases other extensions
  aliases_same extensions i =
      map (λ (it : Text × Expr). (alias_name it.0, it.1)) (filter (λ (it : Text × Expr). not (list_any
      (λ name. is_eq (name_cmp (alias_name it.0) name)) (types_same i))) (built_in_types extensions))

  -- the names of the three parts of common names
  parts : (some : Bag) (extensions : Extensions) → (defined_names some extensions).common
      ≡ (map (λ (each : PlainName × Expr). each.0) (declared_common some) ++ map (λ (each : PlainName
      × Expr). each.0) (built_ins extensions))
      ++ map (λ (each : PlainName × Expr). each.0) (aliases some extensions)
  parts some extensions =
      let key = λ (each : PlainName × Expr). each.0 in
      map-append key (declared_common some ++ built_ins extensions) (aliases some extensions)
      ∙ ap (λ list. list ++ map key (aliases some extensions)) (map-append key (declared_common some) (built_ins extensions))

  -- the same names are defined
  pub names_same : (extensions : Extensions) → defined_names bag extensions ≡ defined_names other extensions
  names_same extensions =
      let key = λ (each : PlainName × Expr). each.0 in
      let common : (defined_names bag extensions).common ≡ (defined_names other extensions).common =
      parts bag extensions
      ∙ ((λ i. (common_same i ++ map key (built_ins extensions)) ++ map key (aliases_same extensions i)) ∙ sym
      (parts other extensions)) in
      λ i. record {
        common = common i;
        entities = entity_same i ++ map (λ uid. uid.ty) (action_same i);
        actions = action_same i;
      }

  -- what the one declares under a key the other does, alike
  moved : {Key It : Type 0} (of : Kind Key It) (ItAlike : It → It → Type 0)
      → ((it found : Declaration) → DeclarationsAlike like it found → of.key_of it ≡ of.key_of found)
      → ((it : It) (body : Body) → BodiesAlike like (of.body_of it) body → (found : It) × (body ≡ of.body_of found) × ItAlike it found)
      → (key : Key) (it : It) → Contains (declared of bag) (key, it)
      → (found : It) × Contains (declared of other) (key, found) × ItAlike it found
  moved of ItAlike same_key turned key it among =
      let by = declaration of bag key it among in
      let found = turn_forth (DeclarationsAlike like) bag other turn by.0 by.1 in
      let alike = turned it found.0.body (rw by.2 at found.2.2) in (
        alike.0,
        subst (λ each. Contains (declared of other) (each, alike.0)) (sym (same_key by.0 found.0 found.2) ∙ by.3)
            (declares of other found.0 alike.0 found.1 alike.1),
        alike.2,
      )

  -- so it is with entity types, actions and common types
  pub entity_moved : (name : PlainName) (body : EntityBody) → Contains (declared_entities bag) (name, body) → (found : EntityBody)
      × Contains (declared_entities other) (name, found) × EntitiesAlike like body found
  entity_moved = moved entity_types (EntitiesAlike like) (alike_name like) by where
    by : (it : EntityBody) (body : Body) → BodiesAlike like (entity_type it) body
        → (found : EntityBody) × (body ≡ entity_type found) × EntitiesAlike like it found
    by it (entity_type found) alike = (found, refl, alike)
    by it _ alike = absurd alike

  pub action_moved : (uid : PlainUid) (body : ActionBody) → Contains (declared_actions bag) (uid, body) → (found : ActionBody)
      × Contains (declared_actions other) (uid, found) × BodiesAlike like (action body) (action found)
  action_moved = moved actions (λ it found. BodiesAlike like (action it) (action found)) (alike_uid like) by where
    by : (it : ActionBody) (body : Body) → BodiesAlike like (action it) body
        → (found : ActionBody) × (body ≡ action found) × BodiesAlike like (action it) (action found)
    by it (action found) alike = (found, refl, alike)
    by it _ alike = absurd alike

  pub common_moved : (name : PlainName) (definition : Expr) → Contains (declared_common bag) (name, definition) → (found : Expr)
      × Contains (declared_common other) (name, found) × like.expr definition found
  common_moved = moved common_types like.expr (alike_name like) by where
    by : (it : Expr) (body : Body) → BodiesAlike like (common_type it) body
        → (found : Expr) × (body ≡ common_type found) × like.expr it found
    by it (common_type found) alike = (found, refl, alike)
    by it _ alike = absurd alike

-- what built-in types stand for is alike itself
abbrev pub KeepsBuiltIns : Likeness → Extensions → Type 0
KeepsBuiltIns like extensions = (word : Text) (body : Expr) → Contains (built_in_types extensions) (word, body) → like.expr body body

module _ (like : Likeness) (bag other : Bag) (extensions : Extensions) (turn : HoldsPairwise (DeclarationsAlike like) bag other)
    (keeps : KeepsBuiltIns like extensions) where
  -- a common type that the one defines the other does, alike
  pub definition_moved : (name : PlainName) (body : Expr) → Contains (definitions bag extensions).common (name, body) → (found : Expr)
      × Contains (definitions other extensions).common (name, found) × like.expr body found
  definition_moved name body among =
      elim (Contains-append_cases (declared_common bag ++ built_ins extensions) (aliases bag extensions) (name, body) among) [
        | inl here ↦
            elim (Contains-append_cases (declared_common bag) (built_ins extensions) (name, body) here) [
              | inl declared ↦
                  let found = common_moved like bag other turn name body declared in (
                    found.0,
                    Contains-append_left (declared_common other ++ built_ins extensions) (aliases other extensions) (name, found.0)
                        (Contains-append_left (declared_common other) (built_ins extensions) (name, found.0) found.1),
                    found.2,
                  )
              | inr built_in ↦
                  let entry = Contains-preimage (λ (it : Text
                  × Expr). (built_in_name it.0, it.1)) (built_in_types extensions) (name, body) built_in in (
                    body,
                    Contains-append_left (declared_common other ++ built_ins extensions) (aliases other extensions) (name, body)
                        (Contains-append_right (declared_common other) (built_ins extensions) (name, body) built_in),
                    rw (ap (λ (each : PlainName × Expr). each.1) entry.2) at (keeps entry.0.0 entry.0.1 entry.1),
                  )
            ]
        | inr alias ↦ (
          body,
          Contains-append_right (declared_common other ++ built_ins extensions) (aliases other extensions) (name, body)
              (rw (aliases_same like bag other turn extensions) at alias),
          keeps name.base body (alias_of bag extensions name body alias).0,
        )
      ]
