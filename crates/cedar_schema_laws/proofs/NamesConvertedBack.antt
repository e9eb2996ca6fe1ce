-- Names that are written in full name the same again, in the bag of a schema that is converted
-- back.
use Rattle.std.proofs.Common.{◌⊎◌, ◌↔◌, ◌++◌, List, [], ◌∷◌, Option, None, Some, map, ap, sym, subst, ◌∙◌, refl, inl, inr, arith, Contains}
use Rattle.std.proofs.lemmas.List.Elements.{Contains-append_cases, Contains-append_left, Contains-append_right}
use Rattle.std.proofs.lemmas.List.Sorted.{Contains-permutation, IsPermutation-sym}
use Rattle.cedar_ast.proofs.Basics.{Contains-image}
use Rattle.cedar_ast.proofs.Lists.{Contains-preimage}
use Rattle.cedar_schema_laws.proofs.ReferenceDecisions.{resolves_or_not}
use Rattle.cedar_schema_laws.specs.Words.{ActionBody, Bag, ConvertedNamesAreNamedAgain, Declaration, Entity, EntityBody, Extensions, IsActionDeclaration, IsConvertedBack, IsDefined, IsNamedAgain, IsTypeDeclaration, NamesNoOther, PlainName, PlainSchema, PlainUid, SchemaAction, SchemaEntityType, Text, action_uids, declared_actions, declared_entities, declared_uid, defined_names, definitions, full_name, names_within, possible_names, schema_names}
use Rattle.cedar_schema_semantics.proofs.DeclarationLemmas.{action_declaration, declares_action, declares_entity, entity_declaration}
use Rattle.cedar_schema_semantics.proofs.ResolutionLemmas.{IsFirst-like}
use Rattle.cedar_schema_semantics.proofs.TurnLemmas.{turn_back, turn_forth}

-- a name is one of those that it may stand for
pub stands_for_itself : (namespace : Option PlainName) (name : PlainName) → Contains (possible_names namespace name) name
stands_for_itself None name = (0, omega arith, refl)
stands_for_itself (Some namespace) name = by name.base name.path where
  by : (base : Text) (path : List Text) → Contains (names_within namespace base path) (record { base = base; path = path })
  by base [] = (1, omega arith, refl)
  by base (part ∷ path) = (0, omega arith, refl)

module _ (schema : PlainSchema) (bag : Bag) (written : IsConvertedBack schema bag) where
  -- what an entity type of the schema is declared as stands in the bag
  pub type_there : (it : PlainName × SchemaEntityType) → Contains schema.entity_types it
      → (d : Declaration) × Contains bag d × IsTypeDeclaration schema it d
  type_there it among =
      let found = turn_forth (IsTypeDeclaration schema) schema.entity_types written.entity_types written.each_entity_type it among in (
        found.0,
        Contains-permutation _ _ found.0 written.in_some_order
            (Contains-append_left written.entity_types written.actions found.0 found.1),
        found.2,
      )

  -- so does what an action is declared as
  pub action_there : (it : PlainUid × SchemaAction) → Contains schema.actions it → (d : Declaration) × Contains bag d
      × IsActionDeclaration schema it d
  action_there it among =
      let found = turn_forth (IsActionDeclaration schema) schema.actions written.actions written.each_action it among in (
        found.0,
        Contains-permutation _ _ found.0 written.in_some_order
            (Contains-append_right written.entity_types written.actions found.0 found.1),
        found.2,
      )

  -- a declaration of the bag is that of an entity type or of an action
  pub from_schema : (d : Declaration) → Contains bag d
      → ((it : PlainName × SchemaEntityType) × Contains schema.entity_types it × IsTypeDeclaration schema it d)
      ⊎ ((it : PlainUid × SchemaAction) × Contains schema.actions it × IsActionDeclaration schema it d)
  from_schema d among =
      let back = Contains-permutation _ _ d (IsPermutation-sym _ _ written.in_some_order) among in
      elim (Contains-append_cases written.entity_types written.actions d back) [
        | inl here ↦
            inl (turn_forth (λ (e : Declaration) (it : PlainName
            × SchemaEntityType). IsTypeDeclaration schema it e) written.entity_types schema.entity_types
            (turn_back (IsTypeDeclaration schema) (λ (e : Declaration) (it : PlainName
            × SchemaEntityType). IsTypeDeclaration schema it e) (λ it e is. is)
            schema.entity_types written.entity_types written.each_entity_type) d here)
        | inr there ↦
            inr (turn_forth (λ (e : Declaration) (it : PlainUid
            × SchemaAction). IsActionDeclaration schema it e) written.actions schema.actions
            (turn_back (IsActionDeclaration schema) (λ (e : Declaration) (it : PlainUid
            × SchemaAction). IsActionDeclaration schema it e) (λ it e is. is)
            schema.actions written.actions written.each_action) d there)
      ]

  module _ (extensions : Extensions) where
    -- the bag defines the entity types that the schema does
    pub same_entities : (name : PlainName) → Contains (schema_names schema).entities name
        ↔ Contains (definitions bag extensions).entities name
    same_entities name =
        let types = map (λ (it : PlainName × SchemaEntityType). it.0) schema.entity_types in
        let of_actions = map (λ (it : PlainUid × SchemaAction). it.0.ty) schema.actions in
        let declared = map (λ (it : PlainName × EntityBody). it.0) (declared_entities bag) in
        let declared_types = map (λ (uid : PlainUid). uid.ty) (action_uids bag) in
        let IsNamed : PlainName → Type 0 = Contains (types ++ of_actions) in (
          λ among. elim (Contains-append_cases types of_actions name among) [
            | inl here ↦
                let it = Contains-preimage (λ (each : PlainName × SchemaEntityType). each.0) schema.entity_types name here in
                let d = type_there it.0 it.1 in
                rw (d.2.name ∙ it.2) at (Contains-append_left declared declared_types _
                (Contains-image (λ (each : PlainName × EntityBody). each.0) (declared_entities bag) _
                (declares_entity bag d.0 d.2.body d.1 d.2.declares)))
            | inr there ↦
                let it = Contains-preimage (λ (each : PlainUid × SchemaAction). each.0.ty) schema.actions name there in
                let d = action_there it.0 it.1 in
                rw (ap (λ (uid : PlainUid). uid.ty) d.2.uid ∙ it.2) at (Contains-append_right declared declared_types _
                (Contains-image (λ (uid : PlainUid). uid.ty) (action_uids bag) (declared_uid d.0)
                (Contains-image (λ (each : PlainUid × ActionBody). each.0) (declared_actions bag) _
                (declares_action bag d.0 _ d.1 d.2.declares))))
          ],
          λ among. elim (Contains-append_cases declared declared_types name among) [
            | inl here ↦
                let entry = Contains-preimage (λ (each : PlainName × EntityBody). each.0) (declared_entities bag) name here in
                let d = entity_declaration bag entry.0.0 entry.0.1 entry.1 in
                elim (from_schema d.0 d.1) [
                  | inl it ↦
                      subst IsNamed (sym it.2.name ∙ (d.3 ∙ entry.2)) (Contains-append_left types of_actions it.0.0
                      (Contains-image (λ (each : PlainName × SchemaEntityType). each.0) schema.entity_types it.0 it.1))
                  | inr it ↦ let clash = sym d.2 ∙ it.2.declares in absurd cc
                ]
            | inr there ↦
                let uid = Contains-preimage (λ (each : PlainUid). each.ty) (action_uids bag) name there in
                let entry = Contains-preimage (λ (each : PlainUid × ActionBody). each.0) (declared_actions bag) uid.0 uid.1 in
                let d = action_declaration bag entry.0.0 entry.0.1 entry.1 in
                elim (from_schema d.0 d.1) [
                  | inl it ↦ let clash = sym d.2 ∙ it.2.declares in absurd cc
                  | inr it ↦
                      rw (ap (λ (each : PlainUid). each.ty) (sym it.2.uid ∙ (d.3 ∙ entry.2)) ∙ uid.2) at (Contains-append_right types of_actions it.0.0.ty
                      (Contains-image (λ (each : PlainUid × SchemaAction). each.0.ty) schema.actions it.0 it.1))
                ]
          ],
        )

    -- a name that names no other, and that is defined, resolves to itself
    pub named_again : (namespace : Option PlainName) (name : PlainName) → NamesNoOther (schema_names schema) namespace name
        → Contains (schema_names schema).entities name → IsNamedAgain (definitions bag extensions) namespace name
    named_again namespace name no_other known =
        let names = defined_names bag extensions in
        let there = (same_entities name).0 known in
        let possibilities = (full_name namespace name).possibilities in
        record {
          resolves = elim (resolves_or_not names (full_name namespace name)) [
            | inl first ↦
                rw (no_other first.0 (IsFirst-like (IsDefined names Entity) (IsDefined (schema_names schema) Entity)
                (λ each. elim [ inl common ↦ absurd common.0 | inr of ↦ inr (tt, (same_entities each).1 of.1) ])
                (λ each. elim [ inl common ↦ absurd common.0 | inr of ↦ inr (tt, (same_entities each).0 of.1) ])
                possibilities first.0 first.1)) at first.1
            | inr none ↦ absurd (none name (stands_for_itself namespace name) (inr (tt, there)))
          ];
          there = there;
        }

-- so names come back
pub converted_names_are_named_again : ConvertedNamesAreNamedAgain
converted_names_are_named_again schema bag extensions writable written namespace name in_place known =
    named_again schema bag written extensions namespace name (writable.names namespace name in_place) known
