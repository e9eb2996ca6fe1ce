-- What the declarations of a bag give, one by one and together.
use Rattle.std.proofs.Common.{◌≡◌, ◌↔◌, List, [], ◌∷◌, ◌++◌, map, ap, sym, ◌∙◌, subst, refl, inl, inr, Contains}
use Rattle.std.proofs.lemmas.Grind.{flat_map-append}
use Rattle.std.proofs.lemmas.List.{map-append}
use Rattle.std.proofs.lemmas.List.Elements.{Contains-append_left, Contains-append_right, Contains-append_cases}
use Rattle.std.specs.List.{flat_map}
use Rattle.cedar_ast.proofs.Basics.{Contains-image}
use Rattle.cedar_ast.proofs.Lists.{Contains-preimage}
use Rattle.cedar_ast.specs.Words.{PlainName, PlainUid, Twice, action_word}
use Rattle.cedar_diagnosis.specs.Names.{common_names_in, entity_names_in, type_names_in}
use Rattle.cedar_schema_ast.specs.Words.{ActionBody, Declaration}
use Rattle.cedar_schema_semantics.proofs.DeclarationLemmas.{action_alone}
use Rattle.cedar_schema_semantics.proofs.OccurrenceLemmas.{Contains-flat_map, Contains-given}
use Rattle.cedar_schema_semantics.specs.Words.{Bag, action_definition_in, action_in, action_uids, common_in, declared_name, declared_types, declared_uid, defined_actions, defined_entities, entity_definition_in, entity_definitions, entity_in}

-- the keys of what is read of declarations
module _ {K B : Type 0} (read : Declaration → List (K × B)) where
  -- one by one they are those of what is read of all
  pub keys_in : (bag : Bag) (key : K)
      → ((it : Declaration) × Contains bag it × Contains (map (λ (entry : K × B). entry.0) (read it)) key)
      ↔ Contains (map (λ (entry : K × B). entry.0) (flat_map read bag)) key
  keys_in bag key = (
    λ some.
        let entry = Contains-preimage (λ (each : K × B). each.0) (read some.0) key some.2 in
        subst (Contains (map (λ (each : K × B). each.0) (flat_map read bag))) entry.2
        (Contains-image (λ (each : K × B). each.0) (flat_map read bag) entry.0 (Contains-given read bag some.0 entry.0 some.1 entry.1)),
    λ among.
        let entry = Contains-preimage (λ (each : K × B). each.0) (flat_map read bag) key among in
        let found = Contains-flat_map read bag entry.0 entry.1 in (
          found.0,
          found.1,
          subst (Contains (map (λ (each : K × B). each.0) (read found.0))) entry.2
              (Contains-image (λ (each : K × B). each.0) (read found.0) entry.0 found.2),
        ),
  )

  -- and told in some way they are told so of all
  pub told_in : {P : Type 0} (tell : K → P) (bag : Bag)
      → flat_map (λ it. map tell (map (λ (entry : K × B). entry.0) (read it))) bag
      ≡ map tell (map (λ (entry : K × B). entry.0) (flat_map read bag))
  told_in tell [] = refl
  told_in tell (it ∷ bag) =
      ap (λ others. map tell (map (λ (entry : K × B). entry.0) (read it)) ++ others) (told_in tell bag)
      ∙ (sym (map-append tell (map (λ (entry : K × B). entry.0) (read it)) (map (λ (entry : K × B). entry.0) (flat_map read bag)))
      ∙ ap (map tell) (sym (map-append (λ (entry : K × B). entry.0) (read it) (flat_map read bag))))

-- what stands twice as it is told stands twice
pub twice_told : {K P : Type 0} (tell : K → P) → ((a b : K) → tell a ≡ tell b → a ≡ b) → (keys : List K) (told : P)
    → Twice (map tell keys) told ↔ ((key : K) × Twice keys key × (tell key ≡ told))
twice_told tell back [] told = (λ none. absurd none, λ some. some.1)
twice_told tell back (first ∷ rest) told =
    let later = twice_told tell back rest told in (
      elim [
        | inl here ↦
            let found = Contains-preimage tell rest told here.1 in
            let same = back first found.0 (here.0 ∙ sym found.2) in
            (first, inl (refl, subst (Contains rest) (sym same) found.1), here.0)
        | inr there ↦ let some = later.0 there in (some.0, inr some.1, some.2)
      ],
      λ some. elim some.1 [
        | inl here ↦
            inl (ap tell here.0 ∙ some.2, subst (Contains (map tell rest)) some.2 (Contains-image tell rest some.0 here.1))
        | inr there ↦ inr (later.1 (some.0, there, some.2))
      ],
    )

-- the definitions of entity types, declaration by declaration
pub entity_definitions_in : (bag : Bag) → flat_map (λ it. entity_definitions (entity_in (declared_name it) it.body)) bag ≡ defined_entities bag
entity_definitions_in bag = nested (λ (it : Declaration). entity_in (declared_name it) it.body) (λ each. entity_definition_in each.0 each.1) bag
  where
    nested : {X Y Z : Type 0} (f : X → List Y) (g : Y → List Z) (xs : List X) → flat_map (λ x. flat_map g (f x)) xs ≡ flat_map g (flat_map f xs)
    nested f g [] = refl
    nested f g (x ∷ xs) = ap (λ others. flat_map g (f x) ++ others) (nested f g xs) ∙ sym (flat_map-append g (f x) (flat_map f xs))

-- the definitions of actions, declaration by declaration
pub action_definitions_in : (bag : Bag)
    → flat_map (λ it. flat_map (λ each. action_definition_in each.0 each.1.applies_to) (action_in (declared_uid it) it.body)) bag ≡ defined_actions bag
action_definitions_in bag = nested (λ (it : Declaration). action_in (declared_uid it) it.body) (λ each. action_definition_in each.0 each.1.applies_to) bag
  where
    nested : {X Y Z : Type 0} (f : X → List Y) (g : Y → List Z) (xs : List X) → flat_map (λ x. flat_map g (f x)) xs ≡ flat_map g (flat_map f xs)
    nested f g [] = refl
    nested f g (x ∷ xs) = ap (λ others. flat_map g (f x) ++ others) (nested f g xs) ∙ sym (flat_map-append g (f x) (flat_map f xs))

-- the types that are declared, declaration by declaration
pub types_in : (bag : Bag) (name : PlainName)
    → ((it : Declaration) × Contains bag it × Contains (type_names_in it) name) ↔ Contains (declared_types bag) name
types_in bag name =
    let commons = keys_in (λ it. common_in (declared_name it) it.body) bag name in
    let entities = keys_in (λ it. entity_in (declared_name it) it.body) bag name in (
      λ some. elim (Contains-append_cases (common_names_in some.0) (entity_names_in some.0) name some.2) [
        | inl common ↦ Contains-append_left _ _ name (commons.0 (some.0, some.1, common))
        | inr entity ↦ Contains-append_right _ _ name (entities.0 (some.0, some.1, entity))
      ],
      λ among. elim (Contains-append_cases _ _ name among) [
        | inl common ↦
            let it = commons.1 common in (it.0, it.1, Contains-append_left (common_names_in it.0) (entity_names_in it.0) name it.2)
        | inr entity ↦
            let it = entities.1 entity in (it.0, it.1, Contains-append_right (common_names_in it.0) (entity_names_in it.0) name it.2)
      ],
    )

-- the type of a declared action has the base name of all such types
pub action_base : (bag : Bag) (uid : PlainUid) → Contains (action_uids bag) uid → uid.ty.base ≡ action_word
action_base bag uid among =
    let it = (keys_in (λ it. action_in (declared_uid it) it.body) bag uid).1 among in
    let entry = Contains-preimage (λ (each : PlainUid × ActionBody). each.0) (action_in (declared_uid it.0) it.0.body) uid it.2 in
    let alone = action_alone (declared_uid it.0) it.0.body entry.0 entry.1 in
    let Base : PlainUid → Type 0 = λ each. each.ty.base ≡ action_word in
    subst Base (alone.1 ∙ entry.2) refl
