-- Common types that are to be shown, one after another.
use Rattle.std.proofs.Common.{◌≡◌, ◌++◌, Bool, true, false, cond, List, [], ◌∷◌, map, refl, ap, sym, ◌∙◌}
use Rattle.std.proofs.lemmas.List.{flat_map_more, map-append}
use Rattle.std.proofs.lemmas.List.Elements.{filter-append}
use Rattle.std.proofs.lemmas.Simd.{map-map}
use Rattle.std.specs.List.{filter, flat_map}
use Rattle.cedar_schema.proofs.InOrder.{map-flat_map}
use Rattle.cedar_schema.specs.Words.{CommonTypeDef, LocatedCommonType, LocatedName, ShownCommonType, Text, ValidatorSchemaFragment, common_types_to_show, declared_common_type, definition_common_types, fragment_common_names, fragment_common_types, fragment_definitions, is_shown, located_name, shown_common_type, shown_name, with_base}

-- a test of what a function shows keeps just what it keeps of what is shown
map-filter : {A B : Type 0} (f : A → B) (test : B → Bool) (xs : List A) → map f (filter (λ x. test (f x)) xs) ≡ filter test (map f xs)
map-filter f test [] = refl
map-filter f test (x ∷ xs) =
    elim (test (f x)) as
    (λ b. map f (cond b (x ∷ filter (λ x. test (f x)) xs) (filter (λ x. test (f x)) xs))
    ≡ cond b (f x ∷ filter test (map f xs)) (filter test (map f xs)))
    [ true ↦ ap (λ rest. f x ∷ rest) (map-filter f test xs) | false ↦ map-filter f test xs ]

module _ (N : Type 0) where
  -- a common type, if it is to be shown
  abbrev pub one_to_show : CommonTypeDef N → List ShownCommonType
  one_to_show def = cond (is_shown (located_name def.name)) (declared_common_type N def ∷ []) []

  -- those that are to be shown are looked for one after another
  pub each_to_show : (defs : List (CommonTypeDef N)) → common_types_to_show N defs ≡ flat_map one_to_show defs
  each_to_show [] = refl
  each_to_show (def ∷ defs) =
      elim (is_shown (located_name def.name)) as
      (λ b. map (declared_common_type N) (cond b (def ∷ filter (λ def. is_shown (located_name def.name)) defs)
      (filter (λ def. is_shown (located_name def.name)) defs))
      ≡ cond b (declared_common_type N def ∷ []) [] ++ flat_map one_to_show defs)
      [ true ↦ ap (λ rest. declared_common_type N def ∷ rest) (each_to_show defs) | false ↦ each_to_show defs ]

  -- those of several lists are those of each in turn
  pub to_show-flat : {X : Type 0} (f : X → List (CommonTypeDef N)) (xs : List X)
      → common_types_to_show N (flat_map f xs) ≡ flat_map (λ x. common_types_to_show N (f x)) xs
  to_show-flat f [] = refl
  to_show-flat f (x ∷ xs) =
      ap (map (declared_common_type N)) (filter-append (λ def. is_shown (located_name def.name)) (f x) (flat_map f xs))
      ∙ (map-append (declared_common_type N) (filter (λ def. is_shown (located_name def.name)) (f x)) _
      ∙ ap (λ rest. common_types_to_show N (f x) ++ rest) (to_show-flat f xs))

-- what is shown of the common types of fragments has the names that are to be shown of them
pub names_shown : (N A : Type 0) (fragments : List (ValidatorSchemaFragment N A)) (shown : List LocatedCommonType)
    → map shown_common_type shown ≡ common_types_to_show N (flat_map (fragment_common_types N A) fragments)
    → map shown_name shown ≡ map with_base (filter is_shown (flat_map (fragment_common_names N A) fragments))
names_shown N A fragments shown is =
    let defs = flat_map (fragment_common_types N A) fragments in
    let kept = filter (λ def. is_shown (located_name def.name)) defs in
    let read : ShownCommonType → Text × LocatedName = λ it. (it.base, it.at) in
    let name : CommonTypeDef N → LocatedName = λ def. located_name def.name in
    let named : (x : ValidatorSchemaFragment N A) → map name (fragment_common_types N A x) ≡ fragment_common_names N A x =
    λ x. map-flat_map name (definition_common_types N A) (fragment_definitions N A x) in
    sym (map-map read shown_common_type shown)
    ∙ (ap (map read) is
    ∙ (map-map read (declared_common_type N) kept
    ∙ (sym (map-map with_base name kept)
    ∙ ap (map with_base) (map-filter name is_shown defs
    ∙ ap (filter is_shown) (map-flat_map name (fragment_common_types N A) fragments
    ∙ ap (λ f. flat_map f fragments) (λ i x. named x i))))))

-- what is to be shown of fragments and of one more is to be shown of all
pub shown_more : (N A : Type 0) (fragments : List (ValidatorSchemaFragment N A)) (fragment : ValidatorSchemaFragment N A)
    → common_types_to_show N (flat_map (fragment_common_types N A) fragments) ++ common_types_to_show N (fragment_common_types N A fragment)
    ≡ common_types_to_show N (flat_map (fragment_common_types N A) (fragments ++ fragment ∷ []))
shown_more N A fragments fragment =
    let f = fragment_common_types N A in
    ap (λ before. before ++ common_types_to_show N (f fragment)) (to_show-flat N f fragments)
    ∙ (flat_map_more (λ each. common_types_to_show N (f each)) [] fragments fragment
    ∙ sym (to_show-flat N f (fragments ++ fragment ∷ [])))
