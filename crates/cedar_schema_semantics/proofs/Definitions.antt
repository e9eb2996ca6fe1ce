-- Definitions among declarations, whatever is declared: which keys they define, what they say, and
-- what one more changes.
use Rattle.std.proofs.Common.{◌≡◌, ◌⊎◌, ◌↔◌, List, [], ◌∷◌, ◌++◌, map, ap, sym, subst, ◌∙◌, refl, inl, inr, arith, Contains}
use Rattle.std.proofs.lemmas.Grind.{flat_map-append}
use Rattle.std.proofs.lemmas.List.{append-nil, map-append}
use Rattle.std.proofs.lemmas.List.Elements.{Contains-append_left, Contains-append_right, Contains-append_cases}
use Rattle.std.specs.List.{flat_map}
use Rattle.cedar_ast.proofs.Basics.{Contains-image, Contains-single}
use Rattle.cedar_ast.proofs.Lists.{Contains-preimage}
use Rattle.cedar_ast.specs.Lists.{Twice}
use Rattle.cedar_schema_semantics.proofs.OccurrenceLemmas.{Contains-flat_map, Contains-given, Twice-append, Twice-both}

-- the keys of declarations
abbrev pub keys : {K B : Type 0} → List (K × B) → List K
keys entries = map (λ it. it.0) entries

-- declarations, some of which are definitions: each of these says what it declares, and where a key
-- has none, any other says that it is declared
pub record Definitions (K B : Type 0) : Type 1 where
  pub definition_in : K → B → List (K × B)
  pub IsDefinition : B → Type 0
  pub decided : (body : B) → IsDefinition body ⊎ ¬ IsDefinition body
  pub given : (key : K) (body : B) → IsDefinition body → Contains (definition_in key body) (key, body)
  pub only : (key : K) (body : B) (entry : K × B) → Contains (definition_in key body) entry → ((key, body) ≡ entry) × IsDefinition body
  pub single : (key : K) (body : B) (other : K) → ¬ Twice (keys (definition_in key body)) other
  pub Says : List (K × B) → K → B → Type 0
  pub says_itself : (entries : List (K × B)) (key : K) (body : B) → IsDefinition body
      → Says entries key body ↔ Contains (flat_map (λ it. definition_in it.0 it.1) entries) (key, body)
  pub says_declared : (entries : List (K × B)) (key : K) (body : B) → ¬ IsDefinition body → Says entries key body
      ↔ (Contains (keys entries) key × ¬ Contains (keys (flat_map (λ it. definition_in it.0 it.1) entries)) key)

module _ {K B : Type 0} (of : Definitions K B) where
  -- the definitions among declarations
  abbrev pub definitions : List (K × B) → List (K × B)
  definitions entries = flat_map (λ it. of.definition_in it.0 it.1) entries

  -- a definition is declared
  pub definition_declared : (entries : List (K × B)) (key : K) (body : B) → Contains (definitions entries) (key, body)
      → Contains entries (key, body) × of.IsDefinition body
  definition_declared entries key body among =
      let it = Contains-flat_map (λ (each : K × B). of.definition_in each.0 each.1) entries (key, body) among in
      let found = of.only it.0.0 it.0.1 (key, body) it.2 in
      subst (λ each. Contains entries each × of.IsDefinition each.1) found.0 (it.1, found.1)

  -- and a declared one is among the definitions
  pub declared_definition : (entries : List (K × B)) (key : K) (body : B) → of.IsDefinition body → Contains entries (key, body)
      → Contains (definitions entries) (key, body)
  declared_definition entries key body is among =
      Contains-given (λ (it : K × B). of.definition_in it.0 it.1) entries (key, body) (key, body) among (of.given key body is)

  -- a defined key has a definition
  pub defined_key : (entries : List (K × B)) (key : K) → Contains (keys (definitions entries)) key
      → (body : B) × Contains entries (key, body) × of.IsDefinition body
  defined_key entries key among =
      let it = Contains-preimage (λ (each : K × B). each.0) (definitions entries) key among in
      let declared = definition_declared entries it.0.0 it.0.1 it.1 in
      (it.0.1, rw it.2 at declared.0, declared.1)

  -- and a key with a definition is defined
  pub key_defined : (entries : List (K × B)) (key : K) (body : B) → of.IsDefinition body → Contains entries (key, body)
      → Contains (keys (definitions entries)) key
  key_defined entries key body is among =
      Contains-image (λ (each : K × B). each.0) (definitions entries) (key, body) (declared_definition entries key body is among)

  -- a defined key is declared
  pub defined_is_declared : (entries : List (K × B)) (key : K) → Contains (keys (definitions entries)) key → Contains (keys entries) key
  defined_is_declared entries key among =
      let it = defined_key entries key among in Contains-image (λ (each : K × B). each.0) entries (key, it.0) it.1

  -- a definition that is said is declared
  pub said_definition : (entries : List (K × B)) (key : K) (body : B) → of.IsDefinition body → of.Says entries key body
      → Contains entries (key, body)
  said_definition entries key body is says = (definition_declared entries key body ((of.says_itself entries key body is).0 says)).0

  -- what is said of a key is said of a declared one
  pub said_declared : (entries : List (K × B)) (key : K) (body : B) → of.Says entries key body → Contains (keys entries) key
  said_declared entries key body says =
      elim (of.decided body) [
        | inl is ↦ Contains-image (λ (each : K × B). each.0) entries (key, body) (said_definition entries key body is says)
        | inr other ↦ ((of.says_declared entries key body other).0 says).0
      ]

  -- the keys that more declarations define
  defined_keys_append : (entries more : List (K × B))
      → keys (definitions (entries ++ more)) ≡ keys (definitions entries) ++ keys (definitions more)
  defined_keys_append entries more =
      ap keys (flat_map-append (λ (it : K × B). of.definition_in it.0 it.1) entries more)
      ∙ map-append (λ (it : K × B). it.0) (definitions entries) (definitions more)

  -- a definition of a key that was defined makes two
  pub defined_again : (entries rest : List (K × B)) (key : K) (body : B) → of.IsDefinition body
      → Contains (keys (definitions entries)) key → Twice (keys (definitions (entries ++ (key, body) ∷ rest))) key
  defined_again entries rest key body is defined =
      rw (defined_keys_append entries ((key, body) ∷ rest)) (Twice-both (keys (definitions entries)) (keys (definitions ((key, body) ∷ rest))) key defined
      (key_defined ((key, body) ∷ rest) key body is (0, omega arith, refl)))

  module _ (entries : List (K × B)) (key : K) (body : B) where
    -- the declarations with one more
    abbrev More : List (K × B)
    More = entries ++ (key, body) ∷ []

    -- a key is declared among them where it is that one's, or was declared
    pub key_cases : (other : K) → Contains (keys More) other → Contains (keys entries) other ⊎ (key ≡ other)
    key_cases other among =
        elim (Contains-append_cases (keys entries) (key ∷ []) other
        (rw (map-append (λ (it : K × B). it.0) entries ((key, body) ∷ [])) at among)) [
          | inl before ↦ inl before
          | inr last ↦ inr (Contains-single key other last)
        ]

    -- a declared key stays declared
    key_kept : (other : K) → Contains (keys entries) other → Contains (keys More) other
    key_kept other among =
        rw (map-append (λ (it : K × B). it.0) entries ((key, body) ∷ [])) (Contains-append_left (keys entries) (key ∷ []) other among)

    -- the new declaration is there
    last_among : Contains More (key, body)
    last_among = Contains-append_right entries ((key, body) ∷ []) (key, body) (0, omega arith, refl)

    -- a key is defined among them where the new one is a definition of it, or it was defined
    defined_cases : (other : K) → Contains (keys (definitions More)) other
        → Contains (keys (definitions entries)) other ⊎ ((key ≡ other) × of.IsDefinition body)
    defined_cases other among =
        let it = defined_key More other among in
        elim (Contains-append_cases entries ((key, body) ∷ []) (other, it.0) it.1) [
          | inl before ↦ inl (key_defined entries other it.0 it.2 before)
          | inr last ↦
              let same = Contains-single (key, body) (other, it.0) last in
              inr (ap (λ (each : K × B). each.0) same, rw (ap (λ (each : K × B). each.1) same) it.2)
        ]

    -- what is said of a key stays said, where that key isn't defined newly
    said_still : (other : K) → ¬ ((key ≡ other) × of.IsDefinition body) → (said : B) → of.Says entries other said
        → of.Says More other said
    said_still other none said says =
        elim (of.decided said) [
          | inl is ↦
              let before = definition_declared entries other said ((of.says_itself entries other said is).0 says) in
              (of.says_itself More other said is).1 (declared_definition More other said is
              (Contains-append_left entries ((key, body) ∷ []) (other, said) before.0))
          | inr is ↦
              let before = (of.says_declared entries other said is).0 says in
              (of.says_declared More other said is).1 (
                key_kept other before.0,
                λ among. elim (defined_cases other among) [ inl left ↦ before.1 left | inr right ↦ none right ],
              )
        ]

    -- what is said of another key stays said
    pub said_of_other : (other : K) → ¬ (other ≡ key) → (said : B) → of.Says entries other said → of.Says More other said
    said_of_other other apart = said_still other (λ newly. apart (sym newly.0))

    -- what is said of the key stays said, where the new declaration is no definition
    pub said_of_external : ¬ of.IsDefinition body → (said : B) → of.Says entries key said → of.Says More key said
    said_of_external is = said_still key (λ newly. is newly.1)

    -- where the key was not defined, the new declaration is what is said
    pub said_of_new : ¬ Contains (keys (definitions entries)) key → of.Says More key body
    said_of_new none =
        elim (of.decided body) [
          | inl is ↦ (of.says_itself More key body is).1 (declared_definition More key body is last_among)
          | inr is ↦
              (of.says_declared More key body is).1 (
                Contains-image (λ (each : K × B). each.0) More (key, body) last_among,
                λ among. elim (defined_cases key among) [ inl left ↦ none left | inr newly ↦ is newly.1 ],
              )
        ]

    -- no key is defined twice, where the new declaration is no definition, or of a key that wasn't
    -- defined
    pub once_more : ((other : K) → ¬ Twice (keys (definitions entries)) other)
        → (of.IsDefinition body → ¬ Contains (keys (definitions entries)) key) → (other : K) → ¬ Twice (keys (definitions More)) other
    once_more once new other twice =
        let last : List (K × B) = (key, body) ∷ [] in
        let alone : definitions last ≡ of.definition_in key body = append-nil (of.definition_in key body) in
        elim (Twice-append (keys (definitions entries)) (keys (definitions last)) other (rw (defined_keys_append entries last) at twice)) [
          | inl left ↦ once other left
          | inr others ↦
              elim others [
                | inl both ↦ of.single key body other (rw (ap keys alone) at both)
                | inr both ↦
                    let it = defined_key last other both.1 in
                    let same = Contains-single (key, body) (other, it.0) it.1 in
                    new (rw (ap (λ (each : K × B). each.1) same) it.2) (rw (ap (λ (each : K × B). each.0) same) both.0)
              ]
        ]
