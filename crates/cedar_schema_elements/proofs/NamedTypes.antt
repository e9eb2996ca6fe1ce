-- Entity types that references resolve to, collected one after another.
use Rattle.std.proofs.Common.{◌≡◌, ◌⊎◌, ◌↔◌, Bool, true, List, [], ◌∷◌, ◌++◌, map, cond, subst, ap, refl, inl, inr, arith, Contains}
use Rattle.std.proofs.lemmas.List.Elements.{Contains-append_cases, Contains-append_left, Contains-append_right}
use Rattle.std.specs.List.{list_any}
use Rattle.cedar_ast.proofs.Basics.{Contains-image}
use Rattle.cedar_ast.proofs.Lists.{Contains-cons, Contains-cons_cases, Contains-preimage}
use Rattle.cedar_ast.specs.contracts.entity_type.EntityTypeEq.TheImpl as entity_type_equal
use Rattle.cedar_ast.specs.contracts.entity_type.EntityTypePartialEq.TheImpl as entity_type_eq
use Rattle.cedar_schema_elements.proofs.SetLemmas.{AnswersAlike-insert, SameItems-types}
use Rattle.cedar_schema_elements.specs.Words.{ConditionalName, EntityType, IsDefined, IsNamedBy, IsReserved, Names, PlainName, Reference, ResolvesTo, conditional_reference, type_name}
use Rattle.cedar_schema_semantics.proofs.ResolutionLemmas.{IsFirst-same}

-- what a reference resolves to is among some names, and isn't reserved
abbrev pub IsCollected : Names → List PlainName → ConditionalName → Type 0
IsCollected names types reference =
    (name : PlainName) × ResolvesTo names (conditional_reference reference) name × (¬ IsReserved name) × Contains types name

-- of some references what they resolve to is collected, and others are left
pub record NamedSoFar (names : Names) (all : List ConditionalName) (types : List PlainName) (left : List ConditionalName) : Type 0 where
  pub sound : (name : PlainName) → Contains types name → IsNamedBy names (map conditional_reference all) name
  pub collected : (reference : ConditionalName) → Contains all reference → IsCollected names types reference ⊎ Contains left reference
  pub among : (reference : ConditionalName) → Contains left reference → Contains all reference

-- whether entity types are equal
abbrev pub same_type : EntityType → EntityType → Bool
same_type = (entity_type_eq.ghosts).eq

-- after an insertion a set has the names that it had, and the one that was put in
module _ (old new : List EntityType) (key : EntityType)
    (updates : (q : EntityType) → list_any (same_type q) new ≡ cond (same_type key q) true (list_any (same_type q) old)) where
  alike_names : (name : PlainName) → Contains (map type_name new) name ↔ Contains (map type_name (old ++ key ∷ [])) name
  alike_names =
      SameItems-types new (old ++ key ∷ [])
      (AnswersAlike-insert entity_type_equal.Laws.laws-law old old new key key (λ q. refl)
      (entity_type_equal.Laws.laws-law.refl key) updates)

  pub inserted_cases : (name : PlainName) → Contains (map type_name new) name
      → Contains (map type_name old) name ⊎ (type_name key ≡ name)
  inserted_cases name among =
      let found = Contains-preimage type_name (old ++ key ∷ []) name ((alike_names name).0 among) in
      rw (← found.2) (elim (Contains-append_cases old (key ∷ []) found.0 found.1) [
        | inl before ↦ inl (Contains-image type_name old found.0 before)
        | inr here ↦
            elim (Contains-cons_cases key [] found.0 here) [
              | inl same ↦ inr (ap type_name same)
              | inr none ↦ absurd (omega (arith, none.1))
            ]
      ])

  pub inserted_kept : (name : PlainName) → Contains (map type_name old) name → Contains (map type_name new) name
  inserted_kept name among =
      let found = Contains-preimage type_name old name among in
      (alike_names name).1
      (rw found.2 at (Contains-image type_name (old ++ key ∷ []) found.0 (Contains-append_left old (key ∷ []) found.0 found.1)))

  pub inserted_new : Contains (map type_name new) (type_name key)
  inserted_new =
      (alike_names (type_name key)).1 (Contains-image type_name (old ++ key ∷ []) key
      (Contains-append_right old (key ∷ []) key (Contains-cons key [] key (inl refl))))

module _ (names : Names) (all : List ConditionalName) where
  module _ (left rest : List ConditionalName) (reference : ConditionalName) (is : left ≡ reference ∷ rest) where
    -- the next one is one of them
    pub named_here : (types : List PlainName) → NamedSoFar names all types left → Contains all reference
    named_here types so_far = so_far.among reference (rw is (Contains-cons reference rest reference (inl refl)))

    -- one more is collected
    pub named_more : (old new : List EntityType) (key : EntityType)
        → ((q : EntityType) → list_any (same_type q) new ≡ cond (same_type key q) true (list_any (same_type q) old))
        → ResolvesTo names (conditional_reference reference) (type_name key) → ¬ IsReserved (type_name key)
        → NamedSoFar names all (map type_name old) left → NamedSoFar names all (map type_name new) rest
    named_more old new key updates resolves unreserved so_far =
        let here = named_here (map type_name old) so_far in
        let own : IsCollected names (map type_name new) reference =
        (type_name key, resolves, unreserved, inserted_new old new key updates) in
        let IsIn : ConditionalName → List ConditionalName → Type 0 = λ each items. Contains items each in
        record {
          sound = λ name among. elim (inserted_cases old new key updates name among) [
            | inl left ↦ so_far.sound name left
            | inr same ↦ (
              conditional_reference reference,
              Contains-image conditional_reference all reference here,
              rw same at resolves,
            )
          ];
          collected = λ each among. elim (so_far.collected each among) [
            | inl before ↦ inl (before.0, before.1, before.2, inserted_kept old new key updates before.0 before.3)
            | inr later ↦
                elim (Contains-cons_cases reference rest each (subst (IsIn each) is later)) [
                  | inl same ↦ inl (subst (IsCollected names (map type_name new)) same own)
                  | inr right ↦ inr right
                ]
          ];
          among = λ each later. (rw is at so_far.among) each (Contains-cons reference rest each (inr later));
        }

  -- where none is left, each resolves to a name that is collected
  module _ (types : List PlainName) (left : List ConditionalName) (nothing : left ≡ []) (so_far : NamedSoFar names all types left) where
    each_collected : (reference : ConditionalName) → Contains all reference → IsCollected names types reference
    each_collected reference among =
        elim (so_far.collected reference among) [
          | inl sound ↦ sound
          | inr still ↦ let none : Contains [] reference = rw nothing at still in absurd (omega (arith, none.1))
        ]

    pub all_resolved : (reference : Reference) → Contains (map conditional_reference all) reference
        → (name : PlainName) × ResolvesTo names reference name × ¬ IsReserved name
    all_resolved reference among =
        let found = Contains-preimage conditional_reference all reference among in
        let own = each_collected found.0 found.1 in
        rw (← found.2) (own.0, own.1, own.2)

    pub all_named : (name : PlainName) → Contains types name ↔ IsNamedBy names (map conditional_reference all) name
    all_named name = (
      so_far.sound name,
      λ by.
          let found = Contains-preimage conditional_reference all by.0 by.1 in
          let own = each_collected found.0 found.1 in
          rw (IsFirst-same (IsDefined names by.0.kind) by.0.possibilities own.0 name (subst (λ it. ResolvesTo names it own.0) found.2 own.1) by.2) at own.3,
    )
