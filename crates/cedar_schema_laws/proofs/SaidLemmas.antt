-- Where each of two bags says all that the other does, they define the same names.
use Rattle.std.proofs.Common.{◌≡◌, Bool, true, false, not, ◌++◌, map, ap, sym, refl, Contains, inl, inr}
use Rattle.std.proofs.lemmas.List.Elements.{Contains-append_left, Contains-append_right, Contains-append_cases, filter_agree}
use Rattle.std.specs.Ordering.{is_eq}
use Rattle.cedar_ast.proofs.Basics.{Contains-image}
use Rattle.cedar_ast.proofs.Lists.{Contains-preimage}
use Rattle.cedar_schema_laws.specs.Words.{Bag, Expr, Extensions, PlainName, PlainUid, SaysAll, Text, action_uids, alias_name, aliases, built_in_types, built_ins, declared_common, declared_entities, declared_types, definitions, is_declared_here, name_cmp}
use Rattle.cedar_schema_semantics.proofs.DefinedLemmas.{SameDefined}
use Rattle.cedar_schema_semantics.proofs.OccurrenceLemmas.{any_of, some_of}

module _ (bag other : Bag) (said : SaysAll bag other) where
  -- the name of a common type that the one declares the other does
  pub common_name_said : (name : PlainName) → Contains (map (λ it. it.0) (declared_common bag)) name
      → Contains (map (λ it. it.0) (declared_common other)) name
  common_name_said name among =
      let key = λ (each : PlainName × Expr). each.0 in
      let it = Contains-preimage key (declared_common bag) name among in
      rw it.2 at (Contains-image key (declared_common other) it.0 (said.common it.0 it.1))

  -- the name of a type that the one declares the other does
  pub type_said : (name : PlainName) → Contains (declared_types bag) name → Contains (declared_types other) name
  type_said name among =
      elim (Contains-append_cases (map (λ it. it.0) (declared_common bag)) (map (λ it. it.0) (declared_entities bag)) name among) [
        | inl common ↦
            Contains-append_left (map (λ it. it.0) (declared_common other)) (map (λ it. it.0) (declared_entities other)) name
            (common_name_said name common)
        | inr is_entity ↦
            Contains-append_right (map (λ it. it.0) (declared_common other)) (map (λ it. it.0) (declared_entities other)) name
            (said.entities name is_entity)
      ]

  -- the type of an action that the one declares is one of the other
  pub action_type_said : (name : PlainName) → Contains (map (λ uid. uid.ty) (action_uids bag)) name
      → Contains (map (λ uid. uid.ty) (action_uids other)) name
  action_type_said name among =
      let type_of = λ (uid : PlainUid). uid.ty in
      let it = Contains-preimage type_of (action_uids bag) name among in
      rw it.2 at (Contains-image type_of (action_uids other) it.0 (said.actions it.0 it.1))

  -- a type that is declared in the empty namespace of the one is so in that of the other
  here_said : (word : Text) → is_declared_here bag word ≡ true → is_declared_here other word ≡ true
  here_said word is =
      let test = λ (name : PlainName). is_eq (name_cmp (alias_name word) name) in
      let it = some_of test (declared_types bag) is in
      any_of test (declared_types other) it.0 (type_said it.0 it.1) it.2

-- tests that hold together answer alike
same_answers : (a b : Bool) → (a ≡ true → b ≡ true) → (b ≡ true → a ≡ true) → a ≡ b
same_answers true true forth back = refl
same_answers true false forth back = sym (forth refl)
same_answers false true forth back = back refl
same_answers false false forth back = refl

module _ (bag other : Bag) (extensions : Extensions) (said : SaysAll bag other) (back : SaysAll other bag) where
  -- the two have the same aliases
  same_aliases : aliases bag extensions ≡ aliases other extensions
  same_aliases =
      ap (map (λ (it : Text × Expr). (alias_name it.0, it.1)))
      (filter_agree (λ (it : Text × Expr). not (is_declared_here bag it.0)) (λ (it : Text × Expr). not (is_declared_here other it.0))
      (λ it. ap not (same_answers (is_declared_here bag it.0) (is_declared_here other it.0)
      (here_said bag other said it.0) (here_said other bag back it.0))) (built_in_types extensions))

  -- a common type of the one is one of the other
  common_said : (it : PlainName × Expr) → Contains (definitions bag extensions).common it
      → Contains (definitions other extensions).common it
  common_said it among =
      elim (Contains-append_cases (declared_common bag ++ built_ins extensions) (aliases bag extensions) it among) [
        | inl here ↦
            Contains-append_left (declared_common other ++ built_ins extensions) (aliases other extensions) it
            (elim (Contains-append_cases (declared_common bag) (built_ins extensions) it here) [
              | inl declared ↦
                  Contains-append_left (declared_common other) (built_ins extensions) it (said.common it declared)
              | inr built_in ↦ Contains-append_right (declared_common other) (built_ins extensions) it built_in
            ])
        | inr alias ↦
            Contains-append_right (declared_common other ++ built_ins extensions) (aliases other extensions) it
            (rw same_aliases at alias)
      ]

  -- an entity name of the one is one of the other
  entity_said : (name : PlainName) → Contains (definitions bag extensions).entities name
      → Contains (definitions other extensions).entities name
  entity_said name among =
      elim (Contains-append_cases (map (λ it. it.0) (declared_entities bag)) (map (λ uid. uid.ty) (action_uids bag)) name among) [
        | inl here ↦
            Contains-append_left (map (λ it. it.0) (declared_entities other)) (map (λ uid. uid.ty) (action_uids other)) name
            (said.entities name here)
        | inr later ↦
            Contains-append_right (map (λ it. it.0) (declared_entities other)) (map (λ uid. uid.ty) (action_uids other)) name
            (action_type_said bag other said name later)
      ]

-- bags that are the same define the same names
pub same_defined : (bag other : Bag) (extensions : Extensions) → SaysAll bag other → SaysAll other bag
    → SameDefined (definitions bag extensions) (definitions other extensions)
same_defined bag other extensions said back = record {
  common = common_said bag other extensions said back;
  common_back = common_said other bag extensions back said;
  entities = entity_said bag other extensions said back;
  entities_back = entity_said other bag extensions back said;
}
