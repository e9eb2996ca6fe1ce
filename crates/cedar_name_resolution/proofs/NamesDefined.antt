-- The names that are collected are those that the bag defines.
use Rattle.std.proofs.Common.{◌≡◌, List, ◌++◌, not, map, ap, sym, inl, inr, append_assoc, Contains}
use Rattle.std.proofs.lemmas.List.{map-append}
use Rattle.std.proofs.lemmas.List.Elements.{Contains-append_left, Contains-append_right, Contains-append_cases}
use Rattle.std.specs.List.{filter}
use Rattle.cedar_ast.proofs.Basics.{Contains-image}
use Rattle.cedar_ast.proofs.Lists.{Contains-preimage}
use Rattle.cedar_name_resolution.proofs.TakenNames.{taken_same}
use Rattle.cedar_name_resolution.specs.Words.{AreTheDeclaredNames, Bag, Expr, Extensions, Fault, HasAlso, HoldsJust, IsFault, IsShadowing, Names, NoActionShadows, NoTypeShadows, PlainName, PlainUid, SameItems, Text, action_shadowing, action_uids, alias_name, aliases, built_in_types, built_ins, declared_common, declared_types, defined_names, free_aliases, names_given, type_names, type_shadowing}

-- lists with the same items, after one another
SameItems-append : {A : Type 0} (xs ys xs' ys' : List A) → SameItems xs ys → SameItems xs' ys'
    → SameItems (xs ++ xs') (ys ++ ys')
SameItems-append xs ys xs' ys' front back item = (
  λ among. elim (Contains-append_cases xs xs' item among) [
    | inl here ↦ Contains-append_left ys ys' item ((front item).0 here)
    | inr there ↦ Contains-append_right ys ys' item ((back item).0 there)
  ],
  λ among. elim (Contains-append_cases ys ys' item among) [
    | inl here ↦ Contains-append_left xs xs' item ((front item).1 here)
    | inr there ↦ Contains-append_right xs xs' item ((back item).1 there)
  ],
)

-- a list with some items and some more has the same ones as others with these after one another
pub also_appended : {A : Type 0} (after before more xs ys : List A) → HasAlso after before more → SameItems before xs → SameItems more ys
    → SameItems after (xs ++ ys)
also_appended after before more xs ys also front back item = (
  λ among. elim ((also item).0 among) [
    | inl here ↦ Contains-append_left xs ys item ((front item).0 here)
    | inr there ↦ Contains-append_right xs ys item ((back item).0 there)
  ],
  λ among. (also item).1 (elim (Contains-append_cases xs ys item among) [
    | inl here ↦ inl ((front item).1 here)
    | inr there ↦ inr ((back item).1 there)
  ]),
)

-- what stands in one list does in another with the same items, also of images
image_included : {A B : Type 0} (f : A → B) (xs ys : List A) → ((x : A) → Contains xs x → Contains ys x) → (y : B)
    → Contains (map f xs) y → Contains (map f ys) y
image_included {B = B} f xs ys included y among =
    let found = Contains-preimage f xs y among in
    rw found.2 at (Contains-image f ys found.0 (included found.0 found.1))

-- lists with the same items have the same images
SameItems-image : {A B : Type 0} (f : A → B) (xs ys : List A) → SameItems xs ys → SameItems (map f xs) (map f ys)
SameItems-image f xs ys same y = (
  image_included f xs ys (λ x. (same x).0) y,
  image_included f ys xs (λ x. (same x).1) y,
)

-- names that are just some others are just those of the bag, where those are
pub just_declared : (held names : Names) (bag : Bag) → HoldsJust held names → AreTheDeclaredNames names bag
    → HoldsJust held (names_given bag)
just_declared held names bag just declared =
    record {
      common = rw declared.common at just.common;
      entities = rw declared.entities at just.entities;
      actions
          = rw declared.actions at just.actions;
    }

module _ (bag : Bag) (extensions : Extensions) (held : Names) (just : HoldsJust held (names_given bag)) where
  -- the names of types are those that are declared
  same_types : SameItems (type_names held) (declared_types bag)
  same_types = SameItems-append held.common (names_given bag).common held.entities
      (names_given bag).entities just.common just.entities

  -- names that shadow each other are a fault of the bag
  pub shadowing_fault : (fault : Fault) → IsShadowing held fault → IsFault bag extensions fault
  shadowing_fault (type_shadowing plain qualified) shadowing =
      ((same_types plain).0 shadowing.0, (same_types qualified).0 shadowing.1, shadowing.2)
  shadowing_fault (action_shadowing plain qualified) shadowing =
      ((just.actions plain).0 shadowing.0, (just.actions qualified).0 shadowing.1, shadowing.2)
  shadowing_fault _ shadowing = absurd shadowing

  -- where no type shadows another, none is a fault
  pub no_type_fault : NoTypeShadows (type_names held) (type_names held) → (plain qualified : PlainName)
      → ¬ IsFault bag extensions (type_shadowing plain qualified)
  no_type_fault none plain qualified fault =
      none plain qualified ((same_types plain).1 fault.0) ((same_types qualified).1 fault.1) fault.2

  -- where no action shadows another, none is a fault
  pub no_action_fault : NoActionShadows held.actions → (plain qualified : PlainUid)
      → ¬ IsFault bag extensions (action_shadowing plain qualified)
  no_action_fault none plain qualified fault =
      none plain qualified ((just.actions plain).1 fault.0) ((just.actions qualified).1 fault.1) fault.2

  -- the names of common types that are held, with those of the built-in types and aliases, are
  -- those that are defined
  pub same_common : (types : List (PlainName × Expr)) (common : List PlainName) → types ≡ built_ins extensions ++ aliases bag extensions
      → HasAlso common held.common (map (λ it. it.0) types) → SameItems common (defined_names bag extensions).common
  same_common types common are also =
      let key = λ (it : PlainName × Expr). it.0 in
      let declared = declared_common bag in
      rw (ap (λ others. map key declared ++ map key others) are, ← map-append key declared (built_ins extensions ++ aliases bag extensions), ap (map key) (sym (append_assoc declared (built_ins extensions) (aliases bag extensions)))) at
      (also_appended common held.common (map key types) (names_given bag).common (map key types) also just.common
      (λ name. (λ among. among, λ among. among)))

  -- the names of entity types that are held, with those of the types of actions, are those that are
  -- defined
  pub same_entities : (entities : List PlainName) → HasAlso entities held.entities (map (λ uid. uid.ty) held.actions)
      → SameItems entities (defined_names bag extensions).entities
  same_entities entities also =
      let types = λ (uid : PlainUid). uid.ty in
      also_appended entities held.entities (map types held.actions) (names_given bag).entities (map types (action_uids bag)) also
      just.entities (SameItems-image types held.actions (action_uids bag) just.actions)

  -- the aliases whose names aren't held are those of the bag
  pub same_aliases : free_aliases (type_names held) (built_in_types extensions) ≡ aliases bag extensions
  same_aliases =
      (λ i. map (λ (it : Text × Expr). (alias_name it.0, it.1)) (filter (λ (it : Text × Expr). not (taken_same (type_names held)
      (declared_types bag) same_types it.0 i)) (built_in_types extensions)))
