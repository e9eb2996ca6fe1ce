-- A bag in another order is the same bag.
use Rattle.std.proofs.Common.{◌≡◌, Bool, List, [], ◌∷◌, ◌++◌, map, ap, sym, ◌∙◌, refl, arith, Contains}
use Rattle.std.proofs.lemmas.List.Sorted.{Contains-permutation, IsPermutation-sym, sum_by-IsPermutation}
use Rattle.std.specs.Bool.{Decides}
use Rattle.std.specs.List.{flat_map}
use Rattle.std.specs.List.Sorted.{IsPermutation}
use Rattle.std.specs.Ordering.{is_eq}
use Rattle.cedar_ast.proofs.Basics.{Contains-image}
use Rattle.cedar_ast.proofs.Lists.{Contains-preimage}
use Rattle.cedar_schema_laws.proofs.CountLemmas.{hits, hits_of_twice, twice_of_hits, hits-flat_map}
use Rattle.cedar_schema_laws.specs.Words.{ActionBody, Bag, Declaration, EntityBody, Expr, OrderIsNothing, PlainName, PlainUid, Requests, SaysAll, Twice, action_definition_in, action_in, common_in, declared_actions, declared_entities, declared_name, declared_uid, defined_actions, defined_entities, entity_definition_in, entity_in, name_cmp, uid_cmp}
use Rattle.cedar_schema_semantics.proofs.OccurrenceLemmas.{Contains-flat_map, Contains-given, name_test, uid_test}
use Rattle.cedar_schema_semantics.proofs.TogetherLemmas.{SameEntityBody-itself, SameRequests-itself}

-- what the items of a list give in turn, those of what another gives give
pub nested : {A B C : Type 0} (f : A → List B) (g : B → List C) (xs : List A)
    → flat_map g (flat_map f xs) ≡ flat_map (λ x. flat_map g (f x)) xs
nested f g [] = refl
nested {B = B} {C = C} f g (x ∷ xs) =
    appended (f x) (flat_map f xs) ∙ ap (λ rest. flat_map g (f x) ++ rest) (nested f g xs)
  where
    associates : (these those others : List C) → (these ++ those) ++ others ≡ these ++ (those ++ others)
    associates [] those others = refl
    associates (first ∷ these) those others = ap (λ rest. first ∷ rest) (associates these those others)

    appended : (ys zs : List B) → flat_map g (ys ++ zs) ≡ flat_map g ys ++ flat_map g zs
    appended [] zs = refl
    appended (y ∷ ys) zs = ap (λ rest. g y ++ rest) (appended ys zs) ∙ sym (associates (g y) (flat_map g ys) (flat_map g zs))

module _ {X Y A : Type 0} (test : A → A → Bool) (decides : (y x : A) → Decides (test y x) (y ≡ x)) where
  -- a key that stands twice in what some items give does so in whatever order they stand
  Twice-permuted : (f : X → List Y) (key : Y → A) (xs others : List X) → IsPermutation xs others → (x : A)
      → Twice (map key (flat_map f xs)) x → Twice (map key (flat_map f others)) x
  Twice-permuted f key xs others permuted x twice =
      let count = λ (item : X). hits test decides x (map key (f item)) in
      let same : hits test decides x (map key (flat_map f xs)) ≡ hits test decides x (map key (flat_map f others)) =
      hits-flat_map test decides f key xs x
      ∙ (sym (sum_by-IsPermutation count xs others permuted) ∙ sym (hits-flat_map test decides f key others x)) in
      twice_of_hits test decides (map key (flat_map f others)) x
      (omega (arith, sym same, hits_of_twice test decides (map key (flat_map f xs)) x twice))

-- what some items give they give in whatever order they stand
given_permuted : {X Y : Type 0} (f : X → List Y) (xs others : List X) → IsPermutation xs others → (y : Y)
    → Contains (flat_map f xs) y → Contains (flat_map f others) y
given_permuted f xs others permuted y among =
    let found = Contains-flat_map f xs y among in
    Contains-given f others found.0 y (Contains-permutation xs others found.0 permuted found.1) found.2

-- the same of their images
image_permuted : {X Y Z : Type 0} (f : X → List Y) (key : Y → Z) (xs others : List X) → IsPermutation xs others → (z : Z)
    → Contains (map key (flat_map f xs)) z → Contains (map key (flat_map f others)) z
image_permuted {Z = Z} f key xs others permuted z among =
    let it = Contains-preimage key (flat_map f xs) z among in
    rw it.2 at (Contains-image key (flat_map f others) it.0 (given_permuted f xs others permuted it.0 it.1))

-- what a declaration says of an entity type, if it is one
abbrev entity_given : Declaration → List (PlainName × EntityBody)
entity_given it = entity_in (declared_name it) it.body

-- what a declaration says of an action, if it is one
abbrev action_given : Declaration → List (PlainUid × ActionBody)
action_given it = action_in (declared_uid it) it.body

-- the definitions among some entity types
abbrev entity_defined : PlainName × EntityBody → List (PlainName × EntityBody)
entity_defined it = entity_definition_in it.0 it.1

-- the definitions among some actions
abbrev action_defined : PlainUid × ActionBody → List (PlainUid × Requests)
action_defined it = action_definition_in it.0 it.1.applies_to

module _ (bag other : Bag) (permuted : IsPermutation bag other) where
  -- a definition of an entity type stands in the other order
  entity_definition_permuted : (it : PlainName × EntityBody) → Contains (defined_entities bag) it → Contains (defined_entities other) it
  entity_definition_permuted it among =
      let found = Contains-flat_map entity_defined (declared_entities bag) it among in
      Contains-given entity_defined (declared_entities other) found.0 it (given_permuted entity_given bag other permuted found.0 found.1) found.2

  -- a definition of an action stands in the other order
  action_definition_permuted : (it : PlainUid × Requests) → Contains (defined_actions bag) it → Contains (defined_actions other) it
  action_definition_permuted it among =
      let found = Contains-flat_map action_defined (declared_actions bag) it among in
      Contains-given action_defined (declared_actions other) found.0 it (given_permuted action_given bag other permuted found.0 found.1) found.2

  -- an entity type with two definitions has them in the other order
  entities_twice_permuted : (name : PlainName) → Twice (map (λ it. it.0) (defined_entities bag)) name
      → Twice (map (λ it. it.0) (defined_entities other)) name
  entities_twice_permuted name twice =
      rw (nested entity_given entity_defined other) (Twice-permuted (λ a b. is_eq (name_cmp a b)) name_test (λ it. flat_map entity_defined (entity_given it)) (λ it. it.0) bag other
      permuted name (rw (nested entity_given entity_defined bag) at twice))

  -- an action with two definitions has them in the other order
  actions_twice_permuted : (uid : PlainUid) → Twice (map (λ it. it.0) (defined_actions bag)) uid
      → Twice (map (λ it. it.0) (defined_actions other)) uid
  actions_twice_permuted uid twice =
      rw (nested action_given action_defined other) (Twice-permuted (λ a b. is_eq (uid_cmp a b)) uid_test (λ it. flat_map action_defined (action_given it)) (λ it. it.0) bag other
      permuted uid (rw (nested action_given action_defined bag) at twice))

  -- a bag in another order says all that the bag says
  says_permuted : SaysAll bag other
  says_permuted = record {
    common = given_permuted (λ it. common_in (declared_name it) it.body) bag other permuted;
    common_twice = Twice-permuted (λ a b. is_eq (name_cmp a b)) name_test (λ it. common_in (declared_name it) it.body)
        (λ (it : PlainName × Expr). it.0) bag other permuted;
    entities = image_permuted entity_given (λ it. it.0) bag other permuted;
    entity_definitions = λ name body among. (body, entity_definition_permuted (name, body) among, SameEntityBody-itself body);
    entities_twice = entities_twice_permuted;
    parents = λ name reference parent.
        (parent.0, given_permuted entity_given bag other permuted (name, parent.0) parent.1, parent.2);
    actions = image_permuted action_given (λ it. it.0) bag other permuted;
    action_definitions = λ uid it among. (it, action_definition_permuted (uid, it) among, SameRequests-itself it);
    actions_twice = actions_twice_permuted;
    action_parents = λ uid reference parent.
        (parent.0, given_permuted action_given bag other permuted (uid, parent.0) parent.1, parent.2);
    attributes = λ namespace id has. (has.0, Contains-permutation bag other _ permuted has.1, has.2);
  }

-- a bag in another order is the same bag
pub order_is_nothing : OrderIsNothing
order_is_nothing bag other permuted =
    (says_permuted bag other permuted, says_permuted other bag (IsPermutation-sym bag other permuted))
