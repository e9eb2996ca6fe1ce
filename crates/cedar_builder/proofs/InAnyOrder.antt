-- Declarations say the same in any order.
use Rattle.std.proofs.Common.{◌≡◌, ◌↔◌, ◌≤◌, ◌∙◌, ℕ, Bool, true, false, IsTrue, List, [], ◌∷◌, Option, None, Some, Contains, arith, inl, inr, map, refl, sym, subst}
use Rattle.std.proofs.lemmas.List.Sorted.{Contains-permutation, sum_by-IsPermutation}
use Rattle.std.proofs.lemmas.List.Sums.{sum_by-cons}
use Rattle.std.specs.List.{flat_map, sum_by}
use Rattle.std.specs.List.Sorted.{IsPermutation}
use Rattle.cedar_ast.proofs.Basics.{Contains-image}
use Rattle.cedar_ast.proofs.Lists.{Contains-cons, Contains-cons_cases, Contains-preimage}
use Rattle.cedar_builder.specs.Words.{Fault, IsCollectedAt, IsCollectingFault, SaysIf, Twice, defined_in, definition_in}
use Rattle.cedar_schema_semantics.proofs.OccurrenceLemmas.{Contains-flat_map, Contains-given}

module _ {Name Body : Type 0} (is_definition : Body → Bool) (entries others : List (Name × Body))
    (forth : (it : Name × Body) → Contains entries it → Contains others it) where
  -- the definitions among declarations are among more of these
  pub defined_forth : (it : Name × Body) → Contains (flat_map (definition_in is_definition) entries) it
      → Contains (flat_map (definition_in is_definition) others) it
  defined_forth it among =
      let from = Contains-flat_map (definition_in is_definition) entries it among in
      Contains-given (definition_in is_definition) others from.0 it (forth from.0 from.1) from.2

  -- and so are their names
  pub names_forth : (name : Name) → Contains (defined_in is_definition entries) name → Contains (defined_in is_definition others) name
  names_forth name among =
      let name_of : Name × Body → Name = λ it. it.0 in
      let from = Contains-preimage name_of (flat_map (definition_in is_definition) entries) name among in
      subst (Contains (defined_in is_definition others)) from.2
      (Contains-image name_of (flat_map (definition_in is_definition) others) from.0 (defined_forth from.0 from.1))

  -- and all names that are declared
  pub declared_forth : (name : Name) → Contains (map (λ it. it.0) entries) name → Contains (map (λ it. it.0) others) name
  declared_forth name among =
      let name_of : Name × Body → Name = λ it. it.0 in
      let from = Contains-preimage name_of entries name among in
      subst (Contains (map name_of others)) from.2 (Contains-image name_of others from.0 (forth from.0 from.1))

module _ {Name Body : Type 0} (is_definition : Body → Bool) (entries others : List (Name × Body))
    (forth : (it : Name × Body) → Contains entries it → Contains others it)
    (back : (it : Name × Body) → Contains others it → Contains entries it) where
  -- what declarations say of a name they say in any order
  says_forth : (b : Bool) (name : Name) (body : Body) → SaysIf is_definition b entries name body
      → SaysIf is_definition b others name body
  says_forth true name body says = defined_forth is_definition entries others forth (name, body) says
  says_forth false name body says = (
    declared_forth is_definition entries others forth name says.0,
    λ defined. says.1 (names_forth is_definition others entries back name defined),
  )

  -- so what is collected is what they say
  pub collected_forth : {Node : Type 0} (IsExternal : Node → Type 0) (node_name : Node → Name) (Gives : Body → Node → Type 0)
      (name : Name) (stands : Option Node) → IsCollectedAt is_definition IsExternal node_name Gives entries name stands
      → IsCollectedAt is_definition IsExternal node_name Gives others name stands
  collected_forth IsExternal node_name Gives name None none =
      λ among. none (declared_forth is_definition others entries back name among)
  collected_forth IsExternal node_name Gives name (Some it) collected = record {
    body = collected.body;
    says = says_forth (is_definition collected.body) name collected.body collected.says;
    name = collected.name;
    given = collected.given;
    external = collected.external;
  }

module _ {X Name Body : Type 0} (is_definition : Body → Bool) (entry_of : X → Name × Body) where
  -- the names that are defined
  abbrev names : List X → List Name
  names xs = defined_in is_definition (map entry_of xs)

  -- a name that is defined twice is that of a declaration
  declared_somewhere : (xs : List X) (name : Name) → Twice (names xs) name → (x : X) × ((entry_of x).0 ≡ name)
  declared_somewhere [] name twice = absurd twice
  declared_somewhere (x ∷ xs) name twice = by (is_definition (entry_of x).1) refl twice (declared_somewhere xs name) where
    by : (b : Bool) → is_definition (entry_of x).1 ≡ b → Twice (names (x ∷ xs)) name
        → (Twice (names xs) name → (x : X) × ((entry_of x).0 ≡ name)) → (x : X) × ((entry_of x).0 ≡ name)
    by true is both rest = elim (rw is at both) [ inl here ↦ (x, here.0) | inr later ↦ rest later ]
    by false is both rest = rest (rw is at both)

  module _ (name : Name) (same : X → Bool) (is_same : (x : X) → IsTrue (same x) ↔ ((entry_of x).0 ≡ name)) where
    -- how often a declaration defines the name
    weight_if : Bool → Bool → ℕ
    weight_if true true = 1
    weight_if _ _ = 0

    abbrev weight : X → ℕ
    weight x = weight_if (is_definition (entry_of x).1) (same x)

    -- a name that is defined is counted
    counted_once : (xs : List X) → Contains (names xs) name → 1 ≤ sum_by weight xs
    unfolding weight_if
    counted_once [] among = absurd (omega (arith, among.1))
    counted_once (x ∷ xs) among = by (is_definition (entry_of x).1) refl among (counted_once xs) where
      by : (b : Bool) → is_definition (entry_of x).1 ≡ b → Contains (names (x ∷ xs)) name
          → (Contains (names xs) name → 1 ≤ sum_by weight xs) → 1 ≤ sum_by weight (x ∷ xs)
      by true is both rest =
          elim (Contains-cons_cases (entry_of x).0 (names xs) name (rw is at both)) [
            | inl here ↦
                let one : weight x ≡ 1 = (λ i. weight_if (is i) ((is_same x).1 here i)) in
                omega (arith, sum_by-cons weight x xs, one)
            | inr later ↦ omega (arith, sum_by-cons weight x xs, rest later)
          ]
      by false is both rest = omega (arith, sum_by-cons weight x xs, rest (rw is at both))

    -- and one that is defined twice is counted twice
    counted_twice : (xs : List X) → Twice (names xs) name → 2 ≤ sum_by weight xs
    unfolding weight_if
    counted_twice [] twice = absurd twice
    counted_twice (x ∷ xs) twice = by (is_definition (entry_of x).1) refl twice (counted_twice xs) where
      by : (b : Bool) → is_definition (entry_of x).1 ≡ b → Twice (names (x ∷ xs)) name
          → (Twice (names xs) name → 2 ≤ sum_by weight xs) → 2 ≤ sum_by weight (x ∷ xs)
      by true is both rest = elim (rw is at both) [
        | inl here ↦
            let one : weight x ≡ 1 = (λ i. weight_if (is i) ((is_same x).1 here.0 i)) in
            omega (arith, sum_by-cons weight x xs, one, counted_once xs here.1)
        | inr later ↦ omega (arith, sum_by-cons weight x xs, rest later)
      ]
      by false is both rest = omega (arith, sum_by-cons weight x xs, rest (rw is at both))

    -- what is counted is defined
    once_counted : (xs : List X) → 1 ≤ sum_by weight xs → Contains (names xs) name
    unfolding weight_if
    once_counted [] some = absurd (omega (arith, some))
    once_counted (x ∷ xs) some = by (is_definition (entry_of x).1) (same x) refl refl (once_counted xs) where
      by : (b c : Bool) → is_definition (entry_of x).1 ≡ b → same x ≡ c
          → (1 ≤ sum_by weight xs → Contains (names xs) name) → Contains (names (x ∷ xs)) name
      by true true is its rest = rw is (Contains-cons (entry_of x).0 (names xs) name (inl ((is_same x).0 its)))
      by true false is its rest =
          let none : weight x ≡ 0 = (λ i. weight_if (is i) (its i)) in
          rw is (Contains-cons (entry_of x).0 (names xs) name (inr (rest (omega (arith, some, sum_by-cons weight x xs, none)))))
      by false c is its rest =
          let none : weight x ≡ 0 = (λ i. weight_if (is i) (its i)) in
          rw is (rest (omega (arith, some, sum_by-cons weight x xs, none)))

    -- and what is counted twice is defined twice
    twice_counted : (xs : List X) → 2 ≤ sum_by weight xs → Twice (names xs) name
    unfolding weight_if
    twice_counted [] some = absurd (omega (arith, some))
    twice_counted (x ∷ xs) some = by (is_definition (entry_of x).1) (same x) refl refl (twice_counted xs) where
      by : (b c : Bool) → is_definition (entry_of x).1 ≡ b → same x ≡ c
          → (2 ≤ sum_by weight xs → Twice (names xs) name) → Twice (names (x ∷ xs)) name
      by true true is its rest =
          let one : weight x ≡ 1 = (λ i. weight_if (is i) (its i)) in
          rw is (inl ((is_same x).0 its, once_counted xs (omega (arith, some, sum_by-cons weight x xs, one))))
      by true false is its rest =
          let none : weight x ≡ 0 = (λ i. weight_if (is i) (its i)) in
          rw is (inr (rest (omega (arith, some, sum_by-cons weight x xs, none))))
      by false c is its rest =
          let none : weight x ≡ 0 = (λ i. weight_if (is i) (its i)) in
          rw is (rest (omega (arith, some, sum_by-cons weight x xs, none)))

  -- a name that is defined twice is so in any order
  pub twice_forth : (eq : X → X → Bool) → ((a b : X) → IsTrue (eq a b) ↔ ((entry_of a).0 ≡ (entry_of b).0)) → (xs ys : List X)
      → IsPermutation xs ys → (name : Name) → Twice (names xs) name → Twice (names ys) name
  twice_forth eq same_key xs ys moved name twice =
      let somewhere = declared_somewhere xs name twice in
      let same : X → Bool = eq somewhere.0 in
      let is_same : (x : X) → IsTrue (same x) ↔ ((entry_of x).0 ≡ name) = λ x. (
        λ is. sym ((same_key somewhere.0 x).0 is) ∙ somewhere.1,
        λ is. (same_key somewhere.0 x).1 (somewhere.1 ∙ sym is),
      ) in
      twice_counted name same is_same ys
      (omega (arith, counted_twice name same is_same xs twice, sum_by-IsPermutation (weight name same is_same) xs ys moved))

  module _ (xs ys : List X) (moved : IsPermutation xs ys) where
    -- what is declared is declared in any order
    pub among_forth : (it : Name × Body) → Contains (map entry_of xs) it → Contains (map entry_of ys) it
    among_forth it among =
        let from = Contains-preimage entry_of xs it among in
        subst (Contains (map entry_of ys)) from.2 (Contains-image entry_of ys from.0 (Contains-permutation xs ys from.0 moved from.1))

    -- declarations are refused for the same in any order
    pub fault_forth : (eq : X → X → Bool) → ((a b : X) → IsTrue (eq a b) ↔ ((entry_of a).0 ≡ (entry_of b).0))
        → {K : Type 0} (key_name : K → Name) (IsBodyFault : K → Body → Fault → Type 0) (duplicate : Name → Fault)
        (fault : Fault) → IsCollectingFault is_definition key_name IsBodyFault duplicate (map entry_of xs) fault
        → IsCollectingFault is_definition key_name IsBodyFault duplicate (map entry_of ys) fault
    fault_forth eq same_key key_name IsBodyFault duplicate fault at = elim at [
      | inl wanting ↦ inl wanting
      | inr other ↦ elim other [
        | inl refused ↦ inr (inl (refused.0, refused.1, among_forth (key_name refused.0, refused.1) refused.2, refused.3))
        | inr twice ↦ inr (inr (twice.0, twice.1, twice_forth eq same_key xs ys moved twice.0 twice.2))
      ]
    ]
