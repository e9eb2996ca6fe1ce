-- What can be decided of names and lists, and sorted lists without duplicates.
use Rattle.std.proofs.Common.{◌≡◌, ◌⊎◌, ◌↔◌, inl, inr, Bool, true, false, refl, sym, ap, ◌∙◌, ◌≤◌, length, List, [], ◌∷◌, Contains, arith}
use Rattle.std.proofs.lemmas.List.Elements.{All-contains, All-from_recursion}
use Rattle.std.specs.Cmp.{IsTotalOrder}
use Rattle.std.specs.List.{AllByRecursion}
use Rattle.std.specs.List.Sorted.{IsStrictlySortedBy}
use Rattle.std.specs.Ordering.{ordering_reverse}
use Rattle.std.specs.declared.cmp.Ordering.{Ordering}
use Rattle.std.specs.declared.cmp.Ordering.TheVariants.{Less, Equal, Greater}
use Rattle.cedar_ast.proofs.Inclusion.{Included-none, Included-cons, Included-head, Included-tail}
use Rattle.cedar_ast.proofs.Lists.{Contains-cons, Contains-cons_cases}
use Rattle.cedar_ast.specs.Lists.{Included}

-- a fact holds or doesn't
abbrev pub IsDecided : Type 0 → Type 0
IsDecided A = A ⊎ ¬ A

-- two facts are decided together
pub decide_both : {A B : Type 0} → IsDecided A → IsDecided B → IsDecided (A × B)
decide_both (inl a) (inl b) = inl (a, b)
decide_both (inl a) (inr none) = inr (λ both. none both.1)
decide_both (inr none) b = inr (λ both. none both.0)

-- flags are the same or not
pub decide_flags : (a b : Bool) → IsDecided (a ≡ b)
decide_flags true true = inl refl
decide_flags true false = inr (λ e. absurd cc)
decide_flags false true = inr (λ e. absurd cc)
decide_flags false false = inl refl

-- an order that tells different values apart decides whether two are the same
pub decide_same : {B : Type 0} (R : B → B → Ordering) → ((x y : B) → (R x y ≡ Equal) ↔ (x ≡ y)) → (x y : B) → IsDecided (x ≡ y)
decide_same R ties x y = from_order (R x y) refl
  where
    from_order : (o : Ordering) → R x y ≡ o → IsDecided (x ≡ y)
    from_order Less e = inr (λ same. let tied : R x y ≡ Equal = (ties x y).1 same in cc)
    from_order Equal e = inl ((ties x y).0 e)
    from_order Greater e = inr (λ same. let tied : R x y ≡ Equal = (ties x y).1 same in cc)

-- a value is among others or not
pub decide_among : {B : Type 0} → ((x y : B) → IsDecided (x ≡ y)) → (xs : List B) (x : B) → IsDecided (Contains xs x)
decide_among decide [] x = inr (λ among. omega (arith, among.1))
decide_among decide (y ∷ ys) x =
    elim (decide y x) [
      | inl same ↦ inl (Contains-cons y ys x (inl same))
      | inr differ ↦
          elim (decide_among decide ys x) [
            | inl there ↦ inl (Contains-cons y ys x (inr there))
            | inr absent ↦
                inr (λ among. elim (Contains-cons_cases y ys x among) [ inl left ↦ differ left | inr right ↦ absent right ])
          ]
    ]

-- values are included in others or not
pub decide_included : {B : Type 0} → ((x y : B) → IsDecided (x ≡ y)) → (xs ys : List B) → IsDecided (Included xs ys)
decide_included decide [] ys = inl (Included-none ys)
decide_included decide (x ∷ xs) ys =
    elim (decide_both (decide_among decide ys x) (decide_included decide xs ys)) [
      | inl both ↦ inl (Included-cons x xs ys both.0 both.1)
      | inr none ↦ inr (λ within. none (Included-head x xs ys within, Included-tail x xs ys within))
    ]

-- what holds of each value of a list holds of all
pub each_of : {B : Type 0} (P : B → Type 0) (xs : List B) → ((x : B) → Contains xs x → P x) → AllByRecursion P xs
each_of P [] each = tt
each_of P (x ∷ xs) each =
    (each x (Contains-cons x xs x (inl refl)), each_of P xs (λ y among. each y (Contains-cons x xs y (inr among))))

-- what holds of all values of a list holds of each
pub of_each : {B : Type 0} (P : B → Type 0) (xs : List B) → AllByRecursion P xs → (x : B) → Contains xs x → P x
of_each P xs all x among = All-contains P xs x (All-from_recursion P xs all) among

-- a sorted list without duplicates and holds what both lists hold
pub record Merged {B : Type 0} (R : B → B → Ordering) (xs ys : List B) : Type 0 where
  pub all : List B
  pub sorted_by_name : IsStrictlySortedBy R all
  pub first : Included xs all
  pub second : Included ys all
  pub only : (x : B) → Contains all x → Contains xs x ⊎ Contains ys x

-- one value is merged into a sorted list without duplicates
insert_one : {B : Type 0} (R : B → B → Ordering) → IsTotalOrder R → ((x y : B) → (R x y ≡ Equal) ↔ (x ≡ y))
    → (x : B) (ys : List B) → IsStrictlySortedBy R ys → Merged R (x ∷ []) ys
unfolding IsStrictlySortedBy
insert_one R total ties x [] sorted_by_name = record {
  all = x ∷ [];
  sorted_by_name = (tt, tt);
  first = λ y among. among;
  second = Included-none (x ∷ []);
  only = λ y among. inl among;
}
insert_one {B = B} R total ties x (y ∷ ys) sorted_by_name = from_order (R x y) refl (insert_one R total ties x ys sorted_by_name.1)
  where
    from_order : (o : Ordering) → R x y ≡ o → Merged R (x ∷ []) ys → Merged R (x ∷ []) (y ∷ ys)
    from_order Less e rest = record {
      all = x ∷ y ∷ ys;
      sorted_by_name = (
        (e, each_of (λ z. R x z ≡ Less) ys (λ z among. total.trans x y z e (of_each (λ z. R y z ≡ Less) ys sorted_by_name.0 z among))),
        sorted_by_name,
      );
      first = Included-cons x [] (x ∷ y ∷ ys) (Contains-cons x (y ∷ ys) x (inl refl)) (Included-none (x ∷ y ∷ ys));
      second = λ z among. Contains-cons x (y ∷ ys) z (inr among);
      only = λ z among. elim (Contains-cons_cases x (y ∷ ys) z among) [
        | inl same ↦ inl (Contains-cons x [] z (inl same))
        | inr there ↦ inr there
      ];
    }
    from_order Equal e rest = record {
      all = y ∷ ys;
      sorted_by_name = sorted_by_name;
      first = Included-cons x [] (y ∷ ys) (Contains-cons y ys x (inl (sym ((ties x y).0 e)))) (Included-none (y ∷ ys));
      second = λ z among. among;
      only = λ z among. inr among;
    }
    from_order Greater e rest =
        let below : R y x ≡ Less = total.antisymm y x ∙ ap ordering_reverse e in
        record {
          all = y ∷ rest.all;
          sorted_by_name = (
            each_of (λ z. R y z ≡ Less) rest.all (λ z among. elim (rest.only z among) [
              | inl new ↦
                  elim (Contains-cons_cases x [] z new) [
                    | inl same ↦ rw same at below
                    | inr none ↦ absurd (omega (arith, none.1))
                  ]
              | inr old ↦ of_each (λ z. R y z ≡ Less) ys sorted_by_name.0 z old
            ]),
            rest.sorted_by_name,
          );
          first = λ z among. Contains-cons y rest.all z (inr (rest.first z among));
          second = Included-cons y ys (y ∷ rest.all) (Contains-cons y rest.all y (inl refl))
              (λ z among. Contains-cons y rest.all z (inr (rest.second z among)));
          only = λ z among. elim (Contains-cons_cases y rest.all z among) [
            | inl same ↦ inr (Contains-cons y ys z (inl same))
            | inr there ↦ elim (rest.only z there) [ inl new ↦ inl new | inr old ↦ inr (Contains-cons y ys z (inr old)) ]
          ];
        }

-- lists are merged, where the second is sorted
pub merge : {B : Type 0} (R : B → B → Ordering) → IsTotalOrder R → ((x y : B) → (R x y ≡ Equal) ↔ (x ≡ y))
    → (xs ys : List B) → IsStrictlySortedBy R ys → Merged R xs ys
merge R total ties [] ys sorted_by_name =
    record { all = ys; sorted_by_name = sorted_by_name; first = Included-none ys; second = λ z among. among; only = λ z among. inr among }
merge R total ties (x ∷ xs) ys sorted_by_name =
    let rest = merge R total ties xs ys sorted_by_name in
    let more = insert_one R total ties x rest.all rest.sorted_by_name in
    record {
      all = more.all;
      sorted_by_name = more.sorted_by_name;
      first = Included-cons x xs more.all (more.first x (Contains-cons x [] x (inl refl))) (λ z among. more.second z (rest.first z among));
      second = λ z among. more.second z (rest.second z among);
      only = λ z among. elim (more.only z among) [
        | inl new ↦
            elim (Contains-cons_cases x [] z new) [
              | inl same ↦ inl (Contains-cons x xs z (inl same))
              | inr none ↦ absurd (omega (arith, none.1))
            ]
        | inr old ↦ elim (rest.only z old) [ inl there ↦ inl (Contains-cons x xs z (inr there)) | inr there ↦ inr there ]
      ];
    }

-- values that are sorted and are among as many are all of them
pub all_among : {B : Type 0} (R : B → B → Ordering) → IsTotalOrder R → ((x y : B) → (R x y ≡ Equal) ↔ (x ≡ y))
    → (xs ys : List B) → IsStrictlySortedBy R xs → IsStrictlySortedBy R ys → Included xs ys → (length xs ≤ length ys)
    × (length xs ≡ length ys → Included ys xs)
unfolding IsStrictlySortedBy
all_among R total ties [] [] first second within = (omega arith, λ _. Included-none [])
all_among R total ties [] (y ∷ ys) first second within = (omega arith, λ e. absurd (omega (arith, e)))
all_among R total ties (x ∷ xs) [] first second within = absurd (omega (arith, (Included-head x xs [] within).1))
all_among {B = B} R total ties (x ∷ xs) (y ∷ ys) first second within =
    elim (Contains-cons_cases y ys x (Included-head x xs (y ∷ ys) within)) [
      | inl same ↦
          let rest = all_among R total ties xs ys first.1 second.1 (later same) in (
            omega (arith, rest.0),
            λ e. Included-cons y ys (x ∷ xs) (Contains-cons x xs y (inl (sym same)))
                (λ z among. Contains-cons x xs z (inr (rest.1 (omega (arith, e)) z among))),
          )
      | inr there ↦
          let rest = all_among R total ties (x ∷ xs) ys first second.1 (skipped there) in
          (omega (arith, rest.0), λ e. absurd (omega (arith, rest.0, e)))
    ]
  where
    irreflexive : (z w : B) → z ≡ w → ¬ (R z w ≡ Less)
    irreflexive z w same less = let tied : R z w ≡ Equal = (ties z w).1 same in cc

    later : y ≡ x → Included xs ys
    later same z among =
        elim (Contains-cons_cases y ys z (Included-tail x xs (y ∷ ys) within z among)) [
          | inl e ↦ absurd (irreflexive x z (sym same ∙ e) (of_each (λ z. R x z ≡ Less) xs first.0 z among))
          | inr there ↦ there
        ]

    skipped : Contains ys x → Included (x ∷ xs) ys
    skipped there = Included-cons x xs ys there
        (λ z among. elim (Contains-cons_cases y ys z (Included-tail x xs (y ∷ ys) within z among)) [
          | inl e ↦
              absurd (irreflexive y z e (total.trans y x z (of_each (λ z. R y z ≡ Less) ys second.0 x there)
              (of_each (λ z. R x z ≡ Less) xs first.0 z among)))
          | inr there ↦ there
        ])
