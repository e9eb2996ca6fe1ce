-- What stands in lists is decided, and what a fact holds of is listed, in order too.
use Rattle.std.proofs.Common.{◌≡◌, ◌⊎◌, ◌↔◌, List, [], ◌∷◌, inl, inr, refl, arith, Contains}
use Rattle.std.specs.Cmp.{IsTotalOrder}
use Rattle.std.specs.List.Sorted.{IsStrictlySortedBy}
use Rattle.std.specs.declared.cmp.Ordering.{Ordering}
use Rattle.std.specs.declared.cmp.Ordering.TheVariants.{Equal}
use Rattle.cedar_ast.proofs.Lists.{Contains-cons, Contains-cons_cases}
use Rattle.cedar_schema_laws.proofs.TypeDecisions.{decide_like}
use Rattle.cedar_schema_semantics.specs.Occurrences.{IsFirst}
use Rattle.cedar_type_rules.proofs.Decisions.{IsDecided, decide_both, merge}

-- of two facts one is decided to hold, or that neither does
pub decide_either : {A B : Type 0} → IsDecided A → IsDecided B → IsDecided (A ⊎ B)
decide_either (inl a) b = inl (inl a)
decide_either (inr none) b = decide_like inr (λ either. elim either [ inl a ↦ absurd (none a) | inr b ↦ b ]) b

-- some item of a list is one of which a fact holds, or none is
pub decide_some : {A : Type 0} (P : A → Type 0) → ((x : A) → IsDecided (P x)) → (xs : List A)
    → IsDecided ((x : A) × Contains xs x × P x)
decide_some P decide [] = inr (λ found. omega (arith, found.1.1))
decide_some P decide (y ∷ ys) =
    elim (decide y) [
      | inl here ↦ inl (y, Contains-cons y ys y (inl refl), here)
      | inr not_here ↦
          elim (decide_some P decide ys) [
            | inl later ↦ inl (later.0, Contains-cons y ys later.0 (inr later.1), later.2)
            | inr not_later ↦
                inr (λ found. elim (Contains-cons_cases y ys found.0 found.1) [
                  | inl same ↦ not_here (rw same found.2)
                  | inr among ↦ not_later (found.0, among, found.2)
                ])
          ]
    ]

-- a value of which a fact holds stands under the key, or none does
pub decide_stands : {K V : Type 0} → ((a b : K) → IsDecided (a ≡ b)) → (entries : List (K × V)) (Fits : V → Type 0)
    → ((value : V) → IsDecided (Fits value)) → (key : K) → IsDecided ((value : V) × Contains entries (key, value) × Fits value)
decide_stands {K = K} {V = V} same entries Fits decide key =
    decide_like (λ found. (found.0.1, rw found.2.0 at found.1, found.2.1))
    (λ stands. ((key, stands.0), stands.1, (refl, stands.2)))
    (decide_some (λ (it : K × V). (it.0 ≡ key) × Fits it.1) (λ it. decide_both (same it.0 key) (decide it.1)) entries)

-- a fact holds of some item of a list, first of one, or of none
pub find_first : {A : Type 0} (P : A → Type 0) → ((x : A) → IsDecided (P x)) → (xs : List A)
    → ((x : A) × IsFirst P xs x) ⊎ ((x : A) → Contains xs x → ¬ P x)
find_first P decide [] = inr (λ x among. absurd (omega (arith, among.1)))
find_first P decide (y ∷ ys) =
    elim (decide y) [
      | inl here ↦ inl (y, inl (refl, here))
      | inr not_here ↦
          elim (find_first P decide ys) [
            | inl later ↦ inl (later.0, inr (not_here, later.1))
            | inr not_later ↦
                inr (λ x among holds. elim (Contains-cons_cases y ys x among) [
                  | inl same ↦ not_here (rw same holds)
                  | inr there ↦ not_later x there holds
                ])
          ]
    ]

-- an item is the first of which a fact holds, or isn't
pub decide_first : {A : Type 0} (P : A → Type 0) → ((x : A) → IsDecided (P x)) → ((x y : A) → IsDecided (x ≡ y))
    → (xs : List A) (x : A) → IsDecided (IsFirst P xs x)
decide_first P decide same [] x = inr (λ first. first)
decide_first P decide same (y ∷ ys) x =
    elim (decide y) [
      | inl here ↦
          decide_like (λ is. inl (is, here)) (λ first. elim first [ inl it ↦ it.0 | inr later ↦ absurd (later.0 here) ]) (same y x)
      | inr not_here ↦
          decide_like (λ later. inr (not_here, later)) (λ first. elim first [ inl it ↦ absurd (not_here it.1) | inr later ↦ later.1 ])
          (decide_first P decide same ys x)
    ]

-- a list of just what a fact holds of
abbrev pub Listed : {A : Type 0} → (A → Type 0) → Type 0
Listed {A = A} P = (items : List A) × ((x : A) → Contains items x ↔ P x)

-- the items of a list of which a fact holds are listed
list_kept : {A : Type 0} (P : A → Type 0) → ((x : A) → IsDecided (P x)) → (xs : List A) → Listed (λ x. Contains xs x × P x)
list_kept P decide [] = ([], λ x. (λ among. absurd (omega (arith, among.1)), λ kept. kept.0))
list_kept P decide (y ∷ ys) =
    let rest = list_kept P decide ys in
    elim (decide y) [
      | inl here ↦ (
        y ∷ rest.0,
        λ x. (
          λ among. elim (Contains-cons_cases y rest.0 x among) [
            | inl same ↦ (Contains-cons y ys x (inl same), rw same at here)
            | inr later ↦ let kept = (rest.1 x).0 later in (Contains-cons y ys x (inr kept.0), kept.1)
          ],
          λ kept. Contains-cons y rest.0 x (elim (Contains-cons_cases y ys x kept.0) [
            | inl same ↦ inl same
            | inr later ↦ inr ((rest.1 x).1 (later, kept.1))
          ]),
        ),
      )
      | inr not_here ↦ (
        rest.0,
        λ x. (
          λ among. let kept = (rest.1 x).0 among in (Contains-cons y ys x (inr kept.0), kept.1),
          λ kept. elim (Contains-cons_cases y ys x kept.0) [
            | inl same ↦ absurd (not_here (rw same kept.1))
            | inr later ↦ (rest.1 x).1 (later, kept.1)
          ],
        ),
      )
    ]

-- what a fact holds of is listed, where it all stands in a list
pub list_all : {A : Type 0} (P : A → Type 0) → ((x : A) → IsDecided (P x)) → (xs : List A) → ((x : A) → P x → Contains xs x)
    → Listed P
list_all P decide xs within =
    let kept = list_kept P decide xs in
    (kept.0, λ x. (λ among. ((kept.1 x).0 among).1, λ holds. (kept.1 x).1 (within x holds, holds)))

-- the items of a list stand in one that is sorted
pub in_order : {A : Type 0} (R : A → A → Ordering) → IsTotalOrder R → ((x y : A) → (R x y ≡ Equal) ↔ (x ≡ y)) → (xs : List A)
    → (items : List A) × ((x : A) → Contains items x ↔ Contains xs x) × IsStrictlySortedBy R items
unfolding IsStrictlySortedBy
in_order R total ties xs =
    let all = merge R total ties xs [] tt in (
      all.all,
      λ x. (
        λ among. elim (all.only x among) [ inl there ↦ there | inr none ↦ absurd (omega (arith, none.1)) ],
        all.first x,
      ),
      all.sorted_by_name,
    )
