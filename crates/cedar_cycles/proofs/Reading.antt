-- Reading lists at places.
use Rattle.std.proofs.Common.{◌≡◌, ◌⊎◌, ◌++◌, ◌+◌, ◌-◌, ◌<◌, ◌≤◌, ℕ, zero, suc, List, [], ◌∷◌, Contains, length, get_or, take, drop, arith, ap, inl, inr, refl, sym, ◌∙◌, subst}
use Rattle.std.proofs.Math.ListN.{get_or-append}
use Rattle.std.proofs.Math.Seq.{get_or-append_seam}
use Rattle.std.proofs.lemmas.List.{get_or-append-add, get_or-drop, length-append, length-drop, take_all, take_more, take-append-drop}
use Rattle.std.proofs.lemmas.List.Elements.{Contains-append_cases, Contains-append_left}
use Rattle.cedar_ast.proofs.Basics.{Contains-single}
use Rattle.cedar_cycles.specs.Search.{AreInOrder, IsBefore, StandsFrom}
use Rattle.cedar_cycles.specs.declared.search.Group.{Group}

-- within a list what is read doesn't depend on the default
pub any_default : {A : Type 0} (xs : List A) (i : ℕ) (a b : A) → i < length xs → get_or xs i a ≡ get_or xs i b
any_default [] i a b within = absurd (omega (arith, within))
any_default (x ∷ xs) zero a b within = refl
any_default (x ∷ xs) (suc i) a b within = any_default xs i a b (omega (arith, within))

-- what a list has stands in it from the front
pub stands_in : (xs : List ℕ) (x : ℕ) → Contains xs x → StandsFrom xs 0 x
stands_in xs x among = (among.0, omega arith, among.1, any_default xs among.0 0 x among.1 ∙ among.2)

-- what stands in a list it has
pub has_standing : (xs : List ℕ) (start x : ℕ) → StandsFrom xs start x → Contains xs x
has_standing xs start x stands = (stands.0, stands.2, any_default xs stands.0 x 0 stands.2 ∙ stands.3)

-- what is read of a list with one more item at its end
pub snoc_read : (xs : List ℕ) (x i : ℕ) → i < length (xs ++ x ∷ [])
    → ((i < length xs) × (get_or (xs ++ x ∷ []) i 0 ≡ get_or xs i 0)) ⊎ ((i ≡ length xs) × (get_or (xs ++ x ∷ []) i 0 ≡ x))
snoc_read xs x i within =
    let long : length (xs ++ x ∷ []) ≡ length xs + 1 = length-append xs (x ∷ []) in
    elim (before_or_at i (length xs) (omega (arith, within, long))) [
      | inl before ↦ inl (before, get_or-append xs (x ∷ []) 0 i before)
      | inr at ↦ inr (at, ap (λ k. get_or (xs ++ x ∷ []) k 0) at ∙ get_or-append_seam xs x [] 0)
    ]
  where
    before_or_at : (i n : ℕ) → i < n + 1 → (i < n) ⊎ (i ≡ n)
    before_or_at zero zero within = inr refl
    before_or_at zero (suc n) within = inl (omega arith)
    before_or_at (suc i) zero within = absurd (omega (arith, within))
    before_or_at (suc i) (suc n) within =
        elim (before_or_at i n (omega (arith, within))) [ inl before ↦ inl (omega (arith, before)) | inr at ↦ inr (ap suc at) ]

-- what stands in a list stands in one that goes on
pub stands_still : (xs ys : List ℕ) (start x : ℕ) → StandsFrom xs start x → StandsFrom (xs ++ ys) start x
stands_still xs ys start x stands =
    let long : length (xs ++ ys) ≡ length xs + length ys = length-append xs ys in
    (stands.0, stands.1, omega (arith, stands.2, long), get_or-append xs ys 0 stands.0 stands.2 ∙ stands.3)

-- what a list has that goes on another stands after it
pub stands_after : (xs ys : List ℕ) (start x : ℕ) → start ≤ length xs → Contains ys x → StandsFrom (xs ++ ys) start x
stands_after xs ys start x le among =
    let long : length (xs ++ ys) ≡ length xs + length ys = length-append xs ys in
    let there = stands_in ys x among in
    (length xs + there.0, omega (arith, le), omega (arith, there.2, long), get_or-append-add xs ys there.0 0 ∙ there.3)

-- a number is below another or isn't
pub below_or_not : (i n : ℕ) → (i < n) ⊎ (n ≤ i)
below_or_not zero zero = inr (omega arith)
below_or_not zero (suc n) = inl (omega arith)
below_or_not (suc i) zero = inr (omega arith)
below_or_not (suc i) (suc n) = elim (below_or_not i n) [ inl below ↦ inl (omega (arith, below)) | inr not ↦ inr (omega (arith, not)) ]

-- a list with one more item has what it had, and that
pub snoc_member : {A : Type 0} (xs : List A) (x y : A) → Contains (xs ++ x ∷ []) y → Contains xs y ⊎ (x ≡ y)
snoc_member xs x y among =
    elim (Contains-append_cases xs (x ∷ []) y among) [ inl there ↦ inl there | inr last ↦ inr (Contains-single x y last) ]

-- groups in order, with one more that each begins before
pub order_snoc : (groups : List Group) (group : Group) → AreInOrder groups
    → ((other : Group) → Contains groups other → IsBefore other group)
    → AreInOrder (groups ++ group ∷ [])
order_snoc [] group in_order before = (λ other none. absurd (omega (arith, none.1)), tt)
order_snoc (first ∷ groups) group in_order before = (
  λ other among. elim (snoc_member groups group other among) [
    | inl there ↦ in_order.0 other there
    | inr last ↦ subst (IsBefore first) last (before first (0, omega arith, refl))
  ],
  order_snoc groups group in_order.1 (λ other among. before other (suc among.0, omega (arith, among.1), among.2)),
)

-- the first of groups in order are
pub order_front : (groups rest : List Group) → AreInOrder (groups ++ rest) → AreInOrder groups
order_front [] rest in_order = tt
order_front (first ∷ groups) rest in_order =
    (λ other among. in_order.0 other (Contains-append_left groups rest other among), order_front groups rest in_order.1)

-- each of the first begins before the last
pub order_last : (groups : List Group) (group other : Group) → AreInOrder (groups ++ group ∷ []) → Contains groups other → IsBefore other group
order_last [] group other in_order none = absurd (omega (arith, none.1))
order_last (first ∷ groups) group other in_order (zero, within, is) =
    let last : Contains (groups ++ group ∷ []) group =
    (length groups, omega (arith, length-append groups (group ∷ [])), get_or-append_seam groups group [] group) in
    let Before : Group → Type 0 = λ each. IsBefore each group in
    subst Before is (in_order.0 group last)
order_last (first ∷ groups) group other in_order (suc i, within, is) =
    order_last groups group other in_order.1 (i, omega (arith, within), is)

-- where the last of the first groups begins by a place, each of them does
pub first_by : (groups : List Group) (kept place : ℕ) (last : Group) → AreInOrder groups → kept + 1 ≤ length groups
    → last ≡ get_or groups kept last → last.path ≤ place → (group : Group) → Contains (take (kept + 1) groups) group → group.path ≤ place
first_by groups kept place last in_order within is le group among =
    let some : take (kept + 1) groups ≡ take kept groups ++ last ∷ [] =
    take_more groups kept last (omega (arith, within)) ∙ ap (λ each. take kept groups ++ each ∷ []) (sym is) in
    let whole : AreInOrder (take (kept + 1) groups) =
    order_front (take (kept + 1) groups) (drop (kept + 1) groups) (subst AreInOrder (sym (take-append-drop (kept + 1) groups)) in_order) in
    elim (snoc_member (take kept groups) last group (subst (λ each. Contains each group) some among)) [
      | inl before ↦ let less = order_last (take kept groups) last group (subst AreInOrder some whole) before in omega (arith, less.0, le)
      | inr same ↦ subst (λ (each : Group). each.path ≤ place) same le
    ]

-- what the groups after some have stands at a later place
pub later_at : (groups : List Group) (kept : ℕ) (group : Group) → kept ≤ length groups → Contains (drop kept groups) group
    → (k : ℕ) × (kept ≤ k) × (k < length groups) × (get_or groups k group ≡ group)
later_at groups kept group le among =
    let long : length (drop kept groups) + kept ≡ length groups = omega (arith, length-drop kept groups, le) in
    (kept + among.0, omega arith, omega (arith, among.1, long), sym (get_or-drop kept groups among.0 group) ∙ among.2)

-- what is pending of each group begins by where that of the last does
pub pending_by_last : (groups : List Group) (others : List Group) (last group : Group) → AreInOrder groups → groups ≡ others ++ last ∷ []
    → Contains groups group → group.pending ≤ last.pending
pending_by_last groups others last group in_order is among =
    elim (snoc_member others last group (subst (λ each. Contains each group) is among)) [
      | inl before ↦ let less = order_last others last group (subst AreInOrder is in_order) before in omega (arith, less.1)
      | inr same ↦ subst (λ (each : Group). each.pending ≤ last.pending) same (omega arith)
    ]

-- the last of groups stands after the others
pub last_stands : (groups : List Group) (last : Group) → 0 < length groups → last ≡ get_or groups (length groups - 1) last
    → groups ≡ take (length groups - 1) groups ++ last ∷ []
last_stands groups last some is =
    let count = length groups - 1 in
    let all : count + 1 ≡ length groups = omega (arith, some) in
    sym (take_all (count + 1) groups (omega (arith, all)))
    ∙ (take_more groups count last (omega (arith, all)) ∙ ap (λ each. take count groups ++ each ∷ []) (sym is))
