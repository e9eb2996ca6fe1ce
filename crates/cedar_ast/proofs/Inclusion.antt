-- Lists whose members are members of others.
use Rattle.std.proofs.Common.{◌↔◌, ◌⊎◌, inl, inr, Bool, true, false, refl, List, [], ◌∷◌, Option, Some, if◌then◌else◌, Contains, arith}
use Rattle.std.specs.Bool.{Decides}
use Rattle.std.specs.Option.{is_some}
use Rattle.cedar_ast.proofs.Lists.{Contains-cons, Contains-cons_cases}
use Rattle.cedar_ast.specs.Lists.{Included}

-- no list has a member that the empty list has
pub Included-none : {A : Type 0} (upper : List A) → Included [] upper
Included-none upper x among = absurd (omega (arith, among.1))

-- a list whose first member is among others is included where the rest is
pub Included-cons : {A : Type 0} (x : A) (lower upper : List A) → Contains upper x → Included lower upper → Included (x ∷ lower) upper
Included-cons x lower upper first rest y among =
    let P = Contains upper in
    elim (Contains-cons_cases x lower y among) [ inl same ↦ rw same at first | inr there ↦ rest y there ]

-- the first member of an included list is a member
pub Included-head : {A : Type 0} (x : A) (lower upper : List A) → Included (x ∷ lower) upper → Contains upper x
Included-head x lower upper all = all x (Contains-cons x lower x (inl refl))

-- what has a member isn't included in nothing
pub Included-in_none : {A : Type 0} (x : A) (lower : List A) → ¬ Included (x ∷ lower) []
Included-in_none x lower all = absurd (omega (arith, (Included-head x lower [] all).1))

-- the rest of an included list is included
pub Included-tail : {A : Type 0} (x : A) (lower upper : List A) → Included (x ∷ lower) upper → Included lower upper
Included-tail x lower upper all y among = all y (Contains-cons x lower y (inr among))

-- the rest is included where the whole is, if the first is a member
pub Included-step : {A : Type 0} {W : Type 0} (x : A) (lower upper : List A) → Included (x ∷ lower) upper ↔ W
    → Contains upper x → Included lower upper ↔ W
Included-step x lower upper so_far first =
    (λ rest. so_far.0 (Included-cons x lower upper first rest), λ whole. Included-tail x lower upper (so_far.1 whole))

-- whether a choice is made decides whether there is a value
pub chosen : {A : Type 0} (b : Bool) (x : A) (m : Option A) (P Q : Type 0) → Decides b P → Decides (is_some m) Q
    → Decides (is_some (if b then Some x else m)) (P ⊎ Q)
chosen true x m P Q h k = (λ _. inl (h.0 refl), λ _. refl)
chosen false x m P Q h k = (λ e. inr (k.0 e), λ either. elim either [ inl p ↦ absurd cc (h.1 p) | inr right ↦ k.1 right ])

-- one more part holds, so that what is left is as much
pub rest_alone : {H R W : Type 0} → (H × R) ↔ W → H → R ↔ W
rest_alone so_far first = (λ rest. so_far.0 (first, rest), λ whole. (so_far.1 whole).1)

-- a part doesn't hold, so that the whole doesn't
pub part_fails : {H R W : Type 0} → (H × R) ↔ W → ¬ H → Decides false W
part_fails so_far fails = (λ e. absurd cc, λ whole. absurd (fails (so_far.1 whole).0))
