-- Copies as what they stand for: those of the items of lists, and those of the keys of maps.
use Rattle.std.proofs.Common.{◌≡◌, ◌↔◌, IfOk, List, [], ◌∷◌, Result, map, ap, refl, sym, ◌∙◌}
use Rattle.std.proofs.lemmas.Result.{IfOk-weaker}
use Rattle.std.specs.declared.cmp.Ordering.{Ordering}
use Rattle.std.specs.declared.cmp.Ordering.TheVariants.{Equal}
use Rattle.cedar_ast.specs.Words.{HoldsPairwise, Memory}

-- lists stand for the same where each item stands for the same as that of the other in turn
pub same_shown : {A P : Type 0} (R : A → A → Type 0) (shown : A → P) → ((x y : A) → R x y → shown y ≡ shown x) → (xs ys : List A)
    → HoldsPairwise R xs ys → map shown ys ≡ map shown xs
same_shown R shown same [] [] turn = refl
same_shown R shown same (x ∷ xs) (y ∷ ys) turn = λ i. same x y turn.0 i ∷ same_shown R shown same xs ys turn.1 i
same_shown _ _ _ _ _ turn = absurd turn

-- a copy that stands for the same as a key ties with it, where keys tie exactly as what they stand
-- for is the same
pub copy_ties : {K P : Type 0} (R : K → K → Ordering) (shown : K → P) → ((a b : K) → (R a b ≡ Equal) ↔ (shown a ≡ shown b)) → (key given : K)
    (answer : Result K Memory) → given ≡ key → IfOk answer (λ copy. shown copy ≡ shown given) → IfOk answer (λ copy. R key copy ≡ Equal)
copy_ties R shown ties key given answer is =
    IfOk-weaker answer (λ copy. shown copy ≡ shown given) (λ copy. R key copy ≡ Equal)
    (λ copy same. (ties key copy).1 (sym (same ∙ ap shown is)))
