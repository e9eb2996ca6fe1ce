-- How many numbers below a limit pass a test.
use Rattle.std.proofs.Common.{◌≡◌, ℕ, zero, suc, ◌+◌, ◌<◌, ◌≤◌, Bool, true, false, cond, refl, arith, ap, ◌∙◌, inl, inr}
use Rattle.std.proofs.lemmas.Bool.{both_ways, cases_eq}

-- the count
pub count_below : (ℕ → Bool) → ℕ → ℕ
count_below test zero = 0
count_below test (suc n) = count_below test n + cond (test n) 1 0

-- at most all of them pass
pub count_below-le : (test : ℕ → Bool) (n : ℕ) → count_below test n ≤ n
unfolding count_below
count_below-le test zero = omega arith
count_below-le test (suc n) =
    let below : count_below test n ≤ n = count_below-le test n in
    let step : (b : Bool) → count_below test n + cond b 1 0 ≤ suc n = elim [ true ↦ omega arith | false ↦ omega arith ] in
    step (test n)

-- a test that passes only where another does counts no more
cond_less : (a b : Bool) → (b ≡ true → a ≡ true) → cond b 1 0 ≤ cond a 1 0
cond_less true true passed = omega arith
cond_less true false passed = omega arith
cond_less false false passed = omega arith
cond_less false true passed = absurd (both_ways false refl (passed refl))

-- where each number that passes passed before, no more pass
count_below-less : (test other : ℕ → Bool) (n : ℕ) → ((k : ℕ) → other k ≡ true → test k ≡ true)
    → count_below other n ≤ count_below test n
unfolding count_below
count_below-less test other zero before = omega arith
count_below-less test other (suc n) before =
    let less = count_below-less test other n before in
    let step = cond_less (test n) (other n) (before n) in
    omega (arith, less, step)

-- where each number that passes passed before, and one number doesn't any more, fewer pass
pub count_below-fewer : (test other : ℕ → Bool) (j n : ℕ) → j < n → test j ≡ true → other j ≡ false
    → ((k : ℕ) → other k ≡ true → test k ≡ true) → count_below other n + 1 ≤ count_below test n
unfolding count_below
count_below-fewer test other j zero below passes fails before = absurd (omega (arith, below))
count_below-fewer test other j (suc n) below passes fails before = elim (cases_eq n j) [
  | inl here ↦
      let most : count_below other n ≤ count_below test n = count_below-less test other n before in
      rw (ap test here ∙ passes, ap other here ∙ fails) (omega (arith, most))
  | inr apart ↦
      let less : count_below other n + 1 ≤ count_below test n =
      count_below-fewer test other j n (omega arith) passes fails before in
      let step = cond_less (test n) (other n) (before n) in
      omega (arith, less, step)
]
