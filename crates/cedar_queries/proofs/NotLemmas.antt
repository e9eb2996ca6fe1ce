-- Answers that are inverted.
use Rattle.std.proofs.Common.{◌≡◌, Bool, true, false, IsTrue, not, refl}
use Rattle.std.proofs.lemmas.Bool.{false≢true}

-- what is inverted to true isn't true
pub not_true : (b : Bool) → IsTrue (not b) → ¬ (b ≡ true)
not_true true inverted is = false≢true inverted
not_true false inverted is = false≢true is

-- what isn't true is inverted to true
pub not_false : (b : Bool) → ¬ (b ≡ true) → IsTrue (not b)
not_false true isn't = absurd (isn't refl)
not_false false isn't = refl
