-- A whole number is the one that its text writes.
use Rattle.std.proofs.Common.{◌≡◌, ◌≢◌, ◌==◌, ◌^◌, ◌<◌, ℕ, suc, Bool, true, false, [], ◌∷◌, ℤ, pos, negsuc, neg_ℤ, Some, cond, codes, FitsSigned, w64, refl, ap, sym, subst, ◌∙◌, arith, ltb-true}
use Rattle.std.proofs.lemmas.Bool.{eqb-true}
use Rattle.std.proofs.lemmas.Fmt.{decimal_is_IsNumeral}
use Rattle.std.specs.Char.{digit_value}
use Rattle.std.specs.Fmt.{decimal, signed_decimal}
use Rattle.std.specs.Str.{bytes_eq}
use Rattle.std.specs.Str.Parse.{IsNumeral, digits_value, signed_digits_value, starts_with_minus, without_leading_sign}
use Rattle.cedar_json.proofs.NameLemmas.{differs}
use Rattle.cedar_json.proofs.NumberLemmas.{true_long, whole_number-parsed}
use Rattle.cedar_json_writer.specs.Words.{Text, is_long, whole_number}

-- a digit is no sign
no_minus : (c : ℕ) (test : Bool) → (c == 45) ≡ test → digit_value c < 10 → test ≡ false
no_minus c true is digit = absurd (omega (arith, subst (λ b. digit_value b < 10) (eqb-true c 45 is) digit))
no_minus c false is digit = refl

no_plus : (c : ℕ) (test : Bool) → (c == 43) ≡ test → digit_value c < 10 → test ≡ false
no_plus c true is digit = absurd (omega (arith, subst (λ b. digit_value b < 10) (eqb-true c 43 is) digit))
no_plus c false is digit = refl

-- digits have no sign before them
record Unsigned (ds : Text) : Type 0 where
  pub no_minus_first : starts_with_minus ds ≡ false
  pub same : without_leading_sign ds ≡ ds
  pub not_zero : bytes_eq ds (codes "-0") ≡ false

unsigned : (ds : Text) → IsNumeral 10 ds → Unsigned ds
unsigned [] is = absurd (omega (arith, is.0))
unsigned (c ∷ cs) is =
    let minus = no_minus c (c == 45) refl is.1.0 in
    let plus = no_plus c (c == 43) refl is.1.0 in
    record {
      no_minus_first = minus;
      same = rw (minus, plus) refl;
      not_zero = rw minus refl;
    }

-- the number that a text writes which is printed of it
pub whole_number-back : (z : ℤ) → is_long z ≡ true → whole_number (signed_decimal z) ≡ Some z
whole_number-back (pos n) e =
    let below : n < 2 ^ 63 = ltb-true n (2 ^ 63) e in
    let printed = decimal_is_IsNumeral n (omega (arith, below)) in
    let plain = unsigned (decimal n) printed.0 in
    let value : pos n ≡ signed_digits_value 10 (decimal n) =
    ap pos (sym printed.1) ∙ ap (λ ds. pos (digits_value 10 ds)) (sym plain.same)
    ∙ ap (λ test. cond test (neg_ℤ (pos (digits_value 10 (without_leading_sign (decimal n))))) (pos (digits_value 10 (without_leading_sign (decimal n))))) (sym plain.no_minus_first) in
    whole_number-parsed {E = ℕ} (decimal n) 0 (Some (pos n)) plain.not_zero
    ((subst (IsNumeral 10) (sym plain.same) printed.0, subst (FitsSigned w64) value (true_long (pos n) e)), value)
whole_number-back (negsuc n) e =
    let below : n < 2 ^ 63 = ltb-true n (2 ^ 63) e in
    let printed = decimal_is_IsNumeral (suc n) (omega (arith, below)) in
    let value : negsuc n ≡ signed_digits_value 10 (45 ∷ decimal (suc n)) = ap (λ m. neg_ℤ (pos m)) (sym printed.1) in
    whole_number-parsed {E = ℕ} (45 ∷ decimal (suc n)) 0 (Some (negsuc n))
    (differs (decimal (suc n)) (48 ∷ []) (bytes_eq (decimal (suc n)) (48 ∷ [])) refl
    (λ same. omega (arith, printed.1, ap (digits_value 10) same)))
    ((printed.0, subst (FitsSigned w64) value (true_long (negsuc n) e)), value)
