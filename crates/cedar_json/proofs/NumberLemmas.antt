-- Whole numbers as they are parsed.
use Rattle.std.proofs.Common.{◌≡◌, ◌^◌, Bool, true, false, ◌&&◌, [], ◌∷◌, ℤ, pos, negsuc, Option, Some, None, cond, codes, length, nat_lt, FitsSigned, w64, ok_or, refl, ap, sym, ◌∙◌, lt-ltb, ltb-true}
use Rattle.std.specs.Char.{digit_value}
use Rattle.std.specs.List.{list_all}
use Rattle.std.specs.Str.{bytes_eq}
use Rattle.std.specs.Str.Parse.{AllDigits, IsNumeral, ParsesSigned, signed_digits_value, without_leading_sign}
use Rattle.cedar_ast.proofs.NameReading.{both_true}
use Rattle.cedar_json.specs.Words.{Text, are_digits, is_digit, is_long, whole_number}

pub both : (a b : Bool) → a ≡ true → b ≡ true → (a && b) ≡ true
both a b first second = ap (λ t. t && b) first ∙ second

digits_true : (text : Text) → AllDigits 10 text → list_all is_digit text ≡ true
digits_true [] all = refl
digits_true (byte ∷ text) all =
    both (is_digit byte) (list_all is_digit text) (lt-ltb (digit_value byte) 10 all.0) (digits_true text all.1)

true_digits : (text : Text) → list_all is_digit text ≡ true → AllDigits 10 text
true_digits [] e = tt
true_digits (byte ∷ text) e =
    let halves = both_true (is_digit byte) (list_all is_digit text) e in
    (ltb-true (digit_value byte) 10 halves.0, true_digits text halves.1)

pub long_true : (number : ℤ) → FitsSigned w64 number → is_long number ≡ true
long_true (pos n) fits = lt-ltb n (2 ^ 63) fits.sfits
long_true (negsuc n) fits = lt-ltb n (2 ^ 63) fits.sfits

pub true_long : (number : ℤ) → is_long number ≡ true → FitsSigned w64 number
true_long (pos n) e = record { sfits = ltb-true n (2 ^ 63) e }
true_long (negsuc n) e = record { sfits = ltb-true n (2 ^ 63) e }

-- the text is a whole number of 64 bits, but that it may be `-0`
abbrev IsWhole : Text → Type 0
IsWhole text = IsNumeral 10 (without_leading_sign text) × FitsSigned w64 (signed_digits_value 10 text)

abbrev is_whole : Text → Bool
is_whole text = are_digits (without_leading_sign text) && is_long (signed_digits_value 10 text)

whole_true : (text : Text) → IsWhole text → is_whole text ≡ true
whole_true text (numeral, fits) =
    let ds = without_leading_sign text in
    both (are_digits ds) (is_long (signed_digits_value 10 text))
    (both (nat_lt 0 (length ds)) (list_all is_digit ds) (lt-ltb 0 (length ds) numeral.0) (digits_true ds numeral.1))
    (long_true (signed_digits_value 10 text) fits)

true_whole : (text : Text) → is_whole text ≡ true → IsWhole text
true_whole text e =
    let ds = without_leading_sign text in
    let halves = both_true (are_digits ds) (is_long (signed_digits_value 10 text)) e in
    let numeral = both_true (nat_lt 0 (length ds)) (list_all is_digit ds) halves.0 in
    ((ltb-true 0 (length ds) numeral.0, true_digits ds numeral.1), true_long (signed_digits_value 10 text) halves.1)

-- a text that writes `-0` is no whole number
pub whole_number-minus_zero : (text : Text) → bytes_eq text (codes "-0") ≡ true → whole_number text ≡ None
whole_number-minus_zero text e = ap (λ t. cond t None (cond (is_whole text) (Some (signed_digits_value 10 text)) None)) e

by_test : (text : Text) → bytes_eq text (codes "-0") ≡ false → whole_number text ≡ cond (is_whole text) (Some (signed_digits_value 10 text)) None
by_test text e = ap (λ t. cond t None (cond (is_whole text) (Some (signed_digits_value 10 text)) None)) e

none_by : (text : Text) (test : Bool) (number : ℤ) → is_whole text ≡ test → ¬ IsWhole text → cond test (Some number) None ≡ None
none_by text true number e none = absurd (none (true_whole text e))
none_by text false number e none = refl

-- any other is the number that is parsed, if one is
pub whole_number-parsed : {E : Type 0} (text : Text) (error : E) (parsed : Option ℤ) → bytes_eq text (codes "-0") ≡ false
    → ParsesSigned w64 10 text (ok_or parsed error) → whole_number text ≡ parsed
whole_number-parsed text error (Some number) other (is, e) =
    by_test text other ∙ ap (λ t. cond t (Some (signed_digits_value 10 text)) None) (whole_true text is) ∙ ap Some (sym e)
whole_number-parsed text error None other none = by_test text other ∙ none_by text (is_whole text) (signed_digits_value 10 text) refl none
