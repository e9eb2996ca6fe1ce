-- Whole numbers as texts of JSON numbers write them.
use Rattle.std.specs.Char.{digit_value}
use Rattle.std.specs.List.{list_all}
use Rattle.std.specs.Prelude.{ℕ, ℤ, pos, negsuc, ◌^◌, Bool, ◌&&◌, Option, Some, None, cond, codes, length, nat_lt}
use Rattle.std.specs.Str.{bytes_eq}
use Rattle.std.specs.Str.Parse.{signed_digits_value, without_leading_sign}
use Rattle.cedar_ast.specs.Text.{Text}

-- the byte is a decimal digit
abbrev pub is_digit : ℕ → Bool
is_digit byte = nat_lt (digit_value byte) 10

-- the text is one decimal digit or more
abbrev pub are_digits : Text → Bool
are_digits text = nat_lt 0 (length text) && list_all is_digit text

-- the number has 64 bits: it is below 2^63 and not below -2^63
abbrev pub is_long : ℤ → Bool
is_long (pos number) = nat_lt number (2 ^ 63)
is_long (negsuc number) = nat_lt number (2 ^ 63)

-- the whole number of 64 bits that the text of a JSON number writes: digits, with a minus before
-- them or not; `-0` writes none
abbrev pub whole_number : Text → Option ℤ
whole_number text =
    cond (bytes_eq text (codes "-0")) None
    (cond (are_digits (without_leading_sign text) && is_long (signed_digits_value 10 text))
    (Some (signed_digits_value 10 text)) None)
