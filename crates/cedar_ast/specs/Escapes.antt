use Rattle.std.specs.Char.{is_control}
use Rattle.std.specs.Int.{is_in_range}
use Rattle.std.specs.Option.{option_and_then}
use Rattle.std.specs.Prelude.{ℕ, Bool, Option, None, Some, ◌+◌, ◌-◌, ◌*◌, ◌==◌, ◌&&◌, ◌||◌, nat_lt, not, cond}
use Rattle.cedar_ast.specs.declared.escape.Escape.{Escape}
use Rattle.cedar_ast.specs.declared.escape.Escape.TheVariants.{Whole, Backslash, Unicode, Open, Code, Closed}

-- a control character that is printed by its number
abbrev pub is_coded : ℕ → Bool
is_coded c = is_control c && not (c == 0 || (c == 9 || (c == 10 || c == 13)))

-- a digit with which the number of a coded character may begin
abbrev pub begins_code : ℕ → Bool
begins_code digit = not (digit == 0 || (digit == 10 || digit == 13))

-- the value of a digit in hexadecimal, in lower case
abbrev pub code_digit : ℕ → Option ℕ
code_digit c = cond (is_in_range 48 57 c) (Some (c - 48))
    (cond (is_in_range 97 102 c) (Some (c - 87)) None)

-- a first digit of a number
abbrev pub first_digit : ℕ → Option Escape
first_digit digit = cond (begins_code digit) (Some (Code digit)) None

-- a second digit after a first
abbrev pub second_digit : ℕ → ℕ → Option Escape
second_digit code digit = cond (nat_lt code 16 && is_control (code * 16 + digit))
    (Some (Code (code * 16 + digit))) None

-- the character that a letter stands for behind a backslash, or the `u` of a number
abbrev pub after_backslash : ℕ → Option Escape
after_backslash c =
    cond (c == 48) (Some (Whole (Some 0)))
    (cond (c == 116) (Some (Whole (Some 9)))
    (cond (c == 110) (Some (Whole (Some 10)))
    (cond (c == 114) (Some (Whole (Some 13)))
    (cond (c == 34) (Some (Whole (Some 34)))
    (cond (c == 92) (Some (Whole (Some 92)))
    (cond (c == 117) (Some Unicode) None))))))

-- what is read of a quoted id with one character more
abbrev pub escape_then : Escape → ℕ → Option Escape
escape_then (Whole last) c =
    cond (c == 92) (Some Backslash)
    (cond (c == 34) (Some Closed) (cond (is_control c) None (Some (Whole (Some c)))))
escape_then Backslash c = after_backslash c
escape_then Unicode c = cond (c == 123) (Some Open) None
escape_then Open c = option_and_then first_digit (code_digit c)
escape_then (Code code) c =
    cond (c == 125) (cond (is_coded code) (Some (Whole (Some code))) None)
    (option_and_then (second_digit code) (code_digit c))
escape_then Closed c = None

-- the character that is read last, where nothing is begun behind it
abbrev pub last_whole : Escape → Option ℕ
last_whole (Whole last) = last
last_whole _ = None
