-- Characters that would control a terminal.
use Rattle.std.specs.Char.{is_control}
use Rattle.std.specs.Prelude.{Bool, ℕ, ◌||◌, ◌&&◌, nat_le}

-- a control character, or one that turns the direction of the text around it
abbrev pub is_hidden : ℕ → Bool
is_hidden c =
    is_control c
    || ((nat_le 0x202a c && nat_le c 0x202e) || (nat_le 0x2066 c && nat_le c 0x2069))
