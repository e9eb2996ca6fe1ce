-- Keys that come twice in an object.
use Rattle.std.specs.Prelude.{◌≡◌, ℕ, ◌<◌, reverse, IsSomeAnd, ⊤}
use Rattle.cedar_json.specs.Place.{found_at, member_at}
use Rattle.cedar_json.specs.declared.repeated_keys.Repeat.{Repeat}
use Rattle.cedar_json.specs.declared.repeated_keys.Repeat.TheVariants.{At, Memory}
use Rattle.json.specs.Json.{Json}

-- the key of the member at an index is that of an earlier member too
abbrev pub IsRepeated : ℕ → Json → Type 0
IsRepeated index j = IsSomeAnd (member_at index j) (λ m.
    (earlier : ℕ) × (earlier < index) × IsSomeAnd (member_at earlier j) (λ other. other.0 ≡ m.0))

-- the steps of a repeat lead to an object in which a key comes twice
abbrev pub IsRepeatIn : Repeat → Json → Type 0
IsRepeatIn (At steps index) j = IsSomeAnd (found_at (reverse steps.items) j) (IsRepeated index)
IsRepeatIn Memory j = ⊤
