-- What the items of arrays describe, and fields that may be absent.
use Rattle.std.specs.Prelude.{List, [], ◌∷◌, Option, Some, None, option_map, option_and_then}
use Rattle.json.specs.Json.{Json, Items, no_items, item}

-- what each of some items describes, in order
abbrev pub all_of : {A : Type 0} → (Json → Option A) → Items → Option (List A)
all_of describes no_items = Some []
all_of describes (item j rest) =
    option_and_then (λ it. option_map (λ others. it ∷ others) (all_of describes rest)) (describes j)

-- what a field describes, where its absence means `absent`
abbrev pub field_or : {A : Type 0} → A → (Json → Option A) → Option Json → Option A
field_or absent describes None = Some absent
field_or absent describes (Some j) = describes j
