-- Places in a JSON value, and what a refusal says of one.
use Rattle.std.specs.Prelude.{◌≡◌, ℕ, false, List, [], ◌∷◌, Option, Some, None, option_and_then, reverse, IsSomeAnd, ⊤}
use Rattle.cedar_ast.specs.Words.{IsIdentifier, IsNameText, IsReservedNameText, Text, reserved_word}
use Rattle.cedar_json.specs.Fields.{is_among, is_text_or_null, known_fields, nth_member}
use Rattle.cedar_json.specs.WholeNumber.{whole_number}
use Rattle.cedar_json.specs.declared.fault.Expected.{Expected}
use Rattle.cedar_json.specs.declared.fault.Expected.TheVariants as wanted
use Rattle.cedar_json.specs.declared.fault.Fault.{Fault}
use Rattle.cedar_json.specs.declared.fault.Fault.TheVariants.{At, Memory}
use Rattle.cedar_json.specs.declared.fault.FaultKind.{FaultKind}
use Rattle.cedar_json.specs.declared.fault.FaultKind.TheVariants.{Missing, UnknownField, Wants, NoName, NoId, ReservedId, KeyIsNoId, NoChoices, ReservedName, NoLong, KeyIsReserved, KeyIsTypeWord, KeyIsNoName, KeyIsReservedName}
use Rattle.cedar_json.specs.declared.fault.Step.{Step}
use Rattle.cedar_json.specs.declared.fault.Step.TheVariants.{Field, Member, Item}
use Rattle.cedar_schema_ast.specs.ReservedTypeWord.{IsReservedTypeWord}
use Rattle.json.specs.Find.{get, at, as_str, as_number, as_bool, as_array, as_object}
use Rattle.json.specs.Json.{Json, null, no_items}

-- the member at an index of a value
abbrev pub member_at : ℕ → Json → Option (Text × Json)
member_at n j = option_and_then (nth_member n) (as_object j)

-- where a step leads from a value
abbrev pub step_into : Step → Json → Option Json
step_into (Field name) j = get name.now j
step_into (Member index) j = option_and_then (λ m. Some m.1) (member_at index j)
step_into (Item index) j = at index j

-- what steps lead to, the first of them first
abbrev pub found_at : List Step → Json → Option Json
found_at [] j = Some j
found_at (step ∷ steps) j = option_and_then (found_at steps) (step_into step j)

-- the value isn't of the kind
abbrev pub IsNot : Expected → Json → Type 0
IsNot wanted.Text j = as_str j ≡ None
IsNot wanted.Object j = as_object j ≡ None
IsNot wanted.Array j = as_array j ≡ None
IsNot wanted.Flag j = as_bool j ≡ None
IsNot wanted.TextOrNull j = is_text_or_null j ≡ false
IsNot wanted.NoNull j = j ≡ null

-- what is wrong with a value
abbrev pub IsFault : FaultKind → Json → Type 0
IsFault (Missing name) j = get name.now j ≡ None
IsFault (UnknownField row index) j =
    IsSomeAnd (member_at index j) (λ m. is_among m.0 (known_fields row j) ≡ false)
IsFault (Wants kind) j = IsNot kind j
IsFault NoName j = IsSomeAnd (as_str j) (λ text. ¬ IsNameText text)
IsFault NoId j = IsSomeAnd (as_str j) (λ text. ¬ IsIdentifier text)
IsFault ReservedId j = as_str j ≡ Some reserved_word
IsFault (KeyIsNoId index) j = IsSomeAnd (member_at index j) (λ m. ¬ IsIdentifier m.0)
IsFault NoChoices j = as_array j ≡ Some no_items
IsFault ReservedName j = IsSomeAnd (as_str j) IsReservedNameText
IsFault NoLong j = IsSomeAnd (as_number j) (λ text. whole_number text ≡ None)
IsFault (KeyIsReserved index) j = IsSomeAnd (member_at index j) (λ m. m.0 ≡ reserved_word)
IsFault (KeyIsTypeWord index) j = IsSomeAnd (member_at index j) (λ m. IsReservedTypeWord m.0)
IsFault (KeyIsNoName index) j = IsSomeAnd (member_at index j) (λ m. ¬ IsNameText m.0)
IsFault (KeyIsReservedName index) j = IsSomeAnd (member_at index j) (λ m. IsReservedNameText m.0)

-- the steps, the last of them first, lead to a value, and the fault is one of that value
unfoldable pub IsFaultAt : List Step → FaultKind → Json → Type 0
IsFaultAt steps kind j = IsSomeAnd (found_at (reverse steps) j) (IsFault kind)

-- the steps of a refusal lead to a value of which the fault is one
abbrev pub IsTrueOf : Fault → Json → Type 0
IsTrueOf (At steps kind) j = IsFaultAt steps.items kind j
IsTrueOf Memory j = ⊤
