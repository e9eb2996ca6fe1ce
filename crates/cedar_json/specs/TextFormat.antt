-- Which fragments texts describe, and what a refusal says of a text.
use Rattle.std.specs.Prelude.{◌≡◌, ◌<◌, ◌≤◌, ◌^◌, ◌-◌, ℕ, length, reverse, true, Some, None, IsSomeAnd, ⊤}
use Rattle.std.specs.Str.{IsUtf8}
use Rattle.std.specs.Str.Lossy.{utf8_valid_len}
use Rattle.cedar_ast.specs.Text.{Text}
use Rattle.cedar_json.specs.DefinitionFormat.{WrittenFragment, fragment_of}
use Rattle.cedar_json.specs.Nesting.{nests_too_deep}
use Rattle.cedar_json.specs.Place.{IsFault, found_at}
use Rattle.cedar_json.specs.Repeats.{IsRepeated}
use Rattle.cedar_json.specs.declared.text_reading.JsonSchemaFault.{JsonSchemaFault}
use Rattle.cedar_json.specs.declared.text_reading.JsonSchemaFault.TheVariants.{TooLong, NotUtf8, NotJson, TwiceInObject, OutOfShape, Memory}
use Rattle.json.specs.Json.{Json, document}
use Rattle.json.specs.Lex.{tokens}
use Rattle.json.specs.Strict.{HasUniqueKeys}

-- from so many bytes on a text is refused
abbrev pub too_long : ℕ
too_long = 2 ^ 32 - 1

-- the text is short enough and is JSON in UTF-8 in which no object has a key twice, and its value
-- describes the fragment
pub record Describes (text : Text) (fragment : WrittenFragment) : Type 0 where
  pub value : Json
  pub is_short : length text < too_long
  pub is_utf8 : IsUtf8 text
  pub is_document : document text ≡ Some value
  pub is_unique : HasUniqueKeys value
  pub is_described : fragment_of value ≡ Some fragment

-- what a refusal says of a text: of one that isn't UTF-8 or isn't JSON, up to where it is; of a
-- place, that its steps lead to a value of which the rest is true
abbrev pub IsFaultOf : Text → JsonSchemaFault → Type 0
IsFaultOf text TooLong = too_long ≤ length text
IsFaultOf text (NotUtf8 valid_up_to) = (¬ IsUtf8 text) × (valid_up_to ≡ utf8_valid_len text)
IsFaultOf text (NotJson up_to too_deep) =
    (document text ≡ None) × (up_to ≤ length text)
    × (too_deep ≡ true → nests_too_deep 0 (tokens text) ≡ true)
IsFaultOf text (TwiceInObject at index) =
    IsSomeAnd (document text) (λ j.
    (¬ HasUniqueKeys j) × IsSomeAnd (found_at (reverse at.steps.items) j) (IsRepeated index))
IsFaultOf text (OutOfShape at fault) =
    IsSomeAnd (document text) (λ j.
    (fragment_of j ≡ None) × IsSomeAnd (found_at (reverse at.steps.items) j) (IsFault fault))
IsFaultOf text Memory = ⊤
