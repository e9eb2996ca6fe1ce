use Rattle.std.specs.Borrow.{Bor}
use Rattle.std.specs.List.{list_any}
use Rattle.std.specs.Prelude.{◌≡◌, ◌⊎◌, Bool, List, [], ◌∷◌, codes, IsTrue}
use Rattle.std.specs.Str.{bytes_eq}
use Rattle.cedar_ast.specs.Text.{Text}

-- a text is one of some names
abbrev pub is_among : Text → List Text → Bool
is_among text names = list_any (bytes_eq text) names

-- the name of a row of a table of what has a name
abbrev pub row_name : {T : Type 0} → Bor Text × T → Text
row_name row = row.0.now

-- the names of the built-in cases
abbrev pub case_names : List Text
case_names =
    codes "alias" ∷ codes "both" ∷ codes "cycle" ∷ codes "empty" ∷ codes "linked" ∷ codes "photos"
    ∷ codes "ring"
    ∷ codes "shadow" ∷ codes "shapes" ∷ codes "split" ∷ codes "tint" ∷ []

-- the names of the modes
abbrev pub mode_names : List Text
mode_names = codes "strict" ∷ codes "permissive" ∷ []

-- the names of the types that are separated
abbrev pub stated_names : List Text
stated_names =
    codes "true" ∷ codes "false" ∷ codes "bool" ∷ codes "long" ∷ codes "string" ∷ codes "any-set"
    ∷ codes "set-bool" ∷ codes "set-long" ∷ codes "any-entity" ∷ codes "foo" ∷ codes "bar"
    ∷ codes "any-record"
    ∷ codes "unit" ∷ codes "r1" ∷ codes "r2" ∷ codes "r3" ∷ []

-- the names of the types that are joined: these, and one of no value and one with an optional
-- attribute
abbrev pub type_names : List Text
type_names = codes "never" ∷ codes "opt" ∷ stated_names

-- the words ask for the join of two types in a mode
pub record IsJoin (words : List Text) : Type 0 where
  pub mode : Text
  pub first : Text
  pub second : Text
  pub is_mode : IsTrue (is_among mode mode_names)
  pub is_first : IsTrue (is_among first type_names)
  pub is_second : IsTrue (is_among second type_names)
  pub asked : words ≡ codes "join" ∷ mode ∷ first ∷ second ∷ []

-- the words ask for a case to be shown
pub record IsShow (words : List Text) : Type 0 where
  pub case : Text
  pub is_case : IsTrue (is_among case case_names)
  pub asked : words ≡ codes "show" ∷ case ∷ []

-- the words ask whether a value separates two types
pub record IsSeparate (words : List Text) : Type 0 where
  pub first : Text
  pub second : Text
  pub is_first : IsTrue (is_among first stated_names)
  pub is_second : IsTrue (is_among second stated_names)
  pub asked : words ≡ codes "separate" ∷ first ∷ second ∷ []

-- the words give a command: `list`, `show` with the name of a case, `join` with a mode and two
-- types, or `separate` with two types
abbrev pub IsCommand : List Text → Type 0
IsCommand words = (words ≡ codes "list" ∷ []) ⊎ (IsShow words ⊎ (IsJoin words ⊎ IsSeparate words))
