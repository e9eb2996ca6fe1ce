use Rattle.std.specs.Prelude.{ℤ, Bool, if◌then◌else◌, List, [], ◌∷◌, ◌⊎◌, Option, Some, None}
use Rattle.std.specs.Str.{bytes_eq}
use Rattle.cedar_ast.specs.PlainName.{PlainName}
use Rattle.cedar_ast.specs.PlainUid.{PlainUid}
use Rattle.cedar_ast.specs.Text.{Text}

mutual
  -- a value as plain data: a truth value, a whole number, a text, a uid, a set, a map by text, or a
  -- call of a function
  pub data Tree : Type 0 where
    truth_value : Bool → Tree
    number_value : ℤ → Tree
    text_value : Text → Tree
    uid_value : PlainUid → Tree
    set_value : Trees → Tree
    map_value : Entries → Tree
    call_value : PlainName → Trees → Tree

  -- some values in a row
  pub data Trees : Type 0 where
    no_tree : Trees
    tree : Tree → Trees → Trees

  -- values by text
  pub data Entries : Type 0 where
    no_entry : Entries
    entry : Text → Tree → Entries → Entries

-- the values of a list
abbrev pub trees_from : List Tree → Trees
trees_from [] = no_tree
trees_from (first ∷ rest) = tree first (trees_from rest)

-- the values that some pairs of a text and a value give
abbrev pub entries_from : List (Text × Tree) → Entries
entries_from [] = no_entry
entries_from (first ∷ rest) = entry first.0 first.1 (entries_from rest)

-- the value at a text
abbrev pub entry_at : Text → Entries → Option Tree
entry_at name no_entry = None
entry_at name (entry other value rest) =
    if bytes_eq name other then Some value else entry_at name rest

-- the texts at which there is a value
abbrev pub entry_names : Entries → List Text
entry_names no_entry = []
entry_names (entry name value rest) = name ∷ entry_names rest

-- a fact holds of each value
abbrev pub EachTree : (Tree → Type 0) → Trees → Type 0
EachTree P no_tree = Unit {0}
EachTree P (tree first rest) = P first × EachTree P rest

-- a fact holds of some value
abbrev pub SomeTree : (Tree → Type 0) → Trees → Type 0
SomeTree P no_tree = ⊥
SomeTree P (tree first rest) = P first ⊎ SomeTree P rest
