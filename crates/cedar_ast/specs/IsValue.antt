use Rattle.std.specs.Int.{w64}
use Rattle.std.specs.List.{All}
use Rattle.std.specs.Prelude.{FitsSigned, Contains}
use Rattle.std.specs.Str.{IsUtf8}
use Rattle.cedar_ast.specs.Identifier.{IsIdentifier}
use Rattle.cedar_ast.specs.PlainName.{PlainName, IsReserved}
use Rattle.cedar_ast.specs.Text.{Text}
use Rattle.cedar_ast.specs.Tree.{Tree, truth_value, number_value, text_value, uid_value, set_value, map_value, call_value, Trees, no_tree, tree, Entries, no_entry, entry, entry_names}

-- a text that a string can hold: its bytes are UTF-8
abbrev pub IsText : Text → Type 0
IsText text = IsUtf8 text

-- a name that isn't reserved: its parts are identifiers, and none is the reserved word
abbrev pub IsName : PlainName → Type 0
IsName name = IsIdentifier name.base × All IsIdentifier name.path × ¬ IsReserved name

abbrev mutual
  -- a tree is a value: its numbers have 64 bits, its texts are UTF-8, its names aren't reserved,
  -- and in each map in it each text stands once
  pub IsValue : Tree → Type 0
  IsValue (truth_value value) = Unit {0}
  IsValue (number_value number) = FitsSigned w64 number
  IsValue (text_value value) = IsText value
  IsValue (uid_value uid) = IsName uid.ty × IsText uid.eid
  IsValue (set_value values) = AreValues values
  IsValue (map_value values) = AreEntries values
  IsValue (call_value function args) = IsName function × AreValues args

  -- each tree is a value
  pub AreValues : Trees → Type 0
  AreValues no_tree = Unit {0}
  AreValues (tree first rest) = IsValue first × AreValues rest

  -- the entries are values by text, and each text stands once
  pub AreEntries : Entries → Type 0
  AreEntries no_entry = Unit {0}
  AreEntries (entry name value rest) =
      IsText name × IsValue value × AreEntries rest × (¬ Contains (entry_names rest) name)
