-- The table from which Cedar's extensions are made.
use Rattle.std.specs.BTreeMap.{insert_entry}
use Rattle.std.specs.Borrow.{Bor}
use Rattle.std.specs.Prelude.{◌≡◌, List, [], ◌∷◌, Some, map, ⊤}
use Rattle.cedar_ast.specs.Words.{CoreTy, PlainName, Text, core_extension, core_long, core_text, core_truth, name_cmp}
use Rattle.cedar_json.specs.CedarExtensions.{Signature, unqualified}
use Rattle.cedar_json.specs.WrittenName.{plain_name_in}
use Rattle.cedar_json.specs.declared.extensions.Kind.{Kind}
use Rattle.cedar_json.specs.declared.extensions.Kind.TheVariants.{Truth, Number, Text as text, Extension}
use Rattle.cedar_json.specs.declared.extensions.Row.{Row}

-- the text spells a name without a path that isn't reserved
abbrev pub SpellsName : Text → Type 0
SpellsName base = plain_name_in base ≡ Some (unqualified base)

-- and so do all texts of a list
abbrev pub AreNames : List (Bor Text) → Type 0
AreNames [] = ⊤
AreNames (name ∷ rest) = SpellsName name.now × AreNames rest

-- the type of a kind
abbrev pub kind_type : Kind → CoreTy
kind_type Truth = core_truth
kind_type Number = core_long
kind_type text = core_text
kind_type (Extension name) = core_extension (unqualified name.now)

-- the name of an extension type can be spelled
abbrev pub IsKind : Kind → Type 0
IsKind Truth = ⊤
IsKind Number = ⊤
IsKind text = ⊤
IsKind (Extension name) = SpellsName name.now

-- and so can those of all kinds of a list
abbrev pub AreKinds : List Kind → Type 0
AreKinds [] = ⊤
AreKinds (kind ∷ rest) = IsKind kind × AreKinds rest

-- what the function of a row takes and gives
abbrev pub row_signature : Row → Signature
row_signature row = (map kind_type row.arguments.now, Some (kind_type row.result))

-- the names of a row can be spelled
abbrev pub IsRow : Row → Type 0
IsRow row = SpellsName row.name.now × AreKinds row.arguments.now × IsKind row.result

-- and so can those of some rows
abbrev pub AreRows : List Row → Type 0
AreRows [] = ⊤
AreRows (row ∷ rest) = IsRow row × AreRows rest

-- the functions in the order of their names, with those of some rows put among them in turn
abbrev pub inserted : List Row → List (PlainName × Signature) → List (PlainName × Signature)
inserted [] before = before
inserted (row ∷ rest) before =
    inserted rest (insert_entry name_cmp before (unqualified row.name.now) (row_signature row))
