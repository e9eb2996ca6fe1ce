-- What the places that are shown for a refusal are, and what is listed of a type, in other words.
use Rattle.std.specs.Prelude.{◌≡◌, ◌≢◌, ◌↔◌, ◌++◌, ◌∷◌, Option, Some, None, Contains, map}
use Rattle.cedar_ast.specs.declared.loc.Loc.{Loc}
use Rattle.cedar_places.specs.Mark.{Mark, Marks, extension_type, open_record}
use Rattle.cedar_places.specs.RefusalPlace.{IsFirstPlace, IsPlaceOf, IsSecondPlaceOf, IsSought}
use Rattle.cedar_places.specs.TypeMarks.{type_marks}
use Rattle.cedar_places.specs.declared.place.Sought.{Sought}
use Rattle.cedar_schema_ast.specs.Words.{Expr, raw_expr}
use Rattle.cedar_schema_ast.specs.declared.json_schema.raw_name.RawName.{RawName}
use Rattle.cedar_schema_ast.specs.declared.json_schema.type_of.Type.{«Type»}
use Rattle.cedar_schema_semantics.specs.Words.{HasOpenRecord, MentionsExtension}
use Rattle.cedar_schema_semantics.specs.declared.schema_error.SchemaError.{SchemaError}
use Rattle.cedar_schema_semantics.specs.declared.schema_error.SchemaError.TheVariants as error

-- of the marks whose places are known none is so
abbrev pub HasNone : (Mark → Loc → Type 0) → Marks → Type 0
HasNone IsSo table = (mark : Mark) (loc : Loc) → Contains table (mark, Some loc) → ¬ IsSo mark loc

-- the mark at the place is so, and none before it
abbrev pub StandsFirst : (Mark → Loc → Type 0) → Marks → Loc → Type 0
StandsFirst IsSo table loc = (mark : Mark) × (before : Marks) × (after : Marks)
    × (table ≡ before ++ (mark, Some loc) ∷ after) × IsSo mark loc × HasNone IsSo before

-- the first place is that of the mark that stands first of those that are looked for, and there is
-- none where no mark is looked for
abbrev pub FirstPlacesStandFirst : Type 0
FirstPlacesStandFirst = (sought : Sought) (table : Marks)
    → ((loc : Loc) → IsFirstPlace (IsSought sought) table (Some loc)
    ↔ StandsFirst (IsSought sought) table loc)
    × (IsFirstPlace (IsSought sought) table None ↔ HasNone (IsSought sought) table)

-- the refusal is that of two definitions
abbrev pub IsOfTwoDefinitions : SchemaError → Type 0
IsOfTwoDefinitions (error.DuplicateEntityType ty) = Unit {0}
IsOfTwoDefinitions (error.DuplicateCommonType name) = Unit {0}
IsOfTwoDefinitions (error.DuplicateAction uid) = Unit {0}
IsOfTwoDefinitions other = ⊥

-- of two definitions the second place that is shown isn't the first
abbrev pub TwoDefinitionsStandApart : Type 0
TwoDefinitionsStandApart = (table : Marks) (error : SchemaError) (first second : Option Loc)
    → IsOfTwoDefinitions error → IsPlaceOf table error first → IsSecondPlaceOf table error second
    → second ≢ None → first ≢ second

-- the mark stands in an expression: a record type that is open, or an extension type
abbrev pub IsMarkIn : Expr → Mark → Type 0
IsMarkIn expr open_record = HasOpenRecord expr
IsMarkIn expr (extension_type name) = MentionsExtension expr name
IsMarkIn expr other = ⊥

-- a mark is listed of a type exactly where it stands in what the type is written as
abbrev pub MarksAreMentioned : Type 0
MarksAreMentioned = (ty : «Type» RawName) (mark : Mark)
    → Contains (map (λ it. it.0) (type_marks ty)) mark ↔ IsMarkIn (raw_expr None ty) mark
