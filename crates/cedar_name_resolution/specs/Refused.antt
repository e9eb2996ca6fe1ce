use Rattle.std.specs.Prelude.{◌≡◌, [], ◌∷◌, map, Contains}
use Rattle.cedar_ast.specs.NonEmpty.{items_of}
use Rattle.cedar_schema_ast.specs.Words.{Reference, conditional_reference}
use Rattle.cedar_schema_ast.specs.declared.json_schema.qualify_error.QualifyError.{QualifyError}
use Rattle.cedar_schema_ast.specs.declared.json_schema.qualify_error.QualifyError.TheVariants as error
use Rattle.cedar_schema_semantics.specs.Names.{Names, IsUnresolved}

-- the reference is refused, over the names that are defined: it names nothing, and the refusal
-- holds it alone; or memory ran out
abbrev pub IsRefused : Names → Reference → QualifyError → Type 0
IsRefused names reference (error.TypeNotDefined it) =
    IsUnresolved names reference × (map conditional_reference (items_of it.undefined_types)
    ≡ reference ∷ [])
IsRefused names reference (error.Memory refused) = Unit {0}

-- some references are refused, over the names that are defined: each that the refusal holds is one
-- of those that have to resolve, and names nothing; or memory ran out
abbrev pub IsRefusedAmong : Names → (Reference → Type 0) → QualifyError → Type 0
IsRefusedAmong names HasTo (error.TypeNotDefined it) =
    (reference : Reference) → Contains
    (map conditional_reference (items_of it.undefined_types)) reference
    → HasTo reference × IsUnresolved names reference
IsRefusedAmong names HasTo (error.Memory refused) = Unit {0}
