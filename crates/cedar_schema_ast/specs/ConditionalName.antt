use Rattle.std.specs.Prelude.{Option, List, length, slice_get, ◌-◌}
use Rattle.cedar_ast.specs.PlainName.{PlainName}
use Rattle.cedar_ast.specs.declared.loc.Loc.{Loc}
use Rattle.cedar_schema_ast.specs.PossibleNames.{names_of, locs_of}
use Rattle.cedar_schema_ast.specs.Reference.{Reference}
use Rattle.cedar_schema_ast.specs.declared.json_schema.conditional_name.ConditionalName.{ConditionalName}
use Rattle.cedar_schema_ast.specs.declared.json_schema.reference_type.ReferenceType.{ReferenceType}

-- the names that a reference may stand for, the first to be tried first; their locations are no
-- part of them
abbrev pub possibilities_of : ConditionalName → List PlainName
possibilities_of name = names_of name.possibilities

-- where the possibilities were written, in their order
abbrev pub possibility_locs : ConditionalName → List (Option Loc)
possibility_locs name = locs_of name.possibilities

-- what kind of type a reference may name
abbrev pub reference_type_of : ConditionalName → ReferenceType
reference_type_of name = name.reference_type

-- the last of the names that a reference may stand for
abbrev pub last_possibility : ConditionalName → Option PlainName
last_possibility name = slice_get (possibilities_of name) (length (possibilities_of name) - 1)

-- a reference with its possibilities as plain data
abbrev pub conditional_reference : ConditionalName → Reference
conditional_reference name = record
    { possibilities = possibilities_of name; kind = reference_type_of name }
