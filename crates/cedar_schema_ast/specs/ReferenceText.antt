use Rattle.std.specs.Prelude.{List, Option, None, Some, ◌++◌, codes, map}
use Rattle.cedar_ast.specs.Words.{PlainName, Text, items_of, joined, name_text, quoted_text}
use Rattle.cedar_schema_ast.specs.ConditionalName.{conditional_reference}
use Rattle.cedar_schema_ast.specs.Reference.{Reference}
use Rattle.cedar_schema_ast.specs.declared.json_schema.qualify_error.QualifyError.{QualifyError}
use Rattle.cedar_schema_ast.specs.declared.json_schema.qualify_error.QualifyError.TheVariants as qualify
use Rattle.cedar_schema_ast.specs.declared.json_schema.reference_type.ReferenceType.{ReferenceType}
use Rattle.cedar_schema_ast.specs.declared.json_schema.reference_type.ReferenceType.TheVariants as kind

-- the kinds of type that a reference may name, as they are printed
abbrev pub reference_kind_text : ReferenceType → Text
reference_kind_text kind.Common = codes "common type"
reference_kind_text kind.Entity = codes "entity type"
reference_kind_text kind.CommonOrEntity = codes "type"

-- the names that a reference may stand for as they are printed: in order, with ` or ` between them
abbrev pub possibilities_text : List PlainName → Text
possibilities_text names = joined (codes " or ") (map name_text names)

-- a reference that names nothing as it is printed: with what was looked for
abbrev pub undeclared_text : Reference → Text
undeclared_text reference =
    codes "no " ++ (reference_kind_text reference.kind
    ++ (codes " is declared as " ++ possibilities_text reference.possibilities))

-- references that name nothing as they are printed: one after another
abbrev pub undeclared_types_text : List Reference → Text
undeclared_types_text references = joined (codes ", ") (map undeclared_text references)

-- the names that an action's type may stand for as they are printed behind its id, or that no type
-- was written
abbrev pub written_type_text : Option Reference → Text
written_type_text None = codes " of no written type"
written_type_text (Some ty) = codes " of type " ++ possibilities_text ty.possibilities

-- a reference to an action as it is printed: its id in quotes, and what its type may stand for
abbrev pub action_reference_text : Text → Option Reference → Text
action_reference_text id ty = quoted_text id ++ written_type_text ty

-- why a reference is not resolved, as it is printed
abbrev pub qualify_text : QualifyError → Text
qualify_text (qualify.TypeNotDefined it) =
    undeclared_types_text (map conditional_reference (items_of it.undefined_types))
qualify_text (qualify.Memory refused) = codes "out of memory"
