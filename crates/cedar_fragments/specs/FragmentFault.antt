use Rattle.std.specs.Option.{option_map}
use Rattle.std.specs.Prelude.{List, Option, Contains}
use Rattle.cedar_ast.specs.Name.{plain_name}
use Rattle.cedar_ast.specs.declared.name.Name.{Name}
use Rattle.cedar_fragments.specs.DefinitionFault.{NamesAllWithAttributes}
use Rattle.cedar_fragments.specs.DefinitionsPairwise.{entry_declarations}
use Rattle.cedar_schema_ast.specs.declared.json_schema.fragment.Fragment.{Fragment}
use Rattle.cedar_schema_ast.specs.declared.json_schema.fragment.NamespaceDefinition.{NamespaceDefinition}
use Rattle.cedar_schema_ast.specs.declared.json_schema.raw_name.RawName.{RawName}
use Rattle.cedar_schema_semantics.specs.Fault.{Fault, action_attributes}

-- where the refusal names actions with attributes, there is a definition in the fragments of which
-- it names all such actions, and no others
abbrev pub NamesAllOfADefinition : List (Fragment RawName) → Fault → Type 0
NamesAllOfADefinition fragments (action_attributes ids) =
    (fragment : Fragment RawName) × (entry : Option Name × NamespaceDefinition RawName)
    × Contains fragments fragment × Contains fragment.0.entries entry
    × NamesAllWithAttributes (entry_declarations entry) (option_map plain_name entry.0)
    (action_attributes ids)
NamesAllOfADefinition fragments _ = Unit {0}
