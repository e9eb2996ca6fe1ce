use Rattle.std.specs.Prelude.{List, map, Option}
use Rattle.cedar_ast.specs.PlainName.{PlainName}
use Rattle.cedar_fragments.specs.FragmentDeclarations.{definition_namespace}
use Rattle.cedar_fragments.specs.declared.namespace.fragment.ValidatorSchemaFragment.{ValidatorSchemaFragment}

-- the namespaces of the definitions of a fragment, one for each in order
abbrev pub fragment_namespaces : (N A : Type 0) → ValidatorSchemaFragment N A
    → List (Option PlainName)
fragment_namespaces N A it = map (definition_namespace N A) it.definitions.items
