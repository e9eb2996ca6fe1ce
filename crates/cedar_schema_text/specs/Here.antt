-- The plain data of what the code goes through.
use Rattle.std.specs.Prelude.{[], ◌∷◌, map, Option, Some, None}
use Rattle.std.specs.Option.{option_map}
use Rattle.std.specs.Borrow.{Bor}
use Rattle.cedar_schema_grammar.specs.Plain.{applies_of, body_of, declaration_of, name_of, parent_of, path_of, type_of}
use Rattle.cedar_schema_grammar.specs.Tree as tree
use Rattle.cedar_schema_grammar.specs.declared.tree.Declaration.{Declaration}
use Rattle.cedar_schema_ast.specs.declared.json_schema.fragment.NamespaceDefinition.{NamespaceDefinition}
use Rattle.cedar_schema_ast.specs.declared.json_schema.raw_name.RawName.{RawName}
use Rattle.cedar_schema_text.specs.Meaning as spec
use Rattle.cedar_schema_text.specs.Placed.{FragmentAt}
use Rattle.cedar_schema_text.specs.Shown.{definition_shown}
use Rattle.cedar_schema_text.specs.declared.declared.Action.{Action}
use Rattle.cedar_schema_text.specs.declared.declared.Common.{Common}
use Rattle.cedar_schema_text.specs.declared.declared.Entity.{Entity}
use Rattle.cedar_schema_text.specs.declared.meaning.Block.{Block}

-- a declaration that is lent
abbrev pub lent : Bor Declaration → tree.Declaration
lent d = declaration_of d.now

-- the declaration of an entity type
abbrev pub entity_here : Entity → spec.Entity
entity_here it =
    record { name = name_of it.name.now; external = it.external; body = body_of it.body.now }

-- the declaration of an action
abbrev pub action_here : Action → spec.Action
action_here it =
    record {
      name = name_of it.name.now;
      external = it.external;
      parents = option_map (λ all. map parent_of all.items) it.parents.now;
      applies = option_map applies_of it.applies.now;
      loc = it.loc;
    }

-- the declaration of a common type
abbrev pub common_here : Common → spec.Common
common_here it = record { name = name_of it.name.now; of = type_of it.of.now }

-- the block of a namespace
abbrev pub block_here : Block → spec.Block
block_here it =
    record {
      annotations = map name_of it.annotations.now.items;
      path = path_of it.path.now;
      declarations = map declaration_of it.declarations.now.items;
      loc = it.loc;
    }

-- the entry of the empty namespace, where there is one
abbrev pub empty_shown : Option (NamespaceDefinition RawName) → FragmentAt
empty_shown None = []
empty_shown (Some it) = (None, definition_shown it) ∷ []
