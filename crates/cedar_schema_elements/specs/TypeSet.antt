use Rattle.std.specs.Prelude.{List, [], ℕ, get_or, map}
use Rattle.cedar_ast.specs.Words.{PlainName, type_name}
use Rattle.cedar_ast.specs.declared.entity_type.EntityType.{EntityType}
use Rattle.cedar_schema_elements.specs.declared.type_set.TypeSet.{TypeSet}

-- the entity types of a set, in the order of their names
abbrev pub set_types : TypeSet → List EntityType
set_types it = it.types.items

-- their names
abbrev pub set_names : TypeSet → List PlainName
set_names it = map type_name (set_types it)

-- the name with no text, which stands where a set has none
abbrev pub empty_name : PlainName
empty_name = record { base = []; path = [] }

-- the name at a place of a set, counted from zero
abbrev pub set_name_at : TypeSet → ℕ → PlainName
set_name_at it place = get_or (set_names it) place empty_name
