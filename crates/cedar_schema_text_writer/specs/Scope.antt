-- What a scope knows.
use Rattle.std.specs.Option.{option_map}
use Rattle.std.specs.Prelude.{Option}
use Rattle.cedar_ast.specs.Words.{PlainName, plain_name}
use Rattle.cedar_name_resolution.specs.Words.{held_names}
use Rattle.cedar_schema_text_writer.specs.Names.{First, first_standing}
use Rattle.cedar_schema_text_writer.specs.declared.scope.Scope.{Scope}

-- what the first of a reference's possibilities is declared as
abbrev pub first_in : Scope → First
first_in scope = first_standing (held_names scope.known.now)

-- the namespace that names are written in
abbrev pub namespace_in : Scope → Option PlainName
namespace_in scope = option_map plain_name scope.namespace.now
