use Rattle.std.proofs.Common.{◌≡◌, drop, map}
use Rattle.cedar_ast.specs.Words.{name_of}
use Rattle.cedar_name_resolution.specs.Words.{held_names}
use Rattle.cedar_schema_text_writer.specs.Names.{first_standing}
use Rattle.cedar_schema_text_writer.proofs.scope.first_of.Given as goal

abbrev pub invariant-loop-name : goal.invariant-loop-name
invariant-loop-name l =
    first_standing (held_names l.known) (map name_of (drop l.name-index l.names))
    ≡ first_standing (held_names l.known) (map name_of l.names)
