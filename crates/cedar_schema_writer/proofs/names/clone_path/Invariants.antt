use Rattle.std.proofs.Common.{◌≡◌, map, take}
use Rattle.cedar_ast.specs.Id.{id_text}
use Rattle.cedar_schema_writer.proofs.names.clone_path.Given as goal

abbrev pub invariant-loop-part : goal.invariant-loop-part
invariant-loop-part l = map id_text l.copy.items ≡ map id_text (take l.part-index l.path)
