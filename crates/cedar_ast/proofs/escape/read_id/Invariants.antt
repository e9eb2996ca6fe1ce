use Rattle.std.proofs.Common.{string_bytes}
use Rattle.cedar_ast.proofs.EscapeReading.{HasReadId}
use Rattle.cedar_ast.proofs.escape.read_id.Given as goal

abbrev pub invariant-loop-c : goal.invariant-loop-c
invariant-loop-c l = HasReadId l.escape (string_bytes l.id) l.at l.yielded
