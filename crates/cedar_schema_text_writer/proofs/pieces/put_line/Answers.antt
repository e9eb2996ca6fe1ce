use Rattle.std.proofs.Common.{string_bytes, ◌+◌, arith}
use Rattle.cedar_schema_text_writer.proofs.Spelled.{indent_turn}
use Rattle.cedar_schema_text_writer.proofs.pieces.put_line.Goals as goal

pub loop-done-preserved : goal.loop-done-preserved
loop-done-preserved c =
    indent_turn (string_bytes c.args.out.now) (string_bytes c.loop-done.out) (string_bytes c.push_str-in-loop-done.new.self) c.loop-done._done
    (c.loop-done._done + 1) (omega arith) c.loop-done.invariant c.in_ok-push_str-2.ensures.bytes
