use Rattle.std.proofs.Common.{◌≤◌, length, string_bytes}
use Rattle.cedar_schema_text_layout.specs.Relaid.{before}
use Rattle.cedar_schema_text_layout.proofs.Printed.{Writes}
use Rattle.cedar_schema_text_layout.proofs.printing.printed.Given as goal

abbrev pub invariant-loop-index : goal.invariant-loop-index
invariant-loop-index l = Writes (before l.pieces l.index) l.last (string_bytes l.out)
