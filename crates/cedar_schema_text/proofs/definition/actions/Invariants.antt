use Rattle.std.proofs.Common.{map, take, string_bytes}
use Rattle.cedar_ast.specs.Words.{text_cmp}
use Rattle.cedar_schema_text.proofs.SoFar.{PutSoFar}
use Rattle.cedar_schema_text.specs.Faults.{action_faults}
use Rattle.cedar_schema_text.specs.Here.{action_here}
use Rattle.cedar_schema_text.specs.Meaning.{action_meant}
use Rattle.cedar_schema_text.specs.Shown.{action_shown}
use Rattle.cedar_schema_text.proofs.definition.actions.Given as goal

abbrev pub invariant-loop-one : goal.invariant-loop-one
invariant-loop-one l =
    PutSoFar action_faults action_meant text_cmp string_bytes action_shown (map action_here (take l.one-index l.declared)) l.all.entries
