use Rattle.std.proofs.Common.{map, take}
use Rattle.cedar_schema_grammar.specs.Plain.{parent_of}
use Rattle.cedar_schema_text.proofs.SoFar.{ListedSoFar}
use Rattle.cedar_schema_text.specs.Faults.{parent_faults}
use Rattle.cedar_schema_text.specs.Meaning.{parent_meant}
use Rattle.cedar_schema_text.specs.Shown.{parent_shown}
use Rattle.cedar_schema_text.proofs.actions.parents.Given as goal

abbrev pub invariant-loop-one : goal.invariant-loop-one
invariant-loop-one l =
    ListedSoFar parent_faults parent_meant parent_shown (map parent_of (take l.one-index l.written)) l.groups.items
