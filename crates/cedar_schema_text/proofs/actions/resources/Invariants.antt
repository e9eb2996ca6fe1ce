use Rattle.std.proofs.Common.{◌≡◌, map, drop}
use Rattle.cedar_schema_grammar.specs.Plain.{part_of}
use Rattle.cedar_schema_text.specs.Meaning.{first_said, resources_of}
use Rattle.cedar_schema_text.proofs.actions.resources.Given as goal

abbrev pub invariant-loop-part : goal.invariant-loop-part
invariant-loop-part l =
    first_said resources_of (map part_of (drop l.part-index l.parts)) ≡ first_said resources_of (map part_of l.parts)
