use Rattle.std.proofs.Common.{◌≡◌, map, take}
use Rattle.cedar_schema_grammar.specs.Plain.{member_of}
use Rattle.cedar_schema_text.specs.Here.{block_here}
use Rattle.cedar_schema_text.specs.Meaning.{blocks_in}
use Rattle.cedar_schema_text.proofs.meaning.blocks_in.Given as goal

abbrev pub invariant-loop-member : goal.invariant-loop-member
invariant-loop-member l =
    map block_here l.all.items ≡ blocks_in (map member_of (take l.member-index l.members))
