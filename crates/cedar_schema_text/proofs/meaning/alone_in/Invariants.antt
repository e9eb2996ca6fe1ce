use Rattle.std.proofs.Common.{◌≡◌, map, take}
use Rattle.cedar_schema_grammar.specs.Plain.{member_of}
use Rattle.cedar_schema_text.specs.Here.{lent}
use Rattle.cedar_schema_text.specs.Meaning.{alone_in}
use Rattle.cedar_schema_text.proofs.meaning.alone_in.Given as goal

abbrev pub invariant-loop-member : goal.invariant-loop-member
invariant-loop-member l =
    map lent l.all.items ≡ alone_in (map member_of (take l.member-index l.members))
