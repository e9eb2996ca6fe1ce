use Rattle.std.proofs.Common.{◌≡◌, ◌-◌, map}
use Rattle.cedar_schema_grammar.specs.Reading.{member, members, while_from, is_more}
use Rattle.cedar_schema_grammar.specs.Plain.{member_of}
use Rattle.cedar_schema_grammar.proofs.reading.schema.read_members.Given as goal

abbrev pub invariant-loop-turn : goal.invariant-loop-turn
invariant-loop-turn l =
    members l.limit l.fn.tokens ≡ while_from (member l.limit) is_more (l._turn-end - l._turn) (map member_of l.found.items) l.tokens
