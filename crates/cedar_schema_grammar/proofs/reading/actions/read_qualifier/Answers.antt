use Rattle.std.proofs.Common.{map, string_bytes, rules, arith}
use Rattle.std.proofs.lemmas.Grind.{common_steps}
use Rattle.cedar_schema_grammar.specs.Reading.{qualifier_from}
use Rattle.cedar_schema_grammar.proofs.Turns.{one_more, pushed}
use Rattle.cedar_schema_grammar.proofs.reading.actions.read_qualifier.Goals as goal

pub returns-then-sees_text : goal.returns-then-sees_text
unfolding qualifier_from
returns-then-sees_text c =
    let e = one_more (λ n. qualifier_from c.args.first.loc n (map string_bytes c.loop-turn.ids.items) c.loop-turn.last c.loop-turn.tokens) _ c.loop-turn._turn c.loop-turn-test.true c.loop-turn.invariant in
    first_of (search rules, grind (arith, common_steps))

pub returns-in_err-next : goal.returns-in_err-next
unfolding qualifier_from
returns-in_err-next c =
    let e = one_more (λ n. qualifier_from c.args.first.loc n (map string_bytes c.loop-turn.ids.items) c.loop-turn.last c.loop-turn.tokens) _ c.loop-turn._turn c.loop-turn-test.true c.loop-turn.invariant in
    first_of (search rules, grind (arith, common_steps))

pub returns-in_err-expect : goal.returns-in_err-expect
unfolding qualifier_from
returns-in_err-expect c =
    let e = one_more (λ n. qualifier_from c.args.first.loc n (map string_bytes c.loop-turn.ids.items) c.loop-turn.last c.loop-turn.tokens) _ c.loop-turn._turn c.loop-turn-test.true c.loop-turn.invariant in
    first_of (search rules, grind (arith, common_steps))

pub loop-turn-preserved : goal.loop-turn-preserved
unfolding qualifier_from
loop-turn-preserved c =
    let e = one_more (λ n. qualifier_from c.args.first.loc n (map string_bytes c.loop-turn.ids.items) c.loop-turn.last c.loop-turn.tokens) _ c.loop-turn._turn c.loop-turn-test.true c.loop-turn.invariant in
    let more = pushed string_bytes c.loop-turn.ids.items c.push-in-loop-turn.new.self.items c.in_ok-next.next.text (search rules) in
    first_of (search rules, grind (arith, common_steps))
