use Rattle.std.proofs.Common.{◌≡◌, true, false, map, sym, ap₂, ◌∙◌, rules, arith, ◌+◌, ◌-◌}
use Rattle.std.proofs.lemmas.Grind.{common_steps}
use Rattle.cedar_schema_tokens.specs.declared.token.Symbol.TheVariants as sign
use Rattle.cedar_schema_grammar.specs.Reading.{until_from, part, sees}
use Rattle.cedar_schema_grammar.specs.Plain.{part_of}
use Rattle.cedar_schema_grammar.proofs.Turns.{one_more, pushed, until_goes}
use Rattle.cedar_schema_grammar.proofs.reading.actions.read_parts.Goals as goal

pub returns-in_err-read_part : goal.returns-in_err-read_part
unfolding until_from
returns-in_err-read_part c =
    let e = one_more (λ n. until_from (part c.args.limit) sign.CloseBrace n (map part_of c.loop-turn.found.items) c.loop-turn.tokens) _ c.loop-turn._turn c.loop-turn-test.true c.loop-turn.invariant in
    first_of (search rules, grind (arith, common_steps))

pub returns-in_err-expect : goal.returns-in_err-expect
unfolding until_from
returns-in_err-expect c =
    let e = one_more (λ n. until_from (part c.args.limit) sign.CloseBrace n (map part_of c.loop-turn.found.items) c.loop-turn.tokens) _ c.loop-turn._turn c.loop-turn-test.true c.loop-turn.invariant in
    first_of (search rules, grind (arith, common_steps))

pub returns-then-not-eat : goal.returns-then-not-eat
unfolding until_from
returns-then-not-eat c =
    let e = one_more (λ n. until_from (part c.args.limit) sign.CloseBrace n (map part_of c.loop-turn.found.items) c.loop-turn.tokens) _ c.loop-turn._turn c.loop-turn-test.true c.loop-turn.invariant in
    let more = pushed part_of c.loop-turn.found.items c.push.new.self.items c.in_ok-read_part.field-0 (search rules) in
    first_of (search rules, grind (arith, common_steps))

pub loop-turn-preserved : goal.loop-turn-preserved
loop-turn-preserved c =
    let e = one_more (λ n. until_from (part c.args.limit) sign.CloseBrace n (map part_of c.loop-turn.found.items) c.loop-turn.tokens) _ c.loop-turn._turn c.loop-turn-test.true c.loop-turn.invariant in
    let unclosed : sees sign.CloseBrace c.loop-turn.tokens ≡ false = first_of (search rules, grind (arith, common_steps)) in
    let more = pushed part_of c.loop-turn.found.items c.push.new.self.items c.in_ok-read_part.field-0 (search rules) in
    let on : sees sign.Comma c.read_part.new.tokens ≡ true = first_of (search rules, grind (arith, common_steps)) in
    e ∙ until_goes (part c.args.limit) sign.CloseBrace _ (map part_of c.loop-turn.found.items) c.loop-turn.tokens c.eat.new.self c.read_part.new.tokens (part_of c.in_ok-read_part.field-0) unclosed c.eat.ensures.after c.in_ok-read_part.ensures on ∙ ap₂ (λ fs us. until_from (part c.args.limit) sign.CloseBrace (c.left-turn-end.result - (c.loop-turn._turn + 1)) fs us) (sym more) (sym c.eat-in-loop-turn.ensures.after)
