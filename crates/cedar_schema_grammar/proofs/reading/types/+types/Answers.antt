use Rattle.std.proofs.Common.{map, rules, arith}
use Rattle.std.proofs.lemmas.Grind.{common_steps}
use Rattle.std.proofs.lemmas.Result.{err_from_is_err_and}
use Rattle.cedar_schema_tokens.specs.declared.token.Symbol.TheVariants as sign
use Rattle.cedar_schema_grammar.specs.Reading.{type_at, attribute_with, until_from, set_with, record_with}
use Rattle.cedar_schema_grammar.specs.Plain.{attribute_of}
use Rattle.cedar_schema_grammar.proofs.Turns.{one_more, pushed, deeper, view-Record}
use Rattle.cedar_schema_grammar.proofs.reading.types.+types.Goals as goal

pub read_attributes-returns-in_err-read_attribute :
    goal.read_attributes-returns-in_err-read_attribute
unfolding until_from
read_attributes-returns-in_err-read_attribute t c =
    let e = one_more (λ n. until_from (attribute_with (type_at c.args.limit)) sign.CloseBrace n (map attribute_of c.loop-turn.found.items) c.loop-turn.tokens) _ c.loop-turn._turn c.loop-turn-test.true c.loop-turn.invariant in
    first_of (search rules, grind (arith, common_steps))

pub read_attributes-returns-in_err-expect : goal.read_attributes-returns-in_err-expect
unfolding until_from
read_attributes-returns-in_err-expect t c =
    let e = one_more (λ n. until_from (attribute_with (type_at c.args.limit)) sign.CloseBrace n (map attribute_of c.loop-turn.found.items) c.loop-turn.tokens) _ c.loop-turn._turn c.loop-turn-test.true c.loop-turn.invariant in
    first_of (search rules, grind (arith, common_steps))

pub read_attributes-returns-then-not-eat : goal.read_attributes-returns-then-not-eat
unfolding until_from
read_attributes-returns-then-not-eat t c =
    let e = one_more (λ n. until_from (attribute_with (type_at c.args.limit)) sign.CloseBrace n (map attribute_of c.loop-turn.found.items) c.loop-turn.tokens) _ c.loop-turn._turn c.loop-turn-test.true c.loop-turn.invariant in
    let more = pushed attribute_of c.loop-turn.found.items c.push.new.self.items c.in_ok-read_attribute.field-0 (search rules) in
    first_of (search rules, grind (arith, common_steps))

pub read_attributes-loop-turn-preserved : goal.read_attributes-loop-turn-preserved
unfolding until_from
read_attributes-loop-turn-preserved t c =
    let e = one_more (λ n. until_from (attribute_with (type_at c.args.limit)) sign.CloseBrace n (map attribute_of c.loop-turn.found.items) c.loop-turn.tokens) _ c.loop-turn._turn c.loop-turn-test.true c.loop-turn.invariant in
    let more = pushed attribute_of c.loop-turn.found.items c.push.new.self.items c.in_ok-read_attribute.field-0 (search rules) in
    first_of (search rules, grind (arith, common_steps))

pub read_type-returns-then-sees : goal.read_type-returns-then-sees
unfolding type_at record_with
read_type-returns-then-sees t c =
    let e = deeper (λ n. type_at n c.args.tokens.now) c.args.limit c.if-limit-eq0.false in
    let v = view-Record c.in_ok-attributes.attributes c.between-loc.result in
    first_of (search rules, grind (arith, common_steps))

pub read_type-returns-in_err-element : goal.read_type-returns-in_err-element
unfolding type_at set_with
read_type-returns-in_err-element t c =
    let e = deeper (λ n. type_at n c.args.tokens.now) c.args.limit c.if-limit-eq0-2.false in
    first_of (search rules, grind (arith, common_steps))

pub read_type-returns-in_err-expect : goal.read_type-returns-in_err-expect
unfolding type_at set_with
read_type-returns-in_err-expect t c =
    let e = deeper (λ n. type_at n c.args.tokens.now) c.args.limit c.if-limit-eq0-2.false in
    let p = err_from_is_err_and c.from_residual-in_err-expect.result c.from_residual-in_err-expect.ensures.1 in
    rw (p.1, p.2) (λ other. first_of (search rules, grind (arith, common_steps)))
