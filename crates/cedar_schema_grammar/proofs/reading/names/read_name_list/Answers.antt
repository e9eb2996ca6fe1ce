use Rattle.std.proofs.Common.{◌≡◌, true, false, map, sym, ap₂, ◌∙◌, rules, arith, ◌+◌, ◌-◌}
use Rattle.std.proofs.lemmas.Grind.{common_steps}
use Rattle.cedar_schema_tokens.specs.declared.token.Symbol.TheVariants as sign
use Rattle.cedar_schema_grammar.specs.Reading.{separated_from, name, sees}
use Rattle.cedar_schema_grammar.specs.Plain.{name_of}
use Rattle.cedar_schema_grammar.proofs.Turns.{one_more, pushed, given, separated_ends, separated_goes}
use Rattle.cedar_schema_grammar.proofs.reading.names.read_name_list.Goals as goal

pub returns-in_err-name : goal.returns-in_err-name
unfolding separated_from
returns-in_err-name c =
    let e = one_more (λ n. separated_from name sign.Comma n (map name_of c.loop-turn.found.items) c.loop-turn.tokens) _ c.loop-turn._turn c.loop-turn-test.true c.loop-turn.invariant in
    first_of (search rules, grind (arith, common_steps))

pub returns-then-not-eat : goal.returns-then-not-eat
returns-then-not-eat c =
    let e = one_more (λ n. separated_from name sign.Comma n (map name_of c.loop-turn.found.items) c.loop-turn.tokens) _ c.loop-turn._turn c.loop-turn-test.true c.loop-turn.invariant in
    let more = pushed name_of c.loop-turn.found.items c.push.new.self.items c.in_ok-name.field-0 (search rules) in
    let last : sees sign.Comma c.name.new.self ≡ false = first_of (search rules, grind (arith, common_steps)) in
    e ∙ separated_ends name sign.Comma _ (map name_of c.loop-turn.found.items) c.loop-turn.tokens c.name.new.self (name_of c.in_ok-name.field-0) c.in_ok-name.ensures last ∙ ap₂ (λ fs us. given fs us) (sym more) (sym c.eat.ensures.after)

pub loop-turn-preserved : goal.loop-turn-preserved
loop-turn-preserved c =
    let e = one_more (λ n. separated_from name sign.Comma n (map name_of c.loop-turn.found.items) c.loop-turn.tokens) _ c.loop-turn._turn c.loop-turn-test.true c.loop-turn.invariant in
    let more = pushed name_of c.loop-turn.found.items c.push.new.self.items c.in_ok-name.field-0 (search rules) in
    let on : sees sign.Comma c.name.new.self ≡ true = first_of (search rules, grind (arith, common_steps)) in
    e ∙ separated_goes name sign.Comma _ (map name_of c.loop-turn.found.items) c.loop-turn.tokens c.name.new.self (name_of c.in_ok-name.field-0) c.in_ok-name.ensures on ∙ ap₂ (λ fs us. separated_from name sign.Comma (c.left-turn-end.result - (c.loop-turn._turn + 1)) fs us) (sym more) (sym c.eat.ensures.after)
