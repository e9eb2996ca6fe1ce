use Rattle.std.proofs.Common.{◌≡◌, true, false, map, string_bytes, sym, ap₂, ◌∙◌, rules, arith, ◌+◌, ◌-◌}
use Rattle.std.proofs.lemmas.Grind.{common_steps}
use Rattle.cedar_schema_tokens.specs.declared.token.Symbol.TheVariants as sign
use Rattle.cedar_schema_grammar.specs.Reading.{separated_from, id_text, sees}
use Rattle.cedar_schema_grammar.proofs.Turns.{one_more, pushed, given, separated_ends, separated_goes}
use Rattle.cedar_schema_grammar.proofs.reading.names.read_ids.Goals as goal

pub returns-in_err-id_text : goal.returns-in_err-id_text
unfolding separated_from
returns-in_err-id_text c =
    let e = one_more (λ n. separated_from id_text sign.PathSeparator n (map string_bytes c.loop-turn.found.items) c.loop-turn.tokens) _ c.loop-turn._turn c.loop-turn-test.true c.loop-turn.invariant in
    first_of (search rules, grind (arith, common_steps))

pub returns-then-not-eat : goal.returns-then-not-eat
returns-then-not-eat c =
    let e = one_more (λ n. separated_from id_text sign.PathSeparator n (map string_bytes c.loop-turn.found.items) c.loop-turn.tokens) _ c.loop-turn._turn c.loop-turn-test.true c.loop-turn.invariant in
    let more = pushed string_bytes c.loop-turn.found.items c.push.new.self.items c.in_ok-id_text.field-0 (search rules) in
    let last : sees sign.PathSeparator c.id_text.new.self ≡ false = first_of (search rules, grind (arith, common_steps)) in
    e ∙ separated_ends id_text sign.PathSeparator _ (map string_bytes c.loop-turn.found.items) c.loop-turn.tokens c.id_text.new.self (string_bytes c.in_ok-id_text.field-0) c.in_ok-id_text.ensures last ∙ ap₂ (λ fs us. given fs us) (sym more) (sym c.eat.ensures.after)

pub loop-turn-preserved : goal.loop-turn-preserved
loop-turn-preserved c =
    let e = one_more (λ n. separated_from id_text sign.PathSeparator n (map string_bytes c.loop-turn.found.items) c.loop-turn.tokens) _ c.loop-turn._turn c.loop-turn-test.true c.loop-turn.invariant in
    let more = pushed string_bytes c.loop-turn.found.items c.push.new.self.items c.in_ok-id_text.field-0 (search rules) in
    let on : sees sign.PathSeparator c.id_text.new.self ≡ true = first_of (search rules, grind (arith, common_steps)) in
    e ∙ separated_goes id_text sign.PathSeparator _ (map string_bytes c.loop-turn.found.items) c.loop-turn.tokens c.id_text.new.self (string_bytes c.in_ok-id_text.field-0) c.in_ok-id_text.ensures on ∙ ap₂ (λ fs us. separated_from id_text sign.PathSeparator (c.left-turn-end.result - (c.loop-turn._turn + 1)) fs us) (sym more) (sym c.eat.ensures.after)
