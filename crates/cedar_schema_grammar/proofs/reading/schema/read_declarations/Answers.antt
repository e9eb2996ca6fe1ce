use Rattle.std.proofs.Common.{◌≡◌, true, map, sym, ap, ◌∙◌, rules, arith, ◌+◌, ◌-◌}
use Rattle.std.proofs.lemmas.Grind.{common_steps}
use Rattle.cedar_schema_grammar.specs.Reading.{while_from, declaration, before_close}
use Rattle.cedar_schema_grammar.specs.Plain.{declaration_of}
use Rattle.cedar_schema_grammar.proofs.Turns.{one_more, pushed, while_goes}
use Rattle.cedar_schema_grammar.proofs.reading.schema.read_declarations.Goals as goal

pub returns-in_err-read_declaration : goal.returns-in_err-read_declaration
unfolding while_from
returns-in_err-read_declaration c =
    let e = one_more (λ n. while_from (declaration c.args.limit) before_close n (map declaration_of c.loop-turn.found.items) c.loop-turn.tokens) _ c.loop-turn._turn c.loop-turn-test.true c.loop-turn.invariant in
    let on : before_close c.loop-turn.tokens ≡ true = first_of (search rules, grind (arith, common_steps)) in
    first_of (search rules, grind (arith, common_steps))

pub loop-turn-preserved : goal.loop-turn-preserved
loop-turn-preserved c =
    let e = one_more (λ n. while_from (declaration c.args.limit) before_close n (map declaration_of c.loop-turn.found.items) c.loop-turn.tokens) _ c.loop-turn._turn c.loop-turn-test.true c.loop-turn.invariant in
    let more = pushed declaration_of c.loop-turn.found.items c.push.new.self.items c.in_ok-read_declaration.field-0 (search rules) in
    let on : before_close c.loop-turn.tokens ≡ true = first_of (search rules, grind (arith, common_steps)) in
    e ∙ while_goes (declaration c.args.limit) before_close _ (map declaration_of c.loop-turn.found.items) c.loop-turn.tokens c.read_declaration.new.tokens (declaration_of c.in_ok-read_declaration.field-0) on c.in_ok-read_declaration.ensures ∙ ap (λ fs. while_from (declaration c.args.limit) before_close (c.left-turn-end.result - (c.loop-turn._turn + 1)) fs c.read_declaration.new.tokens) (sym more)
