use Rattle.std.proofs.Common.{◌≡◌, true, map, sym, ap, ◌∙◌, rules, arith, ◌+◌, ◌-◌}
use Rattle.std.proofs.lemmas.Grind.{common_steps}
use Rattle.cedar_schema_tokens.specs.declared.token.Symbol.TheVariants as sign
use Rattle.cedar_schema_grammar.specs.Reading.{while_from, annotation, sees}
use Rattle.cedar_schema_grammar.specs.Plain.{name_of}
use Rattle.cedar_schema_grammar.proofs.Turns.{one_more, pushed, while_goes}
use Rattle.cedar_schema_grammar.proofs.reading.names.read_annotations.Goals as goal

pub returns-in_err-read_annotation : goal.returns-in_err-read_annotation
unfolding while_from
returns-in_err-read_annotation c =
    let e = one_more (λ n. while_from annotation (sees sign.At) n (map name_of c.loop-turn.found.items) c.loop-turn.tokens) _ c.loop-turn._turn c.loop-turn-test.true c.loop-turn.invariant in
    let on : (sees sign.At) c.loop-turn.tokens ≡ true = first_of (search rules, grind (arith, common_steps)) in
    first_of (search rules, grind (arith, common_steps))

pub loop-turn-preserved : goal.loop-turn-preserved
loop-turn-preserved c =
    let e = one_more (λ n. while_from annotation (sees sign.At) n (map name_of c.loop-turn.found.items) c.loop-turn.tokens) _ c.loop-turn._turn c.loop-turn-test.true c.loop-turn.invariant in
    let more = pushed name_of c.loop-turn.found.items c.push.new.self.items c.in_ok-read_annotation.field-0 (search rules) in
    let on : (sees sign.At) c.loop-turn.tokens ≡ true = first_of (search rules, grind (arith, common_steps)) in
    e ∙ while_goes annotation (sees sign.At) _ (map name_of c.loop-turn.found.items) c.loop-turn.tokens c.read_annotation.new.tokens (name_of c.in_ok-read_annotation.field-0) on c.in_ok-read_annotation.ensures ∙ ap (λ fs. while_from annotation (sees sign.At) (c.left-turn-end.result - (c.loop-turn._turn + 1)) fs c.read_annotation.new.tokens) (sym more)
