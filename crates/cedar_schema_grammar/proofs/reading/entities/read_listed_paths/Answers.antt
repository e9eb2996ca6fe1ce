use Rattle.std.proofs.Common.{◌≡◌, true, false, map, sym, ap₂, ◌∙◌, rules, arith, ◌+◌, ◌-◌}
use Rattle.std.proofs.lemmas.Grind.{common_steps}
use Rattle.cedar_schema_tokens.specs.declared.token.Symbol.TheVariants as sign
use Rattle.cedar_schema_grammar.specs.Reading.{until_from, path, sees}
use Rattle.cedar_schema_grammar.specs.Plain.{path_of}
use Rattle.cedar_schema_grammar.proofs.Turns.{one_more, pushed, until_goes}
use Rattle.cedar_schema_grammar.proofs.reading.entities.read_listed_paths.Goals as goal

pub returns-in_err-read_path : goal.returns-in_err-read_path
unfolding until_from
returns-in_err-read_path c =
    let e = one_more (λ n. until_from path sign.CloseBracket n (map path_of c.loop-turn.found.items) c.loop-turn.tokens) _ c.loop-turn._turn c.loop-turn-test.true c.loop-turn.invariant in
    first_of (search rules, grind (arith, common_steps))

pub returns-in_err-expect : goal.returns-in_err-expect
unfolding until_from
returns-in_err-expect c =
    let e = one_more (λ n. until_from path sign.CloseBracket n (map path_of c.loop-turn.found.items) c.loop-turn.tokens) _ c.loop-turn._turn c.loop-turn-test.true c.loop-turn.invariant in
    first_of (search rules, grind (arith, common_steps))

pub returns-then-not-eat : goal.returns-then-not-eat
unfolding until_from
returns-then-not-eat c =
    let e = one_more (λ n. until_from path sign.CloseBracket n (map path_of c.loop-turn.found.items) c.loop-turn.tokens) _ c.loop-turn._turn c.loop-turn-test.true c.loop-turn.invariant in
    let more = pushed path_of c.loop-turn.found.items c.push.new.self.items c.in_ok-read_path.field-0 (search rules) in
    first_of (search rules, grind (arith, common_steps))

pub loop-turn-preserved : goal.loop-turn-preserved
loop-turn-preserved c =
    let e = one_more (λ n. until_from path sign.CloseBracket n (map path_of c.loop-turn.found.items) c.loop-turn.tokens) _ c.loop-turn._turn c.loop-turn-test.true c.loop-turn.invariant in
    let unclosed : sees sign.CloseBracket c.loop-turn.tokens ≡ false = first_of (search rules, grind (arith, common_steps)) in
    let more = pushed path_of c.loop-turn.found.items c.push.new.self.items c.in_ok-read_path.field-0 (search rules) in
    let on : sees sign.Comma c.read_path.new.tokens ≡ true = first_of (search rules, grind (arith, common_steps)) in
    e ∙ until_goes path sign.CloseBracket _ (map path_of c.loop-turn.found.items) c.loop-turn.tokens c.eat.new.self c.read_path.new.tokens (path_of c.in_ok-read_path.field-0) unclosed c.eat.ensures.after c.in_ok-read_path.ensures on ∙ ap₂ (λ fs us. until_from path sign.CloseBracket (c.left-turn-end.result - (c.loop-turn._turn + 1)) fs us) (sym more) (sym c.eat-in-loop-turn.ensures.after)
