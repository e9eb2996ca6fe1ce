use Rattle.std.proofs.Common.{◌≡◌, ◌∙◌, sym, ap, rules}
use Rattle.cedar_schema_tokens.specs.Spelled.{blanks_from}
use Rattle.cedar_schema_tokens.proofs.Runs.{one_more, no_more}
use Rattle.cedar_schema_tokens.proofs.Blanks.{turn_stops, turn_goes, none_left}
use Rattle.cedar_schema_tokens.proofs.spelled.after_blanks.Goals as goal

pub returns-then-taken-eq0 : goal.returns-then-taken-eq0
returns-then-taken-eq0 c =
    let e = one_more (λ n. blanks_from n c.loop-turn.rest.now) _ c.loop-turn._turn c.loop-turn-test.true c.loop-turn.invariant.1 in
    sym (e ∙ turn_stops _ c.loop-turn.rest.now (sym c.blank_len-taken.ensures.len ∙ c.if-taken-eq0.true))

pub loop-turn-preserved : goal.loop-turn-preserved
loop-turn-preserved c =
    let e = one_more (λ n. blanks_from n c.loop-turn.rest.now) _ c.loop-turn._turn c.loop-turn-test.true c.loop-turn.invariant.1 in
    let go = turn_goes _ c.blank_len-taken.result c.loop-turn.rest.now (sym c.blank_len-taken.ensures.len) c.if-taken-eq0.false in
    (search rules, e ∙ go ∙ ap (blanks_from _) (search rules))

pub returns : goal.returns
returns c =
    let e = no_more (λ n. blanks_from n c.loop-turn.rest.now) _ c.loop-turn._turn c.loop-turn-test.false c.loop-turn.invariant.1 in
    sym (e ∙ none_left c.loop-turn.rest.now)
