use Rattle.std.proofs.Common.{◌≡◌, ◌∙◌, sym, ap, rules}
use Rattle.cedar_schema_tokens.specs.Lexical.{gap_from}
use Rattle.cedar_schema_tokens.proofs.Runs.{one_more, no_more}
use Rattle.cedar_schema_tokens.proofs.Gaps.{gap_turn_stops, gap_turn_goes, gap_none_left}
use Rattle.cedar_schema_tokens.proofs.gap.after_gap.Goals as goal

pub returns-then-taken-eq0 : goal.returns-then-taken-eq0
returns-then-taken-eq0 c =
    let e = one_more (λ n. gap_from n c.loop-turn.rest.now) _ c.loop-turn._turn c.loop-turn-test.true c.loop-turn.invariant.1 in
    sym (e ∙ gap_turn_stops _ c.loop-turn.rest.now (sym c.gap_len-taken.ensures.len ∙ c.if-taken-eq0.true))

pub loop-turn-preserved : goal.loop-turn-preserved
loop-turn-preserved c =
    let e = one_more (λ n. gap_from n c.loop-turn.rest.now) _ c.loop-turn._turn c.loop-turn-test.true c.loop-turn.invariant.1 in
    let go = gap_turn_goes _ c.gap_len-taken.result c.loop-turn.rest.now (sym c.gap_len-taken.ensures.len) c.if-taken-eq0.false in
    (search rules, e ∙ go ∙ ap (gap_from _) (search rules))

pub returns : goal.returns
returns c =
    let e = no_more (λ n. gap_from n c.loop-turn.rest.now) _ c.loop-turn._turn c.loop-turn-test.false c.loop-turn.invariant.1 in
    sym (e ∙ gap_none_left c.loop-turn.rest.now)
