use Rattle.std.proofs.Common.{◌≡◌, true, map, sym, ap, ◌∙◌, rules, arith, ◌+◌, ◌-◌}
use Rattle.std.proofs.lemmas.Grind.{common_steps}
use Rattle.cedar_schema_grammar.specs.Reading.{while_from, member, is_more}
use Rattle.cedar_schema_grammar.specs.Plain.{member_of}
use Rattle.cedar_schema_grammar.proofs.Turns.{one_more, pushed, while_goes, is_more_some}
use Rattle.cedar_schema_grammar.proofs.reading.schema.read_members.Goals as goal

pub returns-in_err-read_member : goal.returns-in_err-read_member
unfolding while_from
returns-in_err-read_member c =
    let e = one_more (λ n. while_from (member c.args.limit) is_more n (map member_of c.loop-turn.found.items) c.loop-turn.tokens) _ c.loop-turn._turn c.loop-turn-test.true c.loop-turn.invariant in
    let on : is_more c.loop-turn.tokens ≡ true = is_more_some c.loop-turn.tokens (λ none. c.if-left-eq0.false (c.left.ensures ∙ none)) in
    first_of (search rules, grind (arith, common_steps))

pub loop-turn-preserved : goal.loop-turn-preserved
loop-turn-preserved c =
    let e = one_more (λ n. while_from (member c.args.limit) is_more n (map member_of c.loop-turn.found.items) c.loop-turn.tokens) _ c.loop-turn._turn c.loop-turn-test.true c.loop-turn.invariant in
    let more = pushed member_of c.loop-turn.found.items c.push.new.self.items c.in_ok-read_member.field-0 (search rules) in
    let on : is_more c.loop-turn.tokens ≡ true = is_more_some c.loop-turn.tokens (λ none. c.if-left-eq0.false (c.left.ensures ∙ none)) in
    e ∙ while_goes (member c.args.limit) is_more _ (map member_of c.loop-turn.found.items) c.loop-turn.tokens c.read_member.new.tokens (member_of c.in_ok-read_member.field-0) on c.in_ok-read_member.ensures ∙ ap (λ fs. while_from (member c.args.limit) is_more (c.left-turn-end.result - (c.loop-turn._turn + 1)) fs c.read_member.new.tokens) (sym more)
