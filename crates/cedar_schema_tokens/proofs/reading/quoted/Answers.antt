use Rattle.std.proofs.Common.{◌≡◌, ℕ, ◌==◌, true, false, None, Some, Err, ◌++◌, length, string_bytes, sym, ap, ap₂, ◌+◌, ◌-◌, ◌∙◌, rules, arith}
use Rattle.std.proofs.lemmas.Grind.{common_steps}
use Rattle.std.specs.Char.{encode_utf8}
use Rattle.cedar_schema_tokens.specs.Lexical.{quoted, quoted_from, first, escape}
use Rattle.cedar_schema_tokens.proofs.Runs.{one_more, other_byte}
use Rattle.cedar_schema_tokens.proofs.Quoted.{given, turn_closes, turn_goes, turn_stops}
use Rattle.cedar_schema_tokens.proofs.reading.quoted.Goals as goal

pub turn-init : goal.turn-init
unfolding quoted
turn-init c = (search rules, grind (arith, common_steps))

pub returns-then-first-eq34 : goal.returns-then-first-eq34
returns-then-first-eq34 c =
    let e = one_more (λ n. quoted_from (length c.args.s.now) n (string_bytes c.turn.found) c.turn.rest.now) _ c.turn._turn c.turn-test.true c.turn.invariant.1 in
    let front = c.split_run.result.0.now in
    let back = c.split_run.result.1.now in
    let closes : (first back == 34) ≡ true = ap (λ b. b == 34) (sym c.first.ensures ∙ c.if-first-eq34.true) in
    let turn = turn_closes (length c.args.s.now) _ (string_bytes c.turn.found) c.turn.rest.now front back c.split_run.ensures closes in
    e ∙ turn ∙ ap₂ (λ f r. given f r) (search rules) (search rules)

pub returns-in-None : goal.returns-in-None
returns-in-None c other =
    let e = one_more (λ n. quoted_from (length c.args.s.now) n (string_bytes c.turn.found) c.turn.rest.now) _ c.turn._turn c.turn-test.true c.turn.invariant.1 in
    let front = c.split_run.result.0.now in
    let back = c.split_run.result.1.now in
    let open_still : (first back == 34) ≡ false = other_byte (first back) 34 (λ is. c.if-first-eq34.false (c.first.ensures ∙ is)) in
    let none : escape back ≡ None = sym c.in-None.ensures in
    e ∙ turn_stops (length c.args.s.now) _ (string_bytes c.turn.found) c.turn.rest.now front back c.split_run.ensures open_still none ∙ ap Err (search rules)

pub turn-preserved : goal.turn-preserved
turn-preserved c =
    let e = one_more (λ n. quoted_from (length c.args.s.now) n (string_bytes c.turn.found) c.turn.rest.now) _ c.turn._turn c.turn-test.true c.turn.invariant.1 in
    let front = c.split_run.result.0.now in
    let back = c.split_run.result.1.now in
    let open_still : (first back == 34) ≡ false = other_byte (first back) 34 (λ is. c.if-first-eq34.false (c.first.ensures ∙ is)) in
    let some : escape back ≡ Some (c.in-Some.c, c.in-Some.next.now) = sym c.in-Some.ensures in
    let turn = turn_goes (length c.args.s.now) _ c.in-Some.c (string_bytes c.turn.found) c.turn.rest.now front back c.in-Some.next.now c.split_run.ensures open_still some in
    let bytes : string_bytes c.push.new.self ≡ (string_bytes c.turn.found ++ front) ++ encode_utf8 c.in-Some.c = first_of (search rules, grind (arith, common_steps)) in
    (search rules, e ∙ turn ∙ ap (λ f. quoted_from (length c.args.s.now) (length c.args.s.now - (c.turn._turn + 1)) f c.in-Some.next.now) (sym bytes))
