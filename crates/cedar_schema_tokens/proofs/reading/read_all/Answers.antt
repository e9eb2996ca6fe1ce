use Rattle.std.proofs.Common.{◌≡◌, ◌==◌, false, map, [], ◌∷◌, ◌++◌, length, Ok, ap, ◌∙◌, rules, arith}
use Rattle.std.proofs.lemmas.Grind.{common_steps}
use Rattle.cedar_schema_tokens.specs.declared.token.Token as code
use Rattle.cedar_schema_tokens.specs.Token.{Token, token_of, lexeme_of}
use Rattle.cedar_schema_tokens.specs.Lexical.{tokens_from, lexeme_at, place, token_between}
use Rattle.cedar_schema_tokens.proofs.Runs.{one_more, pushed}
use Rattle.cedar_schema_tokens.proofs.Exact.{token_turn}
use Rattle.cedar_schema_tokens.proofs.reading.read_all.Goals as goal

pub loop-turn-preserved : goal.loop-turn-preserved
loop-turn-preserved c =
    let source = c.args.source in
    let total = length c.args.text.now in
    let front = c.after_gap-front.result.now in
    let behind = c.in_ok-next.behind.now in
    let t = lexeme_of c.in_ok-next.next in
    let found = map token_of c.loop-turn.found.items in
    let e = one_more (λ n. tokens_from source total n found c.loop-turn.rest.now) _ c.loop-turn._turn c.loop-turn-test.true c.loop-turn.invariant.1 in
    let some : (length front == 0) ≡ false = grind arith in
    let token : lexeme_at front ≡ Ok (t, behind) = c.in_ok-next.ensures in
    let next : code.Token = record { lexeme = c.in_ok-next.next; loc = c.place.result } in
    let more = pushed token_of c.loop-turn.found.items c.push.new.self.items next (search rules) in
    let at : c.place.result ≡ place source total (length front) (length behind) = first_of (search rules, grind (arith, common_steps)) in
    let same : map token_of c.push.new.self.items ≡ found ++ token_between source total t front behind ∷ [] = more ∙ ap (λ l. found ++ record { lexeme = t; loc = l } ∷ []) at in
    (search rules, e ∙ token_turn source total _ found _ c.loop-turn.rest.now front behind t c.after_gap-front.ensures some token same)
