use Rattle.std.proofs.Common.{◌≡◌, ◌≢◌, ◌∙◌, ◌+◌, ◌-◌, ◌<◌, ◌≤◌, ◌==◌, true, false, List, [], ◌∷◌, ◌++◌, ℕ, length, map, refl, sym, ap, subst, rules, arith, eqb-true}
use Rattle.std.proofs.lemmas.Result.{err_from_is_err_and}
use Rattle.cedar_schema_tokens.specs.declared.spelled.Spelled as code
use Rattle.cedar_schema_tokens.specs.declared.fault.Stop.TheVariants.{Memory}
use Rattle.cedar_schema_tokens.specs.Spelled.{HasNone, IsFront, after_blanks, spelled_of}
use Rattle.cedar_schema_tokens.proofs.Blanks.{blanks_nothing, blanks_shorter}
use Rattle.cedar_schema_tokens.proofs.Runs.{pushed}
use Rattle.cedar_schema_tokens.proofs.Spellings.{front_cut, front_shorter, front_taken, keeps_all, keeps_on, Leads, leads_all, leads_none, leads_on, stops_not}
use Rattle.cedar_schema_tokens.proofs.spelled.read_all.Goals as goal

none_left : (all : List ℕ) → (length all == 0) ≡ true → all ≡ []
none_left [] e = refl
none_left (x ∷ xs) e = absurd (omega (arith, eqb-true _ _ e))

some_left : (all : List ℕ) → (length all == 0) ≡ false → all ≢ []
some_left [] e same = absurd cc
some_left (x ∷ xs) e same = cc

pub loop-turn-init : goal.loop-turn-init
loop-turn-init c =
    let text = c.args.text.now in
    let none : map spelled_of c.new-found.result.items ≡ [] = ap (map spelled_of) c.new-found.ensures.items in
    (c.utf8.text, omega arith, subst (λ some. Leads some text text) (sym none) (leads_none text), keeps_all text)

pub returns-then-is_empty-clause-found : goal.returns-then-is_empty-clause-found
returns-then-is_empty-clause-found c =
    let front = c.after_blanks-lines.result.1.now in
    let none : front ≡ [] = none_left front (sym c.is_empty.ensures ∙ c.if-is_empty.true) in
    leads_all (map spelled_of c.loop-turn.found.items) c.args.text.now c.loop-turn.rest.now c.loop-turn.invariant.2
    (sym c.after_blanks-lines.ensures ∙ none)

pub returns-in_err-kind-clause-stop : goal.returns-in_err-kind-clause-stop
returns-in_err-kind-clause-stop c =
    let front = c.after_blanks-lines.result.1.now in
    let some : front ≢ [] = some_left front (sym c.is_empty.ensures ∙ c.if-is_empty.false) in
    let stop = c.in_err-kind.field-0.0 in
    let none : stop ≢ Memory → HasNone c.args.text.now = λ other.
    let here = c.in_err-kind.ensures other in
    stops_not c.args.text.now c.loop-turn.rest.now front stop c.loop-turn.invariant.3 c.after_blanks-lines.ensures some here.0 here.1 in
    let p = err_from_is_err_and c.from_residual.result c.from_residual.ensures.1 in
    rw (p.1, p.2) none

pub split_at-requires : goal.split_at-requires
split_at-requires c =
    front_cut c.after_blanks-lines.result.1.now c.in_ok-kind.next.now c.in_ok-kind.kind c.in_ok-kind.ensures (search rules)

pub loop-turn-preserved : goal.loop-turn-preserved
loop-turn-preserved c =
    let text = c.args.text.now in
    let behind = c.loop-turn.rest.now in
    let front = c.after_blanks-lines.result.1.now in
    let next = c.in_ok-kind.next.now in
    let some : front ≢ [] = some_left front (sym c.is_empty.ensures ∙ c.if-is_empty.false) in
    let here : IsFront front c.in_ok-kind.kind next = c.in_ok-kind.ensures in
    let it : code.Spelled = record { kind = c.in_ok-kind.kind; text = c.split_at.result.0; lines = c.after_blanks-lines.result.0 } in
    let bytes : it.text.now ≡ here.0 = c.split_at.ensures.front ∙ front_taken front next c.in_ok-kind.kind here in
    let more : map spelled_of c.push.new.self.items ≡ map spelled_of c.loop-turn.found.items ++ spelled_of it ∷ [] =
    pushed spelled_of c.loop-turn.found.items c.push.new.self.items it (search rules) in
    let short : length next + (c.loop-turn._turn + 1) ≤ length text =
    omega (arith, c.loop-turn.invariant.1, front_shorter front next c.in_ok-kind.kind here, blanks_shorter behind, ap length c.after_blanks-lines.ensures) in (
      search rules,
      short,
      leads_on (map spelled_of c.loop-turn.found.items) (map spelled_of c.push.new.self.items) text behind front next (spelled_of it)
          c.loop-turn.invariant.2 c.after_blanks-lines.ensures here bytes more,
      keeps_on text behind front next c.in_ok-kind.kind c.loop-turn.invariant.3 c.after_blanks-lines.ensures some here,
    )

pub returns-clause-found : goal.returns-clause-found
returns-clause-found c =
    let rest = c.loop-turn.rest.now in
    let none : length rest ≡ 0 = omega (arith, c.loop-turn.invariant.1, c.loop-turn-test.false) in
    let empty : rest ≡ [] = none_left rest (ap (λ n. n == 0) none) in
    leads_all (map spelled_of c.loop-turn.found.items) c.args.text.now rest c.loop-turn.invariant.2 (ap after_blanks empty ∙ blanks_nothing)
