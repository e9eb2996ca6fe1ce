use Rattle.std.proofs.Common.{subst}
use Rattle.std.proofs.lemmas.Bool.{both_ways}
use Rattle.cedar_table.proofs.HintLemmas.{leads_once, not_there}
use Rattle.cedar_table.proofs.search.hinted_place.Goals as goal
use Rattle.cedar_table.specs.StandsAt.{KeyStandsAt}

pub returns-in_default-clause-lacking : goal.returns-in_default-clause-lacking
returns-in_default-clause-lacking g c = λ complete.
    not_there g.K.PartialEq.eq g.K.Ord.cmp g.K.QuickHash.quick_input g.met.K.Ord.matches_eq c.args.hints.now
    c.args.keys.now c.requires complete c.args.key.now c.guess.ensures.alike
    (λ place leads stands. c.in_default.ensures.lacking place leads)

pub returns-else-stands_at-clause-lacking : goal.returns-else-stands_at-clause-lacking
returns-else-stands_at-clause-lacking g c = λ complete.
    let cmp = g.K.Ord.cmp in
    let keys = c.args.keys.now in
    let key = c.args.key.now in
    not_there g.K.PartialEq.eq cmp g.K.QuickHash.quick_input g.met.K.Ord.matches_eq c.args.hints.now
    keys c.requires complete key c.guess.ensures.alike
    (λ place leads stands.
    let same = leads_once c.args.hints.now.rows.items _ place c.in-Some.place leads c.in-Some.ensures.found in
    both_ways c.stands_at.result c.if-stands_at.false (c.stands_at.ensures.1 (subst (KeyStandsAt cmp keys key) same stands)))
