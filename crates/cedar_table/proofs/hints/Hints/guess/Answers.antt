use Rattle.std.proofs.Common.{IfNone, ℕ, subst₂}
use Rattle.cedar_table.proofs.hints.Hints.guess.Goals as goal
use Rattle.cedar_table.specs.Hints.{HintLeadsTo}

pub returns-clause-lacking : goal.returns-clause-lacking
returns-clause-lacking g c = subst₂ (λ rows hash. IfNone c.place_hinted.result ((place : ℕ) → ¬ HintLeadsTo rows hash place))
    c.deref.ensures.value c.hash_of.ensures.hash c.place_hinted.ensures.lacking
