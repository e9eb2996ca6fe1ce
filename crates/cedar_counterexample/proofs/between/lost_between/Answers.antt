use Rattle.cedar_counterexample.proofs.BetweenLemmas.{kept_all}
use Rattle.cedar_counterexample.proofs.between.lost_between.Goals as goal
use Rattle.cedar_counterexample.specs.Words.{ty_of}

-- where no uid is lost, each value is kept
pub returns-in-None : goal.returns-in-None
returns-in-None g c =
    kept_all c.args.search.now.extensions.now (g.S.Scope.ExistsInOld c.args.scope.now) (g.S.Scope.ExistsInNew c.args.scope.now)
    (ty_of c.args.a.now) (ty_of c.args.b.now) c.requires.included (c.lost.ensures.none c.in-None.is)
