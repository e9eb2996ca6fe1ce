use Rattle.std.proofs.Common.{refl}
use Rattle.cedar_counterexample.proofs.BetweenLemmas.{kept_between, lost_between}
use Rattle.cedar_counterexample.proofs.between.naming_between.Goals as goal
use Rattle.cedar_counterexample.specs.Words.{naming_of, tree_of, ty_of, value_tree}

-- what names a uid that isn't kept is exchanged
pub returns-in_ok-value-in-Some : goal.returns-in_ok-value-in-Some
returns-in_ok-value-in-Some g c =
    let found = rw c.in-Some.is at c.in_ok-found.ensures in
    rw c.turned-steps.ensures
    (lost_between c.args.search.now.extensions.now (g.S.Scope.ExistsInOld c.args.scope.now) (g.S.Scope.ExistsInNew c.args.scope.now) 0
    (tree_of c.in-Some.field-0.found.expr) (value_tree c.in_ok-value-in-Some.value) c.in_ok-value-in-Some.ensures (ty_of c.args.a.now) (ty_of c.args.b.now)
    (naming_of c.in-Some.field-0) refl c.requires.uids c.requires.included found)

-- where the ids are kept, each value is
pub returns-in-None : goal.returns-in-None
returns-in-None g c =
    let found = rw c.in-None.is at c.in_ok-found.ensures in
    kept_between c.args.search.now.extensions.now (g.S.Scope.ExistsInOld c.args.scope.now) (g.S.Scope.ExistsInNew c.args.scope.now)
    (ty_of c.args.a.now) (ty_of c.args.b.now) c.requires.included found
