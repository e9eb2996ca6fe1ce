use Rattle.std.proofs.Common.{◌≡◌, ◌↔◌, None}
use Rattle.std.proofs.lemmas.Result.{IfOk-weaker}
use Rattle.cedar_counterexample.proofs.BetweenLemmas.{between_none, separating_between}
use Rattle.cedar_counterexample.proofs.between.outside_between.Goals as goal
use Rattle.cedar_counterexample.specs.Words.{ValuesKept, between_of, steps_of, ty_of, value_tree}

-- what separates the types is exchanged
pub returns-in_ok-value-in-Some-clause-some : goal.returns-in_ok-value-in-Some-clause-some
returns-in_ok-value-in-Some-clause-some g c =
    let found = c.in_ok-value.ensures in
    separating_between c.args.extensions.now (g.S.Scope.ExistsInOld c.args.scope.now) (g.S.Scope.ExistsInNew c.args.scope.now) c.longest_in.result
    (value_tree c.in-Some.field-0.value) (value_tree c.in_ok-value-in-Some.value) (rw c.expr.ensures at c.in_ok-value-in-Some.ensures)
    (ty_of c.args.a.now) (ty_of c.args.b.now) (steps_of c.in-Some.field-0.steps) c.requires.uids c.longest_in.ensures
    ((rw c.in-Some.is at found.real, rw c.in-Some.is at found.has), rw c.in-Some.is at found.lacks) (rw c.in-Some.is at found.steps)

-- so not each value is kept
pub returns-in_ok-value-in-Some-clause-none : goal.returns-in_ok-value-in-Some-clause-none
returns-in_ok-value-in-Some-clause-none g c =
    let found = c.in_ok-value.ensures in
    let it = separating_between c.args.extensions.now (g.S.Scope.ExistsInOld c.args.scope.now) (g.S.Scope.ExistsInNew c.args.scope.now)
    c.longest_in.result (value_tree c.in-Some.field-0.value) (value_tree c.in_ok-value-in-Some.value) (rw c.expr.ensures at c.in_ok-value-in-Some.ensures)
    (ty_of c.args.a.now) (ty_of c.args.b.now) (steps_of c.in-Some.field-0.steps) c.requires.uids c.longest_in.ensures
    ((rw c.in-Some.is at found.real, rw c.in-Some.is at found.has), rw c.in-Some.is at found.lacks) (rw c.in-Some.is at found.steps) in
    (λ wrong. absurd cc, λ kept. absurd (it.lacks (kept (value_tree c.in_ok-value-in-Some.value) it.real it.has it.exists)))

-- where the values are included the ids decide
pub returns-in-None-clause-none : goal.returns-in-None-clause-none
returns-in-None-clause-none g c =
    let Old = g.S.Scope.ExistsInOld c.args.scope.now in
    let New = g.S.Scope.ExistsInNew c.args.scope.now in
    let a = ty_of c.args.a.now in
    let b = ty_of c.args.b.now in
    IfOk-weaker c.lost_between.result _ (λ found. (found ≡ None) ↔ ValuesKept c.args.extensions.now Old New a b)
    (λ found answer. between_none between_of c.args.extensions.now Old New a b found answer) c.lost_between.ensures
