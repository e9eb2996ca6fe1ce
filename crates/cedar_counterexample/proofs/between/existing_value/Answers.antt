use Rattle.std.proofs.lemmas.Result.{IfOk-weaker}
use Rattle.cedar_counterexample.proofs.BetweenLemmas.{existing_has, existing_only, existing_real}
use Rattle.cedar_counterexample.proofs.between.existing_value.Goals as goal
use Rattle.cedar_counterexample.specs.Words.{Has, IsValue, NamesOnly, ty_of, value_tree}

-- the sample is exchanged for a real value
pub returns-clause-real : goal.returns-clause-real
returns-clause-real g c =
    let Old = g.S.Scope.ExistsInOld c.args.scope.now in
    IfOk-weaker c.existing.result _ (λ value. IsValue (value_tree value))
    (λ value is. existing_real c.args.extensions.now Old Old 0 (value_tree c.in_ok-sample.sample) (value_tree value) (rw c.expr.ensures at is)
    c.in_ok-sample.ensures.real) c.existing.ensures

-- of the type
pub returns-clause-has : goal.returns-clause-has
returns-clause-has g c =
    let Old = g.S.Scope.ExistsInOld c.args.scope.now in
    IfOk-weaker c.existing.result _ (λ value. Has c.args.extensions.now (value_tree value) (ty_of c.args.ty.now))
    (λ value is. existing_has c.args.extensions.now Old Old 0 (value_tree c.in_ok-sample.sample) (value_tree value) (rw c.expr.ensures at is)
    (ty_of c.args.ty.now) c.requires.uids c.in_ok-sample.ensures.has) c.existing.ensures

-- which names what exists
pub returns-clause-exists : goal.returns-clause-exists
returns-clause-exists g c =
    let Old = g.S.Scope.ExistsInOld c.args.scope.now in
    IfOk-weaker c.existing.result _ (λ value. NamesOnly Old (value_tree value))
    (λ value is. existing_only c.args.extensions.now Old Old 0 (value_tree c.in_ok-sample.sample) (value_tree value) (rw c.expr.ensures at is))
    c.existing.ensures
