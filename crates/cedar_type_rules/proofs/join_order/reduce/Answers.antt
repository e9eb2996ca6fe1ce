use Rattle.std.proofs.Common.{◌+◌, List, drop, Ok}
use Rattle.std.proofs.Math.ListN.{drop_of_length-le}
use Rattle.std.proofs.lemmas.Result.{err_from_is_err_and}
use Rattle.cedar_ast.proofs.TreeLemmas.{drop-at}
use Rattle.cedar_type_rules.proofs.FoldsOfJoins.{JoinedSoFar, JoinLaws, joined-first, joined-next, joined-refused, joined-last, joined_is_least, IsGivenOrMemory-of}
use Rattle.cedar_type_rules.proofs.join_order.reduce.Given.{Over}
use Rattle.cedar_type_rules.proofs.join_order.reduce.Goals as goal
use Rattle.cedar_type_rules.specs.Words.{IsFoldOfJoins, ValidationMode}

-- what the trait says of joins
laws_of : (g : Over) (mode : ValidationMode)
    → JoinLaws (g.T.JoinOrder.below mode) g.T.JoinOrder.is_clean (g.T.JoinOrder.join mode)
laws_of g mode = record {
  itself = g.met.T.JoinOrder.below_itself mode;
  onwards = g.met.T.JoinOrder.below_onwards mode;
  above = g.met.T.JoinOrder.join_is_above mode;
  least = g.met.T.JoinOrder.join_is_least mode;
  clean = g.met.T.JoinOrder.join_is_clean mode;
  refused = g.met.T.JoinOrder.refused_has_none mode;
}

pub loop-item-init : goal.loop-item-init
loop-item-init g c = joined-first (g.T.JoinOrder.join c.args.mode) c.args.start c.args.items.now

pub loop-item-preserved : goal.loop-item-preserved
loop-item-preserved g c =
    let R = g.T.JoinOrder.join c.args.mode in
    let all = c.args.items.now in
    let P = λ (left : List g.row.T.Denot). JoinedSoFar R c.args.start all left c.loop-item.join in
    let so_far = rw (drop-at _ c.loop-item.item-index c.item-item.result c.loop-item-test.true c.item-item.is) at c.loop-item.invariant in
    joined-next R c.args.start all (drop (c.loop-item.item-index + 1) all) c.item-item.result c.loop-item.join c.in_ok-join.join so_far
    c.in_ok-join.ensures

pub returns-in_err-join-clause-pairwise : goal.returns-in_err-join-clause-pairwise
returns-in_err-join-clause-pairwise g c =
    let R = g.T.JoinOrder.join c.args.mode in
    let all = c.args.items.now in
    let P = λ (left : List g.row.T.Denot). JoinedSoFar R c.args.start all left c.loop-item.join in
    let so_far = rw (drop-at _ c.loop-item.item-index c.item-item.result c.loop-item-test.true c.item-item.is) at c.loop-item.invariant in
    let p = err_from_is_err_and c.from_residual.result c.from_residual.ensures.1 in
    rw (p.1, p.2)
    (joined-refused R c.args.start all (drop (c.loop-item.item-index + 1) all) c.item-item.result c.loop-item.join
    c.in_err-join.field-0.0 so_far c.in_err-join.ensures)

pub returns-in_err-join-clause-of_clean : goal.returns-in_err-join-clause-of_clean
returns-in_err-join-clause-of_clean g c clean all =
    let T = g.T.JoinOrder in
    let mode = c.args.mode in
    IsGivenOrMemory-of (IsFoldOfJoins (T.join mode) c.args.start c.args.items.now) _ c.from_residual.result
    (λ answer. joined_is_least (T.below mode) T.is_clean (T.join mode) (laws_of g mode) c.args.start c.args.items.now answer clean all)
    (returns-in_err-join-clause-pairwise g c)

pub returns-clause-pairwise : goal.returns-clause-pairwise
returns-clause-pairwise g c =
    let R = g.T.JoinOrder.join c.args.mode in
    let all = c.args.items.now in
    let P = λ (left : List g.row.T.Denot). JoinedSoFar R c.args.start all left c.loop-item.join in
    joined-last R c.args.start all c.loop-item.join (rw (drop_of_length-le all c.loop-item-test.false) at c.loop-item.invariant)

pub returns-clause-of_clean : goal.returns-clause-of_clean
returns-clause-of_clean g c clean all =
    let T = g.T.JoinOrder in
    let mode = c.args.mode in
    joined_is_least (T.below mode) T.is_clean (T.join mode) (laws_of g mode) c.args.start c.args.items.now (Ok c.loop-item.join) clean all
    (returns-clause-pairwise g c)
