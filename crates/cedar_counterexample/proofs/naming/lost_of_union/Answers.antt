use Rattle.std.proofs.Common.{inl, refl, subst, sym, Contains}
use Rattle.cedar_ast.proofs.Lists.{Contains-cons}
use Rattle.cedar_counterexample.proofs.NamingLemmas.{none_left, uids_kept, uids_next, uids_start}
use Rattle.cedar_counterexample.proofs.naming.lost_of_union.Goals as goal
use Rattle.cedar_counterexample.specs.Words.{lub_names, type_name}

-- at first all entity types are left
pub loop-ty-init : goal.loop-ty-init
loop-ty-init g c =
    let Old = g.S.Scope.ExistsInOld c.args.scope.now in
    let New = g.S.Scope.ExistsInNew c.args.scope.now in
    rw (c.into_iter-ty-iterator.ensures.into_iter_gives, c.iter-ty-items.ensures.names) (uids_start Old New (lub_names c.args.lub.now))

-- a uid of an entity type of the union is of the union
pub returns-in-Some-lost_of-clause-of : goal.returns-in-Some-lost_of-clause-of
returns-in-Some-lost_of-clause-of g c =
    let name = type_name c.in-Some.ty.now in
    let so_far = rw c.in-Some.ensures.steps at c.loop-ty.invariant in
    let lost = c.in-Some-lost_of.ensures.some in
    subst (Contains (lub_names c.args.lub.now)) (sym lost.0) (so_far.within name (Contains-cons name _ name (inl refl)))

-- past one whose ids are kept the others decide
pub loop-ty-preserved : goal.loop-ty-preserved
loop-ty-preserved g c =
    let Old = g.S.Scope.ExistsInOld c.args.scope.now in
    let New = g.S.Scope.ExistsInNew c.args.scope.now in
    uids_next Old New (lub_names c.args.lub.now) (type_name c.in-Some.ty.now) _ (rw c.in-Some.ensures.steps at c.loop-ty.invariant)
    (c.lost_of.ensures.none c.in_default.is)

-- where none is left, all ids are kept
pub returns-clause-none : goal.returns-clause-none
returns-clause-none g c =
    let Old = g.S.Scope.ExistsInOld c.args.scope.now in
    let New = g.S.Scope.ExistsInNew c.args.scope.now in
    λ _. uids_kept Old New (lub_names c.args.lub.now) _ (none_left type_name _ c.in-None.ensures.steps.0) c.loop-ty.invariant
