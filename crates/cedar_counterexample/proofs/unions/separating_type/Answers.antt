use Rattle.cedar_ast.specs.EntityType.{type_name}
use Rattle.cedar_counterexample.proofs.NameLists.{included_here, included_next}
use Rattle.cedar_counterexample.proofs.unions.separating_type.Goals as goal

pub returns-then-not-contains-clause-has : goal.returns-then-not-contains-clause-has
returns-then-not-contains-clause-has c =
    included_here _ _ (type_name c.in-Some.ty.now) _ (rw c.in-Some.ensures.steps at c.loop-ty.invariant)

pub loop-ty-preserved : goal.loop-ty-preserved
loop-ty-preserved c =
    included_next _ _ (type_name c.in-Some.ty.now) _ (rw c.in-Some.ensures.steps at c.loop-ty.invariant)
    (c.contains.ensures.0 c.if-not-contains.false)
