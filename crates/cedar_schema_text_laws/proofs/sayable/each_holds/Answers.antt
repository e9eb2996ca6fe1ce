use Rattle.std.proofs.Common.{subst, sym}
use Rattle.std.specs.List.{AllByRecursion}
use Rattle.cedar_schema_text_laws.proofs.sayable.each_holds.Goals as goal

pub loop-key-preserved : goal.loop-key-preserved
loop-key-preserved g c = λ rest.
    c.loop-key.invariant (subst (AllByRecursion (λ entry. g.T.Declared.Holds entry.1)) (sym c.in-Some.ensures.steps) (c.holds.ensures, rest))

pub returns-clause-each : goal.returns-clause-each
returns-clause-each g c =
    c.loop-key.invariant (subst (AllByRecursion (λ entry. g.T.Declared.Holds entry.1)) (sym c.in-None.ensures.steps.0) tt)
