use Rattle.cedar_schema.proofs.building.build.Given as goal
use Rattle.cedar_schema.specs.Words.{AreCollectedFragments}

abbrev pub invariant-loop-fragment : goal.invariant-loop-fragment
invariant-loop-fragment g l = AreCollectedFragments g.row.N.Denot g.N.WrittenName.refer l.yielded l.taken
