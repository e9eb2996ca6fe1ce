use Rattle.std.proofs.Common.{drop}
use Rattle.cedar_types.proofs.+sampled.Given as goal
use Rattle.cedar_types.proofs.StatedSteps.{TellsLeft}
use Rattle.cedar_types.specs.Words.{AreInhabitedWith, value_trees}

abbrev pub invariant-stated::are_sampled-loop-attribute : goal.invariant-stated::are_sampled-loop-attribute
invariant-stated::are_sampled-loop-attribute l =
    TellsLeft (AreInhabitedWith l.extensions (value_trees l.samples)) l.attrs (drop l.attribute-index l.attribute-items)
