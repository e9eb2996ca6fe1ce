use Rattle.std.proofs.Common.{drop}
use Rattle.cedar_types.proofs.StatedSteps.{IsSampledLeft}
use Rattle.cedar_types.proofs.types.Type.sample_among.Given as goal
use Rattle.cedar_types.specs.Meaning.{ty_of}

abbrev pub invariant-loop-sample : goal.invariant-loop-sample
invariant-loop-sample l = IsSampledLeft l.extensions l.samples (ty_of l.self) (drop l.sample-index l.samples)
