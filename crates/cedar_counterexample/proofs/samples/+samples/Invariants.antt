use Rattle.cedar_counterexample.proofs.FillingLemmas.{FillingSoFar}
use Rattle.cedar_counterexample.proofs.Sizes.{fields_size, ty_size}
use Rattle.cedar_counterexample.proofs.samples.+samples.Given as goal
use Rattle.cedar_counterexample.specs.Words.{entries_of, fields_from, fields_of, plain_attributes, ty_of}

abbrev pub decreases-fill : goal.decreases-fill
decreases-fill l = fields_size (fields_of l.attrs.now)

abbrev pub decreases-sample_of : goal.decreases-sample_of
decreases-sample_of l = ty_size (ty_of l.ty.now)

abbrev pub invariant-fill-loop-name : goal.invariant-fill-loop-name
invariant-fill-loop-name l =
    FillingSoFar l.search.extensions.now (fields_of l.attrs) (entries_of l.fn.start)
    (fields_from (plain_attributes l.name-iterator)) (entries_of l.values)
