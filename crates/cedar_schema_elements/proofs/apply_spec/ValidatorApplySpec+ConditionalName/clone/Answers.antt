use Rattle.cedar_schema_elements.proofs.SetLemmas.{equal-reference, SameItems-references}
use Rattle.cedar_schema_elements.proofs.apply_spec.ValidatorApplySpec+ConditionalName.clone.Goals as goal

pub copied-requires-clause-equal : goal.copied-requires-clause-equal
copied-requires-clause-equal c item answer ran =
    equal-reference item ran.shown.now answer ran.shows ran.says.met.0 ran.says.met.1.1

pub copied-requires-2-clause-equal : goal.copied-requires-2-clause-equal
copied-requires-2-clause-equal c item answer ran =
    equal-reference item ran.shown.now answer ran.shows ran.says.met.0 ran.says.met.1.1

pub returns-clause-principals : goal.returns-clause-principals
returns-clause-principals c =
    SameItems-references c.in_ok-copied.field-0.keys c.args.self.now.principals.keys c.in_ok-copied.ensures

pub returns-clause-resources : goal.returns-clause-resources
returns-clause-resources c =
    SameItems-references c.in_ok-copied-2.field-0.keys c.args.self.now.resources.keys c.in_ok-copied-2.ensures
