use Rattle.cedar_schema_elements.proofs.SetLemmas.{equal-type, SameItems-types}
use Rattle.cedar_schema_elements.proofs.apply_spec.ValidatorApplySpec+EntityType.clone.Goals as goal

pub copied-requires-clause-equal : goal.copied-requires-clause-equal
copied-requires-clause-equal c item answer ran = equal-type item ran.shown.now answer ran.shows ran.says.met.0

pub copied-requires-2-clause-equal : goal.copied-requires-2-clause-equal
copied-requires-2-clause-equal c item answer ran = equal-type item ran.shown.now answer ran.shows ran.says.met.0

pub returns-clause-principals : goal.returns-clause-principals
returns-clause-principals c =
    SameItems-types c.in_ok-copied.field-0.keys c.args.self.now.principals.keys c.in_ok-copied.ensures

pub returns-clause-resources : goal.returns-clause-resources
returns-clause-resources c =
    SameItems-types c.in_ok-copied-2.field-0.keys c.args.self.now.resources.keys c.in_ok-copied-2.ensures
