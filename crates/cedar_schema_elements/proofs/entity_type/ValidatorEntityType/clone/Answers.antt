use Rattle.cedar_schema_elements.proofs.SetLemmas.{tied-type, types_collected}
use Rattle.cedar_schema_elements.proofs.entity_type.ValidatorEntityType.clone.Goals as goal

pub copied_in_order-requires-clause-equal : goal.copied_in_order-requires-clause-equal
copied_in_order-requires-clause-equal c item answer ran = tied-type item ran.shown.now answer ran.shows ran.says.met.0

pub returns-clause-descendants : goal.returns-clause-descendants
returns-clause-descendants c =
    let copies = c.in_ok-copied_in_order in
    types_collected copies.field-0 c.args.self.now.descendants.keys (copies.ensures.keys, copies.ensures.in_order)
