use Rattle.cedar_types.proofs.FieldLemmas.{IfOk-sorted_by_name}
use Rattle.cedar_types.proofs.attributes.Attributes.with_attributes.Goals as goal

pub returns-clause-sorted_by_name : goal.returns-clause-sorted_by_name
returns-clause-sorted_by_name g c = IfOk-sorted_by_name c.from_entries.result
