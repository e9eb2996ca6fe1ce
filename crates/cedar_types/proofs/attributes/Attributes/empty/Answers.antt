use Rattle.cedar_types.proofs.FieldLemmas.{IfOk-none}
use Rattle.cedar_types.proofs.attributes.Attributes.empty.Goals as goal

pub returns : goal.returns
returns c = IfOk-none c.new.result.items c.from_entries.result c.new.ensures.items c.from_entries.ensures.attributes
