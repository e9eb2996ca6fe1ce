use Rattle.cedar_json.proofs.TypeLemmas.{type_of-with}
use Rattle.cedar_json.proofs.type_reading.TypeRawNameFromJson.read.Goals as goal

pub returns : goal.returns
returns c = rw type_of-with c.read_type_of.ensures
