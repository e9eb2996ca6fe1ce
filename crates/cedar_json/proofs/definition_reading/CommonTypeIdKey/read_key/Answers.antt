use Rattle.cedar_json.proofs.NameLemmas.{common_key-read}
use Rattle.cedar_json.proofs.definition_reading.CommonTypeIdKey.read_key.Goals as goal

pub returns-in-Ok : goal.returns-in-Ok
returns-in-Ok c = common_key-read c.in-Ok.id c.args.key.now c.in-Ok.ensures.id
