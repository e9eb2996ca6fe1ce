use Rattle.cedar_schema_laws.proofs.NamesConvertedBack.{converted_names_are_named_again}
use Rattle.cedar_schema_laws.proofs.theorems.converted_names_are_named_again.Goals as goal

pub returns : goal.returns
returns c = converted_names_are_named_again
