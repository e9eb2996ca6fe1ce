use Rattle.std.proofs.Common.{rules}
use Rattle.cedar_json.proofs.NumberLemmas.{long_true}
use Rattle.cedar_json_writer.proofs.values.write_number.Goals as goal
use Rattle.json.proofs.Printed.Decimals.{IsNumber-signed_decimal}

pub token-requires : goal.token-requires
token-requires c = search (rules, IsNumber-signed_decimal)

pub returns : goal.returns
returns c = record { written = search rules; fits = search (rules, long_true); fault = tt }
