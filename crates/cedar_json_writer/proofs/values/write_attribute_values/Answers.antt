use Rattle.std.proofs.Common.{OnOk, Some, subst}
use Rattle.cedar_json_writer.proofs.WritingLemmas.{checked_as}
use Rattle.cedar_json_writer.proofs.WrittenPairs.{keyed-members, keyed_values_flaw, keyed_values_free}
use Rattle.cedar_json_writer.proofs.values.write_attribute_values.Goals as goal
use Rattle.cedar_json_writer.specs.Words.{AddsField, written_pairs}
use Rattle.json.specs.Json.{Members, object}

pub returns-clause-written : goal.returns-clause-written
returns-clause-written c =
    subst (λ (members : Members). OnOk c.write_field.result (AddsField c.args.out.now c.write_field.new.out c.args.field.now (Some (object members))))
    (keyed-members (written_pairs c.args.values.now)) c.write_field.ensures.written

pub returns-clause-checked : goal.returns-clause-checked
returns-clause-checked c =
    let pairs = written_pairs c.args.values.now in
    checked_as c.write_field.result c.write_field.ensures.checked (keyed_values_free pairs) (keyed_values_flaw pairs)
