use Rattle.std.proofs.Common.{Some, codes, subst}
use Rattle.cedar_json_writer.proofs.WrittenTypes.{common_fields, common_flaw, common_free}
use Rattle.cedar_json_writer.proofs.types.write_common.Goals as goal
use Rattle.cedar_json_writer.specs.Words.{AddsField, PlainName, name_text}
use Rattle.json.specs.Json.{string}

pub returns-in-Some-clause-checked : goal.returns-in-Some-clause-checked
returns-in-Some-clause-checked c = common_flaw c.args.name.now c.in-Some.word.now c.in-Some.ensures.0 c.in-Some.ensures.1

pub returns-clause-written : goal.returns-clause-written
returns-clause-written c =
    common_fields c.args.out.now c.write_name_field.new.out c.args.name.now
    (subst (λ (n : PlainName). AddsField c.args.out.now c.write_name_field.new.out (codes "type") (Some (string (name_text n))))
    c.as_internal.ensures.name c.in_ok-write_name_field.ensures)

pub returns-clause-checked : goal.returns-clause-checked
returns-clause-checked c = common_free c.args.name.now c.in_default.ensures
