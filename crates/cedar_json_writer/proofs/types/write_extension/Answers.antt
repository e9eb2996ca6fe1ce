use Rattle.std.proofs.Common.{List, ℕ, Some, codes, subst}
use Rattle.cedar_json_writer.proofs.WritingLemmas.{fields_after}
use Rattle.cedar_json_writer.proofs.WrittenTypes.{extension_fields}
use Rattle.cedar_json_writer.proofs.types.write_extension.Goals as goal
use Rattle.cedar_json_writer.specs.Words.{AddsField, optional_member, unreserved_id_text}
use Rattle.json.specs.Json.{string}

pub returns-clause-written : goal.returns-clause-written
returns-clause-written c =
    extension_fields c.args.out.now c.write_text_field-2.new.out (unreserved_id_text c.args.name.now)
    (fields_after c.args.out.now c.write_text_field.new.out c.write_text_field-2.new.out
    (optional_member (codes "type") (Some (string (codes "Extension"))))
    (optional_member (codes "name") (Some (string (unreserved_id_text c.args.name.now))))
    c.in_ok-write_text_field.ensures
    (subst (λ (text : List ℕ). AddsField c.write_text_field.new.out c.write_text_field-2.new.out (codes "name") (Some (string text)))
    c.as_str.ensures c.in_ok-write_text_field-2.ensures))
