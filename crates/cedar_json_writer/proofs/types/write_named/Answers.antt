use Rattle.std.proofs.Common.{Some, codes, subst}
use Rattle.cedar_json_writer.proofs.WritingLemmas.{fields_after}
use Rattle.cedar_json_writer.proofs.types.write_named.Goals as goal
use Rattle.cedar_json_writer.specs.Words.{AddsField, PlainName, name_text, optional_member, raw_name}
use Rattle.json.specs.Json.{string}

pub returns-clause-written : goal.returns-clause-written
returns-clause-written c =
    fields_after c.args.out.now c.write_text_field.new.out c.write_name_field.new.out
    (optional_member (codes "type") (Some (string c.args.word.now)))
    (optional_member (codes "name") (Some (string (name_text (raw_name c.args.name.now)))))
    c.in_ok-write_text_field.ensures
    (subst (λ (n : PlainName). AddsField c.write_text_field.new.out c.write_name_field.new.out (codes "name") (Some (string (name_text n))))
    c.as_internal.ensures.name c.in_ok-write_name_field.ensures)
