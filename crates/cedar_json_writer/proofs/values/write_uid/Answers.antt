use Rattle.std.proofs.Common.{List, ℕ, Some, codes, subst, ◌∙◌}
use Rattle.cedar_ast.proofs.Basics.{OnOk-map}
use Rattle.cedar_json_writer.proofs.WrittenValues.{uid_fields_added}
use Rattle.cedar_json_writer.proofs.values.write_uid.Goals as goal
use Rattle.cedar_json_writer.specs.Words.{AddsField, PlainName, name_text, uid_of}
use Rattle.json.specs.Json.{string}

pub returns : goal.returns
returns c =
    let first = subst (λ (n : PlainName). AddsField c.token.new.self c.write_name_field.new.out (codes "type") (Some (string (name_text n))))
    (c.as_internal.ensures.name ∙ c.name.ensures.name ∙ c.entity_type.ensures.name) c.in_ok-write_name_field.ensures in
    let second = subst (λ (text : List ℕ). AddsField c.write_name_field.new.out c.write_text_field.new.out (codes "id") (Some (string text)))
    (c.as_str.ensures ∙ c.eid.ensures) c.in_ok-write_text_field.ensures in
    OnOk-map c.token-2.result c.token-2.ensures.ok (λ ended. uid_fields_added c.args.out.now c.token.new.self c.write_name_field.new.out c.write_text_field.new.out c.token-2.new.self (uid_of c.args.uid.now)
    c.in_ok-token.ensures.ok first second ended)
