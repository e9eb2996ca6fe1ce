use Rattle.cedar_ast.proofs.Basics.{OnOk-map}
use Rattle.cedar_json_writer.proofs.WritingLemmas.{flawless_checked}
use Rattle.cedar_json_writer.proofs.WrittenEntityData.{request_added}
use Rattle.cedar_json_writer.proofs.request_text.write_request.Goals as goal
use Rattle.cedar_json_writer.specs.Words.{pairs_document, pairs_flaws, uid_of, uid_text, written_pairs}
use Rattle.json.specs.Json.{string}

pub returns-clause-written : goal.returns-clause-written
returns-clause-written c =
    OnOk-map c.close_object.result c.close_object.ensures.written (λ ended. request_added c.args.out.now c.token.new.self c.write_uid_field.new.out c.write_uid_field-2.new.out c.write_uid_field-3.new.out
    c.write_attribute_values.new.out c.close_object.new.out (string (uid_text (uid_of c.args.principal.now)))
    (string (uid_text (uid_of c.args.action.now))) (string (uid_text (uid_of c.args.resource.now)))
    (pairs_document (written_pairs c.args.context.now)) c.in_ok-token.ensures.ok c.in_ok-write_uid_field.ensures
    c.in_ok-write_uid_field-2.ensures c.in_ok-write_uid_field-3.ensures
    c.in_ok-write_attribute_values.ensures.written ended)

pub returns-clause-checked : goal.returns-clause-checked
returns-clause-checked c =
    flawless_checked (pairs_flaws (written_pairs c.args.context.now)) c.close_object.result c.close_object.ensures.fault
    c.in_ok-write_attribute_values.ensures.checked.flawless
