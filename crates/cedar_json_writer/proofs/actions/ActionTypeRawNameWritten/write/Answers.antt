use Rattle.std.proofs.Common.{false, option_map}
use Rattle.std.proofs.lemmas.Result.{err_from_is_err_and}
use Rattle.cedar_ast.proofs.Basics.{OnOk-map}
use Rattle.cedar_json.specs.ActionFormat.{written_action}
use Rattle.cedar_json_writer.proofs.WritingLemmas.{checked}
use Rattle.cedar_json_writer.proofs.WrittenActions.{action_added, action_free, attributes_flaw, groups_sound, requests_flaw}
use Rattle.cedar_json_writer.proofs.actions.ActionTypeRawNameWritten.write.Goals as goal
use Rattle.cedar_json_writer.specs.Words.{flag_held, pairs_document, parent_array, requests_document}

pub returns-clause-written : goal.returns-clause-written
returns-clause-written c =
    let it = written_action c.args.self.now in
    OnOk-map c.close_with_flag.result c.close_with_flag.ensures.written
    (λ ended. action_added c.args.out.now c.token.new.self c.write_applies_to_field.new.out c.write_member_of_field.new.out
    c.write_attributes_field.new.out c.close_with_flag.new.out (option_map requests_document it.applies_to)
    (option_map parent_array it.member_of) (option_map pairs_document it.attributes) (flag_held false it.external) c.in_ok-token.ensures.ok
    c.in_ok-write_applies_to_field.ensures.written c.in_ok-write_member_of_field.ensures c.in_ok-write_attributes_field.ensures.written ended)

pub returns-clause-checked : goal.returns-clause-checked
returns-clause-checked c =
    checked c.close_with_flag.result c.close_with_flag.ensures.fault
    (action_free (written_action c.args.self.now) c.in_ok-write_applies_to_field.ensures.checked (groups_sound c.args.self.now.member_of)
    c.in_ok-write_attributes_field.ensures.checked)

pub returns-in_err-write_applies_to_field-clause-checked : goal.returns-in_err-write_applies_to_field-clause-checked
returns-in_err-write_applies_to_field-clause-checked c =
    let p = err_from_is_err_and c.from_residual-in_err-write_applies_to_field.result c.from_residual-in_err-write_applies_to_field.ensures.1 in
    rw (p.1, p.2) (requests_flaw (written_action c.args.self.now) _ c.in_err-write_applies_to_field.ensures.checked)

pub returns-in_err-write_attributes_field-clause-checked : goal.returns-in_err-write_attributes_field-clause-checked
returns-in_err-write_attributes_field-clause-checked c =
    let p = err_from_is_err_and c.from_residual-in_err-write_attributes_field.result c.from_residual-in_err-write_attributes_field.ensures.1 in
    rw (p.1, p.2) (attributes_flaw (written_action c.args.self.now) _ c.in_err-write_attributes_field.ensures.checked)
