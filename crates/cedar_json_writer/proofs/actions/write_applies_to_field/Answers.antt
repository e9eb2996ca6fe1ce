use Rattle.std.proofs.Common.{None, OnOk, Option, codes, map, option_map, subst, sym}
use Rattle.std.proofs.lemmas.Result.{err_from_is_err_and}
use Rattle.cedar_ast.proofs.Basics.{OnOk-map}
use Rattle.cedar_json_writer.proofs.WritingLemmas.{checked, object_by}
use Rattle.cedar_json_writer.proofs.WrittenActions.{requests_added, requests_free}
use Rattle.cedar_json_writer.proofs.actions.write_applies_to_field.Goals as goal
use Rattle.cedar_json_writer.specs.Words.{AddsField, Entity, IfThere, IsChecked, IsFlawOf, RawName, SoundRequests, flaws_in, raw_expr, raw_reference, reference_array, requests_document, requests_flaws, shape_held, written_requests}
use Rattle.cedar_schema_ast.specs.declared.json_schema.action_type.ApplySpec.{ApplySpec}

pub returns-clause-written : goal.returns-clause-written
returns-clause-written c =
    let it = c.in-Some.it in
    subst (λ (o : Option (ApplySpec RawName)). OnOk c.close_object.result (AddsField c.args.out.now c.close_object.new.out (codes "appliesTo")
    (option_map requests_document (option_map written_requests o)))) (sym c.in-Some.is)
    (OnOk-map c.close_object.result c.close_object.ensures.written
    (λ ended. object_by c.args.out.now c.open_object.new.out c.close_object.new.out (codes "appliesTo") (requests_document (written_requests it))
    c.in_ok-open_object.ensures
    (λ begun. requests_added _ c.open_object.new.out c.write_names_field.new.out c.write_names_field-2.new.out c.write_shape_field.new.out
    c.close_object.new.out (reference_array (map (raw_reference None Entity) it.principal_types.items))
    (reference_array (map (raw_reference None Entity) it.resource_types.items)) (shape_held (raw_expr None it.context.0)) begun
    c.in_ok-write_names_field.ensures c.in_ok-write_names_field-2.ensures c.in_ok-write_shape_field.ensures.written ended)))

pub returns-clause-checked : goal.returns-clause-checked
returns-clause-checked c =
    let it = c.in-Some.it in
    subst (λ (o : Option (ApplySpec RawName)). IsChecked c.close_object.result (flaws_in requests_flaws (option_map written_requests o))
    (IfThere SoundRequests (option_map written_requests o))) (sym c.in-Some.is)
    (checked c.close_object.result c.close_object.ensures.fault
    (requests_free it.principal_types.items it.resource_types.items (raw_expr None it.context.0) c.in_ok-write_shape_field.ensures.checked))

pub returns-in_err-write_shape_field-clause-checked : goal.returns-in_err-write_shape_field-clause-checked
returns-in_err-write_shape_field-clause-checked c =
    let f = c.in_err-write_shape_field.field-0.0 in
    let p = err_from_is_err_and c.from_residual-in_err-write_shape_field.result c.from_residual-in_err-write_shape_field.ensures.1 in
    rw (p.1, p.2) (subst (λ (o : Option (ApplySpec RawName)). IsFlawOf (flaws_in requests_flaws (option_map written_requests o)) f) (sym c.in-Some.is)
    c.in_err-write_shape_field.ensures.checked)
