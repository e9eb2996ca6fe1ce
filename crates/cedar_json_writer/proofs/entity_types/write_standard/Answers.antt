use Rattle.std.proofs.Common.{None, codes, map, option_map}
use Rattle.std.proofs.lemmas.Result.{err_from_is_err_and}
use Rattle.cedar_ast.proofs.Basics.{OnOk-map}
use Rattle.cedar_json_writer.proofs.WritingLemmas.{checked_as, fields_after, flaw_left, flaw_right}
use Rattle.cedar_json_writer.proofs.WrittenEntities.{standard_free}
use Rattle.cedar_json_writer.proofs.entity_types.write_standard.Goals as goal
use Rattle.cedar_json_writer.specs.Words.{Entity, flaws_in, optional_member, parents_held, raw_expr, raw_reference, shape_held, type_document, type_flaws}

pub returns-clause-written : goal.returns-clause-written
returns-clause-written c =
    let it = c.args.it.now in
    let p = optional_member (codes "memberOfTypes") (parents_held (map (raw_reference None Entity) it.member_of_types.items)) in
    let s = optional_member (codes "shape") (shape_held (raw_expr None it.shape.0)) in
    let t = optional_member (codes "tags") (option_map type_document (option_map (raw_expr None) it.tags)) in
    OnOk-map c.write_tags_field.result c.write_tags_field.ensures.written
    (λ third. fields_after c.args.out.now c.write_shape_field.new.out c.write_tags_field.new.out (λ rest. p (s rest)) t
    (fields_after c.args.out.now c.write_parents_field.new.out c.write_shape_field.new.out p s c.in_ok-write_parents_field.ensures
    c.in_ok-write_shape_field.ensures.written) third)

pub returns-clause-checked : goal.returns-clause-checked
returns-clause-checked c =
    let it = c.args.it.now in
    let shape = raw_expr None it.shape.0 in
    let tags = option_map (raw_expr None) it.tags in
    checked_as c.write_tags_field.result c.write_tags_field.ensures.checked
    (λ free. standard_free it.member_of_types.items shape tags c.in_ok-write_shape_field.ensures.checked free)
    (λ f flawed. flaw_right (type_flaws shape) (flaws_in type_flaws tags) f flawed)

pub returns-in_err-write_shape_field-clause-checked : goal.returns-in_err-write_shape_field-clause-checked
returns-in_err-write_shape_field-clause-checked c =
    let it = c.args.it.now in
    let p = err_from_is_err_and c.from_residual-in_err-write_shape_field.result c.from_residual-in_err-write_shape_field.ensures.1 in
    rw (p.1, p.2) (flaw_left (type_flaws (raw_expr None it.shape.0)) (flaws_in type_flaws (option_map (raw_expr None) it.tags)) _
    c.in_err-write_shape_field.ensures.checked)
