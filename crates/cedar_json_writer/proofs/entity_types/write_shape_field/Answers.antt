use Rattle.std.proofs.Common.{None, OnOk, Option, sym, subst, ◌∙◌}
use Rattle.cedar_json_writer.proofs.WritingLemmas.{field_by}
use Rattle.cedar_json_writer.proofs.WrittenEntities.{empty_free, filled_shape}
use Rattle.cedar_json_writer.proofs.entity_types.write_shape_field.Goals as goal
use Rattle.cedar_json_writer.specs.Words.{AddsField, type_document}
use Rattle.cedar_schema_ast.specs.RawExpr.{raw_expr}
use Rattle.json.specs.Json.{Json}

pub returns-then-is_empty_record-clause-checked : goal.returns-then-is_empty_record-clause-checked
returns-then-is_empty_record-clause-checked c =
    empty_free (raw_expr None c.args.ty.now) (sym c.is_empty_record.ensures ∙ c.if-is_empty_record.true)

pub returns-clause-written : goal.returns-clause-written
returns-clause-written c =
    let ty = raw_expr None c.args.ty.now in
    subst (λ (held : Option Json). OnOk c.write_type.result (AddsField c.args.out.now c.write_type.new.out c.args.name.now held))
    (sym (filled_shape ty (sym c.is_empty_record.ensures ∙ c.if-is_empty_record.false)))
    (field_by c.write_type.result c.args.out.now c.token.new.self c.write_type.new.out c.args.name.now (type_document ty)
    c.in_ok-token.ensures.ok c.write_type.ensures.written)
