use Rattle.std.proofs.Common.{[], ◌∷◌, codes, sym, ◌∙◌}
use Rattle.cedar_schema_ast.specs.Words.{raw_expr}
use Rattle.cedar_schema_text_writer.proofs.Written.{adds_more, left_out, written_in}
use Rattle.cedar_schema_text_writer.specs.Layout.{written_pieces}
use Rattle.cedar_schema_text_writer.specs.Pieces.{blank, sign}
use Rattle.cedar_schema_text_writer.specs.Scope.{first_in, namespace_in}
use Rattle.cedar_schema_text_writer.specs.TypeLayout.{is_empty_record}
use Rattle.cedar_schema_text_writer.proofs.entity_types.put_shape.Goals as goal

pub returns-then-is_empty_record : goal.returns-then-is_empty_record
returns-then-is_empty_record c =
    let namespace = namespace_in c.args.scope in
    let pieces = written_pieces (first_in c.args.scope) namespace c.args.level c.args.ty.now in
    left_out c.args.out.now (is_empty_record (raw_expr namespace c.args.ty.now)) (blank ∷ sign (codes "=") ∷ blank ∷ pieces)
    (sym (c.is_empty_record.ensures namespace) ∙ c.if-is_empty_record.true)

pub returns : goal.returns
returns c =
    let namespace = namespace_in c.args.scope in
    let pieces = written_pieces (first_in c.args.scope) namespace c.args.level c.args.ty.now in
    written_in c.args.out.now c.put_type.new.out (is_empty_record (raw_expr namespace c.args.ty.now)) (blank ∷ sign (codes "=") ∷ blank ∷ pieces)
    (sym (c.is_empty_record.ensures namespace) ∙ c.if-is_empty_record.false)
    (adds_more c.args.out.now c.push_str.new.self c.put_type.new.out (blank ∷ sign (codes "=") ∷ blank ∷ []) pieces c.in_ok-push_str.ensures.bytes
    c.in_ok-put_type.ensures)
