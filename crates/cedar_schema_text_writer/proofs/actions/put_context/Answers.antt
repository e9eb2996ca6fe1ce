use Rattle.std.proofs.Common.{List, [], ◌∷◌, ◌++◌, codes, sym, ◌∙◌}
use Rattle.cedar_schema_ast.specs.Words.{raw_expr}
use Rattle.cedar_schema_text_writer.proofs.Written.{adds_more, left_out, written_in}
use Rattle.cedar_schema_text_writer.specs.Layout.{written_pieces}
use Rattle.cedar_schema_text_writer.specs.Pieces.{Piece, blank, line, sign, word}
use Rattle.cedar_schema_text_writer.specs.Scope.{first_in, namespace_in}
use Rattle.cedar_schema_text_writer.specs.TypeLayout.{is_empty_record}
use Rattle.cedar_schema_text_writer.proofs.actions.put_context.Goals as goal

pub returns-then-is_empty_record : goal.returns-then-is_empty_record
returns-then-is_empty_record c =
    let namespace = namespace_in c.args.scope in
    let pieces = written_pieces (first_in c.args.scope) namespace c.args.level c.args.ty.now in
    left_out c.args.out.now (is_empty_record (raw_expr namespace c.args.ty.now))
    (line c.args.level ∷ word (codes "context") ∷ sign (codes ":") ∷ blank ∷ (pieces ++ sign (codes ",") ∷ []))
    (sym (c.is_empty_record.ensures namespace) ∙ c.if-is_empty_record.true)

pub returns : goal.returns
returns c =
    let namespace = namespace_in c.args.scope in
    let pieces = written_pieces (first_in c.args.scope) namespace c.args.level c.args.ty.now in
    let ended : List Piece = pieces ++ sign (codes ",") ∷ [] in
    let words : List Piece = word (codes "context") ∷ sign (codes ":") ∷ blank ∷ [] in
    written_in c.args.out.now c.push_str-2.new.self (is_empty_record (raw_expr namespace c.args.ty.now)) (line c.args.level ∷ (words ++ ended))
    (sym (c.is_empty_record.ensures namespace) ∙ c.if-is_empty_record.false)
    (adds_more c.args.out.now c.put_line.new.out c.push_str-2.new.self (line c.args.level ∷ []) (words ++ ended) c.in_ok-put_line.ensures
    (adds_more c.put_line.new.out c.push_str.new.self c.push_str-2.new.self words ended c.in_ok-push_str.ensures.bytes
    (adds_more c.push_str.new.self c.put_type.new.out c.push_str-2.new.self pieces (sign (codes ",") ∷ []) c.in_ok-put_type.ensures
    c.in_ok-push_str-2.ensures.bytes)))
