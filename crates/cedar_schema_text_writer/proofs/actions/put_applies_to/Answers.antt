use Rattle.std.proofs.Common.{ℕ, suc, Option, List, [], ◌∷◌, ◌++◌, codes, sym, subst}
use Rattle.cedar_schema_ast.specs.declared.json_schema.action_type.ApplySpec.{ApplySpec}
use Rattle.cedar_schema_ast.specs.declared.json_schema.raw_name.RawName.{RawName}
use Rattle.cedar_schema_text_writer.proofs.Written.{adds_more}
use Rattle.cedar_schema_text_writer.specs.Layout.{applies_to_pieces, parts_pieces}
use Rattle.cedar_schema_text_writer.specs.Pieces.{Adds, Piece, blank, line, sign, word}
use Rattle.cedar_schema_text_writer.specs.Scope.{first_in, namespace_in}
use Rattle.cedar_schema_text_writer.proofs.actions.put_applies_to.Goals as goal

pub returns-in_ok-push_str-2 : goal.returns-in_ok-push_str-2
returns-in_ok-push_str-2 c =
    let first = first_in c.args.scope in
    let namespace = namespace_in c.args.scope in
    let out = c.args.out.now in
    let begun = c.push_str.new.self in
    let inside = c.put_parts.new.out in
    let new = c.push_str-in-Some.new.self in
    let opening : List Piece = blank ∷ word (codes "appliesTo") ∷ blank ∷ sign (codes "{") ∷ [] in
    let parts : ℕ → List Piece = λ level. parts_pieces first namespace level c.in-Some.it in
    let closing : List Piece = line c.args.level ∷ sign (codes "}") ∷ [] in
    subst (λ (it : Option (ApplySpec RawName)). Adds out new (applies_to_pieces first namespace c.args.level it)) (sym c.in-Some.is)
    (adds_more out begun new opening (parts (suc c.args.level) ++ closing) c.in_ok-push_str.ensures.bytes
    (adds_more begun inside new (parts (suc c.args.level)) closing
    (subst (λ (level : ℕ). Adds begun inside (parts level)) c.in_ok-deeper.ensures c.in_ok-put_parts.ensures)
    (adds_more inside c.put_line.new.out new (line c.args.level ∷ []) (sign (codes "}") ∷ []) c.in_ok-put_line.ensures c.in_ok-push_str-2.ensures.bytes)))
