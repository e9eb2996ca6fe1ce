use Rattle.std.proofs.Common.{List, ◌++◌, codes, subst}
use Rattle.cedar_ast.proofs.Basics.{OnOk-map}
use Rattle.cedar_schema_ast.specs.declared.json_schema.raw_name.RawName.{RawName}
use Rattle.cedar_schema_text_writer.proofs.Written.{adds_more}
use Rattle.cedar_schema_text_writer.specs.Layout.{context_pieces, types_pieces}
use Rattle.cedar_schema_text_writer.specs.Pieces.{Adds, Piece}
use Rattle.cedar_schema_text_writer.specs.Scope.{first_in, namespace_in}
use Rattle.cedar_schema_text_writer.proofs.actions.put_parts.Goals as goal

pub returns : goal.returns
returns c =
    let it = c.args.it.now in
    let principals : List Piece = types_pieces c.args.level (codes "principal") it.principal_types.items in
    let resources : List Piece = types_pieces c.args.level (codes "resource") it.resource_types.items in
    let context : List Piece = context_pieces (first_in c.args.scope) (namespace_in c.args.scope) c.args.level it.context.0 in
    OnOk-map c.put_context.result c.put_context.ensures (λ last.
    adds_more c.args.out.now c.put_types.new.out c.put_context.new.out principals (resources ++ context)
    (subst (λ (types : List RawName). Adds c.args.out.now c.put_types.new.out (types_pieces c.args.level (codes "principal") types)) c.as_slice.ensures.value c.in_ok-put_types.ensures)
    (adds_more c.put_types.new.out c.put_types-2.new.out c.put_context.new.out resources context
    (subst (λ (types : List RawName). Adds c.put_types.new.out c.put_types-2.new.out (types_pieces c.args.level (codes "resource") types)) c.as_slice-2.ensures.value c.in_ok-put_types-2.ensures)
    last))
