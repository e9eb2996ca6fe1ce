use Rattle.std.proofs.Common.{subst}
use Rattle.cedar_ast.specs.Words.{PlainName, plain_name}
use Rattle.cedar_schema_text_writer.proofs.Lines.{block_written}
use Rattle.cedar_schema_text_writer.specs.Pieces.{Adds, path_pieces}
use Rattle.cedar_schema_text_writer.specs.Scope.{first_in, namespace_in}
use Rattle.cedar_schema_text_writer.proofs.text.put_block.Goals as goal

pub returns : goal.returns
returns c =
    block_written (first_in c.args.scope) (namespace_in c.args.scope) (plain_name c.args.name.now) c.args.it.now c.args.out.now c.push_str.new.self
    c.put_path.new.out c.push_str-2.new.self c.put_definition.new.out c.put_line.new.out c.push_str-3.new.self c.requires c.in_ok-push_str.ensures.bytes
    (subst (λ (name : PlainName). Adds c.push_str.new.self c.put_path.new.out (path_pieces name)) c.as_internal.ensures.name c.in_ok-put_path.ensures)
    c.in_ok-push_str-2.ensures.bytes c.in_ok-put_definition.ensures.written c.in_ok-put_line.ensures c.in_ok-push_str-3.ensures.bytes
