use Rattle.cedar_schema_ast.specs.Words.{unreserved_id_text}
use Rattle.cedar_schema_text_writer.proofs.Lines.{entity_written, word_added}
use Rattle.cedar_schema_text_writer.specs.Scope.{first_in, namespace_in}
use Rattle.cedar_schema_text_writer.proofs.declarations.EntityTypeRawNameDeclarationUnreservedId.put.Goals as goal

pub returns : goal.returns
returns c =
    entity_written (first_in c.args.scope) (namespace_in c.args.scope) c.args.level c.args.id.now c.args.self.now c.args.out.now c.put_external.new.out
    c.push_str.new.self c.push_str-2.new.self c.put_kind.new.out c.push_str-3.new.self c.in_ok-put_external.ensures c.in_ok-push_str.ensures.bytes
    (word_added c.push_str.new.self c.push_str-2.new.self (unreserved_id_text c.args.id.now) c.as_str.result.now c.as_str.ensures
    c.in_ok-push_str-2.ensures.bytes)
    c.in_ok-put_kind.ensures c.in_ok-push_str-3.ensures.bytes
