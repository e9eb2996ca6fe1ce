use Rattle.cedar_schema_ast.specs.Words.{common_type_text}
use Rattle.cedar_schema_text_writer.proofs.Lines.{common_written, word_added}
use Rattle.cedar_schema_text_writer.specs.Scope.{first_in, namespace_in}
use Rattle.cedar_schema_text_writer.proofs.declarations.CommonTypeRawNameDeclarationCommonTypeId.put.Goals as goal

pub returns : goal.returns
returns c =
    common_written (first_in c.args.scope) (namespace_in c.args.scope) c.args.level c.args.id.now c.args.self.now c.args.out.now c.push_str.new.self
    c.push_str-2.new.self c.push_str-3.new.self c.put_type.new.out c.push_str-4.new.self c.in_ok-push_str.ensures.bytes
    (word_added c.push_str.new.self c.push_str-2.new.self (common_type_text c.args.id.now) c.as_str.result.now c.as_str.ensures.text
    c.in_ok-push_str-2.ensures.bytes)
    c.in_ok-push_str-3.ensures.bytes c.in_ok-put_type.ensures c.in_ok-push_str-4.ensures.bytes
