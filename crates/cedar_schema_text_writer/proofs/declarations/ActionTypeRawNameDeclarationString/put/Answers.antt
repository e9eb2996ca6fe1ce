use Rattle.std.proofs.Common.{[], ◌∷◌, subst}
use Rattle.cedar_ast.specs.Words.{Text}
use Rattle.cedar_schema_text_writer.proofs.Lines.{action_written}
use Rattle.cedar_schema_text_writer.specs.Pieces.{Adds}
use Rattle.cedar_schema_text_writer.specs.Scope.{first_in, namespace_in}
use Rattle.cedar_schema_text_writer.specs.TypeLayout.{name_piece}
use Rattle.cedar_schema_text_writer.proofs.declarations.ActionTypeRawNameDeclarationString.put.Goals as goal

pub returns : goal.returns
returns c =
    action_written (first_in c.args.scope) (namespace_in c.args.scope) c.args.level c.args.id.now c.args.self.now c.args.out.now c.put_external.new.out
    c.push_str.new.self c.put_name.new.out c.put_member_of.new.out c.put_applies_to.new.out c.push_str-2.new.self c.in_ok-put_external.ensures
    c.in_ok-push_str.ensures.bytes
    (subst (λ (text : Text). Adds c.push_str.new.self c.put_name.new.out (name_piece text ∷ [])) c.as_str.ensures.value c.in_ok-put_name.ensures)
    c.in_ok-put_member_of.ensures c.in_ok-put_applies_to.ensures c.in_ok-push_str-2.ensures.bytes
