use Rattle.cedar_ast.proofs.Basics.{OnOk-map}
use Rattle.cedar_schema_text_writer.proofs.Lines.{definition_written}
use Rattle.cedar_schema_text_writer.specs.Scope.{first_in, namespace_in}
use Rattle.cedar_schema_text_writer.proofs.declarations.put_definition.Goals as goal

pub returns-clause-written : goal.returns-clause-written
returns-clause-written c =
    OnOk-map c.put_all-3.result c.put_all-3.ensures.written (λ last.
    definition_written (first_in c.args.scope) (namespace_in c.args.scope) c.args.level c.args.begun c.in_ok-begun.begun c.in_ok-begun-2.begun c.args.it.now
    c.args.out.now c.put_all.new.out c.put_all-2.new.out c.put_all-3.new.out c.in_ok-begun.ensures.written c.in_ok-begun.ensures.begun
    c.in_ok-begun-2.ensures.written c.in_ok-begun-2.ensures.begun last)
