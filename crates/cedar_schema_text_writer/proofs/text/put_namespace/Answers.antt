use Rattle.std.proofs.Common.{Option, ap, sym, subst}
use Rattle.std.specs.Option.{option_map}
use Rattle.cedar_ast.proofs.Basics.{OnOk-map}
use Rattle.cedar_ast.specs.Words.{PlainName, plain_name}
use Rattle.cedar_schema_text_writer.specs.Layout.{definition_pieces, namespace_pieces}
use Rattle.cedar_schema_text_writer.specs.Pieces.{Adds}
use Rattle.cedar_schema_text_writer.specs.Scope.{first_in}
use Rattle.cedar_schema_text_writer.proofs.text.put_namespace.Goals as goal

pub returns-in-None-clause-written : goal.returns-in-None-clause-written
returns-in-None-clause-written c =
    let first = first_in c.args.scope in
    let old = c.args.out.now in
    let new = c.put_definition.new.out in
    let is = ap (option_map plain_name) c.in-None.is in
    OnOk-map c.put_definition.result c.put_definition.ensures.written (λ whole.
    subst (λ (namespace : Option PlainName). Adds old new (namespace_pieces first c.args.begun namespace c.args.it.now)) (sym is)
    (subst (λ (namespace : Option PlainName). Adds old new (definition_pieces first namespace 0 c.args.begun c.args.it.now)) is whole))
