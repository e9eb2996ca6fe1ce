use Rattle.std.proofs.Common.{false, ap}
use Rattle.std.specs.Option.{option_map}
use Rattle.cedar_ast.specs.Words.{plain_name}
use Rattle.cedar_name_resolution.specs.Words.{held_names}
use Rattle.cedar_schema_text_writer.proofs.Lines.{namespaces_more}
use Rattle.cedar_schema_text_writer.proofs.Written.{leaves_less, leaves_whole}
use Rattle.cedar_schema_text_writer.specs.Layout.{fragment_pieces, namespace_pieces, namespaces_pieces}
use Rattle.cedar_schema_text_writer.specs.Names.{first_standing}
use Rattle.cedar_schema_text_writer.proofs.text.written.Goals as goal

pub loop-namespace-preserved : goal.loop-namespace-preserved
loop-namespace-preserved c =
    let first = first_standing (held_names c.args.known.now) in
    let begun = c.loop-namespace.begun in
    let namespace = c.in-Some.namespace.now in
    let it = c.in-Some.it.now in
    leaves_less c.new-out.result c.loop-namespace.out c.put_namespace.new.out (namespaces_pieces first false c.args.fragment.now.0.entries)
    (namespaces_pieces first begun c.loop-namespace.namespace-iterator) (namespaces_pieces first c.in_ok-begun.begun c.next.new.self)
    (namespace_pieces first begun (option_map plain_name namespace) it)
    (namespaces_more first begun c.in_ok-begun.begun namespace it c.loop-namespace.namespace-iterator c.next.new.self c.in-Some.ensures.steps c.in_ok-begun.ensures.begun)
    c.in_ok-begun.ensures.written c.loop-namespace.invariant

pub returns : goal.returns
returns c =
    let first = first_standing (held_names c.args.known.now) in
    let left = namespaces_pieces first c.loop-namespace.begun in
    leaves_whole c.new-out.result c.loop-namespace.out (fragment_pieces first c.args.fragment.now) (left c.loop-namespace.namespace-iterator)
    c.new-out.ensures.bytes (ap left c.in-None.ensures.steps.0) c.loop-namespace.invariant
