use Rattle.std.proofs.Common.{Some, ap, sym, ◌∙◌}
use Rattle.cedar_schema_writer.proofs.entity_types.write_shape.Goals as goal
use Rattle.cedar_schema_writer.specs.Words.{plain_namespace, record_of, type_written}

pub returns-in_ok-write_record-in-ClosedAttributes-clause-written : goal.returns-in_ok-write_record-in-ClosedAttributes-clause-written
returns-in_ok-write_record-in-ClosedAttributes-clause-written c =
    let namespace = plain_namespace c.args.namespace.now in
    (λ i. type_written namespace (record_of (sym c.attributes.ensures.fields i) (sym c.in-ClosedAttributes.ensures i)))
    ∙ (c.in_ok-write_record-in-ClosedAttributes.ensures.written ∙ ap Some (sym (c.plain.ensures namespace)))
