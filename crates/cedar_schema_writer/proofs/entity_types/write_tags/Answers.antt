use Rattle.std.proofs.Common.{Some, ap, sym, ◌∙◌}
use Rattle.cedar_schema_writer.proofs.entity_types.write_tags.Goals as goal
use Rattle.cedar_schema_writer.specs.Parts.{plain_namespace}

pub returns-in_ok-to_json_type-in-Some-clause-written : goal.returns-in_ok-to_json_type-in-Some-clause-written
returns-in_ok-to_json_type-in-Some-clause-written c =
    let namespace = plain_namespace c.args.namespace.now in
    rw c.in-Some.is (c.in_ok-to_json_type-in-Some.ensures.written ∙ ap Some (sym (c.plain.ensures namespace)))
