use Rattle.cedar_schema_writer.proofs.TypeLemmas.{AttributesSoFar, fields_size, ty_size}
use Rattle.cedar_schema_writer.proofs.types.+written.Given as goal
use Rattle.cedar_schema_writer.specs.Words.{fields_from, fields_of, known_names, plain_attributes, plain_members, plain_namespace, ty_of}

abbrev pub decreases-to_json_type : goal.decreases-to_json_type
decreases-to_json_type l = ty_size (ty_of l.ty.now)

abbrev pub decreases-write_record : goal.decreases-write_record
decreases-write_record l = fields_size (fields_of l.attrs.now)

abbrev pub invariant-write_record-loop-name : goal.invariant-write_record-loop-name
invariant-write_record-loop-name l =
    AttributesSoFar (known_names l.known) (plain_namespace l.namespace) (fields_of l.attrs) (fields_from (plain_attributes l.name-iterator))
    (plain_members (plain_namespace l.namespace) l.attributes.entries)
