use Rattle.cedar_diagnosis.proofs.CountedLemmas.{counted_two, counts_one, shape_counts, tags_count}
use Rattle.cedar_diagnosis.proofs.mentions.add_entity_type.Goals as goal
use Rattle.cedar_schema_ast.specs.Words.{entity_type, namespace_name, raw_entity_body, raw_expr}

-- the shape and the type of the tags are what counts
pub returns-in-Some : goal.returns-in-Some
returns-in-Some c =
    let namespace = namespace_name c.args.namespace in
    let declared = c.args.declared.now in
    let standard = c.in-Standard.standard in
    counted_two c.add_type-in-Some.result (entity_type (raw_entity_body namespace declared)) (raw_expr namespace standard.shape.0)
    (raw_expr namespace c.in-Some.tags) c.args.mentions.now c.add_type.new.mentions c.add_type-in-Some.new.mentions
    (tags_count namespace declared standard c.in-Standard.is c.if-declared.false c.in-Some.tags c.in-Some.is)
    c.in_ok-add_type.ensures c.add_type-in-Some.ensures

-- where there are no tags, the shape is
pub returns-in-None : goal.returns-in-None
returns-in-None c =
    let namespace = namespace_name c.args.namespace in
    let declared = c.args.declared.now in
    let standard = c.in-Standard.standard in
    counts_one (entity_type (raw_entity_body namespace declared)) (raw_expr namespace standard.shape.0)
    c.args.mentions.now c.add_type.new.mentions
    (shape_counts namespace declared standard c.in-Standard.is c.if-declared.false c.in-None.is) c.in_ok-add_type.ensures
