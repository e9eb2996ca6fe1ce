use Rattle.std.proofs.Common.{map}
use Rattle.cedar_diagnosis.proofs.CountedLemmas.{parents_are_positions, positions_listed}
use Rattle.cedar_diagnosis.proofs.positions.add_parents.Goals as goal
use Rattle.cedar_diagnosis.specs.Mentioned.{reference_of}
use Rattle.cedar_schema_ast.specs.Words.{entity_type, namespace_name, raw_entity_body, raw_reference}
use Rattle.cedar_schema_semantics.specs.Words.{Entity}

pub returns-in-Standard : goal.returns-in-Standard
returns-in-Standard c =
    let namespace = namespace_name c.args.namespace in
    let declared = c.args.declared.now in
    let standard = c.in-Standard.standard in
    positions_listed c.add_names.result (entity_type (raw_entity_body namespace declared)) (map reference_of c.args.found.now.items)
    (map reference_of c.add_names.new.found.items) (map (raw_reference namespace Entity) standard.member_of_types.items)
    (parents_are_positions namespace declared standard c.in-Standard.is) (rw c.deref.ensures.value at c.add_names.ensures)
