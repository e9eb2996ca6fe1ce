use Rattle.std.proofs.Common.{◌++◌, map}
use Rattle.cedar_diagnosis.proofs.CountedLemmas.{listed_twice, positions_listed, requested_are_positions}
use Rattle.cedar_diagnosis.proofs.positions.add_requests.Goals as goal
use Rattle.cedar_diagnosis.specs.Mentioned.{reference_of}
use Rattle.cedar_schema_ast.specs.Words.{action, action_body, namespace_name, raw_reference}
use Rattle.cedar_schema_ast.specs.declared.json_schema.raw_name.RawName.{RawName}
use Rattle.cedar_schema_semantics.specs.Words.{Entity}

pub returns : goal.returns
returns c =
    let namespace = namespace_name c.args.namespace in
    let declared = c.args.declared.now in
    let requests = c.in-Some.requests in
    let names = map (raw_reference namespace Entity) in
    positions_listed c.add_names-2.result (action (action_body RawName (raw_reference namespace) namespace declared))
    (map reference_of c.args.found.now.items) (map reference_of c.add_names-2.new.found.items)
    (names requests.principal_types.items ++ names requests.resource_types.items)
    (requested_are_positions namespace declared requests c.in-Some.is c.if-declared.false)
    (listed_twice c.add_names-2.result (map reference_of c.args.found.now.items) (map reference_of c.add_names.new.found.items)
    (map reference_of c.add_names-2.new.found.items) (names requests.principal_types.items) (names requests.resource_types.items)
    (rw c.deref.ensures.value at c.in_ok-add_names.ensures) (rw c.deref-2.ensures.value at c.add_names-2.ensures))
