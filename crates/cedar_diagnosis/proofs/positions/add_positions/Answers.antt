use Rattle.std.proofs.Common.{map, ap, ◌∙◌, sym, Option}
use Rattle.cedar_ast.specs.Words.{PlainName}
use Rattle.cedar_diagnosis.proofs.CountedLemmas.{alike_positions}
use Rattle.cedar_diagnosis.proofs.positions.add_positions.Goals as goal
use Rattle.cedar_diagnosis.specs.Lent.{lent_body, namespace_of}
use Rattle.cedar_diagnosis.specs.Mentioned.{reference_of}
use Rattle.cedar_schema_ast.specs.Words.{action, action_body, entity_type, namespace_name, raw_entity_body, raw_reference}
use Rattle.cedar_schema_ast.specs.declared.json_schema.raw_name.RawName.{RawName}

pub returns-in-EntityType : goal.returns-in-EntityType
returns-in-EntityType c =
    let it = c.args.it.now in
    alike_positions c.add_parents.result (lent_body (namespace_of it.namespace.now) it.body)
    (entity_type (raw_entity_body (namespace_name c.namespace-namespace.result) c.in-EntityType.declared.now))
    (map reference_of c.args.found.now.items) (map reference_of c.add_parents.new.found.items)
    (ap (lent_body (namespace_of it.namespace.now)) c.in-EntityType.is
    ∙ ap (λ namespace. entity_type (raw_entity_body namespace c.in-EntityType.declared.now)) (sym c.namespace-namespace.ensures))
    c.add_parents.ensures

pub returns-in-Action : goal.returns-in-Action
returns-in-Action c =
    let it = c.args.it.now in
    let namespace = namespace_name c.namespace-namespace.result in
    alike_positions c.add_requests.result (lent_body (namespace_of it.namespace.now) it.body)
    (action (action_body RawName (raw_reference namespace) namespace c.in-Action.declared.now))
    (map reference_of c.args.found.now.items) (map reference_of c.add_requests.new.found.items)
    (ap (lent_body (namespace_of it.namespace.now)) c.in-Action.is
    ∙ ap (λ (each : Option PlainName). action (action_body RawName (raw_reference each) each c.in-Action.declared.now)) (sym c.namespace-namespace.ensures))
    c.add_requests.ensures
