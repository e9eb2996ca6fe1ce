use Rattle.std.proofs.Common.{ap, ◌∙◌, sym, Option}
use Rattle.cedar_ast.specs.Words.{PlainName}
use Rattle.cedar_diagnosis.proofs.CountedLemmas.{alike_counted, counted_one}
use Rattle.cedar_diagnosis.proofs.mentions.add_counted.Goals as goal
use Rattle.cedar_diagnosis.specs.Lent.{lent_body, namespace_of}
use Rattle.cedar_schema_ast.specs.Words.{action, action_body, common_type, entity_type, namespace_name, raw_entity_body, raw_expr, raw_reference}
use Rattle.cedar_schema_ast.specs.declared.json_schema.raw_name.RawName.{RawName}

-- of a common type the definition counts
pub returns-in-CommonType : goal.returns-in-CommonType
returns-in-CommonType c =
    let it = c.args.it.now in
    let expr = raw_expr (namespace_name c.namespace-namespace.result) c.in-CommonType.declared.now.ty in
    alike_counted c.add_type.result (lent_body (namespace_of it.namespace.now) it.body) (common_type expr) c.args.mentions.now c.add_type.new.mentions
    (ap (lent_body (namespace_of it.namespace.now)) c.in-CommonType.is
    ∙ ap (λ namespace. common_type (raw_expr namespace c.in-CommonType.declared.now.ty)) (sym c.namespace-namespace.ensures))
    (counted_one c.add_type.result (common_type expr) expr c.args.mentions.now c.add_type.new.mentions (λ other. (λ is. is, λ is. is)) c.add_type.ensures)

pub returns-in-EntityType : goal.returns-in-EntityType
returns-in-EntityType c =
    let it = c.args.it.now in
    alike_counted c.add_entity_type.result (lent_body (namespace_of it.namespace.now) it.body)
    (entity_type (raw_entity_body (namespace_name c.namespace-namespace.result) c.in-EntityType.declared.now)) c.args.mentions.now
    c.add_entity_type.new.mentions
    (ap (lent_body (namespace_of it.namespace.now)) c.in-EntityType.is
    ∙ ap (λ namespace. entity_type (raw_entity_body namespace c.in-EntityType.declared.now)) (sym c.namespace-namespace.ensures))
    c.add_entity_type.ensures

pub returns-in-Action : goal.returns-in-Action
returns-in-Action c =
    let it = c.args.it.now in
    let namespace = namespace_name c.namespace-namespace.result in
    alike_counted c.add_action.result (lent_body (namespace_of it.namespace.now) it.body)
    (action (action_body RawName (raw_reference namespace) namespace c.in-Action.declared.now)) c.args.mentions.now c.add_action.new.mentions
    (ap (lent_body (namespace_of it.namespace.now)) c.in-Action.is
    ∙ ap (λ (each : Option PlainName). action (action_body RawName (raw_reference each) each c.in-Action.declared.now)) (sym c.namespace-namespace.ensures))
    c.add_action.ensures
