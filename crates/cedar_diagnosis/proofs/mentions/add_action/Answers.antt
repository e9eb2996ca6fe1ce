use Rattle.cedar_diagnosis.proofs.CountedLemmas.{context_counts, counted_one}
use Rattle.cedar_diagnosis.proofs.mentions.add_action.Goals as goal
use Rattle.cedar_schema_ast.specs.Words.{action, action_body, namespace_name, raw_expr, raw_reference}
use Rattle.cedar_schema_ast.specs.declared.json_schema.raw_name.RawName.{RawName}

-- the context is what counts
pub returns-in-Some : goal.returns-in-Some
returns-in-Some c =
    let namespace = namespace_name c.args.namespace in
    let declared = c.args.declared.now in
    counted_one c.add_type.result (action (action_body RawName (raw_reference namespace) namespace declared))
    (raw_expr namespace c.in-Some.requests.context.0) c.args.mentions.now c.add_type.new.mentions
    (context_counts namespace declared c.in-Some.requests c.in-Some.is c.if-declared.false) c.add_type.ensures
