use Rattle.std.proofs.Common.{None, Some, ap, sym, ◌∙◌}
use Rattle.std.specs.Option.{option_map}
use Rattle.cedar_queries.proofs.LookupLemmas.{action_shown}
use Rattle.cedar_queries.proofs.requests.resources_for_action.Goals as goal
use Rattle.cedar_queries.specs.Words.{SchemaAction, kind_resources}

pub returns-in_err-get-clause-names : goal.returns-in_err-get-clause-names
returns-in_err-get-clause-names c =
    let none = action_shown c.args.actions.now c.args.uid.now None (sym c.in_err-get.ensures.value) in
    rw (c.from_residual.ensures) (sym (ap (option_map (λ (it : SchemaAction). kind_resources it.kind)) none))

pub returns-clause-names : goal.returns-clause-names
returns-clause-names c =
    let found = action_shown c.args.actions.now c.args.uid.now (Some c.in_ok-get.field-0.now) (sym c.in_ok-get.ensures.value) in
    ap Some c.resources.ensures.names ∙ sym (ap (option_map (λ (it : SchemaAction). kind_resources it.kind)) found)
