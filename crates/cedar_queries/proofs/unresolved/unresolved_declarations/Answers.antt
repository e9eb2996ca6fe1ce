use Rattle.std.proofs.Common.{◌++◌, ap, map, ◌∙◌}
use Rattle.cedar_queries.proofs.SelectedLemmas.{entries_where-values}
use Rattle.cedar_queries.proofs.unresolved.unresolved_declarations.Goals as goal
use Rattle.cedar_queries.specs.Words.{action_of, entity_type_of, is_external_kind, is_external_type, unresolved_action, unresolved_type}

pub returns : goal.returns
returns c =
    let types = ap (map (λ entry. entry.1)) c.new-types.ensures
    ∙ entries_where-values (λ it. is_external_type (entity_type_of it).kind) c.args.types.now.entries in
    let actions = ap (map (λ entry. entry.1)) c.new-actions.ensures
    ∙ entries_where-values (λ it. is_external_kind (action_of it).kind) c.args.actions.now.entries in
    (λ i. map unresolved_type (types i) ++ map unresolved_action (actions i))
