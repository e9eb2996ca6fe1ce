use Rattle.std.proofs.Common.{◌&&◌, ap, map, ◌∙◌}
use Rattle.cedar_queries.proofs.SelectedLemmas.{keys_where-map}
use Rattle.cedar_queries.proofs.requests.actions_for_principal_and_resource.Goals as goal
use Rattle.cedar_queries.specs.Words.{action_of, has_name, kind_principals, kind_resources, type_name, uid_of}

pub returns : goal.returns
returns c =
    ap (map uid_of) c.new.ensures
    ∙ keys_where-map uid_of action_of
    (λ it. has_name (kind_principals it.kind) (type_name c.args.principal.now)
    && has_name (kind_resources it.kind) (type_name c.args.resource.now)) c.args.actions.now.entries
