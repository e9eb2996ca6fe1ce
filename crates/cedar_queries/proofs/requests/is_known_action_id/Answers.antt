use Rattle.std.proofs.Common.{sym, ◌∙◌}
use Rattle.cedar_queries.proofs.LookupLemmas.{action_known}
use Rattle.cedar_queries.proofs.requests.is_known_action_id.Goals as goal

pub returns : goal.returns
returns c =
    let known = action_known c.args.actions.now c.args.uid.now in (
      λ found. known.0 (sym c.contains_key.ensures ∙ found),
      λ among. c.contains_key.ensures ∙ known.1 among,
    )
