use Rattle.cedar_queries.proofs.SelectedLemmas.{keys_where-map}
use Rattle.cedar_queries.proofs.descent.action_groups.Goals as goal
use Rattle.cedar_queries.specs.Words.{action_of, is_nonempty, uid_of}

pub returns : goal.returns
returns c =
    cc (c.new.ensures, keys_where-map uid_of action_of (λ it. is_nonempty it.descendants) c.args.actions.now.entries)
