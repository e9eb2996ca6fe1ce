use Rattle.cedar_compare.proofs.ActionAncestorLemmas.{anything_left, turned_left}
use Rattle.cedar_compare.proofs.action_ancestors.action_ancestors.Goals as goal
use Rattle.cedar_compare.specs.Versions.{new_of, old_of}

pub returns : goal.returns
returns c =
    let old = old_of c.args.versions.now in
    let new = new_of c.args.versions.now in
    let first = c.in_ok-add_unlisted.ensures.reported (anything_left old new c.new-ancestors.result c.new-ancestors.ensures.empty) in
    (c.in_ok-add_unlisted-2.ensures.kept first, c.in_ok-add_unlisted-2.ensures.reported (turned_left old new c.add_unlisted.new.ancestors first))
