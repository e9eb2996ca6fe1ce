use Rattle.std.proofs.Common.{List, ap, map, subst, sym, ◌∙◌}
use Rattle.std.specs.List.Sorted.{IsStrictlySortedBy}
use Rattle.cedar_compare.proofs.CompareLemmas.{requests_all, requests_next, requests_start}
use Rattle.cedar_compare.proofs.FindLemmas.{plain_keys}
use Rattle.cedar_compare.proofs.losses.lost_requests.Goals as goal
use Rattle.cedar_compare.specs.Words.{EntityUID, action_entries, action_of, new_of, old_of, plain_difference, uid_cmp, uid_of}

pub loop-uid-init : goal.loop-uid-init
loop-uid-init c =
    let gives = c.into_iter-uid-iterator.ensures.into_iter_gives in
    requests_start c.args.versions.now.extensions.now (old_of c.args.versions.now) (new_of c.args.versions.now)
    (map uid_of c.into_iter-uid-iterator.result) c.new-lost.result.items
    (ap (map uid_of) (gives ∙ c.actions-uid-items.ensures.uids)
    ∙ sym (plain_keys uid_of action_of (action_entries c.args.versions.now.old.now)))
    c.new-lost.ensures.items
    (subst (λ (uids : List EntityUID). IsStrictlySortedBy uid_cmp (map uid_of uids)) (sym gives) c.actions-uid-items.ensures.in_order)

pub loop-uid-preserved : goal.loop-uid-preserved
loop-uid-preserved c =
    requests_next c.args.versions.now.extensions.now (old_of c.args.versions.now) (new_of c.args.versions.now)
    (map uid_of c.loop-uid.uid-iterator) (map uid_of c.next.new.self) c.loop-uid.lost.items c.in_ok-more.more.items
    c.append.new.self.items (uid_of c.in-Some.uid.now) (ap (map uid_of) c.in-Some.ensures.steps) c.in_ok-append.ensures.items
    c.in_ok-more.ensures c.loop-uid.invariant

pub returns : goal.returns
returns c =
    requests_all c.args.versions.now.extensions.now (old_of c.args.versions.now) (new_of c.args.versions.now)
    (map uid_of c.loop-uid.uid-iterator) (map plain_difference c.loop-uid.lost.items)
    (ap (map uid_of) c.in-None.ensures.steps.0) c.loop-uid.invariant
