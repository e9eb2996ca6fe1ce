use Rattle.std.proofs.Common.{◌++◌, ap, ◌∙◌}
use Rattle.cedar_compare.proofs.CompareLemmas.{reported_kept_all, reported_losses}
use Rattle.cedar_compare.proofs.losses.losses.Goals as goal
use Rattle.cedar_compare.specs.Words.{entities_of, new_of}

pub returns-clause-losses : goal.returns-clause-losses
returns-clause-losses c =
    let versions = c.args.versions.now in
    reported_losses versions.extensions.now versions.old.now (new_of versions) (entities_of c.args.entities.now)
    c.in_ok-lost.lost.items c.in_ok-actions.actions.items c.in_ok-requests.requests.items c.append-2.new.self.items
    c.requires.entities c.in_ok-lost.ensures c.in_ok-actions.ensures c.in_ok-requests.ensures
    (c.in_ok-append-2.ensures.items ∙ ap (λ items. items ++ c.in_ok-requests.requests.items) c.in_ok-append.ensures.items)

pub returns-clause-kept : goal.returns-clause-kept
returns-clause-kept c =
    let versions = c.args.versions.now in
    reported_kept_all versions.extensions.now versions.old.now (new_of versions) (entities_of c.args.entities.now)
    c.in_ok-lost.lost.items c.in_ok-actions.actions.items c.in_ok-requests.requests.items c.append-2.new.self.items
    c.requires.entities c.in_ok-lost.ensures c.in_ok-actions.ensures c.in_ok-requests.ensures
    (c.in_ok-append-2.ensures.items ∙ ap (λ items. items ++ c.in_ok-requests.requests.items) c.in_ok-append.ensures.items)
