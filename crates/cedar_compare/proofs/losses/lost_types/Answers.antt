use Rattle.std.proofs.Common.{List, ap, map, subst, sym, ◌∙◌}
use Rattle.std.specs.List.Sorted.{IsStrictlySortedBy}
use Rattle.cedar_compare.proofs.CompareLemmas.{named_subjects, names_sorted, reported_difference, reported_nothing, reported_start}
use Rattle.cedar_compare.proofs.ReportedLemmas.{reported_all}
use Rattle.cedar_compare.proofs.losses.lost_types.Goals as goal
use Rattle.cedar_compare.specs.Words.{EntityType, Subject, name_cmp, new_of, old_of, plain_difference, type_name, type_subject, type_subjects}

-- the subjects of names
abbrev subjects_of : List EntityType → List Subject
subjects_of names = map (λ name. type_subject (type_name name)) names

pub loop-name-init : goal.loop-name-init
loop-name-init c =
    let versions = c.args.versions.now in
    let names = c.into_iter-name-iterator.result in
    let gives = c.into_iter-name-iterator.ensures.into_iter_gives in
    reported_start versions.extensions.now (old_of versions) (new_of versions) (type_subjects (old_of versions)) (subjects_of names)
    c.new-lost.result.items
    (named_subjects versions.old.now names (gives ∙ c.entity_type_names-name-items.ensures.names))
    c.new-lost.ensures.items
    (names_sorted names (subst (λ (xs : List EntityType). IsStrictlySortedBy name_cmp (map type_name xs)) (sym gives)
    c.entity_type_names-name-items.ensures.in_order))

pub loop-name-preserved-in-Continue-branch-4 : goal.loop-name-preserved-in-Continue-branch-4
loop-name-preserved-in-Continue-branch-4 c =
    let versions = c.args.versions.now in
    reported_difference versions.extensions.now (old_of versions) (new_of versions) (type_subjects (old_of versions))
    (subjects_of c.loop-name.name-iterator) (subjects_of c.next.new.self) c.loop-name.lost.items c.push.new.self.items
    (type_subject (type_name c.in-Some.name.now)) c.in_ok-difference.field-0 c.in-Some-2.difference
    (ap subjects_of c.in-Some.ensures.steps) c.in-Some-2.is c.in_ok-push.ensures.items c.in_ok-difference.ensures
    c.loop-name.invariant

pub loop-name-preserved : goal.loop-name-preserved
loop-name-preserved c =
    let versions = c.args.versions.now in
    reported_nothing versions.extensions.now (old_of versions) (new_of versions) (type_subjects (old_of versions))
    (subjects_of c.loop-name.name-iterator) (subjects_of c.next.new.self) c.loop-name.lost.items
    (type_subject (type_name c.in-Some.name.now)) c.in_ok-difference.field-0 (ap subjects_of c.in-Some.ensures.steps)
    c.in_default.is c.in_ok-difference.ensures c.loop-name.invariant

pub returns : goal.returns
returns c =
    let versions = c.args.versions.now in
    reported_all versions.extensions.now (old_of versions) (new_of versions) (type_subjects (old_of versions))
    (subjects_of c.loop-name.name-iterator) (map plain_difference c.loop-name.lost.items)
    (ap subjects_of c.in-None.ensures.steps.0) c.loop-name.invariant
