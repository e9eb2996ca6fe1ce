use Rattle.std.proofs.Common.{List, Contains, ap, map, subst, sym, ◌∙◌}
use Rattle.cedar_compare.proofs.AncestorLemmas.{entity_walk, past_no_type, types_left}
use Rattle.cedar_compare.proofs.FindLemmas.{plain_keys}
use Rattle.cedar_compare.proofs.UpperLemmas.{none_left}
use Rattle.cedar_compare.proofs.ancestors.lost_ancestors.Goals as goal
use Rattle.cedar_compare.specs.Words.{AreAncestorsSoFar, PlainName, new_of, old_of, plain_type, schema_entries, type_name}

pub loop-name-init : goal.loop-name-init
loop-name-init c =
    let versions = c.args.versions.now in
    types_left (old_of versions) (new_of versions) (map type_name c.into_iter-name-iterator.result) c.new-ancestors.result c.new-ancestors.ensures.empty
    (plain_keys type_name plain_type (schema_entries versions.old.now)
    ∙ sym (ap (map type_name) (c.into_iter-name-iterator.ensures.into_iter_gives ∙ c.entity_type_names-name-items.ensures.names)))

pub loop-name-preserved-in-Some-find_type : goal.loop-name-preserved-in-Some-find_type
loop-name-preserved-in-Some-find_type c =
    let versions = c.args.versions.now in
    c.in_ok-add_descendants.ensures (map type_name c.next.new.self)
    (subst (λ (names : List PlainName). AreAncestorsSoFar (old_of versions) (new_of versions) (λ lower upper. Contains names upper.ty) c.loop-name.ancestors)
    (ap (map type_name) c.in-Some.ensures.steps) c.loop-name.invariant)

pub loop-name-preserved : goal.loop-name-preserved
loop-name-preserved c =
    let versions = c.args.versions.now in
    past_no_type (old_of versions) (new_of versions) (type_name c.in-Some.name.now) (map type_name c.next.new.self) c.loop-name.ancestors c.in_default.ensures
    (subst (λ (names : List PlainName). AreAncestorsSoFar (old_of versions) (new_of versions) (λ lower upper. Contains names upper.ty) c.loop-name.ancestors)
    (ap (map type_name) c.in-Some.ensures.steps) c.loop-name.invariant)

pub returns : goal.returns
returns c =
    let versions = c.args.versions.now in
    none_left (entity_walk (old_of versions) (new_of versions)) (map type_name c.loop-name.name-iterator) c.loop-name.ancestors
    (ap (map type_name) c.in-None.ensures.steps.0) c.loop-name.invariant
