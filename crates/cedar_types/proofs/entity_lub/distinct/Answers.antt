use Rattle.cedar_types.proofs.MergedLemmas.{IsStrictlySortedBy-distinct, same_names-referred}
use Rattle.cedar_types.proofs.entity_lub.distinct.Goals as goal

pub returns-clause-sorted : goal.returns-clause-sorted
returns-clause-sorted c =
    IsStrictlySortedBy-distinct c.in_ok-distinct.distinct.items c.dedup.new.self.items c.in_ok-distinct.ensures.sorted
    c.dedup.ensures.filtered

pub returns-clause-names : goal.returns-clause-names
returns-clause-names c =
    same_names-referred c.args.types.items c.in_ok-distinct.distinct.items c.dedup.new.self.items c.in_ok-distinct.ensures.permutation
    c.dedup.ensures.filtered
