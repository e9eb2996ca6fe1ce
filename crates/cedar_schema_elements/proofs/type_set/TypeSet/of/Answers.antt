use Rattle.cedar_schema_elements.proofs.TypeSetLemmas.{kept_in_order, names_kept}
use Rattle.cedar_schema_elements.proofs.type_set.TypeSet.of.Goals as goal

pub invariant_of-result : goal.invariant_of-result
invariant_of-result c = record {
  sorted = kept_in_order c.sort_unstable.new.self.items c.dedup.new.self.items c.dedup.ensures.filtered
      c.sort_unstable.ensures.sorted;
}

pub returns : goal.returns
returns c =
    names_kept c.args.types.items c.sort_unstable.new.self.items c.dedup.new.self.items c.sort_unstable.ensures.permutation
    c.dedup.ensures.filtered
