use Rattle.std.proofs.lemmas.Bool.{both_ways}
use Rattle.cedar_table.proofs.SearchLemmas.{none_sorted}
use Rattle.cedar_table.proofs.table_keys.TableKeys.new.Goals as goal

pub invariant_of-result : goal.invariant_of-result
invariant_of-result g c = (
  none_sorted g.K.Ord.cmp c.new.result.items c.new.ensures.items,
  λ complete. absurd (both_ways c.new-2.result.complete c.new-2.ensures complete),
)
