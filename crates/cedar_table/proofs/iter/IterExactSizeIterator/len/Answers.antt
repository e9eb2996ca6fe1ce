use Rattle.std.proofs.Common.{◌∙◌, ap, length, sym}
use Rattle.std.specs.Slice.Iter.{iter_rest}
use Rattle.cedar_table.proofs.ColumnLemmas.{as_many}
use Rattle.cedar_table.proofs.iter.IterExactSizeIterator.len.Goals as goal

pub returns-clause-value : goal.returns-clause-value
returns-clause-value g c =
    c.len.ensures.value ∙ (sym (as_many (iter_rest c.self.inside.keys) (iter_rest c.self.inside.values) c.self.invariant)
    ∙ ap length c.self.view_is)
