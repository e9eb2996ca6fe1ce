use Rattle.std.proofs.Common.{ap, arith, length}
use Rattle.std.specs.Slice.Iter.{iter_rest}
use Rattle.cedar_table.proofs.ColumnLemmas.{as_many}
use Rattle.cedar_table.proofs.iter.IterIterator.size_hint.Goals as goal

pub returns-clause-lower : goal.returns-clause-lower
returns-clause-lower g c = λ _.
    let many = as_many (iter_rest c.self.inside.keys) (iter_rest c.self.inside.values) c.self.invariant in
    omega (arith, c.len-len.ensures.value, many, ap length c.self.view_is)

pub returns-clause-upper : goal.returns-clause-upper
returns-clause-upper g c =
    let many = as_many (iter_rest c.self.inside.keys) (iter_rest c.self.inside.values) c.self.invariant in
    (tt, omega (arith, c.len-len.ensures.value, many, ap length c.self.view_is))
