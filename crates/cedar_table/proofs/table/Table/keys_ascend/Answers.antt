use Rattle.cedar_table.proofs.ColumnLemmas.{in_order}
use Rattle.cedar_table.proofs.table.Table.keys_ascend.Goals as goal

pub returns : goal.returns
returns g c =
    in_order c.self.inside.keys c.self.inside.values.items c.self.invariant g.K.Ord.cmp c.args.self.now c.self.view_is
    c.as_vec.ensures.sorted
