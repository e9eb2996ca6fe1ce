use Rattle.std.proofs.Common.{sym}
use Rattle.cedar_table.proofs.ColumnLemmas.{columns, in_order}
use Rattle.cedar_table.proofs.table.Table.into_parts.Goals as goal

pub returns-clause-sorted : goal.returns-clause-sorted
returns-clause-sorted g c =
    in_order c.self.inside.keys c.self.inside.values.items c.self.invariant g.K.Ord.cmp c.args.self c.self.view_is
    c.as_vec.ensures.sorted

pub returns-clause-keys : goal.returns-clause-keys
returns-clause-keys g c =
    sym (columns c.self.inside.keys c.self.inside.values.items c.self.invariant c.args.self c.self.view_is).0

pub returns-clause-values : goal.returns-clause-values
returns-clause-values g c =
    sym (columns c.self.inside.keys c.self.inside.values.items c.self.invariant c.args.self c.self.view_is).1
