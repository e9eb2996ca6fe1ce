use Rattle.std.proofs.Common.{◌∙◌, sym}
use Rattle.cedar_table.proofs.ColumnLemmas.{columns, in_order}
use Rattle.cedar_table.proofs.table.Table.values.Goals as goal

pub returns-clause-rest : goal.returns-clause-rest
returns-clause-rest g c =
    c.new.ensures ∙ (c.deref.ensures.value
    ∙ sym (columns c.self.inside.keys c.self.inside.values.items c.self.invariant c.args.self.now c.self.view_is).1)

pub returns-clause-ordered : goal.returns-clause-ordered
returns-clause-ordered g c =
    in_order c.self.inside.keys c.self.inside.values.items c.self.invariant g.K.Ord.cmp c.args.self.now c.self.view_is
    c.as_vec.ensures.sorted
