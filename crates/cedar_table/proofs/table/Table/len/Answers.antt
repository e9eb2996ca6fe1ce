use Rattle.std.proofs.Common.{◌∙◌, sym}
use Rattle.cedar_table.proofs.ColumnLemmas.{columns}
use Rattle.cedar_table.proofs.table.Table.len.Goals as goal

pub returns : goal.returns
returns g c =
    c.len.ensures ∙ (c.self.inside.values.ok.0
    ∙ sym (columns c.self.inside.keys c.self.inside.values.items c.self.invariant c.args.self.now c.self.view_is).2)
