use Rattle.std.proofs.Common.{Some, ap, sym, ◌∙◌}
use Rattle.cedar_table.proofs.ColumnLemmas.{found, not_found}
use Rattle.cedar_table.proofs.table.Table.get.Goals as goal
use Rattle.cedar_table.specs.Words.{get_by, option_copied}

pub returns : goal.returns
returns g c = record {
  value = ap Some c.index.ensures
      ∙ (sym (found c.self.inside.keys c.self.inside.values.items c.self.invariant g.K.Ord.cmp c.args.key.now
      g.met.K.Ord.total c.place.ensures.sorted c.in_ok-place.place c.index.result.now c.in_ok-place.ensures.found)
      ∙ ap (λ table. get_by (g.K.Ord.cmp c.args.key.now) table) c.self.view_is);
}

pub returns-in_err-place : goal.returns-in_err-place
returns-in_err-place g c = record {
  value = ap option_copied c.from_residual.ensures
      ∙ sym (ap (λ table. get_by (g.K.Ord.cmp c.args.key.now) table) (sym c.self.view_is)
      ∙ not_found c.self.inside.keys c.self.inside.values.items c.self.invariant g.K.Ord.cmp c.args.key.now c.in_err-place.ensures.lacking);
}
