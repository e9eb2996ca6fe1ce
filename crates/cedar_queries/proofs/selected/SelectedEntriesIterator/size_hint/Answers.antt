use Rattle.std.proofs.Common.{length, ap, arith}
use Rattle.cedar_queries.proofs.SelectedLemmas.{few_kept}
use Rattle.cedar_queries.proofs.selected.SelectedEntriesIterator.size_hint.Goals as goal

pub returns-clause-upper : goal.returns-clause-upper
returns-clause-upper g c =
    let few = few_kept (λ entry. g.T.Test.holds c.self.inside.test entry.1) c.self.inside.rest in
    let left = ap length c.self.view_is in
    let all = c.len.ensures.value in
    (tt, omega (arith, few, left, all))
