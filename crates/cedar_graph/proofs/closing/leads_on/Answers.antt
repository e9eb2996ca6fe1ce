use Rattle.std.proofs.Common.{◌≡◌, ◌≤◌, Contains, length, sym, ◌∙◌, ap, subst, arith}
use Rattle.std.proofs.lemmas.Bool.{eqb-true}
use Rattle.cedar_graph.proofs.KeyedEdges.{nothing_in_nil}
use Rattle.cedar_graph.proofs.Lists.{items_at-past, items_at-read}
use Rattle.cedar_graph.proofs.closing.leads_on.Goals as goal
use Rattle.cedar_graph.proofs.closing.leads_on.Goals.{then-number-len-via-then-number-len, then-number-len-via-else-number-len+then-is_empty}
use Rattle.cedar_graph.specs.Numbered.{items_at}

pub returns-then-number-len-clause-no : goal.returns-then-number-len-clause-no
returns-then-number-len-clause-no c = λ _ to edge. elim c.then-number-len.branch [
  | then-number-len-via-then-number-len w ↦
      let past : length c.args.targets.now.items ≤ c.args.number = omega (
        arith,
        w.if-number-len.true,
        c.len.ensures,
        c.args.targets.now.ok.0,
      ) in
      absurd (nothing_in_nil to (subst (λ xs. Contains xs to) (items_at-past c.args.targets.now.items c.args.number past) edge))
  | then-number-len-via-else-number-len+then-is_empty w ↦
      let listed : items_at c.args.targets.now.items c.args.number ≡ w.index.result.now.items =
      items_at-read c.args.targets.now.items c.args.number w.index.result.now (omega (
        arith,
        w.if-number-len.false,
        c.len.ensures,
        c.args.targets.now.ok.0,
      ))
      ∙ ap (λ list. list.items) (sym w.index.ensures) in
      let none : w.index.result.now.len ≡ 0 = eqb-true w.index.result.now.len 0 (sym w.is_empty.ensures ∙ w.if-is_empty.true) in
      let stands : Contains w.index.result.now.items to = subst (λ xs. Contains xs to) listed edge in
      absurd (omega (arith, stands.1, none, w.index.result.now.ok.0))
]
