use Rattle.std.proofs.Common.{◌<◌, [], get_or, subst, rules, IsTrue}
use Rattle.std.proofs.lemmas.List.{get_or_default}
use Rattle.std.specs.BTreeSet.{contains_text}
use Rattle.std.specs.List.{Any}
use Rattle.cedar_cli.proofs.hierarchy.Node.is_right_below.Goals as goal
use Rattle.cedar_cli.specs.declared.hierarchy.Weighed.{Weighed}

pub returns-then-contains : goal.returns-then-contains
returns-then-contains c =
    let k = c.loop-weight.weight-index in
    let xs = c.deref-weight-items.result.now in
    let none : Weighed = record { weight = 0; name = record { ref_ptr = (0, 0); now = [] } } in
    let held : IsTrue (contains_text c.args.below.now (get_or xs k none).name.now) = search rules in
    subst (λ ys. Any (λ m. (c.args.self.now.weight < m.weight) × (m.weight < c.args.upper) × IsTrue (contains_text c.args.below.now m.name.now)) ys)
    c.deref-weight-items.ensures.value (
      k,
      get_or xs k none,
      c.loop-weight-test.true,
      get_or_default xs k _ _ c.loop-weight-test.true,
      (c.if-weight-self.true, c.if-weight-upper.false, held),
    )
