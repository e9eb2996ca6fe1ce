use Rattle.std.proofs.Common.{◌≡◌, Contains, get_or, ap, sym, subst, ◌∙◌, arith, inl, inr, refl}
use Rattle.std.proofs.lemmas.Bool.{eqb-true, eq-eqb, false≢true}
use Rattle.cedar_cycles.proofs.search.group_mark.Goals as goal
use Rattle.cedar_cycles.proofs.search.group_mark.Goals.{then-path-start-gt1-via-then-path-start-gt1, then-path-start-gt1-via-else-path-start-gt1+then-contains}
use Rattle.cedar_graph.proofs.Lists.{items_at-read}
use Rattle.cedar_graph.specs.Numbered.{items_at}

pub returns-then-path-start-gt1 : goal.returns-then-path-start-gt1
returns-then-path-start-gt1 c = elim c.then-path-start-gt1.branch [
  | then-path-start-gt1-via-then-path-start-gt1 w ↦ inl (refl, inl (omega (arith, w.if-path-start-gt1.true)))
  | then-path-start-gt1-via-else-path-start-gt1+then-contains w ↦
      let first = get_or c.args.path.now c.args.start 0 in
      let listed : items_at c.args.targets.now.items first ≡ w.deref.result.now =
      items_at-read c.args.targets.now.items first w.index.result.now (omega (arith, c.requires.has_list)) ∙ (ap (λ row. row.items) (sym w.index.ensures) ∙ sym w.deref.ensures.value) in
      let found = w.if-contains.ensures.cases in
      let among : Contains w.deref.result.now first = (found.0, found.1, eqb-true (get_or w.deref.result.now found.0 first) first (found.2 first)) in
      inl (refl, inr (subst (λ each. Contains each first) (sym listed) among))
]

pub returns : goal.returns
returns c =
    let first = get_or c.args.path.now c.args.start 0 in
    let listed : items_at c.args.targets.now.items first ≡ c.deref.result.now =
    items_at-read c.args.targets.now.items first c.index.result.now (omega (arith, c.requires.has_list)) ∙ (ap (λ row. row.items) (sym c.index.ensures) ∙ sym c.deref.ensures.value) in
    inr (
      refl,
      omega (arith, c.if-path-start-gt1.false, c.requires.within),
      λ target.
          let among : Contains c.deref.result.now first = subst (λ each. Contains each first) listed target in
          false≢true (sym (c.if-contains.ensures.cases among.0 first (omega arith) among.1) ∙ eq-eqb (get_or c.deref.result.now among.0 first) first among.2),
    )
