use Rattle.std.proofs.Common.{refl, sym, ap, subst, ◌∙◌, arith}
use Rattle.cedar_name_map.proofs.SearchLemmas.{Halves-above, Halves-below, Halves-found, Halves-none}
use Rattle.cedar_name_map.proofs.by_name.ByName.get_counted.Goals as goal
use Rattle.cedar_name_map.specs.Words.{AreSortedByName, text_cmp, value_at}

pub overflow_add-compared : goal.overflow_add-compared
overflow_add-compared g c =
    let few = c.loop-low.invariant.counted 64 c.loop-low.invariant.small in omega (arith, few.1)

pub loop-low-preserved-in-Less : goal.loop-low-preserved-in-Less
loop-low-preserved-in-Less g c =
    let up = subst AreSortedByName (sym c.as_slice-entries.ensures.value) c.args.self.now.sorted_by_name in
    Halves-above _ _ up c.loop-low.low c.loop-low.high c.loop-low.compared _ c.index-entries-middle.result
    c.loop-low.invariant c.loop-low-test.true refl (ap (λ bytes. text_cmp bytes c.args.name.now) (sym c.as_str.ensures.value) ∙ sym c.in-Less.ensures)

pub returns-in-Equal-clause-value : goal.returns-in-Equal-clause-value
returns-in-Equal-clause-value g c =
    let up = subst AreSortedByName (sym c.as_slice-entries.ensures.value) c.args.self.now.sorted_by_name in
    Halves-found _ _ up _ c.index-entries-middle.result
    (omega (arith, c.loop-low-test.true, c.loop-low.invariant.within)) (ap (λ bytes. text_cmp bytes c.args.name.now) (sym c.as_str.ensures.value) ∙ sym c.in-Equal.ensures) _
    ∙ ap (value_at c.args.name.now) c.as_slice-entries.ensures.value

pub loop-low-preserved : goal.loop-low-preserved
loop-low-preserved g c =
    let up = subst AreSortedByName (sym c.as_slice-entries.ensures.value) c.args.self.now.sorted_by_name in
    Halves-below _ _ up c.loop-low.low c.loop-low.high c.loop-low.compared _ c.index-entries-middle.result
    c.loop-low.invariant c.loop-low-test.true refl (ap (λ bytes. text_cmp bytes c.args.name.now) (sym c.as_str.ensures.value) ∙ sym c.in-Greater.ensures)

pub returns-clause-value : goal.returns-clause-value
returns-clause-value g c =
    let up = subst AreSortedByName (sym c.as_slice-entries.ensures.value) c.args.self.now.sorted_by_name in
    Halves-none _ _ up c.loop-low.low c.loop-low.high c.loop-low.compared c.loop-low.invariant
    (omega (arith, c.loop-low-test.false))
    ∙ ap (value_at c.args.name.now) c.as_slice-entries.ensures.value
