use Rattle.std.proofs.Common.{refl, ap, ◌∙◌}
use Rattle.std.proofs.Math.ListN.{drop_of_length-le}
use Rattle.cedar_ast.proofs.TreeLemmas.{drop-at}
use Rattle.cedar_types.proofs.+clean.Goals as goal
use Rattle.cedar_types.proofs.CleanSteps.{clean-first, clean-fails, clean-next}

pub clean::are_clean-loop-attribute-init : goal.clean::are_clean-loop-attribute-init
clean::are_clean-loop-attribute-init t c =
    clean-first c.args.attrs.now c.as_slice-attribute-items.result.now
    (c.as_slice-attribute-items.ensures ∙ ap (λ all. all.entries.items) c.deref.ensures)

pub clean::are_clean-returns-then-not-is_without_any_set :
    goal.clean::are_clean-returns-then-not-is_without_any_set
clean::are_clean-returns-then-not-is_without_any_set t c =
    let left = rw (drop-at _ c.loop-attribute.attribute-index c.loop-attribute-item.result c.loop-attribute-test.true
    c.loop-attribute-item.is) at c.loop-attribute.invariant in
    clean-fails c.args.attrs.now c.loop-attribute-item.result _ left c.deref-in-loop-attribute.result.now
    c.deref-in-loop-attribute.ensures
    (λ clean. let there = c.is_without_any_set.ensures.1 clean in let none = c.if-not-is_without_any_set.true in absurd cc)

pub clean::are_clean-loop-attribute-preserved : goal.clean::are_clean-loop-attribute-preserved
clean::are_clean-loop-attribute-preserved t c =
    let left = rw (drop-at _ c.loop-attribute.attribute-index c.loop-attribute-item.result c.loop-attribute-test.true
    c.loop-attribute-item.is) at c.loop-attribute.invariant in
    clean-next c.args.attrs.now c.loop-attribute-item.result _ left c.deref-in-loop-attribute.result.now
    c.deref-in-loop-attribute.ensures (c.is_without_any_set.ensures.0 c.if-not-is_without_any_set.false)

pub clean::are_clean-returns : goal.clean::are_clean-returns
clean::are_clean-returns t c =
    let left = rw (drop_of_length-le c.as_slice-attribute-items.result.now c.loop-attribute-test.false) at c.loop-attribute.invariant in
    (λ _. left.0 tt, λ _. refl)
