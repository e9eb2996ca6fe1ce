use Rattle.std.proofs.Common.{refl, ap, ◌∙◌}
use Rattle.std.proofs.Math.ListN.{drop_of_length-le}
use Rattle.cedar_ast.proofs.TreeLemmas.{drop-at}
use Rattle.cedar_type_rules.specs.Stated.{FieldsRequireAll}
use Rattle.cedar_types.proofs.+required.Goals as goal
use Rattle.cedar_types.proofs.StatedSteps.{flag_same, left-fails, left-first, left-next, required_left, type_same}

-- at first all attributes are left
pub stated::require_all-loop-attribute-init : goal.stated::require_all-loop-attribute-init
stated::require_all-loop-attribute-init t c =
    left-first FieldsRequireAll c.args.attrs.now
    c.as_slice-attribute-items.result.now (c.as_slice-attribute-items.ensures ∙ ap (λ all. all.entries.items) c.deref.ensures)

-- an attribute that may be missing fails
pub stated::require_all-returns-then-not-attribute :
    goal.stated::require_all-returns-then-not-attribute
stated::require_all-returns-then-not-attribute t c =
    let left = required_left c.args.attrs.now c.loop-attribute-item.result _ (rw (drop-at _ c.loop-attribute.attribute-index
    c.loop-attribute-item.result c.loop-attribute-test.true c.loop-attribute-item.is) at c.loop-attribute.invariant) in
    left-fails left
    (λ needed. let same = flag_same c.loop-attribute-item.result.1 in let none = c.if-not-attribute.true in absurd cc)

-- so does one whose type has such an attribute
pub stated::require_all-returns-then-not-requires_all :
    goal.stated::require_all-returns-then-not-requires_all
stated::require_all-returns-then-not-requires_all t c =
    let left = required_left c.args.attrs.now c.loop-attribute-item.result _ (rw (drop-at _ c.loop-attribute.attribute-index
    c.loop-attribute-item.result c.loop-attribute-test.true c.loop-attribute-item.is) at c.loop-attribute.invariant) in
    left-fails (left-next left (flag_same c.loop-attribute-item.result.1 ∙ c.if-not-attribute.false))
    (λ all. let there = c.requires_all.ensures.1 (rw (type_same c.loop-attribute-item.result.1
    c.deref-in-loop-attribute.result.now c.deref-in-loop-attribute.ensures) all) in
    let none = c.if-not-requires_all.true in absurd cc)

-- past one that requires all the rest decides
pub stated::require_all-loop-attribute-preserved : goal.stated::require_all-loop-attribute-preserved
stated::require_all-loop-attribute-preserved t c =
    let left = required_left c.args.attrs.now c.loop-attribute-item.result _ (rw (drop-at _ c.loop-attribute.attribute-index
    c.loop-attribute-item.result c.loop-attribute-test.true c.loop-attribute-item.is) at c.loop-attribute.invariant) in
    left-next (left-next left (flag_same c.loop-attribute-item.result.1 ∙ c.if-not-attribute.false))
    (rw (type_same c.loop-attribute-item.result.1 c.deref-in-loop-attribute.result.now c.deref-in-loop-attribute.ensures) at (c.requires_all.ensures.0 c.if-not-requires_all.false))

-- where none is left, all are required
pub stated::require_all-returns : goal.stated::require_all-returns
stated::require_all-returns t c =
    let left = rw (drop_of_length-le c.as_slice-attribute-items.result.now c.loop-attribute-test.false) at c.loop-attribute.invariant in
    (λ _. left.0 tt, λ _. refl)
