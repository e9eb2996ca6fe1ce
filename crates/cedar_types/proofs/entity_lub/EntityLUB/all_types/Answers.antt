use Rattle.std.proofs.Common.{Ok, ap, ◌∙◌}
use Rattle.std.proofs.lemmas.Iterator.{YieldsList-from_slice}
use Rattle.std.proofs.lemmas.Iterator.Adapters.{fact_from_extend}
use Rattle.std.proofs.lemmas.List.{take_all}
use Rattle.std.specs.declared.alloc.AllocError.{AllocError}
use Rattle.cedar_types.proofs.UnionsAtOnce.{NamedBefore-more, NamedBefore-same}
use Rattle.cedar_types.proofs.entity_lub.EntityLUB.all_types.Goals as goal
use Rattle.cedar_types.proofs.entity_lub.EntityLUB.all_types.Goals.{then-place-eq0+in_ok-extend, else-place-eq0+else-not-is_same}

pub loop-place-preserved : goal.loop-place-preserved
loop-place-preserved c =
    let unions = c.args.unions.now.items in
    let place = c.loop-place.place in
    let within = rw c.deref-lub-items.ensures.value at c.loop-place-test.true in
    let is = rw c.deref-lub-items.ensures.value at c.lub-item.is in
    elim c.if-place-eq0.branch [
      | then-place-eq0+in_ok-extend w ↦ rw (ap (λ v. v.items) w.all-is) (fact_from_extend {E = AllocError} (λ y. y.now) (Ok w.in_ok-extend.field-0) w.in_ok-extend.ensures.ran
          (λ it b. YieldsList-from_slice _ b.0) (λ xs e h. NamedBefore-more unions place c.lub-item.result within is c.loop-place.all.items
          w.extend.new.self.items xs c.loop-place.invariant h.0 (e ∙ w.as_slice.ensures)))
      | else-place-eq0+else-not-is_same w ↦ rw (ap (λ v. v.items) w.all-is) (NamedBefore-same unions place c.lub-item.result within is w.index.result.now c.loop-place.all.items w.if-place-eq0.false
          w.index.ensures (w.is_same.ensures.0 w.if-not-is_same.false) c.loop-place.invariant)
    ]

pub returns : goal.returns
returns c =
    rw (take_all c.loop-place.place c.args.unions.now.items (rw c.deref-lub-items.ensures.value at c.loop-place-test.false)) at c.loop-place.invariant
