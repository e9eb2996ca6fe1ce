use Rattle.std.proofs.Common.{◌≡◌, ◌++◌, ◌<◌, ℕ, zero, suc, replicate, Contains, ◌+◌, length, List, [], ◌∷◌, None, map, ap, sym, subst, ◌∙◌, refl, arith}
use Rattle.std.proofs.lemmas.List.{append_assoc, length-append, length-map}
use Rattle.cedar_graph.proofs.Lists.{items_at-read}
use Rattle.cedar_graph.proofs.OrderProgress.{Progress, mark_at, mark_read, at_first, skipped, came_back, left, opened, whole, opening_pays, leaving_is_free}
use Rattle.cedar_graph.proofs.OrderSteps.{left_within}
use Rattle.cedar_graph.proofs.ordering.walk_through.Goals as goal
use Rattle.cedar_graph.specs.Words.{Enter, IsPast, Leave, Mark, items_at}
use Rattle.cedar_graph.specs.declared.ordering.Mark.TheVariants.{Fresh}

-- the mark of a number of which all are fresh
fresh_at : (count n : ℕ) → n < count → mark_at (replicate count Fresh) n ≡ Fresh
fresh_at zero n within = absurd (omega (arith, within))
fresh_at (suc count) zero within = refl
fresh_at (suc count) (suc n) within = fresh_at count n (omega (arith, within))

-- a list of no length is empty
empty_list : {A : Type 0} (xs : List A) → length xs ≡ 0 → xs ≡ []
empty_list [] none = refl
empty_list (x ∷ xs) none = absurd (omega (arith, none))

pub loop-step-init : goal.loop-step-init
loop-step-init c =
    let marks = c.in_ok-marks.ensures.items_if_clones_equal (λ y same. same) in
    let R : List Mark → Type 0 = λ list. (n : ℕ) → n < length c.args.targets.now.items → mark_at list n ≡ Fresh in
    let P : List ℕ → Type 0 = λ order. Progress c.args.targets.now.items c.in_ok-marks.marks.items c.in_ok-steps.steps.items order None in
    subst P (sym c.new-order.ensures.items)
    (at_first c.args.targets.now.items c.in_ok-marks.marks.items c.in_ok-steps.steps.items
    (omega (arith, c.in_ok-marks.ensures.len, c.len.ensures))
    (subst R (sym marks) (λ n within. fresh_at c.len.result n (omega (arith, within, c.len.ensures))))
    (λ n within. c.in_ok-steps.ensures.each n (omega (arith, within, c.len-2.ensures))) c.in_ok-steps.ensures.only)

pub index_mut-requires : goal.index_mut-requires
index_mut-requires c =
    let so_far = rw c.in-Leave.is at (rw c.in-Some.ensures.items at c.loop-step.invariant) in
    omega (
      arith,
      so_far.len,
      left_within c.args.targets.now.items (IsPast c.args.targets.now.items c.loop-step.on_cycle c.loop-step.order.items) None c.pop.new.self.items
          c.in-Leave.number so_far.are_steps,
    )

pub loop-step-smaller-in-Leave : goal.loop-step-smaller-in-Leave
loop-step-smaller-in-Leave c =
    let free = leaving_is_free c.loop-step.marks.items c.args.targets.now.items c.in-Leave.number in
    let steps : length c.loop-step.steps.items ≡ length c.pop.new.self.items + 1 =
    ap length c.in-Some.ensures.items ∙ length-append c.pop.new.self.items (c.in-Some.step ∷ []) in
    omega (arith, free, steps)

pub loop-step-preserved-in-Leave : goal.loop-step-preserved-in-Leave
loop-step-preserved-in-Leave c =
    rw (sym c.in_ok-push-in-Leave.ensures.items) at (left c.args.targets.now.items c.loop-step.marks.items c.pop.new.self.items c.in-Leave.number c.loop-step.order.items c.loop-step.on_cycle
    (rw c.in-Leave.is at (rw c.in-Some.ensures.items at c.loop-step.invariant)))

pub loop-step-preserved-in-Open : goal.loop-step-preserved-in-Open
loop-step-preserved-in-Open c =
    let so_far = rw c.in-Enter.is at (rw c.in-Some.ensures.items at c.loop-step.invariant) in
    let within : c.in-Enter.number < length c.loop-step.marks.items = omega (arith, c.if-number-len.true, c.len-in-Some.ensures) in
    rw c.or-on_cycle.ensures (came_back c.args.targets.now.items c.loop-step.marks.items c.pop.new.self.items c.in-Enter.number
    c.loop-step.order.items c.loop-step.on_cycle (omega (arith, within, so_far.len))
    (mark_read c.loop-step.marks.items c.in-Enter.number c.index.result.now within c.index.ensures ∙ c.in-Open.is) so_far)

pub loop-step-smaller-in_ok-enter_all-in-Fresh : goal.loop-step-smaller-in_ok-enter_all-in-Fresh
loop-step-smaller-in_ok-enter_all-in-Fresh c =
    let so_far = rw c.in-Enter.is at (rw c.in-Some.ensures.items at c.loop-step.invariant) in
    let marks = c.loop-step.marks.items in
    let targets = c.args.targets.now.items in
    let n = c.in-Enter.number in
    let numbers = c.deref.result.now in
    let within : n < length marks = omega (arith, c.if-number-len.true, c.len-in-Some.ensures) in
    let has_list : n < length targets = omega (arith, within, so_far.len) in
    let fresh : mark_at marks n ≡ Fresh = mark_read marks n c.index.result.now within c.index.ensures ∙ c.in-Fresh.is in
    let listed : items_at targets n ≡ numbers = items_at-read targets n c.index-in-Fresh.result.now has_list
    ∙ (ap (λ row. row.items) (sym c.index-in-Fresh.ensures) ∙ sym c.deref.ensures.value) in
    let added : c.enter_all.new.steps.items ≡ c.pop.new.self.items ++ Leave n ∷ map Enter numbers =
    c.in_ok-enter_all-in-Fresh.ensures
    ∙ (ap (λ steps. steps ++ map Enter numbers) c.in_ok-push-in-Fresh.ensures.items
    ∙ append_assoc c.pop.new.self.items (Leave n ∷ []) (map Enter numbers)) in
    let long : length c.enter_all.new.steps.items ≡ length c.pop.new.self.items + suc (length numbers) =
    ap length added
    ∙ (length-append c.pop.new.self.items (Leave n ∷ map Enter numbers)
    ∙ ap (λ count. length c.pop.new.self.items + suc count) (length-map numbers Enter)) in
    let before : length c.loop-step.steps.items ≡ length c.pop.new.self.items + 1 =
    ap length c.in-Some.ensures.items ∙ length-append c.pop.new.self.items (c.in-Some.step ∷ []) in
    let paid = opening_pays marks targets n within has_list fresh in
    let counts : length (items_at targets n) ≡ length numbers = ap length listed in
    omega (arith, long, before, paid, counts)

pub loop-step-preserved-in_ok-enter_all-in-Fresh : goal.loop-step-preserved-in_ok-enter_all-in-Fresh
loop-step-preserved-in_ok-enter_all-in-Fresh c =
    let so_far = rw c.in-Enter.is at (rw c.in-Some.ensures.items at c.loop-step.invariant) in
    let marks = c.loop-step.marks.items in
    let targets = c.args.targets.now.items in
    let n = c.in-Enter.number in
    let numbers = c.deref.result.now in
    let within : n < length marks = omega (arith, c.if-number-len.true, c.len-in-Some.ensures) in
    let has_list : n < length targets = omega (arith, within, so_far.len) in
    let fresh : mark_at marks n ≡ Fresh = mark_read marks n c.index.result.now within c.index.ensures ∙ c.in-Fresh.is in
    let listed : items_at targets n ≡ numbers = items_at-read targets n c.index-in-Fresh.result.now has_list
    ∙ (ap (λ row. row.items) (sym c.index-in-Fresh.ensures) ∙ sym c.deref.ensures.value) in
    let added : c.enter_all.new.steps.items ≡ c.pop.new.self.items ++ Leave n ∷ map Enter numbers =
    c.in_ok-enter_all-in-Fresh.ensures
    ∙ (ap (λ steps. steps ++ map Enter numbers) c.in_ok-push-in-Fresh.ensures.items
    ∙ append_assoc c.pop.new.self.items (Leave n ∷ []) (map Enter numbers)) in
    let S : ℕ → List ℕ → Type 0 = λ to list. Contains list to in
    rw (sym added) at (opened targets marks c.pop.new.self.items n c.loop-step.order.items numbers c.loop-step.on_cycle has_list fresh
    (λ to. (λ target. subst (S to) listed target, λ there. subst (S to) (sym listed) there)) so_far)

pub loop-step-preserved-in-Done : goal.loop-step-preserved-in-Done
loop-step-preserved-in-Done c =
    let so_far = rw c.in-Enter.is at (rw c.in-Some.ensures.items at c.loop-step.invariant) in
    skipped c.args.targets.now.items c.loop-step.marks.items c.pop.new.self.items c.in-Enter.number c.loop-step.order.items c.loop-step.on_cycle
    (λ within. (so_far.done c.in-Enter.number within).1
    (mark_read c.loop-step.marks.items c.in-Enter.number c.index.result.now
    (omega (arith, c.if-number-len.true, c.len-in-Some.ensures)) c.index.ensures ∙ c.in-Done.is)) so_far

pub loop-step-preserved : goal.loop-step-preserved
loop-step-preserved c =
    let so_far = rw c.in-Enter.is at (rw c.in-Some.ensures.items at c.loop-step.invariant) in
    skipped c.args.targets.now.items c.loop-step.marks.items c.pop.new.self.items c.in-Enter.number c.loop-step.order.items c.loop-step.on_cycle
    (λ within. absurd (omega (arith, within, c.if-number-len.false, c.len-in-Some.ensures, so_far.len))) so_far

pub returns : goal.returns
returns c =
    whole c.args.targets.now.items c.loop-step.marks.items (record { order = c.loop-step.order; on_cycle = c.loop-step.on_cycle })
    (rw (empty_list c.loop-step.steps.items (omega (arith, c.in_default.ensures.cases.0))) at c.loop-step.invariant)
