use Rattle.std.proofs.Common.{◌≡◌, ◌↔◌, [], ◌∷◌, Contains, length, sym, ◌∙◌, ap, subst, inl, inr, arith}
use Rattle.std.proofs.lemmas.Bool.{cases_lt}
use Rattle.std.proofs.lemmas.List.{length-append}
use Rattle.cedar_ast.proofs.Chains.{first_step}
use Rattle.cedar_graph.proofs.Gathering.{all_fresh}
use Rattle.cedar_graph.proofs.KeyedEdges.{nothing_in_nil}
use Rattle.cedar_graph.proofs.Lists.{each_after_push, items_at-past}
use Rattle.cedar_graph.proofs.closing.closed_lists.Goals as goal
use Rattle.cedar_graph.specs.Words.{AreGathered, Chain, IsTarget, mark_of}

-- no mark stands yet, and no number is closed
pub loop-from-init : goal.loop-from-init
loop-from-init c =
    let marks = c.in_ok-marks.ensures.items_if_clones_equal (λ y same. same) in
    record {
      marks = omega (arith, c.in_ok-marks.ensures.len, c.in_ok-marks.marks.ok.0);
      fresh = λ number. ap (λ list. mark_of list number) marks ∙ all_fresh c.args.columns number;
      len = c.in_ok-closed.ensures.len;
      closed = λ from to below. absurd (omega (arith, below, ap length c.in_ok-closed.ensures.items));
      count = omega arith;
    }

-- the targets of all numbers have marks
pub reached-requires-clause-within : goal.reached-requires-clause-within
reached-requires-clause-within c = λ i j edge.
    let under = c.requires.within i j edge in
    omega (arith, under, c.loop-from.invariant.marks, c.loop-from.marks.ok.0)

-- what is forgotten is what was gathered
pub forget-requires : goal.forget-requires
forget-requires c =
    subst (AreGathered c.reached.new.marks.items) (sym c.deref.ensures.value) c.in_ok-found.ensures.gathered

-- a further number is closed: the new list holds what chains reach from it, and each list before it
-- stays
pub loop-from-preserved : goal.loop-from-preserved
loop-from-preserved c =
    let old = c.loop-from.invariant in
    let found = c.in_ok-found.ensures in
    let closed = c.loop-from.closed.items in
    let here : length closed ≡ c.loop-from.from = omega (arith, old.len, c.loop-from.closed.ok.0) in
    let most = found.count in
    record {
      marks = c.forget.ensures.len ∙ found.len ∙ old.marks;
      fresh = c.forget.ensures.fresh;
      len = omega (arith, c.in_ok-push.ensures.len, old.len);
      closed = λ from to below. subst
          (λ lists. IsTarget lists from to ↔ Chain (IsTarget c.args.targets.now.items) from to)
          (sym c.in_ok-push.ensures.items)
          (each_after_push (λ m xs. Contains xs to ↔ Chain (IsTarget c.args.targets.now.items) m to) closed
          c.in_ok-found.found
          (subst (λ m. Contains c.in_ok-found.found.items to ↔ Chain (IsTarget c.args.targets.now.items) m to) (sym here)
          (found.reached to))
          (λ m less. old.closed m to less)
          from (omega (arith, below, ap length c.in_ok-push.ensures.items, length-append closed (c.in_ok-found.found ∷ []))));
      count = omega (arith, most, old.count);
    }

-- each number has been gone through; one behind the last has no list and no target
pub returns-clause-closed : goal.returns-clause-closed
returns-clause-closed c = λ i j.
    let lists = c.loop-from.closed.items in
    let all = c.args.targets.now.items in
    let len : length lists ≡ length all = omega (
      arith,
      c.loop-from.invariant.len,
      c.loop-from.closed.ok.0,
      c.loop-from-test.false,
      c.loop-from.auto.from-end,
      c.len-from-end.ensures,
      c.args.targets.now.ok.0,
    ) in
    elim (cases_lt i (length lists)) [
      | inl below ↦ c.loop-from.invariant.closed i j below
      | inr past ↦ (
        λ stands. absurd (nothing_in_nil j (subst (λ xs. Contains xs j) (items_at-past lists i past) stands)),
        λ chain.
            let first = first_step (IsTarget all) i j chain in
            absurd (nothing_in_nil first.0
            (subst (λ xs. Contains xs first.0) (items_at-past all i (omega (arith, past, len))) first.1)),
      )
    ]
