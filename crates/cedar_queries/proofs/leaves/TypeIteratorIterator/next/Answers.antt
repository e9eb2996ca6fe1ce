use Rattle.std.proofs.Common.{◌∷◌, List, sym, subst, ◌∙◌, arith}
use Rattle.std.proofs.lemmas.Bool.{MatchBool-at_true, MatchBool-at_false}
use Rattle.std.proofs.lemmas.List.Sorted.{IsPermutation-to_front}
use Rattle.std.specs.List.Sorted.{IsPermutation}
use Rattle.cedar_queries.proofs.LeafLemmas.{leaves-opened, leaves-taken, parts-opened, parts-taken}
use Rattle.cedar_queries.proofs.leaves.TypeIteratorIterator.next.Goals as goal
use Rattle.cedar_queries.specs.Words.{Ty, leaves_of, shown_types, ty_of}

-- a type that is replaced by those inside it leaves one type less
pub loop-ty-smaller : goal.loop-ty-smaller
loop-ty-smaller c =
    let inside = MatchBool-at_true _ _ c.in-Ok-true.field-0-test c.in-Ok-true.ensures in
    let fewer = parts-opened c.loop-ty.self.pending.items c.pop.new.self.items c.add_inner.new.pending.items c.in-Some.ty
    c.in-Some.ensures.items inside.0 inside.1 in
    omega (arith, fewer)

-- no leaf is lost
pub loop-ty-preserved : goal.loop-ty-preserved
loop-ty-preserved c =
    let inside = MatchBool-at_true _ _ c.in-Ok-true.field-0-test c.in-Ok-true.ensures in
    let all = c.loop-ty.self.pending.items in
    let before = c.pop.new.self.items in
    let after = c.add_inner.new.pending.items in
    let is = c.in-Some.ensures.items in
    let fewer = parts-opened all before after c.in-Some.ty is inside.0 inside.1 in
    let kept = c.loop-ty.invariant.1 in
    (leaves-opened all before after c.in-Some.ty is inside.0 inside.1 ∙ c.loop-ty.invariant.0, omega (arith, fewer, kept))

-- a leaf is taken, and the others are left
pub returns-in-Ok-false-clause-steps : goal.returns-in-Ok-false-clause-steps
returns-in-Ok-false-clause-steps c =
    let inside = MatchBool-at_false _ _ c.in-Ok-false.field-0-test c.in-Ok-false.ensures in
    let after = c.add_inner.new.pending.items in
    let taken = leaves-taken c.loop-ty.self.pending.items c.pop.new.self.items after c.in-Some.ty c.in-Some.ensures.items inside.0 inside.1 in
    let one = ty_of c.in-Some.ty.now in
    let HasLeaf : List Ty → Type 0 = λ all. IsPermutation all (one ∷ leaves_of (shown_types after)) in
    subst HasLeaf (sym taken ∙ c.loop-ty.invariant.0) (IsPermutation-to_front (leaves_of (shown_types after)) one)

-- and there are fewer types than before
pub returns-in-Ok-false-clause-goes : goal.returns-in-Ok-false-clause-goes
returns-in-Ok-false-clause-goes c =
    let inside = MatchBool-at_false _ _ c.in-Ok-false.field-0-test c.in-Ok-false.ensures in
    let fewer = parts-taken c.loop-ty.self.pending.items c.pop.new.self.items c.add_inner.new.pending.items c.in-Some.ty
    c.in-Some.ensures.items inside.1 in
    let kept = c.loop-ty.invariant.1 in
    record { on = λ _. (tt, tt, omega (arith, fewer, kept)); keeps = tt; rests = λ _. tt }
