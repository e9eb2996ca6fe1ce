use Rattle.std.proofs.Common.{◌≡◌, ◌++◌, ◌+◌, ℕ, [], ◌∷◌, get_or, length, ap, sym, subst, ◌∙◌, arith, append_assoc}
use Rattle.std.proofs.Math.Seq.{get_or-append_seam}
use Rattle.std.proofs.lemmas.List.{append-nil, length-append}
use Rattle.cedar_cycles.proofs.Leaving.{marked_more, marked_none}
use Rattle.cedar_cycles.proofs.Steps.{marked_within, open_isnt_fresh}
use Rattle.cedar_cycles.proofs.search.close.Goals as goal
use Rattle.cedar_cycles.proofs.search.close.Goals.{In-Some}
use Rattle.cedar_cycles.specs.Search.{IsMarked, mark_of}
use Rattle.cedar_cycles.specs.declared.search.Mark.TheVariants.{Open}

-- nothing is taken off at first
pub loop-mark-init : goal.loop-mark-init
loop-mark-init c = record {
  from = omega (arith, c.requires.within, c.args.path.now.ok.0);
  front = ([], sym (append-nil c.args.path.now.items));
  marked = marked_none c.args.mark (length c.args.path.now.items) c.args.marks.now.items
      (λ number place opens. let stands = c.requires.on_path number place opens in omega (arith, stands.0, c.args.path.now.ok.0));
}

-- the path as it was, with the number that is taken off
was : (c : In-Some) → c.args.path.now.items ≡ c.pop.new.self.items ++ c.in-Some.number ∷ c.loop-mark.invariant.front.0
was c = c.loop-mark.invariant.front.1
    ∙ (ap (λ each. each ++ c.loop-mark.invariant.front.0) c.in-Some.ensures.items
    ∙ append_assoc c.pop.new.self.items (c.in-Some.number ∷ []) c.loop-mark.invariant.front.0)

-- where it stood
stood : (c : In-Some) → mark_of c.args.marks.now.items c.in-Some.number ≡ Open (length c.pop.new.self.items)
stood c =
    let place = length c.pop.new.self.items in
    let read : get_or c.args.path.now.items place 0 ≡ c.in-Some.number =
    ap (λ each. get_or each place 0) (was c) ∙ get_or-append_seam c.pop.new.self.items c.in-Some.number c.loop-mark.invariant.front.0 0 in
    let long : length c.args.path.now.items ≡ place + length (c.in-Some.number ∷ c.loop-mark.invariant.front.0) =
    ap length (was c) ∙ length-append c.pop.new.self.items (c.in-Some.number ∷ c.loop-mark.invariant.front.0) in
    ap (mark_of c.args.marks.now.items) (sym read) ∙ c.requires.opened place (omega (arith, long, c.args.path.now.ok.0))

-- and where numbers stood that were open there
only : (c : In-Some) (other : ℕ) → mark_of c.args.marks.now.items other ≡ Open (length c.pop.new.self.items) → other ≡ c.in-Some.number
only c other opens =
    let place = length c.pop.new.self.items in
    let stands = c.requires.on_path other place opens in
    sym stands.1 ∙ (ap (λ each. get_or each place 0) (was c) ∙ get_or-append_seam c.pop.new.self.items c.in-Some.number c.loop-mark.invariant.front.0 0)

pub index_mut-requires : goal.index_mut-requires
index_mut-requires c =
    let some = (goal.at.index_mut-requires c).In-Some in
    let within = marked_within c.args.marks.now.items c.in-Some.number
    (λ fresh. open_isnt_fresh (length c.pop.new.self.items) (sym (stood some) ∙ fresh)) in
    omega (arith, within, c.loop-mark.invariant.marked.len, c.loop-mark.marks.ok.0)

pub loop-mark-preserved : goal.loop-mark-preserved
loop-mark-preserved c =
    let some = (goal.at.loop-mark-preserved c).In-Some in
    let place = length c.pop.new.self.items in
    let long : length c.loop-mark.path.items ≡ place + 1 =
    ap length c.in-Some.ensures.items ∙ length-append c.pop.new.self.items (c.in-Some.number ∷ []) in
    let within = marked_within c.args.marks.now.items c.in-Some.number (λ fresh. open_isnt_fresh place (sym (stood some) ∙ fresh)) in
    record {
      from = omega (arith, c.loop-mark-test.true, c.len.ensures, c.loop-mark.path.ok.0, long);
      front = (c.in-Some.number ∷ c.loop-mark.invariant.front.0, was some);
      marked = marked_more c.args.mark c.in-Some.number place c.args.marks.now.items c.loop-mark.marks.items
          (omega (arith, within, c.loop-mark.invariant.marked.len)) (stood some) (only some)
          (subst (λ start. IsMarked c.args.mark start c.args.marks.now.items c.loop-mark.marks.items) long c.loop-mark.invariant.marked);
    }

pub returns-clause-len : goal.returns-clause-len
returns-clause-len c = omega (arith, c.loop-mark.invariant.from, c.loop-mark-test.false)

pub returns-clause-marked : goal.returns-clause-marked
returns-clause-marked c =
    let at : length c.loop-mark.path.items ≡ c.args.start = omega (arith, c.loop-mark.invariant.from, c.loop-mark-test.false, c.len.ensures) in
    subst (λ start. IsMarked c.args.mark start c.args.marks.now.items c.loop-mark.marks.items) at c.loop-mark.invariant.marked
