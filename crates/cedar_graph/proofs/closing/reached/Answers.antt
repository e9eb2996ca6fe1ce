use Rattle.std.proofs.Common.{◌≡◌, ◌<◌, ◌+◌, ℕ, [], Contains, get_or, length, vec_len, refl, sym, ◌∙◌, ap, subst, inl, inr, arith}
use Rattle.std.proofs.Math.ListN.{get_or-append}
use Rattle.std.proofs.lemmas.Bool.{both_ways, cases_eq}
use Rattle.std.proofs.lemmas.List.{length-append}
use Rattle.std.proofs.lemmas.List.Elements.{Contains-append_left, Contains-get_or}
use Rattle.cedar_graph.proofs.Counting.{count_below-fewer, count_below-le}
use Rattle.cedar_graph.proofs.Gathering.{found_few, gathers_same, is_undone, marked_within, nothing_gathered, reached_all, reached_first, read_at, told_done, told_undone}
use Rattle.cedar_graph.proofs.Lists.{items_at-read}
use Rattle.cedar_graph.proofs.closing.reached.Goals as goal
use Rattle.cedar_graph.proofs.closing.reached.Goals.{After-deref, After-index-number}
use Rattle.cedar_graph.specs.Words.{AreGathered, GathersMore, IsTarget, Met, items_at}

-- the list that is gathered first is that of the number's targets
listed : (c : After-deref) → items_at c.args.targets.now.items c.args.from ≡ c.deref.result.now
listed c =
    items_at-read c.args.targets.now.items c.args.from c.index.result.now (omega (arith, c.requires.has_list))
    ∙ ap (λ list. list.items) (sym c.index.ensures) ∙ sym c.deref.ensures.value

pub gather_all-requires-clause-gathered : goal.gather_all-requires-clause-gathered
gather_all-requires-clause-gathered c =
    subst (AreGathered c.args.marks.now.items) (sym c.new-found.ensures.items)
    (nothing_gathered c.args.marks.now.items c.requires.fresh)

pub gather_all-requires-clause-within : goal.gather_all-requires-clause-within
gather_all-requires-clause-within c = λ k d below.
    let among = Contains-get_or c.deref.result.now k d below in
    c.requires.within c.args.from (get_or c.deref.result.now k d)
    (subst (λ xs. Contains xs (get_or c.deref.result.now k d)) (sym (listed (goal.at.gather_all-requires-clause-within c).After-deref)) among)

pub loop-place-init : goal.loop-place-init
loop-place-init c =
    let same = listed (goal.at.loop-place-init c).After-deref in
    let targets = c.args.targets.now.items in
    let new = c.gather_all.new.marks.items in
    let found = c.gather_all.new.found.items in
    let gathers : GathersMore Met (IsTarget targets c.args.from) c.args.marks.now.items [] new found =
    gathers_same Met (Contains c.deref.result.now) (IsTarget targets c.args.from)
    (λ n. (subst (λ xs. Contains xs n) same, subst (λ xs. Contains xs n) (sym same)))
    c.args.marks.now.items [] new found
    (subst (λ xs. GathersMore Met (Contains c.deref.result.now) c.args.marks.now.items xs new found) c.new-found.ensures.items
    c.in_ok-gather_all.ensures) in
    let most = count_below-le (is_undone new) (vec_len c.args.targets.now) in
    record {
      len = gathers.len;
      are = reached_first targets c.args.from c.args.marks.now.items new found c.requires.fresh gathers;
      within = omega arith;
      passed = λ k to below. absurd (omega (arith, below));
      count = omega (arith, most);
    }

-- the number of this turn is among those that are gathered
among : (c : After-index-number) → Contains c.loop-place.found.items c.index-number.result.now
among c = (c.loop-place.place, omega (arith, c.loop-place-test.true, c.len.ensures), sym c.index-number.ensures)

pub leads_on-requires : goal.leads_on-requires
leads_on-requires c =
    let stands = among (goal.at.leads_on-requires c).After-index-number in
    let within = marked_within c.loop-place.marks.items c.index-number.result.now
    ((c.loop-place.invariant.are.gathered.marked c.index-number.result.now).0 stands) in
    omega (arith, within, c.loop-place.marks.ok.0)

pub follow-requires-clause-within : goal.follow-requires-clause-within
follow-requires-clause-within c = λ i j edge.
    let under = c.requires.within i j edge in
    omega (arith, under, c.loop-place.invariant.len, c.loop-place.marks.ok.0, c.args.marks.now.ok.0)

pub follow-requires-clause-gathered : goal.follow-requires-clause-gathered
follow-requires-clause-gathered c = among (goal.at.follow-requires-clause-gathered c).After-index-number

pub loop-place-smaller-then-leads_on : goal.loop-place-smaller-then-leads_on
loop-place-smaller-then-leads_on c =
    let few = found_few c.loop-place.marks.items c.loop-place.found.items c.loop-place.invariant.are.gathered in
    omega (arith, few, c.loop-place-test.true, c.len.ensures, c.in_ok-follow.ensures.len)

pub loop-place-preserved-then-leads_on : goal.loop-place-preserved-then-leads_on
loop-place-preserved-then-leads_on c =
    let old = c.loop-place.invariant in
    let step = c.in_ok-follow.ensures in
    let place = c.loop-place.place in
    let before = c.loop-place.found.items in
    let found = c.follow.new.found.items in
    let number = c.index-number.result.now in
    let leads = c.if-leads_on.ensures.yes refl in
    let inside : place < length before = omega (arith, c.loop-place-test.true, c.len.ensures) in
    let longer : length found ≡ length before + length step.grown.0 = ap length step.grown.1
    ∙ length-append before step.grown.0 in
    let same : (k : ℕ) → k < length before → get_or found k 0 ≡ get_or before k 0 =
    λ k below. ap (λ xs. get_or xs k 0) step.grown.1 ∙ get_or-append before step.grown.0 0 k below in
    let here : get_or found place 0 ≡ number =
    same place inside ∙ read_at before place number inside (sym c.index-number.ensures) in
    let fewer = count_below-fewer (is_undone c.loop-place.marks.items) (is_undone c.follow.new.marks.items) number
    (vec_len c.args.targets.now) leads.0 (told_undone c.loop-place.marks.items number leads.1)
    (told_done c.follow.new.marks.items number step.done)
    (λ k undone. told_undone c.loop-place.marks.items k
    (λ done. both_ways _ (told_done c.follow.new.marks.items k (step.stays k done)) undone)) in
    record {
      len = step.len ∙ old.len;
      are = step.reached;
      within = omega (arith, inside, longer);
      passed = λ k to below edge. elim (cases_eq k place) [
        | inl this ↦ step.reached.done number to step.done
            (subst (λ n. IsTarget c.args.targets.now.items n to) (ap (λ n. get_or found n 0) this ∙ here) edge)
        | inr apart ↦
            let earlier : k < place = omega (arith, below, apart) in
            subst (λ xs. Contains xs to) (sym step.grown.1) (Contains-append_left before step.grown.0 to
            (old.passed k to earlier (subst (λ n. IsTarget c.args.targets.now.items n to)
            (same k (omega (arith, earlier, inside))) edge)))
      ];
      count = omega (arith, fewer, old.count);
    }

pub loop-place-smaller : goal.loop-place-smaller
loop-place-smaller c =
    let few = found_few c.loop-place.marks.items c.loop-place.found.items c.loop-place.invariant.are.gathered in
    omega (arith, few, c.loop-place-test.true, c.len.ensures)

pub loop-place-preserved : goal.loop-place-preserved
loop-place-preserved c =
    let old = c.loop-place.invariant in
    let place = c.loop-place.place in
    let found = c.loop-place.found.items in
    let number = c.index-number.result.now in
    let targets = c.args.targets.now.items in
    let inside : place < length found = omega (arith, c.loop-place-test.true, c.len.ensures) in
    let here : get_or found place 0 ≡ number = read_at found place number inside (sym c.index-number.ensures) in
    record {
      len = old.len;
      are = old.are;
      within = omega (arith, inside);
      passed = λ k to below edge. elim (cases_eq k place) [
        | inl this ↦
            let from_here : IsTarget targets number to = subst (λ n. IsTarget targets n to)
            (ap (λ n. get_or found n 0) this ∙ here) edge in
            old.are.done number to (c.leads_on.ensures.no c.if-leads_on.false to from_here) from_here
        | inr apart ↦ old.passed k to (omega (arith, below, apart)) edge
      ];
      count = old.count;
    }

pub returns-clause-reached : goal.returns-clause-reached
returns-clause-reached c = reached_all c.args.targets.now.items c.args.from c.loop-place.marks.items c.loop-place.found.items
    c.loop-place.invariant.are
    (λ n to stands edge. c.loop-place.invariant.passed stands.0 to (omega (arith, stands.1, c.loop-place-test.false, c.len.ensures))
    (subst (λ k. IsTarget c.args.targets.now.items k to) (sym (read_at c.loop-place.found.items stands.0 n stands.1 stands.2)) edge))
