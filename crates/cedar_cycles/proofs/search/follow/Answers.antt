use Rattle.std.proofs.Common.{◌≡◌, ◌++◌, ◌+◌, ◌<◌, ◌≤◌, ℕ, List, [], ◌∷◌, Contains, get_or, length, ap, sym, subst, ◌∙◌, arith, inl, inr}
use Rattle.std.proofs.lemmas.List.{length-append}
use Rattle.cedar_cycles.proofs.Leaving.{merged}
use Rattle.cedar_cycles.proofs.Reading.{any_default}
use Rattle.cedar_cycles.proofs.Steps.{popped, popped_next, skipped}
use Rattle.cedar_cycles.proofs.search.follow.Goals as goal
use Rattle.cedar_cycles.proofs.search.follow.Goals.{In-Some}
use Rattle.cedar_cycles.specs.Search.{IsDone, IsNext, IsUnderWay, mark_of}
use Rattle.cedar_cycles.specs.declared.search.Group.{Group}
use Rattle.cedar_cycles.specs.declared.search.Mark.{Mark}
use Rattle.cedar_cycles.specs.declared.search.Mark.TheVariants.{Fresh}

-- as the search is before the last target that is pending is taken
whole : (c : In-Some) → IsUnderWay c.args.targets.now.items [] c.args.search.now.marks.items c.args.search.now.path.items
    (c.pop.new.self.items ++ c.in-Some.number ∷ []) c.args.search.now.groups.items
whole c =
    let Way : List ℕ → Type 0 = λ pending. IsUnderWay c.args.targets.now.items [] c.args.search.now.marks.items
    c.args.search.now.path.items pending c.args.search.now.groups.items in
    subst Way c.in-Some.ensures.items c.requires.under_way

-- each group begins by what is pending then
of_last : (c : In-Some) (group : Group) → Contains c.args.search.now.groups.items group → group.pending ≤ length c.pop.new.self.items
of_last c group among =
    let below = c.requires.of_last group among in
    let long : length c.args.search.now.pending.items ≡ length c.pop.new.self.items + 1 =
    ap length c.in-Some.ensures.items ∙ length-append c.pop.new.self.items (c.in-Some.number ∷ []) in
    omega (arith, below, long, c.args.search.now.pending.ok.0)

-- the target is left over
over : (c : In-Some) → IsUnderWay c.args.targets.now.items (c.in-Some.number ∷ []) c.args.search.now.marks.items
    c.args.search.now.path.items c.pop.new.self.items c.args.search.now.groups.items
over c = popped c.args.targets.now.items c.in-Some.number c.args.search.now.marks.items c.args.search.now.path.items c.pop.new.self.items
    c.args.search.now.groups.items (whole c) (of_last c)

-- and is one of the last group
next : (c : In-Some) → IsNext c.args.targets.now.items c.args.search.now.path.items c.args.search.now.groups.items c.in-Some.number
next c = popped_next c.args.targets.now.items c.in-Some.number c.args.search.now.marks.items c.args.search.now.path.items c.pop.new.self.items
    c.args.search.now.groups.items (whole c) (of_last c)

-- it has a list of its own
within : (c : In-Some) → c.in-Some.number < length c.args.targets.now.items
within c =
    let it = next c in
    let below = c.requires.within (get_or c.args.search.now.path.items it.0 0) c.in-Some.number it.2 in
    omega (arith, below, c.args.targets.now.ok.0)

pub index-requires : goal.index-requires
index-requires c =
    let below = within (goal.at.index-requires c).In-Some in
    omega (arith, below, c.requires.under_way.len, c.args.search.now.marks.ok.0)

pub enter-requires-clause-under_way : goal.enter-requires-clause-under_way
enter-requires-clause-under_way c = over (goal.at.enter-requires-clause-under_way c).In-Some

pub enter-requires-clause-has_list : goal.enter-requires-clause-has_list
enter-requires-clause-has_list c =
    let below = within (goal.at.enter-requires-clause-has_list c).In-Some in
    omega (arith, below, c.args.targets.now.ok.0)

pub enter-requires-clause-next : goal.enter-requires-clause-next
enter-requires-clause-next c = λ i below. next (goal.at.enter-requires-clause-next c).In-Some

-- a mark that is read is that of the number
read : (marks : List Mark) (number : ℕ) (mark : Mark) → number < length marks → mark ≡ get_or marks number mark → mark_of marks number ≡ mark
read marks number mark below is = any_default marks number Fresh mark below ∙ sym is

pub merge-requires : goal.merge-requires
merge-requires c = c.requires.under_way.parts.in_order

pub returns-in-Open-clause-under_way : goal.returns-in-Open-clause-under_way
returns-in-Open-clause-under_way c =
    let some = (goal.at.returns-in-Open-clause-under_way c).In-Some in
    let targets = c.args.targets.now.items in
    let marks = c.args.search.now.marks.items in
    let path = c.args.search.now.path.items in
    let pending = c.pop.new.self.items in
    let kept = c.merge.new.groups.items in
    let rest = c.merge.ensures.merged.0 in
    let below = within some in
    let Way : List Group → Type 0 = λ groups. IsUnderWay targets (c.in-Some.number ∷ []) marks path pending groups in
    let Next : List Group → Type 0 = λ groups. IsNext targets path groups c.in-Some.number in
    merged targets c.in-Some.number marks path pending kept rest (subst Way c.merge.ensures.merged.1 (over some)) c.in-Open.place
    (read marks c.in-Some.number c.index.result.now (omega (arith, below, c.requires.under_way.len)) c.index.ensures ∙ c.in-Open.is)
    (λ i inside. subst Next c.merge.ensures.merged.1 (next some)) c.merge.ensures.merged.2 c.merge.ensures.kept

pub returns-in-Passed-clause-under_way : goal.returns-in-Passed-clause-under_way
returns-in-Passed-clause-under_way c =
    let some = (goal.at.returns-in-Passed-clause-under_way c).In-Some in
    let marks = c.args.search.now.marks.items in
    let below = within some in
    skipped c.args.targets.now.items c.in-Some.number marks c.args.search.now.path.items c.pop.new.self.items c.args.search.now.groups.items
    (over some)
    (subst IsDone (sym (read marks c.in-Some.number c.index.result.now (omega (arith, below, c.requires.under_way.len)) c.index.ensures))
    (elim c.in-Passed.is [ inl passed ↦ subst IsDone (sym passed) tt | inr on_cycle ↦ subst IsDone (sym on_cycle) tt ]))
