use Rattle.std.proofs.Common.{◌≡◌, ◌++◌, ◌+◌, ◌<◌, ℕ, List, [], ◌∷◌, Contains, get_or, length, ap, sym, subst, ◌∙◌, arith, refl}
use Rattle.std.proofs.lemmas.List.{length-append}
use Rattle.std.proofs.lemmas.List.Elements.{Contains-append_right}
use Rattle.cedar_cycles.proofs.Costs.{costs_no_more}
use Rattle.cedar_cycles.proofs.Leaving.{fresh_before, left_group}
use Rattle.cedar_cycles.proofs.Steps.{marked_within, open_isnt_fresh}
use Rattle.cedar_cycles.proofs.search.leave.Goals as goal
use Rattle.cedar_cycles.proofs.search.leave.Goals.{After-close, In-Some}
use Rattle.cedar_cycles.specs.Search.{IsMarkOf, IsUnderWay}
use Rattle.cedar_cycles.specs.declared.search.Group.{Group}

-- the group is one of them
among : (c : In-Some) → Contains c.args.search.now.groups.items c.in-Some.group
among c =
    subst (λ groups. Contains groups c.in-Some.group) (sym c.in-Some.ensures.items)
    (Contains-append_right c.pop.new.self.items (c.in-Some.group ∷ []) c.in-Some.group (0, omega arith, refl))

-- and begins on the path
within : (c : In-Some) → c.in-Some.group.path < length c.args.search.now.path.items
within c = (c.requires.under_way.parts.within c.in-Some.group (among c)).0

pub group_mark-mark-requires-clause-within : goal.group_mark-mark-requires-clause-within
group_mark-mark-requires-clause-within c =
    let below = within (goal.at.group_mark-mark-requires-clause-within c).In-Some in
    omega (arith, below, c.deref.ensures.len, ap length c.deref.ensures.value)

pub group_mark-mark-requires-clause-has_list : goal.group_mark-mark-requires-clause-has_list
group_mark-mark-requires-clause-has_list c =
    let below = within (goal.at.group_mark-mark-requires-clause-has_list c).In-Some in
    let opens = c.requires.under_way.opened c.in-Some.group.path below in
    let inside = marked_within c.args.search.now.marks.items (get_or c.args.search.now.path.items c.in-Some.group.path 0)
    (λ fresh. open_isnt_fresh c.in-Some.group.path (sym opens ∙ fresh)) in
    let same = ap (λ path. get_or path c.in-Some.group.path 0) c.deref.ensures.value in
    omega (arith, inside, same, c.requires.under_way.len, c.args.targets.now.ok.0)

pub close-requires-clause-within : goal.close-requires-clause-within
close-requires-clause-within c =
    let below = within (goal.at.close-requires-clause-within c).In-Some in
    omega (arith, below, c.args.search.now.path.ok.0)

pub close-requires-clause-on_path : goal.close-requires-clause-on_path
close-requires-clause-on_path c = λ number place opens.
    let stands = c.requires.under_way.on_path number place opens in
    (omega (arith, stands.0, c.args.search.now.path.ok.0), stands.1)

-- what the numbers of the group are
marks_of : (c : After-close) → IsMarkOf c.args.targets.now.items c.args.search.now.path.items c.in-Some.group.path c.group_mark-mark.result
marks_of c = subst (λ path. IsMarkOf c.args.targets.now.items path c.in-Some.group.path c.group_mark-mark.result) c.deref.ensures.value c.group_mark-mark.ensures

pub returns-clause-under_way : goal.returns-clause-under_way
returns-clause-under_way c =
    let targets = c.args.targets.now.items in
    let marks = c.args.search.now.marks.items in
    let pending = c.args.search.now.pending.items in
    let front = c.close.new.path.items in
    let numbers = c.close.ensures.front.0 in
    let others = c.pop.new.self.items in
    let group = c.in-Some.group in
    let Groups : List Group → Type 0 = λ groups. IsUnderWay targets [] marks c.args.search.now.path.items pending groups in
    let Path : List ℕ → Type 0 = λ path. IsUnderWay targets [] marks path pending (others ++ group ∷ []) in
    left_group targets marks c.close.new.marks.items front numbers pending others group c.group_mark-mark.result
    (subst Path c.close.ensures.front.1 (subst Groups c.in-Some.ensures.items c.requires.under_way))
    (omega (arith, c.close.ensures.len, c.close.new.path.ok.0))
    (let le = c.requires.done group (others, c.in-Some.ensures.items) in omega (arith, le, c.args.search.now.pending.ok.0))
    c.close.ensures.marked
    (subst (λ path. IsMarkOf targets path group.path c.group_mark-mark.result) c.close.ensures.front.1
    (marks_of (goal.at.returns-clause-under_way c).After-close))

pub returns-clause-less : goal.returns-clause-less
returns-clause-less c =
    let targets = c.args.targets.now.items in
    let costs = costs_no_more c.args.search.now.marks.items c.close.new.marks.items targets c.close.ensures.marked.len
    (fresh_before targets c.args.search.now.path.items c.in-Some.group.path c.group_mark-mark.result c.args.search.now.marks.items
    c.close.new.marks.items (marks_of (goal.at.returns-clause-less c).After-close) c.close.ensures.marked) in
    let groups : length c.args.search.now.groups.items ≡ length c.pop.new.self.items + 1 =
    ap length c.in-Some.ensures.items ∙ length-append c.pop.new.self.items (c.in-Some.group ∷ []) in
    omega (arith, costs, groups)

pub returns-clause-keeps : goal.returns-clause-keeps
returns-clause-keeps c = λ number met fresh. met
    (fresh_before c.args.targets.now.items c.args.search.now.path.items c.in-Some.group.path c.group_mark-mark.result c.args.search.now.marks.items
    c.close.new.marks.items (marks_of (goal.at.returns-clause-keeps c).After-close) c.close.ensures.marked number fresh)
