use Rattle.std.proofs.Common.{◌≡◌, ℕ, Contains, get_or, sym, subst, arith}
use Rattle.std.proofs.lemmas.List.Elements.{Contains-get_or}
use Rattle.cedar_ast.proofs.Chains.{last_step}
use Rattle.cedar_graph.proofs.Gathering.{followed_within, reached_more, done_more}
use Rattle.cedar_graph.proofs.closing.follow.Goals as goal
use Rattle.cedar_graph.proofs.closing.follow.Goals.{After-deref}
use Rattle.cedar_graph.specs.Words.{Chain, Done, IsTarget}

-- the numbers to be gathered are reached from the number
sound : (c : After-deref) (to : ℕ) → Contains c.deref.result.now to → Chain (IsTarget c.args.targets.now.items) c.args.number to
sound c to among = c.following-mark.ensures.sound to (subst (λ xs. Contains xs to) c.deref.ensures.value among)

-- its targets are among them
complete : (c : After-deref) (to : ℕ) → IsTarget c.args.targets.now.items c.args.number to → Contains c.deref.result.now to
complete c to edge = subst (λ xs. Contains xs to) (sym c.deref.ensures.value) (c.following-mark.ensures.complete to edge)

-- and where they are done, all that they lead to is
whole : (c : After-deref) → c.following-mark.result.1 ≡ Done → (via to : ℕ) → Contains c.deref.result.now via
    → IsTarget c.args.targets.now.items via to → Contains c.deref.result.now to
whole c done via to among edge = subst (λ xs. Contains xs to) (sym c.deref.ensures.value)
    (c.following-mark.ensures.done done via to (subst (λ xs. Contains xs via) c.deref.ensures.value among) edge)

pub gather_all-requires-clause-within : goal.gather_all-requires-clause-within
gather_all-requires-clause-within c = λ k d below.
    let among = Contains-get_or c.deref.result.now k d below in
    let chain = sound (goal.at.gather_all-requires-clause-within c).After-deref (get_or c.deref.result.now k d) among in
    let last = last_step (IsTarget c.args.targets.now.items) c.args.number (get_or c.deref.result.now k d) chain in
    c.requires.within last.0 (get_or c.deref.result.now k d) last.1

pub index_mut-requires : goal.index_mut-requires
index_mut-requires c =
    let d = (goal.at.index_mut-requires c).After-deref in
    let within = followed_within c.args.targets.now.items c.args.from c.following-mark.result.1 c.deref.result.now c.args.number
    (sound d) (complete d) (whole d) c.args.marks.now.items c.args.found.now.items c.gather_all.new.marks.items
    c.gather_all.new.found.items c.requires.reached c.requires.gathered c.in_ok-gather_all.ensures in
    omega (arith, within, c.gather_all.new.marks.ok.0)

pub returns-clause-reached : goal.returns-clause-reached
returns-clause-reached c =
    let d = (goal.at.returns-clause-reached c).After-deref in
    reached_more c.args.targets.now.items c.args.from c.following-mark.result.1 c.deref.result.now c.args.number
    (sound d) (complete d) (whole d) c.args.marks.now.items c.args.found.now.items c.gather_all.new.marks.items
    c.gather_all.new.found.items c.requires.reached c.requires.gathered c.in_ok-gather_all.ensures

pub returns-clause-stays : goal.returns-clause-stays
returns-clause-stays c =
    let d = (goal.at.returns-clause-stays c).After-deref in
    done_more c.args.targets.now.items c.args.from c.following-mark.result.1 c.deref.result.now c.args.number
    (sound d) (complete d) (whole d) c.args.marks.now.items c.args.found.now.items c.gather_all.new.marks.items
    c.gather_all.new.found.items c.requires.reached c.requires.gathered c.in_ok-gather_all.ensures
