use Rattle.std.proofs.Common.{◌≡◌, ◌<◌, Contains, length, sym, ◌∙◌, ap, subst, arith}
use Rattle.cedar_ast.proofs.Chains.{joined}
use Rattle.cedar_graph.proofs.Lists.{items_at-read}
use Rattle.cedar_graph.proofs.closing.following.Goals as goal
use Rattle.cedar_graph.proofs.closing.following.Goals.{In-Some, After-index}
use Rattle.cedar_graph.specs.Words.{items_at, one}

-- what the number reaches is known
within : (c : In-Some) → c.args.number < length c.args.closed.now.items
within c = omega (arith, c.in-Some.ensures.lookup.3.0, ap length c.deref.ensures.value)

-- and is the list that is given
known : (c : In-Some) → items_at c.args.closed.now.items c.args.number ≡ c.in-Some.reached.now.items
known c =
    ap (λ lists. items_at lists c.args.number) (sym c.deref.ensures.value)
    ∙ items_at-read c.deref.result.now c.args.number c.in-Some.reached.now c.in-Some.ensures.lookup.3.0
    ∙ ap (λ list. list.items) (sym c.in-Some.ensures.lookup.1)

pub returns-in-Some-clause-sound : goal.returns-in-Some-clause-sound
returns-in-Some-clause-sound c = λ to among.
    let d = (goal.at.returns-in-Some-clause-sound c).In-Some in
    (c.requires.closed c.args.number to (within d)).0 (subst (λ xs. Contains xs to) (sym (known d)) among)

pub returns-in-Some-clause-complete : goal.returns-in-Some-clause-complete
returns-in-Some-clause-complete c = λ to edge.
    let d = (goal.at.returns-in-Some-clause-complete c).In-Some in
    subst (λ xs. Contains xs to) (known d) ((c.requires.closed c.args.number to (within d)).1 (one edge))

pub returns-in-Some-clause-done : goal.returns-in-Some-clause-done
returns-in-Some-clause-done c = λ _ via to among edge.
    let d = (goal.at.returns-in-Some-clause-done c).In-Some in
    let chain = (c.requires.closed c.args.number via (within d)).0 (subst (λ xs. Contains xs via) (sym (known d)) among) in
    subst (λ xs. Contains xs to) (known d) ((c.requires.closed c.args.number to (within d)).1 (joined chain (one edge)))

-- the targets of the number are the list that is given
listed : (c : After-index) → items_at c.args.targets.now.items c.args.number ≡ c.index.result.now.items
listed c =
    items_at-read c.args.targets.now.items c.args.number c.index.result.now (omega (arith, c.requires.has_list))
    ∙ ap (λ list. list.items) (sym c.index.ensures)

pub returns-in-None-clause-sound : goal.returns-in-None-clause-sound
returns-in-None-clause-sound c = λ to among.
    one (subst (λ xs. Contains xs to) (sym (listed (goal.at.returns-in-None-clause-sound c).After-index)) among)

pub returns-in-None-clause-complete : goal.returns-in-None-clause-complete
returns-in-None-clause-complete c = λ to edge.
    subst (λ xs. Contains xs to) (listed (goal.at.returns-in-None-clause-complete c).After-index) edge
