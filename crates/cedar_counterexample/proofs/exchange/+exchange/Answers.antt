use Rattle.std.proofs.Common.{◌+◌, [], drop, ap, refl, sym, ◌∙◌}
use Rattle.std.proofs.lemmas.List.{drop_all}
use Rattle.cedar_ast.proofs.TreeLemmas.{drop-at, tree_of-record}
use Rattle.cedar_ast.proofs.ValueCopies.{texts_sorted}
use Rattle.cedar_counterexample.proofs.ExchangedLemmas.{exchanged_all, exchanged_more, pairs_all, pairs_more}
use Rattle.cedar_counterexample.proofs.exchange.+exchange.Goals as goal
use Rattle.cedar_counterexample.specs.Words.{StandsFor, tree_of}

-- at first all values are left
pub exchanged_each-loop-value-init : goal.exchanged_each-loop-value-init
exchanged_each-loop-value-init g t c =
    record { done = []; split = refl; others = rw c.new-others.ensures.items tt }

-- the next one is put after those before
pub exchanged_each-loop-value-preserved : goal.exchanged_each-loop-value-preserved
exchanged_each-loop-value-preserved g t c =
    let R = StandsFor (g.S.Scope.ExistsInOld c.args.exchange.now.scope.now) c.args.exchange.now.longest in
    let all = c.args.values.now in
    let made = c.loop-value.others.items in
    let rest = drop (c.loop-value.value-index + 1) all in
    let so_far = rw (drop-at _ c.loop-value.value-index c.value-item.result c.loop-value-test.true c.value-item.is) at c.loop-value.invariant in
    rw c.in_ok-push.ensures.items (exchanged_more R all made rest c.value-item.result c.in_ok-exchanged_value.field-0 so_far c.in_ok-exchanged_value.ensures)

-- where none is left, all are exchanged
pub exchanged_each-returns : goal.exchanged_each-returns
exchanged_each-returns g t c =
    let R = StandsFor (g.S.Scope.ExistsInOld c.args.exchange.now.scope.now) c.args.exchange.now.longest in
    exchanged_all R c.args.values.now c.loop-value.others.items _ (drop_all c.loop-value.value-index c.args.values.now c.loop-value-test.false)
    c.loop-value.invariant

-- at first all entries are left
pub exchanged_entries-loop-name-init : goal.exchanged_entries-loop-name-init
exchanged_entries-loop-name-init g t c =
    record { done = []; split = sym c.into_iter-name-iterator.ensures.into_iter_gives.0; others = rw c.new-others.ensures.empty tt }

-- the next one is put in
pub exchanged_entries-loop-name-preserved : goal.exchanged_entries-loop-name-preserved
exchanged_entries-loop-name-preserved g t c =
    let R = StandsFor (g.S.Scope.ExistsInOld c.args.exchange.now.scope.now) c.args.exchange.now.longest in
    let all = c.args.values.now.entries in
    let made = c.loop-name.others.entries in
    rw c.in_ok-put.ensures.entries (pairs_more R all made c.loop-name.name-iterator c.next.new.self c.in-Some.name.now c.in_ok-clone.field-0
    c.in-Some.value.now c.in_ok-other.other (texts_sorted all c.into_iter-name-iterator.ensures.into_iter_gives.5) c.in-Some.ensures.steps
    c.in_ok-clone.ensures.cases c.in_ok-other.ensures c.loop-name.invariant)

-- where no entry is left, all are exchanged
pub exchanged_entries-returns : goal.exchanged_entries-returns
exchanged_entries-returns g t c =
    let R = StandsFor (g.S.Scope.ExistsInOld c.args.exchange.now.scope.now) c.args.exchange.now.longest in
    pairs_all R c.args.values.now.entries c.loop-name.others.entries c.loop-name.name-iterator c.in-None.ensures.steps.0 c.loop-name.invariant

-- a record is exchanged where its values are
pub exchanged_value-returns-in_ok-exchanged_entries-in-Record :
    goal.exchanged_value-returns-in_ok-exchanged_entries-in-Record
exchanged_value-returns-in_ok-exchanged_entries-in-Record g t c =
    rw (ap tree_of c.in-Record.is ∙ tree_of-record c.in-Record.values, tree_of-record c.in_ok-exchanged_entries-in-Record.field-0)
    c.in_ok-exchanged_entries-in-Record.ensures
