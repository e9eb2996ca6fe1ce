use Rattle.std.proofs.Common.{◌≡◌, ℕ, inl, inr, ◌∙◌, Contains, Some, ap, arith, length, refl, slice_get, subst, sym}
use Rattle.std.proofs.lemmas.List.{length-set}
use Rattle.std.proofs.lemmas.Option.{MatchOption-at_some, same_Some, slice_get_read, slice_get_within}
use Rattle.cedar_graph.proofs.Lists.{items_at-read}
use Rattle.cedar_graph.proofs.TableEdges.{grown_after, item_kept, one_more_in_turn}
use Rattle.cedar_graph.proofs.table_closing.linked_nodes.Goals as goal
use Rattle.cedar_graph.proofs.table_closing.linked_nodes.Goals.{After-numbers_after}
use Rattle.cedar_graph.specs.Words.{IsGrown, StandsIn, items_at}

-- the numbers that are gone through here
list_here : (g : _) (c : After-numbers_after g) → c.deref.result.now ≡ items_at c.args.lists.now.items c.loop-place.place
list_here g c =
    let lists = c.args.lists.now in
    c.deref.ensures.value ∙ (ap (λ it. it.items) c.index.ensures
    ∙ sym (items_at-read lists.items c.loop-place.place c.index.result.now
    (omega (arith, c.loop-place-test.true, c.len-place-end.ensures, c.requires.lists, lists.ok.0))))

-- and those that are known here
known_here : (g : _) (c : After-numbers_after g)
    → c.deref-in-loop-place.result.now ≡ items_at c.args.known.now.items c.loop-place.place
known_here g c =
    let known = c.args.known.now in
    c.deref-in-loop-place.ensures.value ∙ (ap (λ it. it.items) c.index-in-loop-place.ensures
    ∙ sym (items_at-read known.items c.loop-place.place c.index-in-loop-place.result.now
    (omega (arith, c.loop-place-test.true, c.len-place-end.ensures, c.requires.known, known.ok.0))))

pub add_edges-requires : goal.add_edges-requires
add_edges-requires g c = λ number among.
    c.requires.within c.loop-place.place number
    (subst (λ xs. Contains xs number) (list_here g (goal.at.add_edges-requires g c).After-numbers_after) (c.numbers_after.ensures.only number among))

-- the node that stands here
node_here : (g : _) (c : After-numbers_after g) → slice_get c.loop-place.linked.items c.loop-place.place ≡ Some c.index_mut.result.now
node_here g c =
    let linked = c.loop-place.linked in
    slice_get_read linked.items (length linked.items) c.loop-place.place c.index_mut.result.now refl
    (omega (arith, c.loop-place-test.true, c.len-place-end.ensures, c.loop-place.invariant.len)) c.index_mut.ensures.value

-- it has an edge to each key whose place stands in its list, and those behind it are as they were
pub loop-place-preserved : goal.loop-place-preserved
loop-place-preserved g c =
    let d = (goal.at.loop-place-preserved g c).After-numbers_after in
    let eq = g.K.PartialEq.eq in
    let edge = g.V.TCNode.has_edge in
    let alike = g.V.TCNode.is_alike in
    let keys = c.args.keys.now.items in
    let place = c.loop-place.place in
    let linked = c.loop-place.linked.items in
    let list = items_at c.args.lists.now.items place in
    let known = items_at c.args.known.now.items place in
    let old = c.index_mut.result.now in
    let node = c.add_edges.new.node in
    let was : slice_get c.args.nodes.items place ≡ Some old =
    sym (c.loop-place.invariant.after place (omega arith)) ∙ node_here g d in
    let grown = grown_after eq edge alike keys list known c.numbers_after.result.now
    (λ n among. subst (λ xs. Contains xs n) (list_here g d) (c.numbers_after.ensures.only n among))
    (λ n among. elim (c.numbers_after.ensures.all n (subst (λ xs. Contains xs n) (sym (list_here g d)) among)) [
      | inl before ↦ inl (subst (λ xs. Contains xs n) (known_here g d) before)
      | inr later ↦ inr later
    ])
    old node (MatchOption-at_some _ _ old was (c.requires.linked place)) c.in_ok-add_edges.ensures.grows c.in_ok-add_edges.ensures.complete in
    let R : ℕ → g.row.V.Denot → g.row.V.Denot → Type 0 = λ k. IsGrown edge alike (StandsIn eq keys (items_at c.args.lists.now.items k)) in
    record {
      len = length-set linked place node ∙ c.loop-place.invariant.len;
      before = one_more_in_turn R c.args.nodes.items linked place node (slice_get_within linked place old (node_here g d))
          c.loop-place.invariant.before (λ it is. subst (λ each. R place each node) (same_Some old it (sym was ∙ is)) grown);
      after = λ i above. item_kept linked place i node (λ same. omega (arith, above, same))
          ∙ c.loop-place.invariant.after i (omega (arith, above));
    }

-- at the end all have
pub returns : goal.returns
returns g c =
    let end = c.loop-place-test.false in
    let all = c.loop-place.invariant.len in
    record {
      len = all;
      each = λ i x y was is.
          let within = slice_get_within c.loop-place.linked.items i y is in
          c.loop-place.invariant.before i x y (omega (arith, within, end, c.len-place-end.ensures, all)) was is;
    }
