use Rattle.std.proofs.Common.{◌≡◌, ◌+◌, ◌<◌, ◌≤◌, Some, length, vec_len, drop, IfSome, slice_get, sym, ◌∙◌, ap, subst, arith, inl, inr}
use Rattle.std.proofs.lemmas.Bool.{cases_lt}
use Rattle.std.proofs.lemmas.List.{length-map}
use Rattle.std.proofs.lemmas.Map.Iter.{rest_more, rest_all}
use Rattle.std.proofs.lemmas.Option.{MatchOption-from_none, slice_get_past}
use Rattle.std.proofs.lemmas.Result.{err_from_is_err_and}
use Rattle.std.specs.Map.{keys_of, values_of}
use Rattle.std.specs.Map.Iter.{deref}
use Rattle.cedar_graph.proofs.Lists.{drop_next, drop_done, each_after_push}
use Rattle.cedar_graph.proofs.TableEdges.{lack_of_table}
use Rattle.cedar_graph.proofs.places.all_places.Goals as goal
use Rattle.cedar_graph.proofs.places.all_places.Goals.{In_ok-push, In-Some}
use Rattle.cedar_graph.specs.Words.{AreNumbersOf, items_at}

-- the node of this turn stands at its place, and the others come after it
turn : (g : _) (c : In-Some g) → (vec_len c.loop-node.targets < length (values_of c.args.nodes.now.entries))
    × (slice_get (values_of c.args.nodes.now.entries) (vec_len c.loop-node.targets) ≡ Some c.in-Some.node.now)
    × (c.next.new.self ≡ drop (vec_len c.loop-node.targets + 1) (values_of c.args.nodes.now.entries))
turn g c =
    drop_next (values_of c.args.nodes.now.entries) (vec_len c.loop-node.targets) c.in-Some.node.now c.next.new.self
    (sym c.loop-node.invariant.rest ∙ rest_more deref c.loop-node.node-iterator c.next.new.self c.next.result c.in-Some.node
    c.in-Some.is c.next.ensures.steps)

pub returns-in_err-places_of-clause-fault : goal.returns-in_err-places_of-clause-fault
returns-in_err-places_of-clause-fault g c =
    let p = err_from_is_err_and c.from_residual-in_err-places_of.result c.from_residual-in_err-places_of.ensures.1 in
    let lack = lack_of_table g.met.K.Eq.laws g.V.TCNode.has_edge c.args.nodes.now.entries (vec_len c.loop-node.targets) c.in-Some.node.now
    (turn g (goal.at.returns-in_err-places_of-clause-fault g c).In-Some).1 c.in_err-places_of.field-0.0 c.in_err-places_of.ensures.fault in
    rw (p.1, p.2) lack

pub loop-node-preserved : goal.loop-node-preserved
loop-node-preserved g c =
    let eq = g.K.PartialEq.eq in
    let entries = c.args.nodes.now.entries in
    let all = values_of entries in
    let old = c.loop-node.invariant in
    let before = c.loop-node.targets in
    let more = c.in_ok-push.ensures.len in
    let here = turn g (goal.at.loop-node-preserved g c).In-Some in
    let within = here.0 in
    let count : vec_len before ≡ length before.items = omega (arith, before.ok.0) in
    record {
      rest = here.2 ∙ ap (λ n. drop n all) (sym more);
      bound = omega (arith, within, more);
      places = λ i below. subst (λ vs. IfSome (slice_get all i)
          (λ node. AreNumbersOf eq (keys_of entries) (g.V.TCNode.has_edge node) (items_at vs i))) (sym c.in_ok-push.ensures.items)
          (each_after_push (λ k numbers. IfSome (slice_get all k)
          (λ node. AreNumbersOf eq (keys_of entries) (g.V.TCNode.has_edge node) numbers)) before.items
          c.in_ok-places_of.field-0
          (subst (λ o. IfSome o (λ node. AreNumbersOf eq (keys_of entries) (g.V.TCNode.has_edge node) c.in_ok-places_of.field-0.items))
          (sym (ap (slice_get all) (sym count) ∙ here.1)) c.in_ok-places_of.ensures.places)
          (λ k less. old.places k (omega (arith, less, count))) i (omega (arith, below, more, count)));
    }

-- at the end each node has its targets
complete : (g : _) (c : goal.In-None g) → length (values_of c.args.nodes.now.entries) ≤ vec_len c.loop-node.targets
complete g c =
    drop_done (values_of c.args.nodes.now.entries) (vec_len c.loop-node.targets)
    (sym c.loop-node.invariant.rest ∙ rest_all deref c.loop-node.node-iterator c.next.new.self c.next.result
    c.in-None.is c.next.ensures.steps)

pub returns-clause-len : goal.returns-clause-len
returns-clause-len g c =
    let least = complete g c in
    let most = c.loop-node.invariant.bound in
    omega (arith, least, most, length-map c.args.nodes.now.entries (λ e. e.1))

pub returns-clause-places : goal.returns-clause-places
returns-clause-places g c = λ i. elim (cases_lt i (vec_len c.loop-node.targets)) [
  | inl below ↦ c.loop-node.invariant.places i below
  | inr above ↦ let least = complete g c in
      MatchOption-from_none (slice_get (values_of c.args.nodes.now.entries) i)
      (λ node. AreNumbersOf g.K.PartialEq.eq (keys_of c.args.nodes.now.entries) (g.V.TCNode.has_edge node)
      (items_at c.loop-node.targets.items i))
      (slice_get_past (values_of c.args.nodes.now.entries) i (omega (arith, least, above)))
]
