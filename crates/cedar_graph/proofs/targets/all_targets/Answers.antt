use Rattle.std.proofs.Common.{◌≡◌, ◌≤◌, length, vec_len, hash_map_len, drop, IfSome, slice_get, sym, ◌∙◌, ap, subst, arith, inl, inr}
use Rattle.std.proofs.lemmas.Bool.{cases_lt}
use Rattle.std.proofs.lemmas.Map.Iter.{rest_more, rest_all}
use Rattle.std.proofs.lemmas.Option.{IfSome_then, MatchOption-from_none, slice_get_past}
use Rattle.std.specs.HashMap.{values}
use Rattle.std.specs.Map.Iter.{deref}
use Rattle.cedar_graph.proofs.Lists.{drop_next, drop_done, each_after_push}
use Rattle.cedar_graph.proofs.Numbers.{numbers_of_kept}
use Rattle.cedar_graph.proofs.targets.all_targets.Goals as goal
use Rattle.cedar_graph.specs.Words.{AreNumbersOf, items_at}

pub loop-node-preserved : goal.loop-node-preserved
loop-node-preserved g c =
    let eq = g.K.PartialEq.eq in
    let all = values c.args.nodes.now in
    let old = c.loop-node.invariant in
    let before = c.loop-node.targets in
    let names = c.targets_of.new.numbering.names.items in
    let kept = c.in_ok-targets_of.ensures.kept in
    let more = c.in_ok-push.ensures.len in
    let here = drop_next all (vec_len before) c.in-Some.node.now c.next.new.self
    (sym old.rest ∙ rest_more deref c.loop-node.node-iterator c.next.new.self c.next.result c.in-Some.node
    c.in-Some.is c.next.ensures.steps) in
    let within = here.0 in
    let count : vec_len before ≡ length before.items = omega (arith, before.ok.0) in
    record {
      numbers = c.in_ok-targets_of.ensures.numbers;
      kept = λ key n stands. kept key n (old.kept key n stands);
      rest = here.2 ∙ ap (λ n. drop n all) (sym more);
      bound = omega (arith, within, more);
      targets = λ i below. subst (λ vs. IfSome (slice_get all i)
          (λ node. AreNumbersOf eq names (g.V.TCNode.has_edge node) (items_at vs i))) (sym c.in_ok-push.ensures.items)
          (each_after_push (λ k numbers. IfSome (slice_get all k)
          (λ node. AreNumbersOf eq names (g.V.TCNode.has_edge node) numbers)) before.items
          c.in_ok-targets_of.field-0
          (subst (λ o. IfSome o (λ node. AreNumbersOf eq names
          (g.V.TCNode.has_edge node) c.in_ok-targets_of.field-0.items))
          (sym (ap (slice_get all) (sym count) ∙ here.1)) c.in_ok-targets_of.ensures.targets)
          (λ k less. IfSome_then (slice_get all k) (old.targets k (omega (arith, less, count)))
          (λ node are. numbers_of_kept eq c.loop-node.numbering.names.items names (g.V.TCNode.has_edge node)
          (items_at before.items k) kept are))
          i (omega (arith, below, more, count)));
    }

-- at the end each node has its targets
complete : (g : _) (c : goal.In-None g) → length (values c.args.nodes.now) ≤ vec_len c.loop-node.targets
complete g c =
    drop_done (values c.args.nodes.now) (vec_len c.loop-node.targets)
    (sym c.loop-node.invariant.rest ∙ rest_all deref c.loop-node.node-iterator c.next.new.self c.next.result
    c.in-None.is c.next.ensures.steps)

pub returns-clause-len : goal.returns-clause-len
returns-clause-len g c =
    let least = complete g c in
    let len : length (values c.args.nodes.now) ≡ hash_map_len c.args.nodes.now =
    ap length (sym c.values-node-items.ensures.rest) ∙ c.values-node-items.ensures.len in
    let most = c.loop-node.invariant.bound in
    omega (arith, least, most, len)

pub returns-clause-targets : goal.returns-clause-targets
returns-clause-targets g c = λ i. elim (cases_lt i (vec_len c.loop-node.targets)) [
  | inl below ↦ c.loop-node.invariant.targets i below
  | inr above ↦ let least = complete g c in
      MatchOption-from_none (slice_get (values c.args.nodes.now) i)
      (λ node. AreNumbersOf g.K.PartialEq.eq c.loop-node.numbering.names.items (g.V.TCNode.has_edge node)
      (items_at c.loop-node.targets.items i))
      (slice_get_past (values c.args.nodes.now) i (omega (arith, least, above)))
]
