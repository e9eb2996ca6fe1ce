use Rattle.std.proofs.Common.{◌≡◌, ◌+◌, ◌++◌, ◌∷◌, ◌∙◌, [], Contains, ap, arith, inl, inr, sym, take}
use Rattle.std.proofs.lemmas.List.{length-map, take_all, take_more}
use Rattle.std.proofs.lemmas.List.Elements.{Contains-get_or}
use Rattle.std.proofs.lemmas.Result.{err_from_is_err_and}
use Rattle.std.specs.Map.{keys_of}
use Rattle.cedar_graph.proofs.Numbers.{number_below}
use Rattle.cedar_graph.proofs.TableLinking.{end_lacked, targets_of_more, targets_of_none}
use Rattle.cedar_graph.proofs.table_linking.places_of_edges.Goals as goal
use Rattle.cedar_graph.specs.Words.{HasEntry}

pub loop-edge-init : goal.loop-edge-init
loop-edge-init g c = record {
  len = c.in_ok-targets.ensures.len ∙ c.len.ensures;
  targets = targets_of_none g.K.PartialEq.eq (keys_of c.args.nodes.now.entries) c.in_ok-targets.targets.items c.in_ok-targets.ensures.empty;
}

pub add_target-requires : goal.add_target-requires
add_target-requires g c =
    let below = number_below g.K.PartialEq.eq (keys_of c.args.nodes.now.entries) c.edge-item.result.0 c.in_ok-from.from c.in_ok-from.ensures.place in
    omega (arith, below, length-map c.args.nodes.now.entries (λ e. e.0), c.loop-edge.invariant.len)

-- one more edge gives one more target
pub loop-edge-preserved : goal.loop-edge-preserved
loop-edge-preserved g c =
    let edges = c.args.edges.now in
    let index = c.loop-edge.edge-index in
    let edge = c.edge-item.result in
    let more : take (index + 1) edges ≡ take index edges ++ edge ∷ [] =
    take_more edges index edge c.loop-edge-test.true ∙ ap (λ each. take index edges ++ each ∷ []) (sym c.edge-item.is) in
    let step = c.in_ok-add_target.ensures in
    record {
      len = step.len ∙ c.loop-edge.invariant.len;
      targets = rw more
          (targets_of_more g.K.PartialEq.eq (keys_of c.args.nodes.now.entries) (take index edges) edge c.loop-edge.targets.items
          c.add_target.new.targets.items c.in_ok-from.from c.in_ok-to.to c.in_ok-from.ensures.place c.in_ok-to.ensures.place step.added
          step.kept step.only c.loop-edge.invariant.targets);
    }

-- a key that is lacked is one that an edge is from
pub returns-in_err-from-clause-fault : goal.returns-in_err-from-clause-fault
returns-in_err-from-clause-fault g c =
    let p = err_from_is_err_and c.from_residual-in_err-from.result c.from_residual-in_err-from.ensures.1 in
    let edges = c.args.edges.now in
    let edge = c.edge-item.result in
    let among : Contains edges edge = rw c.edge-item.is (Contains-get_or edges c.loop-edge.edge-index edge c.loop-edge-test.true) in
    let lack = end_lacked g.K.PartialEq.eq edges (HasEntry g.K.PartialEq.eq c.args.nodes.now.entries) _
    (λ key same. (edge, among, inl same)) c.in_err-from.field-0.0 c.in_err-from.ensures.fault in
    rw (p.1, p.2) lack

-- or goes to
pub returns-in_err-to-clause-fault : goal.returns-in_err-to-clause-fault
returns-in_err-to-clause-fault g c =
    let p = err_from_is_err_and c.from_residual-in_err-to.result c.from_residual-in_err-to.ensures.1 in
    let edges = c.args.edges.now in
    let edge = c.edge-item.result in
    let among : Contains edges edge = rw c.edge-item.is (Contains-get_or edges c.loop-edge.edge-index edge c.loop-edge-test.true) in
    let lack = end_lacked g.K.PartialEq.eq edges (HasEntry g.K.PartialEq.eq c.args.nodes.now.entries) _
    (λ key same. (edge, among, inr same)) c.in_err-to.field-0.0 c.in_err-to.ensures.fault in
    rw (p.1, p.2) lack

-- at the end all edges have given their targets
pub returns-clause-targets : goal.returns-clause-targets
returns-clause-targets g c =
    rw (take_all c.loop-edge.edge-index c.args.edges.now c.loop-edge-test.false) at c.loop-edge.invariant.targets
