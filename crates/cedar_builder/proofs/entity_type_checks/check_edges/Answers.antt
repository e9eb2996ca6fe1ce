use Rattle.std.proofs.Common.{arith, inl, inr, [], ◌∷◌, take}
use Rattle.std.proofs.lemmas.List.{take_all}
use Rattle.std.proofs.lemmas.List.Elements.{Contains-append_cases}
use Rattle.cedar_ast.proofs.Basics.{Contains-single}
use Rattle.cedar_builder.proofs.NodeEdges.{item_among, take_item}
use Rattle.cedar_builder.proofs.entity_type_checks.check_edges.Goals as goal
use Rattle.cedar_name_resolution.proofs.ExitLemmas.{exit_holds}

pub returns-in_err-check_edge-clause-fault : goal.returns-in_err-check_edge-clause-fault
returns-in_err-check_edge-clause-fault c =
    let edges = c.args.edges.now in
    let edge = c.edge-item.result in
    exit_holds _ _ _ c.from_residual.ensures.1
    (elim c.in_err-check_edge.ensures.fault [
      | inl wanting ↦ inl wanting
      | inr refused ↦ inr (edge, item_among edges c.loop-edge.edge-index edge c.loop-edge-test.true c.edge-item.is, refused)
    ])

pub loop-edge-preserved : goal.loop-edge-preserved
loop-edge-preserved c = λ each among.
    let edges = c.args.edges.now in
    let edge = c.edge-item.result in
    elim (Contains-append_cases (take c.loop-edge.edge-index edges) (edge ∷ []) each
    (rw (take_item edges c.loop-edge.edge-index edge c.loop-edge-test.true c.edge-item.is) at among)) [
      | inl here ↦ c.loop-edge.invariant each here
      | inr last ↦ rw (Contains-single edge each last) at c.in_ok-check_edge.ensures.sound
    ]

pub loop-edge-init : goal.loop-edge-init
loop-edge-init c = λ edge among. absurd (omega (arith, among.1))

pub returns-clause-sound : goal.returns-clause-sound
returns-clause-sound c = λ edge among.
    c.loop-edge.invariant edge (rw (take_all c.loop-edge.edge-index c.args.edges.now c.loop-edge-test.false) among)
