use Rattle.std.proofs.Common.{◌≡◌, List, inl, inr, Contains}
use Rattle.cedar_ast.specs.contracts.entity_type.EntityTypePartialEq.TheImpl as entity_type_eq
use Rattle.cedar_builder.proofs.EntityTypeLinks.{are_linked, below_fault, upper_stands}
use Rattle.cedar_builder.proofs.entity_type_links.linked_nodes.Goals as goal
use Rattle.cedar_builder.specs.Words.{AreReady, AreUnlinked, EntityType, IsEdgeSound, SameType, ValidatorEntityType, fault_of, has_descendant, node_at, plain_kind, type_name}
use Rattle.cedar_graph.proofs.Growing.{alike_weaker}
use Rattle.cedar_name_resolution.proofs.ExitLemmas.{exit_holds}

-- each edge is sound
abbrev AreSound : List (EntityType × EntityType) → List (EntityType × ValidatorEntityType) → Type 0
AreSound edges nodes = (edge : EntityType × EntityType) → Contains edges edge → IsEdgeSound nodes edge.1 edge.0

-- entity types that are alike are the same
alike_same : (a b : ValidatorEntityType) → (a.name ≡ b.name) × (a.kind ≡ b.kind) × (a.loc ≡ b.loc) → SameType a b
alike_same a b alike i = record { name = type_name (alike.0 i); kind = plain_kind (alike.1 i) }

-- edges that are sound between nodes without descendants are ready to be linked
ready : (edges : List (EntityType × EntityType)) (nodes : List (EntityType × ValidatorEntityType)) → AreSound edges nodes
    → AreUnlinked edges nodes → AreReady (entity_type_eq.ghosts).eq has_descendant edges nodes
ready edges nodes sound unlinked = record { apart = unlinked.apart; ancestors = upper_stands edges nodes sound; lowers = unlinked.lowers }

pub returns-clause-linked : goal.returns-clause-linked
returns-clause-linked c = λ unlinked.
    let edges = c.args.edges.items in
    let before = c.args.nodes.entries in
    let after = c.in-Ok.linked.entries in
    let sound : AreSound edges before = rw c.deref.ensures.value at c.in_ok-check_edges.ensures.sound in
    are_linked edges before sound after
    (λ key. alike_weaker _ SameType alike_same (node_at before key) (node_at after key) (c.in-Ok.ensures.alike key))
    (c.in-Ok.ensures.linked (ready edges before sound unlinked)) c.in_ok-check_descendants.ensures.sound

pub returns-in_err-check_edges-clause-fault : goal.returns-in_err-check_edges-clause-fault
returns-in_err-check_edges-clause-fault c =
    exit_holds _ _ _ c.from_residual.ensures.1
    (λ unlinked. elim c.in_err-check_edges.ensures.fault [
      | inl wanting ↦ inl wanting
      | inr one ↦ inr (inl (rw c.deref.ensures.value at one))
    ])

pub returns-in_err-check_descendants-clause-fault : goal.returns-in_err-check_descendants-clause-fault
returns-in_err-check_descendants-clause-fault c =
    let edges = c.args.edges.items in
    let before = c.args.nodes.entries in
    let after = c.in-Ok.linked.entries in
    let fault = fault_of c.in_err-check_descendants.field-0.0 in
    let sound : AreSound edges before = rw c.deref.ensures.value at c.in_ok-check_edges.ensures.sound in
    exit_holds _ _ _ c.from_residual-in_err-check_descendants.ensures.1
    (λ unlinked. elim c.in_err-check_descendants.ensures.fault [
      | inl wanting ↦ inl wanting
      | inr below ↦ below_fault edges before sound after
          (λ key. alike_weaker _ SameType alike_same (node_at before key) (node_at after key) (c.in-Ok.ensures.alike key))
          (c.in-Ok.ensures.linked (ready edges before sound unlinked)) below.0 below.1 below.2 below.3 below.4
          fault below.5
    ])
