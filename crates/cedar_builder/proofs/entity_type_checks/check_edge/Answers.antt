use Rattle.std.proofs.Common.{◌≡◌, ◌∷◌, ap, false, inl, inr, is_some, map, sym, ◌∙◌}
use Rattle.std.proofs.lemmas.Bool.{false≢true}
use Rattle.cedar_ast.proofs.Basics.{is_some-none}
use Rattle.cedar_builder.proofs.EntityTypeChecks.{found_at_name}
use Rattle.cedar_builder.proofs.entity_type_checks.check_edge.Goals as goal
use Rattle.cedar_builder.specs.Words.{node_at, type_name, undeclared_entity_types}

-- the upper entity type isn't there
pub returns-then-not-contains_key-clause-fault : goal.returns-then-not-contains_key-clause-fault
returns-then-not-contains_key-clause-fault c =
    let nodes = c.args.nodes.now.entries in
    let upper = c.args.upper.now in
    let none : is_some (node_at nodes upper) ≡ false =
    ap is_some (sym (found_at_name nodes upper)) ∙ (sym c.contains_key.ensures ∙ c.if-not-contains_key.true) in
    inr (inl (
      λ i. undeclared_entity_types (c.in_ok-clone.ensures.name i ∷ map type_name (c.new.ensures.items i)),
      is_some-none (node_at nodes upper) none,
    ))

-- it is, and the lower isn't enumerated
pub returns-clause-sound : goal.returns-clause-sound
returns-clause-sound c =
    let nodes = c.args.nodes.now.entries in
    let upper = c.args.upper.now in
    record {
      stands = ap is_some (sym (found_at_name nodes upper)) ∙ (sym c.contains_key.ensures ∙ c.if-not-contains_key.false);
      not_enumerated = λ is. false≢true (sym c.if-is_enumerated_at.false ∙ c.is_enumerated_at.ensures.1 is);
    }
