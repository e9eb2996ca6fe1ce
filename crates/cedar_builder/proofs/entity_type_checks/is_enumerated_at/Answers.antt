use Rattle.std.proofs.Common.{◌≡◌, None, Some, sym, ◌∙◌}
use Rattle.std.proofs.lemmas.Bool.{false≢true}
use Rattle.cedar_builder.proofs.EntityTypeChecks.{found_at_name}
use Rattle.cedar_builder.proofs.entity_type_checks.is_enumerated_at.Goals as goal
use Rattle.cedar_builder.specs.Words.{node_at}

pub returns-in-Some : goal.returns-in-Some
returns-in-Some c =
    let nodes = c.args.nodes.now.entries in
    let stands : node_at nodes c.args.name.now ≡ Some c.in-Some.ty.now =
    sym (found_at_name nodes c.args.name.now) ∙ sym c.in-Some.ensures.value in
    rw stands c.is_enumerated.ensures

pub returns-in-None : goal.returns-in-None
returns-in-None c =
    let nodes = c.args.nodes.now.entries in
    let none : node_at nodes c.args.name.now ≡ None =
    sym (found_at_name nodes c.args.name.now) ∙ sym (rw c.in-None.is at c.get.ensures.value) in
    rw none (λ is. absurd (false≢true is), λ there. absurd there)
