use Rattle.std.proofs.Common.{◌∙◌, ap, string_bytes}
use Rattle.cedar_fragments.proofs.namespace.qualify_actions.qualify_parent.Goals as goal
use Rattle.cedar_fragments.specs.Words.{ActionReference, Entity, PlainName, reference_to_one, uid_of}

-- what the parent names is what it resolves to
pub returns-clause-resolved : goal.returns-clause-resolved
returns-clause-resolved g c =
    let refers : PlainName → ActionReference = λ name. record { id = string_bytes c.args.parent.id; ty = reference_to_one Entity name } in
    (uid_of c.in_ok-uid.uid, c.in_ok-uid.ensures.named, ap refers (c.in_ok-ty.ensures.name ∙ c.entity_type.ensures.name))
