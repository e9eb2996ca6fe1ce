use Rattle.std.proofs.Common.{◌≡◌, ◌∙◌, ap, subst, inr, inl}
use Rattle.cedar_fragments.proofs.namespace.entity_types.entity_type_name.Goals as goal
use Rattle.cedar_fragments.specs.Words.{IsReserved, name_of, name_within, namespace_name, reserved_name, unreserved_id_text}

pub returns-in-Err-clause-fault : goal.returns-in-Err-clause-fault
returns-in-Err-clause-fault c =
    let refused = c.in-Err.ensures.refused in
    let within = name_within (namespace_name c.args.namespace) in
    let named : name_of c.in_ok-name.name ≡ within (unreserved_id_text c.args.id) = c.in_ok-name.ensures.name ∙ ap within c.into_id.ensures.text in
    inr (inr (
      ap reserved_name (ap name_of refused.0 ∙ named),
      elim (subst IsReserved named refused.1) [ inl base ↦ absurd (c.args.id.unreserved base) | inr path ↦ path ],
    ))
