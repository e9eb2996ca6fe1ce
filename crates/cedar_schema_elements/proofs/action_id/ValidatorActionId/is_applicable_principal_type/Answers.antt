use Rattle.std.proofs.Common.{ap, sym, ◌∙◌}
use Rattle.cedar_schema_elements.proofs.action_id.ValidatorActionId.is_applicable_principal_type.Goals as goal

pub returns-in-Defined : goal.returns-in-Defined
returns-in-Defined c =
    rw (ap (λ parts. parts.kind) (sym c.deref.ensures) ∙ c.in-Defined.is)
    (rw c.deref-in-Defined.ensures at c.contains.ensures)
