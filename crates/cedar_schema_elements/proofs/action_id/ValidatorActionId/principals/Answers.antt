use Rattle.std.proofs.Common.{ap, sym, ◌∙◌}
use Rattle.std.specs.List.Sorted.{IsStrictlySortedBy}
use Rattle.cedar_schema_elements.proofs.TypeSetLemmas.{set_once}
use Rattle.cedar_schema_elements.proofs.action_id.ValidatorActionId.principals.Goals as goal

pub returns-in-Defined-clause-once : goal.returns-in-Defined-clause-once
returns-in-Defined-clause-once c =
    rw (ap (λ parts. parts.kind) (sym c.deref.ensures) ∙ c.in-Defined.is) (set_once c.in-Defined.requests.value.principals)

pub returns-in-Defined-clause-in_order : goal.returns-in-Defined-clause-in_order
returns-in-Defined-clause-in_order c =
    rw (ap (λ parts. parts.kind) (sym c.deref.ensures) ∙ c.in-Defined.is) c.in-Defined.requests.value.principals.sorted

pub returns-in-External-clause-in_order : goal.returns-in-External-clause-in_order
unfolding IsStrictlySortedBy
returns-in-External-clause-in_order c =
    rw (ap (λ parts. parts.kind) (sym c.deref.ensures) ∙ c.in-External.is) tt
