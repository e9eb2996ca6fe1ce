use Rattle.std.proofs.Common.{ap, sym, ◌∙◌, inr}
use Rattle.std.proofs.lemmas.Bool.{false≢true}
use Rattle.cedar_builder.proofs.action_requests.context_type.Goals as goal
use Rattle.cedar_builder.specs.Words.{context_not_record, ty_of}

pub returns-clause-fault : goal.returns-clause-fault
returns-clause-fault g c = inr (inr (
  ap context_not_record c.in_ok-clone.ensures.uid,
  (
    ty_of c.in_ok-elaborated.elaborated,
    c.in_ok-elaborated.ensures.elaborates,
    λ is. false≢true (sym c.if-is_record.false ∙ c.is_record.ensures.1 is),
  ),
))
