use Rattle.std.proofs.Common.{inr}
use Rattle.std.proofs.lemmas.Result.{IfErr-weaker}
use Rattle.cedar_builder.proofs.action_nodes.WrittenActionFragmentHasParentsEntityUID.parent_key.Goals as goal

pub returns-clause-fault : goal.returns-clause-fault
returns-clause-fault g c = IfErr-weaker c.named_within.result _ _ (λ error refused. inr refused) (rw c.namespace.ensures at c.named_within.ensures.fault)
