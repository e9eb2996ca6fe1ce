use Rattle.std.proofs.Common.{◌∙◌, subst, sym}
use Rattle.cedar_fragments.proofs.namespace.actions.action_uid.Goals as goal
use Rattle.cedar_fragments.specs.Words.{IsReserved}

pub returns-in_ok-into_shared-in-Ok-clause-unreserved : goal.returns-in_ok-into_shared-in-Ok-clause-unreserved
returns-in_ok-into_shared-in-Ok-clause-unreserved c = λ reserved.
    c.in-Ok.ensures.unreserved (subst IsReserved (sym (c.with_loc.ensures.name ∙ c.in_ok-clone.ensures.name)) reserved)
