use Rattle.std.proofs.lemmas.Result.{IfOk-weaker}
use Rattle.cedar_schema_elements.proofs.action_id.ValidatorActionId.new_defined.Goals as goal

pub returns-clause-principals : goal.returns-clause-principals
returns-clause-principals g c =
    let found = c.in_ok-principals.ensures in
    IfOk-weaker c.for_requests.result _ _ (λ action is. (found.0, found.1, found.2, found.3, rw is found.4))
    c.for_requests.ensures.kind

pub returns-clause-resources : goal.returns-clause-resources
returns-clause-resources g c =
    let found = c.in_ok-resources.ensures in
    IfOk-weaker c.for_requests.result _ _ (λ action is. (found.0, found.1, found.2, found.3, rw is found.4))
    c.for_requests.ensures.kind
