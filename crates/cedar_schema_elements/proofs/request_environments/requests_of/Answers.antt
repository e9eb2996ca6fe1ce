use Rattle.std.proofs.Common.{ap, sym, ◌∙◌}
use Rattle.cedar_ast.proofs.Uids.{entity_uid_eq-same}
use Rattle.cedar_schema_elements.proofs.request_environments.requests_of.Goals as goal
use Rattle.cedar_schema_elements.specs.Words.{DefinedRequests, uid_of}

-- requests under this very uid are shared
pub returns-then-eq-clause-action : goal.returns-then-eq-clause-action
returns-then-eq-clause-action c =
    ap (λ (it : DefinedRequests). uid_of it.action) c.in_ok-clone-in-Defined.ensures.cases
    ∙ (entity_uid_eq-same c.in-Defined.requests.value.action c.args.uid.now).0
    (rw c.deref-in-Defined.ensures at (sym c.eq.ensures ∙ c.if-eq.true))
