use Rattle.std.proofs.Common.{◌≡◌, IsTrue, IfOk, Result, Ok, Err, sym, ◌∙◌}
use Rattle.std.proofs.lemmas.Result.{IfOk-weaker}
use Rattle.cedar_ast.proofs.Uids.{entity_uid_eq-same}
use Rattle.cedar_ast.specs.contracts.entity_uid.EntityUIDPartialEq.TheImpl as uid_eq
use Rattle.cedar_schema_elements.proofs.action_node.ValidatorActionIdTCNodeEntityUID.copy_key.Goals as goal
use Rattle.cedar_schema_elements.specs.Words.{EntityUID, uid_of}

-- a copy of the same uid is equal
equal_copy : {E : Type 0} (key : EntityUID) (result : Result EntityUID E)
    → IfOk result (λ copy. uid_of copy ≡ uid_of key) → IfOk result (λ copy. IsTrue ((uid_eq.ghosts).eq key copy))
equal_copy key (Ok copy) same = (entity_uid_eq-same key copy).1 (sym same)
equal_copy key (Err refused) same = tt

pub returns : goal.returns
returns c =
    equal_copy c.args.key.now c.into_shared.result
    (IfOk-weaker c.into_shared.result (λ shared. uid_of shared ≡ uid_of c.in_ok-clone.field-0)
    (λ shared. uid_of shared ≡ uid_of c.args.key.now) (λ shared same. same ∙ c.in_ok-clone.ensures.uid) c.into_shared.ensures.uid)
