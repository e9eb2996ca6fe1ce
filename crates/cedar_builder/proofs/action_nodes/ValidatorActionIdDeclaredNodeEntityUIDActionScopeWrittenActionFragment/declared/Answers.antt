use Rattle.std.proofs.lemmas.Result.{IfOk-weaker}
use Rattle.cedar_builder.proofs.ActionsTogether.{external_told}
use Rattle.cedar_builder.proofs.action_nodes.ValidatorActionIdDeclaredNodeEntityUIDActionScopeWrittenActionFragment.declared.Goals as goal
use Rattle.cedar_schema_elements.specs.ValidatorActionId.{action_of}

pub returns-clause-external : goal.returns-clause-external
returns-clause-external g c = IfOk-weaker c.elaborated_action.result _ _
    (λ it elaborated. external_told c.args.scope.now.types.now _ (action_of it).kind elaborated.kind) c.elaborated_action.ensures.elaborates
