use Rattle.std.proofs.IntoIterSteps.{All-taken}
use Rattle.cedar_builder.proofs.ActionsElaborated.{SameItems-none}
use Rattle.cedar_builder.proofs.action_requests.elaborated_action.Goals as goal
use Rattle.cedar_schema_elements.specs.ValidatorActionId.{action_of}

-- what a definition gives is what is declared, whose names are looked up in its namespace
pub returns-in-Some-clause-elaborates : goal.returns-in-Some-clause-elaborates
returns-in-Some-clause-elaborates g c =
    rw c.in-Some.is (rw c.namespace-namespace.ensures at c.elaborated_definition.ensures.elaborates)

-- it is sound
pub returns-in-Some-clause-sound : goal.returns-in-Some-clause-sound
returns-in-Some-clause-sound g c =
    rw c.in-Some.is (rw c.namespace-namespace.ensures at c.elaborated_definition.ensures.sound)

-- and refused for the same faults
pub returns-in-Some-clause-fault : goal.returns-in-Some-clause-fault
returns-in-Some-clause-fault g c =
    rw c.in-Some.is (rw c.namespace-namespace.ensures at c.elaborated_definition.ensures.fault)

-- an external action has no descendants
pub returns-in_ok-new_external-in-None-clause-elaborates : goal.returns-in_ok-new_external-in-None-clause-elaborates
returns-in_ok-new_external-in-None-clause-elaborates g c =
    let made = c.in_ok-new_external-in-None in
    let from = made.ensures.descendants in
    rw c.in-None.is (record {
      uid = made.ensures.action.uid;
      kind = rw made.ensures.kind tt;
      no_descendants = SameItems-none (action_of made.field-0).descendants
          (rw (All-taken from.0 from.1 from.3, from.2.0, c.new-descendants.ensures.items) at from.4);
    })
