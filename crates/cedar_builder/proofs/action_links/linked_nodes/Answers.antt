use Rattle.std.proofs.Common.{◌≡◌, refl, inr, ap}
use Rattle.cedar_builder.proofs.action_links.linked_nodes.Goals as goal
use Rattle.cedar_builder.specs.ActionNodes.{node_at}
use Rattle.cedar_builder.specs.Words.{SameAction, ValidatorActionId, uid_of}
use Rattle.cedar_graph.proofs.Growing.{alike_weaker}
use Rattle.cedar_schema_elements.specs.ActionKind.{plain_kind}
use Rattle.cedar_schema_elements.specs.ValidatorActionId.{parts_of}

pub returns-in-Ok-clause-linked : goal.returns-in-Ok-clause-linked
returns-in-Ok-clause-linked c = λ ready.
    let Alike : ValidatorActionId → ValidatorActionId → Type 0 = λ a b.
    ((parts_of a).name ≡ (parts_of b).name) × ((parts_of a).kind ≡ (parts_of b).kind) × ((parts_of a).loc ≡ (parts_of b).loc) in
    let same : (a b : ValidatorActionId) → Alike a b → SameAction a b = λ a b alike. (ap uid_of alike.0, ap plain_kind alike.1) in
    let before = c.args.nodes.entries in
    let after = c.in-Ok.linked.entries in
    record {
      same = λ key. alike_weaker Alike SameAction same (node_at before key) (node_at after key) (c.in-Ok.ensures.alike key);
      linked = c.in-Ok.ensures.linked ready;
      acyclic = c.in-Ok.ensures.acyclic refl;
    }

pub returns-in-Err-HasCycle-clause-fault : goal.returns-in-Err-HasCycle-clause-fault
returns-in-Err-HasCycle-clause-fault c = λ ready.
    let uid = c.in-Err-HasCycle.uid in
    inr (uid, refl, ((rw c.in-Err-HasCycle.field-0-is at c.in-Err-HasCycle.ensures.fault) ready).1)

pub returns-in-Err-Lacks-clause-fault : goal.returns-in-Err-Lacks-clause-fault
returns-in-Err-Lacks-clause-fault c = λ ready.
    absurd ((rw c.in-Err-Lacks.field-0-is at c.in-Err-Lacks.ensures.fault) ready)
