use Rattle.std.proofs.Common.{ap, inr, sym}
use Rattle.cedar_ast.proofs.Basics.{Contains-image}
use Rattle.cedar_ast.proofs.Lists.{Contains-preimage}
use Rattle.cedar_validation.proofs.Keyed.{action_stands}
use Rattle.cedar_validation.proofs.request_types.check_descendants.Goals as goal
use Rattle.cedar_validation.specs.Words.{uid_of, undeclared_action_descendant}

pub returns-in-None-clause-sound : goal.returns-in-None-clause-sound
returns-in-None-clause-sound c = λ uid among.
    let key = Contains-preimage uid_of c.descendants.result uid (rw (sym c.descendants.ensures.uids) at among) in
    rw key.2 at ((action_stands c.args.parts.now.actions.entries key.0).0 (c.in-None.ensures key.0 key.1))

pub returns-in_ok-clone-in-Some-clause-fault : goal.returns-in_ok-clone-in-Some-clause-fault
returns-in_ok-clone-in-Some-clause-fault c =
    let key = c.in-Some.lower.now in
    inr (
      uid_of key,
      ap undeclared_action_descendant c.in_ok-clone-in-Some.ensures.uid,
      rw c.descendants.ensures.uids at (Contains-image uid_of c.descendants.result key c.in-Some.ensures.0),
      λ has. c.in-Some.ensures.1 ((action_stands c.args.parts.now.actions.entries key).1 has),
    )
