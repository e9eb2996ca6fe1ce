use Rattle.std.proofs.Common.{inr}
use Rattle.cedar_ast.proofs.Basics.{OnOk-map}
use Rattle.cedar_validation.proofs.MentionLemmas.{context_is, context_of}
use Rattle.cedar_validation.proofs.Results.{on_err}
use Rattle.cedar_validation.proofs.mentions.ValidatorActionIdTyped.check_types.Goals as goal
use Rattle.cedar_validation.specs.Words.{action_of, ty_of}

pub returns-in-Some-clause-sound : goal.returns-in-Some-clause-sound
returns-in-Some-clause-sound c =
    let kind = (action_of c.args.self.now).kind in
    OnOk-map c.check_type.result c.check_type.ensures.sound
    (λ sound of is. rw (context_is kind (ty_of c.in-Some.context.now) of c.in-Some.ensures.ty is) at sound)

pub returns-in-Some-clause-fault : goal.returns-in-Some-clause-fault
returns-in-Some-clause-fault c =
    let kind = (action_of c.args.self.now).kind in
    let context = ty_of c.in-Some.context.now in
    on_err c.check_type.result c.check_type.ensures.fault
    (λ error why. inr (context, context_of kind context c.in-Some.ensures.ty, why))
