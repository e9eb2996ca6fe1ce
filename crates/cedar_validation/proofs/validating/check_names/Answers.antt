use Rattle.cedar_ast.proofs.Basics.{OnOk-map}
use Rattle.cedar_validation.proofs.validating.check_names.Goals as goal

pub returns-clause-sound : goal.returns-clause-sound
returns-clause-sound c =
    OnOk-map c.check_shadowed_actions.result c.check_shadowed_actions.ensures.sound
    (λ shadowed. record {
      types = c.in_ok-check_type_names.ensures.sound;
      actions = c.in_ok-check_action_types.ensures.sound;
      no_type_shadows = c.in_ok-check_shadowed_types.ensures.sound;
      no_action_shadows = shadowed c.in_ok-check_action_types.ensures.sound;
    })
