use Rattle.std.proofs.Common.{ap, ◌∙◌}
use Rattle.std.proofs.lemmas.Result.{IfOk-weaker}
use Rattle.cedar_ast.proofs.ShownLemmas.{copy_ties}
use Rattle.cedar_ast.proofs.TurnLemmas.{turn_weaker}
use Rattle.cedar_ast.proofs.Uids.{entity_uid_ord-Equal}
use Rattle.cedar_ast.specs.contracts.entity_uid.EntityUIDOrd.TheImpl as entity_uid_ord
use Rattle.cedar_schema_elements.specs.ValidatorActionId.{name_loc}
use Rattle.cedar_validation.proofs.copies.copied_actions.Goals as goal
use Rattle.cedar_validation.specs.Words.{IsActionCopied, action_loc, action_of, name_type_loc, uid_loc, uid_of, uid_type_loc}

pub copied_table-requires-clause-ties : goal.copied_table-requires-clause-ties
copied_table-requires-clause-ties c key answer ran =
    copy_ties (entity_uid_ord.ghosts).cmp uid_of entity_uid_ord-Equal key ran.shown.now answer ran.shows ran.says.met.0

pub returns : goal.returns
returns c =
    IfOk-weaker c.copied_table.result _ _
    (λ copies turn.
    turn_weaker _ IsActionCopied
    (λ it copy ran.
    record {
      same = record {
        key = ran.0.says.met.0 ∙ ap uid_of ran.0.shows;
        uid = ran.1.says.met.0 ∙ ap (λ each. (action_of each).uid) ran.1.shows;
        kind = rw ran.1.shows at ran.1.says.met.1.1.1.0;
        descendants = rw ran.1.shows at ran.1.says.met.1.1.1.1.1.0;
      };
      requests = rw ran.1.shows at ran.1.says.met.1.1.1.1.0;
      key_loc = ran.0.says.met.1.0 ∙ ap uid_loc ran.0.shows;
      key_type_loc = ran.0.says.met.1.1.0 ∙ ap uid_type_loc ran.0.shows;
      name_loc = ran.1.says.met.1.0 ∙ ap name_loc ran.1.shows;
      name_type_loc = ran.1.says.met.1.1.0 ∙ ap name_type_loc ran.1.shows;
      loc = ran.1.says.met.1.1.1.1.1.1 ∙ ap action_loc ran.1.shows;
    })
    c.args.actions.now.entries copies.entries turn)
    c.copied_table.ensures
