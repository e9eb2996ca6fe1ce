use Rattle.std.proofs.Common.{ap, ◌∙◌}
use Rattle.std.proofs.lemmas.Result.{IfOk-weaker}
use Rattle.cedar_ast.proofs.Names.{entity_type_ord-Equal}
use Rattle.cedar_ast.proofs.ShownLemmas.{copy_ties}
use Rattle.cedar_ast.proofs.TurnLemmas.{turn_weaker}
use Rattle.cedar_ast.specs.contracts.entity_type.EntityTypeOrd.TheImpl as entity_type_ord
use Rattle.cedar_validation.proofs.copies.copied_types.Goals as goal
use Rattle.cedar_validation.specs.Words.{IsTypeCopied, PlainEntityType, attributes_of, entity_type_of, located_at, name_loc, type_loc, type_name}

pub copied_table-requires-clause-ties : goal.copied_table-requires-clause-ties
copied_table-requires-clause-ties c key answer ran =
    copy_ties (entity_type_ord.ghosts).cmp type_name entity_type_ord-Equal key ran.shown.now answer ran.shows ran.says.met.0

pub returns : goal.returns
returns c =
    IfOk-weaker c.copied_table.result _ _
    (λ copies turn.
    turn_weaker _ IsTypeCopied
    (λ it copy ran.
    let same = ran.1.says.met.0 ∙ ap entity_type_of ran.1.shows in
    record {
      same = record {
        key = ran.0.says.met.0 ∙ ap type_name ran.0.shows;
        name = ap (λ (each : PlainEntityType). each.name) same;
        kind = ap (λ (each : PlainEntityType). each.kind) same;
        descendants = rw ran.1.shows at ran.1.says.met.1.1.1.0;
      };
      key_loc = ran.0.says.met.1.0 ∙ ap type_loc ran.0.shows;
      name_loc = ran.1.says.met.1.0 ∙ ap name_loc ran.1.shows;
      attributes = λ name. ran.1.says.met.1.1.0 name ∙ ap (λ each. located_at name (attributes_of each)) ran.1.shows;
      loc = ran.1.says.met.1.1.1.1 ∙ ap (λ each. each.loc) ran.1.shows;
    })
    c.args.types.now.entries copies.entries turn)
    c.copied_table.ensures
