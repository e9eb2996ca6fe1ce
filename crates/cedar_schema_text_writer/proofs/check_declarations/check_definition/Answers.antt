use Rattle.std.proofs.Common.{Err}
use Rattle.std.proofs.lemmas.Result.{err_from_is_err_and}
use Rattle.std.specs.Option.{option_or}
use Rattle.cedar_schema_text_writer.proofs.Checked.{judged_later, refused_first}
use Rattle.cedar_schema_text_writer.specs.Flaws.{actions_flaw, common_types_flaw, entity_types_flaw}
use Rattle.cedar_schema_text_writer.specs.Scope.{first_in, namespace_in}
use Rattle.cedar_schema_text_writer.proofs.check_declarations.check_definition.Goals as goal

pub returns-in_err-check_all : goal.returns-in_err-check_all
returns-in_err-check_all c =
    let p = err_from_is_err_and c.from_residual.result c.from_residual.ensures.1 in
    let first = first_in c.args.scope in
    let namespace = namespace_in c.args.scope in
    let it = c.args.it.now in
    rw (p.1, p.2)
    (refused_first (common_types_flaw first namespace it) (option_or (entity_types_flaw first namespace it) (actions_flaw first namespace it))
    c.in_err-check_all.field-0.0 c.in_err-check_all.ensures)

pub returns-in_err-check_all-2 : goal.returns-in_err-check_all-2
returns-in_err-check_all-2 c =
    let p = err_from_is_err_and c.from_residual-in_err-check_all-2.result c.from_residual-in_err-check_all-2.ensures.1 in
    let first = first_in c.args.scope in
    let namespace = namespace_in c.args.scope in
    let it = c.args.it.now in
    rw (p.1, p.2)
    (judged_later (common_types_flaw first namespace it) (option_or (entity_types_flaw first namespace it) (actions_flaw first namespace it))
    (Err c.in_err-check_all-2.field-0.0) c.in_ok-check_all.ensures
    (refused_first (entity_types_flaw first namespace it) (actions_flaw first namespace it) c.in_err-check_all-2.field-0.0 c.in_err-check_all-2.ensures))

pub returns : goal.returns
returns c =
    let first = first_in c.args.scope in
    let namespace = namespace_in c.args.scope in
    let it = c.args.it.now in
    judged_later (common_types_flaw first namespace it) (option_or (entity_types_flaw first namespace it) (actions_flaw first namespace it))
    c.check_all-3.result c.in_ok-check_all.ensures
    (judged_later (entity_types_flaw first namespace it) (actions_flaw first namespace it) c.check_all-3.result c.in_ok-check_all-2.ensures c.check_all-3.ensures)
