use Rattle.std.proofs.lemmas.Result.{err_from_is_err_and}
use Rattle.cedar_schema_text_writer.proofs.Checked.{checks_later, stops_first}
use Rattle.cedar_schema_text_writer.specs.Flaws.{shape_flaw, tags_flaw}
use Rattle.cedar_schema_text_writer.specs.Scope.{first_in, namespace_in}
use Rattle.cedar_schema_text_writer.proofs.check_declarations.check_standard.Goals as goal

pub returns-in_err-check_shape : goal.returns-in_err-check_shape
returns-in_err-check_shape c =
    let p = err_from_is_err_and c.from_residual.result c.from_residual.ensures.1 in
    let first = first_in c.args.scope in
    let namespace = namespace_in c.args.scope in
    rw (p.1, p.2)
    (stops_first (shape_flaw first namespace c.args.it.now.shape.0) (tags_flaw first namespace c.args.it.now.tags) c.in_err-check_shape.field-0.0
    c.in_err-check_shape.ensures)

pub returns : goal.returns
returns c =
    let first = first_in c.args.scope in
    let namespace = namespace_in c.args.scope in
    checks_later (shape_flaw first namespace c.args.it.now.shape.0) (tags_flaw first namespace c.args.it.now.tags) c.check_tags.result c.in_ok-check_shape.ensures
    c.check_tags.ensures
