use Rattle.std.proofs.Common.{sym, ◌∙◌}
use Rattle.cedar_schema_ast.specs.Words.{raw_expr}
use Rattle.cedar_schema_text_writer.proofs.Checked.{checks_else, checks_where}
use Rattle.cedar_schema_text_writer.specs.Flaws.{context_name_flaw, is_record, type_flaw}
use Rattle.cedar_schema_text_writer.specs.Scope.{first_in, namespace_in}
use Rattle.cedar_schema_text_writer.specs.declared.fault.Part.TheVariants as part
use Rattle.cedar_schema_text_writer.proofs.check_types.check_context.Goals as goal

pub returns-then-is_record : goal.returns-then-is_record
returns-then-is_record c =
    let first = first_in c.args.scope in
    let namespace = namespace_in c.args.scope in
    let ty = c.args.ty.now in
    checks_where (is_record (raw_expr namespace ty)) (type_flaw first namespace part.Context ty) (context_name_flaw first (raw_expr namespace ty)) c.check_type.result
    (sym (c.is_record.ensures namespace) ∙ c.if-is_record.true) c.check_type.ensures

pub returns-else-is_record : goal.returns-else-is_record
returns-else-is_record c =
    let first = first_in c.args.scope in
    let namespace = namespace_in c.args.scope in
    let ty = c.args.ty.now in
    checks_else (is_record (raw_expr namespace ty)) (type_flaw first namespace part.Context ty) (context_name_flaw first (raw_expr namespace ty)) c.check_context_name.result
    (sym (c.is_record.ensures namespace) ∙ c.if-is_record.false) c.check_context_name.ensures
