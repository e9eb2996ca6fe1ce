use Rattle.std.proofs.Common.{◌≡◌}
use Rattle.cedar_schema_text_writer.specs.Flaws.{declared_flaw}
use Rattle.cedar_schema_text_writer.specs.Scope.{first_in, namespace_in}
use Rattle.cedar_schema_text_writer.proofs.check_declarations.check_all.Given as goal

abbrev pub invariant-loop-id : goal.invariant-loop-id
invariant-loop-id g l =
    let namespace = namespace_in l.scope in
    let found = declared_flaw namespace g.T.Checked.named (g.T.Checked.flaw (first_in l.scope) namespace) in
    found l.id-iterator ≡ found l.all.entries
