use Rattle.std.proofs.Common.{subst}
use Rattle.cedar_schema_text_writer.specs.Flaws.{Id, IsFaultOf, found_in}
use Rattle.cedar_schema_text_writer.specs.Scope.{first_in, namespace_in}
use Rattle.cedar_schema_text_writer.proofs.check_declarations.check_one.Goals as goal

pub returns-in_ok-declared-in-Err : goal.returns-in_ok-declared-in-Err
returns-in_ok-declared-in-Err g c =
    let namespace = namespace_in c.args.scope in
    let flaw = g.T.Checked.flaw (first_in c.args.scope) namespace c.args.it.now in
    subst (λ (id : Id). IsFaultOf (found_in namespace id flaw) c.fault_at.result) c.in_ok-declared-in-Err.ensures
    (c.fault_at.ensures flaw c.in-Err.ensures)
