use Rattle.std.proofs.Common.{ap, refl}
use Rattle.std.proofs.lemmas.Result.{err_from_is_err_and}
use Rattle.cedar_schema_text_writer.proofs.Checked.{nothing_left, nothing_next, refused_next}
use Rattle.cedar_schema_text_writer.specs.Flaws.{declared_flaw, found_in}
use Rattle.cedar_schema_text_writer.specs.Scope.{first_in, namespace_in}
use Rattle.cedar_schema_text_writer.proofs.check_declarations.check_all.Goals as goal

pub loop-id-preserved : goal.loop-id-preserved
loop-id-preserved g c =
    let namespace = namespace_in c.args.scope in
    let flaw = g.T.Checked.flaw (first_in c.args.scope) namespace in
    let found = declared_flaw namespace g.T.Checked.named flaw in
    nothing_next found (found_in namespace (g.T.Checked.named c.in-Some.id.now) (flaw c.in-Some.it.now)) c.args.all.now.entries c.loop-id.id-iterator
    c.next.new.self (ap found c.in-Some.ensures.steps) c.loop-id.invariant c.in_ok-check_one.ensures

pub returns-in_err-check_one : goal.returns-in_err-check_one
returns-in_err-check_one g c =
    let p = err_from_is_err_and c.from_residual.result c.from_residual.ensures.1 in
    let namespace = namespace_in c.args.scope in
    let flaw = g.T.Checked.flaw (first_in c.args.scope) namespace in
    let found = declared_flaw namespace g.T.Checked.named flaw in
    rw (p.1, p.2)
    (refused_next found (found_in namespace (g.T.Checked.named c.in-Some.id.now) (flaw c.in-Some.it.now)) c.args.all.now.entries c.loop-id.id-iterator
    c.next.new.self (ap found c.in-Some.ensures.steps) c.loop-id.invariant c.in_err-check_one.field-0.0 c.in_err-check_one.ensures)

pub returns : goal.returns
returns g c =
    let namespace = namespace_in c.args.scope in
    let found = declared_flaw namespace g.T.Checked.named (g.T.Checked.flaw (first_in c.args.scope) namespace) in
    nothing_left found c.args.all.now.entries c.loop-id.id-iterator c.loop-id.invariant c.in-None.ensures.steps.0 refl
