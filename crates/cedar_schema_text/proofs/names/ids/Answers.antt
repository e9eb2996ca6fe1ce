use Rattle.std.proofs.Common.{map, string_bytes, ap, sym, subst, ◌∙◌}
use Rattle.std.proofs.lemmas.Result.{err_from_is_err_and}
use Rattle.cedar_ast.specs.Words.{is_identifier_text}
use Rattle.cedar_schema_text.proofs.NameLemmas.{id_among, ids_all, ids_more, ids_none}
use Rattle.cedar_schema_text.specs.Faults.{IsAmong, reserved, unless}
use Rattle.cedar_schema_text.proofs.names.ids.Goals as goal

pub loop-part-init : goal.loop-part-init
loop-part-init c = ids_none c.args.written.now c.in_ok-found.found.items c.in_ok-found.ensures.items

pub returns-in_err-id-clause-fault : goal.returns-in_err-id-clause-fault
returns-in_err-id-clause-fault c =
    let p = err_from_is_err_and c.from_residual-in_err-id.result c.from_residual-in_err-id.ensures.1 in
    let e = c.in_err-id.field-0.0 in
    rw (p.1, p.2) (id_among c.args.written.now c.loop-part.part-index c.part-item.result c.args.loc e c.loop-part-test.true c.part-item.is
    (subst (λ t. IsAmong (unless (is_identifier_text t) (reserved c.args.loc)) e) c.as_str.ensures.value c.in_err-id.ensures.fault))

pub loop-part-preserved : goal.loop-part-preserved
loop-part-preserved c =
    let is = c.as_str.ensures.value in
    ids_more c.args.written.now c.loop-part.part-index c.part-item.result c.loop-part.found.items c.push.new.self.items c.in_ok-id.field-0
    c.loop-part-test.true c.part-item.is (c.in_ok-id.ensures.text ∙ is) (ap is_identifier_text (sym is) ∙ c.in_ok-id.ensures.valid)
    c.in_ok-push.ensures.items c.loop-part.invariant

pub returns-clause-texts : goal.returns-clause-texts
returns-clause-texts c = (ids_all c.args.written.now c.loop-part.part-index c.loop-part.found.items c.loop-part-test.false c.loop-part.invariant).0

pub returns-clause-valid : goal.returns-clause-valid
returns-clause-valid c = (ids_all c.args.written.now c.loop-part.part-index c.loop-part.found.items c.loop-part-test.false c.loop-part.invariant).1
