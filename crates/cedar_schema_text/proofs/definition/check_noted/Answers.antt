use Rattle.std.proofs.Common.{map, subst}
use Rattle.std.proofs.lemmas.Result.{err_from_is_err_and}
use Rattle.cedar_schema_grammar.specs.Plain.{name_of}
use Rattle.cedar_schema_text.proofs.Among.{among_at}
use Rattle.cedar_schema_text.specs.Faults.{IsAmong, noted_faults, repeats}
use Rattle.cedar_schema_text.specs.Here.{lent}
use Rattle.cedar_schema_text.specs.declared.fault.Repeated.TheVariants as repeated
use Rattle.cedar_schema_text.proofs.definition.check_noted.Goals as goal

-- a fault of one declaration is among those of all
pub returns-in_err-check_annotations-clause-fault : goal.returns-in_err-check_annotations-clause-fault
returns-in_err-check_annotations-clause-fault c =
    let e = c.in_err-check_annotations.field-0.0 in
    let p = err_from_is_err_and c.from_residual.result c.from_residual.ensures.1 in
    rw (p.1, p.2) (among_at noted_faults lent c.args.declarations.now c.loop-declaration.declaration-index c.declaration-item.result e
    c.loop-declaration-test.true c.declaration-item.is
    (subst (λ xs. IsAmong (repeats repeated.Annotation (map name_of xs)) e) c.deref.ensures.value c.in_err-check_annotations.ensures.fault))
