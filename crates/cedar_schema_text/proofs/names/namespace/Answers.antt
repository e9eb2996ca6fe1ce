use Rattle.std.proofs.Common.{◌≡◌, true, false, not, bytes_eq, refl, subst}
use Rattle.std.specs.List.{list_any}
use Rattle.std.proofs.lemmas.Result.{err_from_is_err_and}
use Rattle.cedar_ast.specs.Words.{IsReserved, reserved_word}
use Rattle.cedar_schema_grammar.specs.Plain.{path_of}
use Rattle.cedar_schema_text.proofs.Among.{reserved_among}
use Rattle.cedar_schema_text.proofs.NameLemmas.{namespace_none, namespace_some, unless_both, unless_true}
use Rattle.cedar_schema_text.specs.Faults.{is_name, is_namespace_name, reserved}
use Rattle.cedar_schema_text.proofs.names.namespace.Goals as goal

pub returns-in_err-internal_name-clause-fault : goal.returns-in_err-internal_name-clause-fault
returns-in_err-internal_name-clause-fault c =
    let ids = (path_of c.args.path.now).ids in
    let p = err_from_is_err_and c.from_residual.result c.from_residual.ensures.1 in
    rw (p.1, p.2) (unless_both (is_name ids) (not (list_any (bytes_eq reserved_word) ids)) c.args.path.now.loc c.in_err-internal_name.field-0.0
    c.in_err-internal_name.ensures.fault)

pub returns-in-Some-clause-none : goal.returns-in-Some-clause-none
returns-in-Some-clause-none c =
    let ids = (path_of c.args.path.now).ids in
    unless_true (is_namespace_name ids) (reserved c.args.path.now.loc)
    (namespace_some ids c.in_ok-internal_name.ensures.valid
    (subst (λ name. IsReserved name → ⊥) c.in_ok-internal_name.ensures.name (c.in-Some.ensures.valid.0 refl)))

pub returns-in-None-clause-fault : goal.returns-in-None-clause-fault
returns-in-None-clause-fault c =
    let ids = (path_of c.args.path.now).ids in
    reserved_among (is_namespace_name ids) c.args.path.now.loc
    (namespace_none ids c.in_ok-internal_name.ensures.valid
    (subst (λ name. (IsReserved name → ⊥) → false ≡ true) c.in_ok-internal_name.ensures.name c.in-None.ensures.valid.1))
