use Rattle.std.proofs.Common.{◌≡◌, true, false, not, string_bytes, bytes_eq, subst, sym, refl}
use Rattle.std.specs.List.{list_any}
use Rattle.std.proofs.lemmas.Result.{err_from_is_err_and}
use Rattle.cedar_schema_ast.specs.ReservedTypeWord.{IsReservedTypeWord, reserved_type_words}
use Rattle.cedar_schema_text.proofs.Among.{reserved_among}
use Rattle.cedar_schema_text.proofs.NameLemmas.{common_none, common_some, unless_both}
use Rattle.cedar_schema_text.specs.Faults.{is_common_id, is_unreserved}
use Rattle.cedar_schema_text.proofs.names.common_type.Goals as goal

pub returns-in_err-unreserved-clause-fault : goal.returns-in_err-unreserved-clause-fault
returns-in_err-unreserved-clause-fault c =
    let text = string_bytes c.args.name.now.text in
    let p = err_from_is_err_and c.from_residual.result c.from_residual.ensures.1 in
    rw (p.1, p.2) (unless_both (is_unreserved text) (not (list_any (bytes_eq text) reserved_type_words)) c.args.name.now.loc c.in_err-unreserved.field-0.0 c.in_err-unreserved.ensures.fault)

pub returns-in-Some-clause-valid : goal.returns-in-Some-clause-valid
returns-in-Some-clause-valid c =
    let text = string_bytes c.args.name.now.text in
    common_some text c.in_ok-unreserved.ensures.valid
    (subst (λ t. IsReservedTypeWord t → ⊥) c.in_ok-unreserved.ensures.text (c.in-Some.ensures.valid.0 refl))

pub returns-in-None-clause-fault : goal.returns-in-None-clause-fault
returns-in-None-clause-fault c =
    let text = string_bytes c.args.name.now.text in
    reserved_among (is_common_id text) c.args.name.now.loc
    (common_none text (subst (λ t. (IsReservedTypeWord t → ⊥) → false ≡ true) c.in_ok-unreserved.ensures.text c.in-None.ensures.valid.1))
