use Rattle.std.proofs.Common.{◌++◌, map, option_map, subst, sym}
use Rattle.std.specs.List.{flat_map}
use Rattle.std.proofs.lemmas.Result.{err_from_is_err_and}
use Rattle.cedar_schema_grammar.specs.Plain.{body_of, path_of, type_of}
use Rattle.cedar_schema_text.specs.Faults.{IsAmong, body_faults, if_there, name_faults, type_faults}
use Rattle.cedar_schema_text.proofs.entity_types.kind.Goals as goal

-- a fault of what the body says is one of the body
pub returns-in_err-standard-in-Standard-clause-fault : goal.returns-in_err-standard-in-Standard-clause-fault
returns-in_err-standard-in-Standard-clause-fault c =
    let e = c.in_err-standard-in-Standard.field-0.0 in
    let shape = if_there type_faults (option_map type_of c.in-Standard.shape) in
    let tags = if_there type_faults (option_map type_of c.in-Standard.tags) in
    let p = err_from_is_err_and c.from_residual-in_err-standard-in-Standard.result c.from_residual-in_err-standard-in-Standard.ensures.1 in
    rw (p.1, p.2) (subst (λ body. IsAmong (body_faults c.args.loc (body_of body)) e) (sym c.in-Standard.is)
    (subst (λ xs. IsAmong (flat_map name_faults (map path_of xs) ++ shape ++ tags) e) c.deref-in-Standard.ensures.value
    c.in_err-standard-in-Standard.ensures.fault))
