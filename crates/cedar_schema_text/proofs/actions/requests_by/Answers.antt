use Rattle.std.proofs.Common.{◌++◌, map, subst}
use Rattle.std.proofs.lemmas.Result.{err_from_is_err_and}
use Rattle.cedar_schema_grammar.specs.Plain.{part_of}
use Rattle.cedar_schema_text.proofs.Among.{among_left, among_right}
use Rattle.cedar_schema_text.specs.Faults.{IsAmong, if_there, part_faults, part_name, repeats, type_faults}
use Rattle.cedar_schema_text.specs.Meaning.{context_of, first_said, principals_of, resources_of}
use Rattle.cedar_schema_text.specs.declared.fault.Missing.TheVariants as missing
use Rattle.cedar_schema_text.specs.declared.fault.Repeated.TheVariants as repeated
use Rattle.cedar_schema_text.proofs.actions.requests_by.Goals as goal

pub returns-in_err-check_parts-clause-fault : goal.returns-in_err-check_parts-clause-fault
returns-in_err-check_parts-clause-fault c =
    let parts = map part_of c.args.parts.now in
    let loc = c.args.loc in
    let e = c.in_err-check_parts.field-0.0 in
    let p = err_from_is_err_and c.from_residual.result c.from_residual.ensures.1 in
    rw (p.1, p.2) (among_left (((repeats repeated.Part (map part_name parts)) ++ (part_faults missing.Principal loc (first_said principals_of parts))) ++ (part_faults missing.Resource loc (first_said resources_of parts))) (if_there type_faults (first_said context_of parts)) e (among_left ((repeats repeated.Part (map part_name parts)) ++ (part_faults missing.Principal loc (first_said principals_of parts))) (part_faults missing.Resource loc (first_said resources_of parts)) e (among_left (repeats repeated.Part (map part_name parts)) (part_faults missing.Principal loc (first_said principals_of parts)) e c.in_err-check_parts.ensures.fault)))

pub returns-in_err-principal_types-clause-fault : goal.returns-in_err-principal_types-clause-fault
returns-in_err-principal_types-clause-fault c =
    let parts = map part_of c.args.parts.now in
    let loc = c.args.loc in
    let e = c.in_err-principal_types.field-0.0 in
    let p = err_from_is_err_and c.from_residual-in_err-principal_types.result c.from_residual-in_err-principal_types.ensures.1 in
    rw (p.1, p.2) (among_left (((repeats repeated.Part (map part_name parts)) ++ (part_faults missing.Principal loc (first_said principals_of parts))) ++ (part_faults missing.Resource loc (first_said resources_of parts))) (if_there type_faults (first_said context_of parts)) e (among_left ((repeats repeated.Part (map part_name parts)) ++ (part_faults missing.Principal loc (first_said principals_of parts))) (part_faults missing.Resource loc (first_said resources_of parts)) e (among_right (repeats repeated.Part (map part_name parts)) (part_faults missing.Principal loc (first_said principals_of parts)) e (subst (λ o. IsAmong (part_faults missing.Principal loc o) e) c.principals.ensures c.in_err-principal_types.ensures.fault))))

pub returns-in_err-resource_types-clause-fault : goal.returns-in_err-resource_types-clause-fault
returns-in_err-resource_types-clause-fault c =
    let parts = map part_of c.args.parts.now in
    let loc = c.args.loc in
    let e = c.in_err-resource_types.field-0.0 in
    let p = err_from_is_err_and c.from_residual-in_err-resource_types.result c.from_residual-in_err-resource_types.ensures.1 in
    rw (p.1, p.2) (among_left (((repeats repeated.Part (map part_name parts)) ++ (part_faults missing.Principal loc (first_said principals_of parts))) ++ (part_faults missing.Resource loc (first_said resources_of parts))) (if_there type_faults (first_said context_of parts)) e (among_right ((repeats repeated.Part (map part_name parts)) ++ (part_faults missing.Principal loc (first_said principals_of parts))) (part_faults missing.Resource loc (first_said resources_of parts)) e (subst (λ o. IsAmong (part_faults missing.Resource loc o) e) c.resources.ensures c.in_err-resource_types.ensures.fault)))

pub returns-in_err-context_or_none-clause-fault : goal.returns-in_err-context_or_none-clause-fault
returns-in_err-context_or_none-clause-fault c =
    let parts = map part_of c.args.parts.now in
    let loc = c.args.loc in
    let e = c.in_err-context_or_none.field-0.0 in
    let p = err_from_is_err_and c.from_residual-in_err-context_or_none.result c.from_residual-in_err-context_or_none.ensures.1 in
    rw (p.1, p.2) (among_right (((repeats repeated.Part (map part_name parts)) ++ (part_faults missing.Principal loc (first_said principals_of parts))) ++ (part_faults missing.Resource loc (first_said resources_of parts))) (if_there type_faults (first_said context_of parts)) e (subst (λ o. IsAmong (if_there type_faults o) e) c.said_context.ensures c.in_err-context_or_none.ensures.fault))
