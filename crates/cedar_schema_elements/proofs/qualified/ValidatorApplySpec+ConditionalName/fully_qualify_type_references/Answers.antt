use Rattle.std.proofs.Common.{◌++◌, Contains, inl, inr}
use Rattle.std.proofs.lemmas.List.Elements.{Contains-append_cases, Contains-append_left, Contains-append_right}
use Rattle.std.proofs.lemmas.Result.{err_from_is_err_and}
use Rattle.cedar_name_resolution.proofs.RefusedLemmas.{unresolvable_wider}
use Rattle.cedar_schema_elements.proofs.qualified.ValidatorApplySpec+ConditionalName.fully_qualify_type_references.Goals as goal
use Rattle.cedar_schema_elements.specs.Words.{held_names, principal_references, resource_references}

pub returns-in_err-named_types-clause-fault : goal.returns-in_err-named_types-clause-fault
returns-in_err-named_types-clause-fault c =
    let principals = principal_references c.args.self in
    let resources = resource_references c.args.self in
    let all = Contains (principals ++ resources) in
    let p = err_from_is_err_and c.from_residual.result c.from_residual.ensures.1 in
    rw (p.1, p.2)
    (unresolvable_wider (held_names c.args.all_defs.now) (Contains principals) all (λ parent. ⊥) (λ parent. ⊥) (Contains principals) all
    (Contains-append_left principals resources) (λ parent none. none) (Contains-append_left principals resources) _
    c.in_err-named_types.ensures.fault)

pub returns-in_err-named_types-2-clause-fault : goal.returns-in_err-named_types-2-clause-fault
returns-in_err-named_types-2-clause-fault c =
    let principals = principal_references c.args.self in
    let resources = resource_references c.args.self in
    let all = Contains (principals ++ resources) in
    let p = err_from_is_err_and c.from_residual-in_err-named_types-2.result c.from_residual-in_err-named_types-2.ensures.1 in
    rw (p.1, p.2)
    (unresolvable_wider (held_names c.args.all_defs.now) (Contains resources) all (λ parent. ⊥) (λ parent. ⊥) (Contains resources) all
    (Contains-append_right principals resources) (λ parent none. none) (Contains-append_right principals resources) _
    c.in_err-named_types-2.ensures.fault)

pub returns-clause-resolved : goal.returns-clause-resolved
returns-clause-resolved c = λ reference among.
    elim (Contains-append_cases (principal_references c.args.self) (resource_references c.args.self) reference among) [
      | inl left ↦ c.in_ok-named_types.ensures.resolved reference left
      | inr right ↦ c.in_ok-named_types-2.ensures.resolved reference right
    ]
