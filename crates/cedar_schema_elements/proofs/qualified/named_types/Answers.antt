use Rattle.std.proofs.Common.{Contains, ap, map, subst, sym}
use Rattle.std.proofs.lemmas.Result.{err_from_is_err_and}
use Rattle.cedar_ast.proofs.Basics.{Contains-image}
use Rattle.cedar_name_resolution.proofs.RefusedLemmas.{refused_one, refused_unresolvable}
use Rattle.cedar_schema_elements.proofs.NamedTypes.{all_named, all_resolved, named_here, named_more}
use Rattle.cedar_schema_elements.proofs.qualified.named_types.Goals as goal
use Rattle.cedar_schema_elements.specs.Words.{IsReserved, ResolvesTo, conditional_reference, held_names, name_of, type_name}

-- a reference that names nothing is the fault
pub returns-in_err-name-clause-fault : goal.returns-in_err-name-clause-fault
returns-in_err-name-clause-fault c =
    let names = held_names c.args.all_defs.now in
    let all = c.args.references.keys in
    let reference = c.in-Some.reference in
    let here = named_here names all _ _ reference c.in-Some.ensures.steps _ c.loop-reference.invariant in
    let P = Contains (map conditional_reference all) in
    let refused = refused_one names P (conditional_reference reference) (Contains-image conditional_reference all reference here) _
    c.in_err-name.ensures.refused in
    let p = err_from_is_err_and c.from_residual.result c.from_residual.ensures.1 in
    rw (p.1, p.2) (refused_unresolvable names P (λ parent. ⊥) P _ refused)

-- so is one that names a reserved name
pub returns-in-Err-clause-fault : goal.returns-in-Err-clause-fault
returns-in-Err-clause-fault c =
    let names = held_names c.args.all_defs.now in
    let all = c.args.references.keys in
    let reference = c.in-Some.reference in
    let here = named_here names all _ _ reference c.in-Some.ensures.steps _ c.loop-reference.invariant in
    let refused = c.in-Err.ensures.refused in
    let same = sym (ap name_of refused.0) in (
      conditional_reference reference,
      Contains-image conditional_reference all reference here,
      subst (ResolvesTo names (conditional_reference reference)) same c.in_ok-name.ensures.resolved,
      subst IsReserved same refused.1,
    )

-- what the next reference names is put in
pub loop-reference-preserved : goal.loop-reference-preserved
loop-reference-preserved c =
    let names = held_names c.args.all_defs.now in
    let reference = c.in-Some.reference in
    let named = sym c.in-Ok.ensures.name in
    named_more names c.args.references.keys _ _ reference c.in-Some.ensures.steps c.loop-reference.types.keys c.insert.new.self.keys
    c.in-Ok.ty c.in_ok-insert.ensures.updates.0 (rw named at c.in_ok-name.ensures.resolved)
    (subst (λ name. ¬ IsReserved name) named c.in-Ok.ensures.unreserved) c.loop-reference.invariant

-- where none is left, all names are in
pub returns-clause-types : goal.returns-clause-types
returns-clause-types c =
    all_named (held_names c.args.all_defs.now) c.args.references.keys (map type_name c.loop-reference.types.keys) _
    c.in-None.ensures.steps.0 c.loop-reference.invariant

-- and each of them is what a reference names
pub returns-clause-resolved : goal.returns-clause-resolved
returns-clause-resolved c =
    all_resolved (held_names c.args.all_defs.now) c.args.references.keys (map type_name c.loop-reference.types.keys) _
    c.in-None.ensures.steps.0 c.loop-reference.invariant
