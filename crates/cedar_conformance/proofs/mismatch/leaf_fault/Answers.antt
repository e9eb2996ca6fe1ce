use Rattle.std.proofs.Common.{[], Ok, ap, refl, sym, ◌∙◌}
use Rattle.cedar_conformance.proofs.MismatchLemmas.{fault_here, unknown_call}
use Rattle.cedar_conformance.proofs.mismatch.leaf_fault.Goals as goal
use Rattle.cedar_conformance.specs.Plain.{unknown_function, wrong_type}
use Rattle.cedar_types.specs.Words.{plain_name, tree_of, ty_of}

-- a value that can't have the type isn't of it
pub returns-in_ok-clone-in-Ok-false-clause-answer : goal.returns-in_ok-clone-in-Ok-false-clause-answer
returns-in_ok-clone-in-Ok-false-clause-answer c = λ no_parts.
    let value = tree_of c.args.expr.now in
    let ty = ty_of c.args.ty.now in
    rw (c.here.ensures ∙ ap (λ of. record { steps = []; kind = wrong_type of }) c.in_ok-clone-in-Ok-false.ensures.same)
    (fault_here c.args.search.now.extensions.now value ty (wrong_type ty) (
      refl,
      no_parts,
      c.typecheck_restricted_expr.ensures.lacks.0
          (c.in-Ok-false.is ∙ ap Ok (sym c.in-Ok-false.field-0-is ∙ c.in-Ok-false.field-0-test)),
    ))

-- one whose function isn't known calls it
pub returns-in_ok-clone-in-Err-clause-answer : goal.returns-in_ok-clone-in-Err-clause-answer
returns-in_ok-clone-in-Err-clause-answer c = λ no_parts.
    let value = tree_of c.args.expr.now in
    let ty = ty_of c.args.ty.now in
    let name = plain_name c.in-Err.error.name.now in
    rw (c.here-in-Err.ensures ∙ ap (λ of. record { steps = []; kind = unknown_function of }) c.in_ok-clone-in-Err.ensures.name)
    (fault_here c.args.search.now.extensions.now value ty (unknown_function name)
    (unknown_call c.args.search.now.extensions.now value ty name no_parts
    (rw c.in-Err.is at c.typecheck_restricted_expr.ensures.fault)))
