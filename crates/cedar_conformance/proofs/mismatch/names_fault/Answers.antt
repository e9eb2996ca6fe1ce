use Rattle.std.proofs.Common.{[], subst, sym, Contains, string_bytes, ap, ◌∙◌}
use Rattle.cedar_conformance.proofs.MismatchLemmas.{fault_here}
use Rattle.cedar_conformance.proofs.Outcomes.{always}
use Rattle.cedar_conformance.proofs.mismatch.names_fault.Goals as goal
use Rattle.cedar_conformance.specs.Plain.{unexpected_attribute}
use Rattle.cedar_types.specs.Words.{fields_of, map_value, record_of}

-- an attribute that isn't listed is one too many
pub returns-in_ok-clone-in-Some-clause-answer : goal.returns-in_ok-clone-in-Some-clause-answer
returns-in_ok-clone-in-Some-clause-answer g c = λ entries names extensions.
    let name = string_bytes c.in-Some.name.now in
    let found = rw c.in-Some.is at c.unlisted.ensures.some in
    rw (c.here.ensures ∙ ap (λ text. record { steps = []; kind = unexpected_attribute text }) c.in_ok-clone-in-Some.ensures.cases)
    (fault_here extensions (map_value entries) (record_of (fields_of c.args.attrs.now) c.args.openness) (unexpected_attribute name)
    (subst (λ all. Contains all name) (sym names) found.0, c.in-ClosedAttributes.is, found.1))

-- so it is where the copy of its name is refused
pub returns-in_err-clone-in-Some-clause-memory : goal.returns-in_err-clone-in-Some-clause-memory
returns-in_err-clone-in-Some-clause-memory g c =
    let name = string_bytes c.in-Some.name.now in
    let found = rw c.in-Some.is at c.unlisted.ensures.some in
    always c.from_residual.result (λ listed. found.1 ((rw c.in-ClosedAttributes.is at listed) name found.0))
