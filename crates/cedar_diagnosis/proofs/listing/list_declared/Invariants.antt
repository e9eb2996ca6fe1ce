use Rattle.std.proofs.Common.{[], ◌∷◌}
use Rattle.cedar_diagnosis.proofs.ListedSoFar.{ListedSoFar}
use Rattle.cedar_diagnosis.proofs.listing.list_declared.Given as goal
use Rattle.cedar_diagnosis.specs.Lent.{declarations_of, namespace_of}

abbrev pub invariant-loop-id : goal.invariant-loop-id
invariant-loop-id g l =
    let is = g.T.Declared in
    let namespace = namespace_of l.namespace in
    ListedSoFar (λ entry. record { namespace = namespace; id = is.id_text entry.0; body = is.said namespace entry.1 } ∷ [])
    (declarations_of l.fn.listed.items) l.declared.entries (declarations_of l.listed.items) l.id-iterator
