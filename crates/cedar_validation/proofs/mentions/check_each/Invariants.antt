use Rattle.cedar_validation.proofs.Checking.{Checking}
use Rattle.cedar_validation.proofs.mentions.check_each.Given as goal
use Rattle.cedar_validation.specs.Words.{IsKnownThroughout, Ty}

abbrev pub invariant-loop-name : goal.invariant-loop-name
invariant-loop-name g l =
    Checking (λ entry. (of : Ty) → g.V.Typed.HasType entry.1 of → IsKnownThroughout l.known of) l.typed.entries l._name-iterator
