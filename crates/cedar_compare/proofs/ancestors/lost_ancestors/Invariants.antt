use Rattle.std.proofs.Common.{Contains, map}
use Rattle.cedar_compare.proofs.ancestors.lost_ancestors.Given as goal
use Rattle.cedar_compare.specs.Words.{AreAncestorsSoFar, new_of, old_of, type_name}

abbrev pub invariant-loop-name : goal.invariant-loop-name
invariant-loop-name l =
    AreAncestorsSoFar (old_of l.versions) (new_of l.versions) (λ lower upper. Contains (map type_name l.name-iterator) upper.ty) l.ancestors
