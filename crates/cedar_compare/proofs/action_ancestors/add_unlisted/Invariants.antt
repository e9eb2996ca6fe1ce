use Rattle.std.proofs.Common.{Contains, map}
use Rattle.cedar_compare.proofs.action_ancestors.add_unlisted.Given as goal
use Rattle.cedar_compare.specs.Words.{AreActionAncestorsSoFar, schema_of, uid_of}

abbrev pub invariant-loop-uid : goal.invariant-loop-uid
invariant-loop-uid l = record {
  reported : AreActionAncestorsSoFar (schema_of l.one) (schema_of l.other) (λ lower upper. Unit {0}) l.initial.ancestors
      → AreActionAncestorsSoFar (schema_of l.one) (schema_of l.other) (λ lower upper. Contains (map uid_of l.uid-iterator) upper) l.ancestors;
  kept : AreActionAncestorsSoFar (schema_of l.other) (schema_of l.one) (λ lower upper. ⊥) l.initial.ancestors
      → AreActionAncestorsSoFar (schema_of l.other) (schema_of l.one) (λ lower upper. ⊥) l.ancestors;
}
