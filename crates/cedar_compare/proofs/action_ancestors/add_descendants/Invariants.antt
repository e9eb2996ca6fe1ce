use Rattle.std.proofs.Common.{List, ◌∷◌, Contains, map}
use Rattle.cedar_compare.proofs.ActionAncestorLemmas.{IsActionLeft}
use Rattle.cedar_compare.proofs.action_ancestors.add_descendants.Given as goal
use Rattle.cedar_compare.specs.Words.{AreActionAncestorsSoFar, Included, PlainUid, action_of, schema_of, uid_of}

abbrev pub invariant-loop-lower : goal.invariant-loop-lower
invariant-loop-lower l = record {
  reported : (left : List PlainUid)
      → AreActionAncestorsSoFar (schema_of l.one) (schema_of l.other) (λ lower upper. Contains (uid_of l.uid ∷ left) upper) l.initial.ancestors
      → AreActionAncestorsSoFar (schema_of l.one) (schema_of l.other) (IsActionLeft (uid_of l.uid) (map uid_of l.lower-iterator) left) l.ancestors;
  kept : AreActionAncestorsSoFar (schema_of l.other) (schema_of l.one) (λ lower upper. ⊥) l.initial.ancestors
      → AreActionAncestorsSoFar (schema_of l.other) (schema_of l.one) (λ lower upper. ⊥) l.ancestors;
  listed : Included (map uid_of l.lower-iterator) (action_of l.action).descendants;
}
