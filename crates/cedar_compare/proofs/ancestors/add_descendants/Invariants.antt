use Rattle.std.proofs.Common.{List, ◌∷◌, Contains, map}
use Rattle.cedar_compare.proofs.AncestorLemmas.{IsTypeLeft}
use Rattle.cedar_compare.proofs.ancestors.add_descendants.Given as goal
use Rattle.cedar_compare.specs.Words.{AreAncestorsSoFar, Included, PlainName, new_of, old_of, plain_type, type_name}

abbrev pub invariant-loop-lower : goal.invariant-loop-lower
invariant-loop-lower l = record {
  reported : (left : List PlainName)
      → AreAncestorsSoFar (old_of l.versions) (new_of l.versions) (λ lower uid. Contains (type_name l.name ∷ left) uid.ty) l.initial.ancestors
      → AreAncestorsSoFar (old_of l.versions) (new_of l.versions) (IsTypeLeft (type_name l.name) (map type_name l.lower-iterator) left) l.ancestors;
  listed : Included (map type_name l.lower-iterator) (plain_type l.old).descendants;
}
