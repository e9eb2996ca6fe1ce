use Rattle.std.proofs.Common.{None, false, [], ◌∷◌, refl, inl, inr, arith, codes}
use Rattle.declaration_examples.proofs.examples.rings_are_their_own_descendants.Goals as goal
use Rattle.declaration_examples.specs.Words.{Entity, Extensions, HasParent, alias_name, more, no_member, one, record_expr, refer_here, ring_bag, standard}

-- the one is below the other
first_below : (extensions : Extensions) → HasParent ring_bag extensions (alias_name (codes "A")) (alias_name (codes "B"))
first_below extensions = (
  refer_here Entity (codes "B"),
  (standard (refer_here Entity (codes "B") ∷ []) (record_expr no_member false) None, (0, omega arith, refl), (0, omega arith, refl)),
  inl (refl, inr (tt, (1, omega arith, refl))),
)

-- and the other below the one
second_below : (extensions : Extensions) → HasParent ring_bag extensions (alias_name (codes "B")) (alias_name (codes "A"))
second_below extensions = (
  refer_here Entity (codes "A"),
  (standard (refer_here Entity (codes "A") ∷ []) (record_expr no_member false) None, (1, omega arith, refl), (0, omega arith, refl)),
  inl (refl, inr (tt, (0, omega arith, refl))),
)

pub returns-clause-first : goal.returns-clause-first
returns-clause-first c extensions = more (first_below extensions) (one (second_below extensions))

pub returns-clause-second : goal.returns-clause-second
returns-clause-second c extensions = more (second_below extensions) (one (first_below extensions))
