use Rattle.std.proofs.Common.{None, false, zero, suc, [], ◌∷◌, ap, refl, inl, inr, arith, codes, Contains}
use Rattle.cedar_type_rules.proofs.ApartLemmas.{texts_differ}
use Rattle.declaration_examples.proofs.examples.external_types_below_enumerated_ones.Goals as goal
use Rattle.declaration_examples.specs.Words.{Entity, Extensions, HasParent, IsExternalType, alias_name, external, more, no_member, one, record_expr, refer_here, standard, tint_bag}

-- the external type is external: neither definition is of it
tint_is_external : IsExternalType tint_bag (alias_name (codes "Tint"))
tint_is_external = ((2, omega arith, refl), none) where
  none : ¬ Contains (alias_name (codes "Color") ∷ alias_name (codes "Shade") ∷ []) (alias_name (codes "Tint"))
  none (zero, below, is) = texts_differ (codes "Color") (codes "Tint") refl (ap (λ name. name.base) is)
  none (suc zero, below, is) = texts_differ (codes "Shade") (codes "Tint") refl (ap (λ name. name.base) is)
  none (suc (suc k), below, is) = omega (arith, below)

-- it is below the standard type
tint_below_shade : (extensions : Extensions) → HasParent tint_bag extensions (alias_name (codes "Tint")) (alias_name (codes "Shade"))
tint_below_shade extensions = (
  refer_here Entity (codes "Shade"),
  (external (refer_here Entity (codes "Shade") ∷ []), (2, omega arith, refl), (0, omega arith, refl)),
  inl (refl, inr (tt, (1, omega arith, refl))),
)

-- which is below the enumerated one
shade_below_color : (extensions : Extensions) → HasParent tint_bag extensions (alias_name (codes "Shade")) (alias_name (codes "Color"))
shade_below_color extensions = (
  refer_here Entity (codes "Color"),
  (standard (refer_here Entity (codes "Color") ∷ []) (record_expr no_member false) None, (1, omega arith, refl), (0, omega arith, refl)),
  inl (refl, inr (tt, (0, omega arith, refl))),
)

pub returns-clause-two_steps : goal.returns-clause-two_steps
returns-clause-two_steps c extensions = (
  codes "red" ∷ [],
  tint_is_external,
  (0, omega arith, refl),
  more (tint_below_shade extensions) (one (shade_below_color extensions)),
)

pub returns-clause-defined : goal.returns-clause-defined
returns-clause-defined c extensions at_fault = at_fault.1.1 (2, omega arith, refl)
