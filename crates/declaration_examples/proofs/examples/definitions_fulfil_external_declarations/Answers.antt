use Rattle.std.proofs.Common.{None, false, zero, suc, [], ◌∷◌, ap, refl, inl, inr, arith, codes, Contains}
use Rattle.cedar_type_rules.proofs.ApartLemmas.{texts_differ}
use Rattle.declaration_examples.proofs.examples.definitions_fulfil_external_declarations.Goals as goal
use Rattle.declaration_examples.specs.Words.{Entity, Twice, alias_name, external, no_member, one, record_expr, refer_here, standard}

-- no other definition is of the type
no_other : ¬ Contains (alias_name (codes "Group") ∷ alias_name (codes "Team") ∷ []) (alias_name (codes "User"))
no_other (zero, below, is) = texts_differ (codes "Group") (codes "User") refl (ap (λ name. name.base) is)
no_other (suc zero, below, is) = texts_differ (codes "Team") (codes "User") refl (ap (λ name. name.base) is)
no_other (suc (suc k), below, is) = omega (arith, below)

-- among the definitions it stands once
not_twice : ¬ Twice (alias_name (codes "User") ∷ alias_name (codes "Group") ∷ alias_name (codes "Team") ∷ []) (alias_name (codes "User"))
not_twice (inl here) = no_other here.1
not_twice (inr (inl here)) = texts_differ (codes "Group") (codes "User") refl (ap (λ name. name.base) here.0)
not_twice (inr (inr (inl here))) = texts_differ (codes "Team") (codes "User") refl (ap (λ name. name.base) here.0)
not_twice (inr (inr (inr none))) = none

pub returns-clause-says : goal.returns-clause-says
returns-clause-says c = (0, omega arith, refl)

pub returns-clause-once : goal.returns-clause-once
returns-clause-once c extensions at_fault = not_twice at_fault

pub returns-clause-external : goal.returns-clause-external
returns-clause-external c extensions = one (
  refer_here Entity (codes "Group"),
  (external (refer_here Entity (codes "Group") ∷ []), (0, omega arith, refl), (0, omega arith, refl)),
  inl (refl, inr (tt, (2, omega arith, refl))),
)

pub returns-clause-own : goal.returns-clause-own
returns-clause-own c extensions = one (
  refer_here Entity (codes "Team"),
  (
    standard (refer_here Entity (codes "Team") ∷ []) (record_expr no_member false) None,
    (1, omega arith, refl),
    (0, omega arith, refl),
  ),
  inl (refl, inr (tt, (3, omega arith, refl))),
)
