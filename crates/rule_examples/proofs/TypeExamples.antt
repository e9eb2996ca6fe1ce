-- Inclusion, consistency and disjointness of sample types.
use Rattle.std.proofs.Common.{inl, inr, true, false, refl, [], ◌∷◌, codes, arith}
use Rattle.cedar_ast.proofs.Inclusion.{Included-none}
use Rattle.cedar_ast.proofs.Lists.{Contains-cons}
use Rattle.rule_examples.specs.Words.{AreDisjointTypes, Extensions, IsConsistent, ListsNames, ValuesIncluded, bar_name, core_end, core_record, entry, foo_entity, foo_name, foo_or_bar, long, map_value, no_entry, optional_y, required_y, unit_record}

-- a record without attributes has the one with an optional attribute
pub inclusion-included : (extensions : Extensions) → ValuesIncluded extensions unit_record optional_y
inclusion-included extensions (map_value no_entry) real has = (Included-none (codes "y" ∷ []), (refl, tt))
inclusion-included extensions (map_value (entry name value rest)) real has =
    absurd (omega (arith, (has.0 name (Contains-cons name _ name (inl refl))).1))
inclusion-included extensions value real has = elim has [ ]

-- but it doesn't list its name
pub inclusion-unlisted : ¬ ListsNames unit_record optional_y
inclusion-unlisted lists = omega (arith, (lists.0 (codes "y") (Contains-cons (codes "y") [] (codes "y") (inl refl))).1)

-- a required attribute isn't lacking in a closed core type
pub consistent-required : ¬ IsConsistent required_y (core_record core_end false)
consistent-required consistent =
    elim (consistent.1 (codes "y") true (long, inl (refl, refl, refl)) (λ among. omega (arith, among.1))) [
      | inl e ↦ absurd cc
      | inr e ↦ absurd cc
    ]

-- a type is no union without the entity types that it has
pub disjoint-common : ¬ AreDisjointTypes foo_entity foo_or_bar
disjoint-common apart =
    apart foo_name (Contains-cons foo_name [] foo_name (inl refl))
    (Contains-cons bar_name (foo_name ∷ []) foo_name (inr (Contains-cons foo_name [] foo_name (inl refl))))
