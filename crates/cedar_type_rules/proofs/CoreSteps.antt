-- Faults of core types in the parts of a type, and attributes whose types have core types.
use Rattle.std.proofs.Common.{◌≡◌, ◌⊎◌, inl, inr, refl, Bool, List, [], ◌∷◌, ◌++◌, map, Some, None, Result, Ok, Err, IfErr}
use Rattle.std.specs.Option.{option_map, option_zip}
use Rattle.cedar_type_rules.proofs.CoreLemmas.{core_lacked}
use Rattle.cedar_type_rules.specs.Words.{CoreTy, CoreTypeFault, Fields, HoldsPairwise, IsAnyEntity, IsCoreFault, IsFieldsFault, IsNever, IsWideUnion, LacksCore, StandsIn, StandsInFields, Text, Ty, any_entity, core_field, core_fields, core_fields_from, core_of, end, field, fields_from, never, record_of, set_of, union_of}
use Rattle.cedar_type_rules.specs.declared.core_type_fault.CoreTypeFault.TheVariants as fault

-- what stands in the type of one of some attributes stands in them
stands-in_middle : (P : Ty → Type 0) (front : List (Text × (Bool × Ty))) (item : Text × (Bool × Ty)) (rest : List (Text × (Bool × Ty)))
    → StandsIn P item.1.1 → StandsInFields P (fields_from (front ++ item ∷ rest))
stands-in_middle P [] item rest stands = inl stands
stands-in_middle P (first ∷ front) item rest stands = inr (stands-in_middle P front item rest stands)

-- a fault of the type of one of some attributes is one of them
pub fault-middle : (front : List (Text × (Bool × Ty))) (item : Text × (Bool × Ty)) (rest : List (Text × (Bool × Ty)))
    (given : CoreTypeFault) → IsCoreFault item.1.1 given → IsFieldsFault (fields_from (front ++ item ∷ rest)) given
fault-middle front item rest fault.NeverType stands = stands-in_middle IsNever front item rest stands
fault-middle front item rest fault.AnyEntityType stands = stands-in_middle IsAnyEntity front item rest stands
fault-middle front item rest fault.UnionType stands = stands-in_middle IsWideUnion front item rest stands
fault-middle front item rest fault.Memory stands = tt

module _ (P Q : Ty → Type 0) (also : (ty : Ty) → P ty → Q ty) where
  mutual
    -- where one thing stands in a type, so does what follows of it
    stands-also : (ty : Ty) → StandsIn P ty → StandsIn Q ty
    stands-also (set_of ty) (inl here) = inl (also (set_of ty) here)
    stands-also (set_of ty) (inr there) = inr (stands-also ty there)
    stands-also (record_of fields openness) (inl here) = inl (also (record_of fields openness) here)
    stands-also (record_of fields openness) (inr there) = inr (stands-also-fields fields there)
    stands-also ty here = also ty here

    stands-also-fields : (fields : Fields) → StandsInFields P fields → StandsInFields Q fields
    stands-also-fields end stands = stands
    stands-also-fields (field name required ty rest) (inl here) = inl (stands-also ty here)
    stands-also-fields (field name required ty rest) (inr there) = inr (stands-also-fields rest there)

-- a union of two entity types or more lacks a core type
wide-lacks : (ty : Ty) → IsWideUnion ty → LacksCore ty
wide-lacks (union_of (name ∷ other ∷ rest)) wide = refl
wide-lacks ty wide = elim wide [ ]

-- the type without values lacks a core type
never-lacks : (ty : Ty) → IsNever ty → LacksCore ty
never-lacks never is = tt
never-lacks ty is = absurd cc

-- and so does that of entities of any type
any_entity-lacks : (ty : Ty) → IsAnyEntity ty → LacksCore ty
any_entity-lacks any_entity is = tt
any_entity-lacks ty is = absurd cc

-- where a fault is there, it is that memory ran out or there is no core type
fault-lacks : (ty : Ty) (given : CoreTypeFault) → IsCoreFault ty given → (given ≡ fault.Memory) ⊎ (core_of ty ≡ None)
fault-lacks ty fault.NeverType stands = inr ((core_lacked ty).1 (stands-also IsNever LacksCore never-lacks ty stands))
fault-lacks ty fault.AnyEntityType stands = inr ((core_lacked ty).1 (stands-also IsAnyEntity LacksCore any_entity-lacks ty stands))
fault-lacks ty fault.UnionType stands = inr ((core_lacked ty).1 (stands-also IsWideUnion LacksCore wide-lacks ty stands))
fault-lacks ty fault.Memory stands = inl refl

-- where an answer is refused with a fault that is there, it is that memory ran out or there is no
-- core type
pub refused-lacks : {A : Type 0} (ty : Ty) (answer : Result A CoreTypeFault) → IfErr answer (IsCoreFault ty)
    → IfErr answer (λ given. (given ≡ fault.Memory) ⊎ (core_of ty ≡ None))
refused-lacks ty (Ok core) stands = tt
refused-lacks ty (Err given) stands = fault-lacks ty given stands

-- one attribute and one of a core type: the same name, the same flag, and the core type of the type
abbrev pub IsCored : Text × (Bool × Ty) → Text × (Bool × CoreTy) → Type 0
IsCored own core = (own.0 ≡ core.0) × (own.1.0 ≡ core.1.0) × (core_of own.1.1 ≡ Some core.1.1)

-- attributes whose types have core types in turn have these together
pub cored-fields : (own : List (Text × (Bool × Ty))) (core : List (Text × (Bool × CoreTy))) → HoldsPairwise IsCored own core
    → core_fields (fields_from own) ≡ Some (core_fields_from core)
cored-fields [] [] all = refl
cored-fields [] (core ∷ cores) all = elim all [ ]
cored-fields (own ∷ owns) [] all = elim all [ ]
cored-fields (own ∷ owns) (core ∷ cores) all =
    (λ i. option_map (λ both. core_field (all.0.0 i) (all.0.1 i) both.0 both.1) (option_zip (all.0.2 i) (cored-fields owns cores all.1 i)))

-- one more in turn, behind the others
pub cored-more : (own : List (Text × (Bool × Ty))) (core : List (Text × (Bool × CoreTy))) (item : Text × (Bool × Ty))
    (made : Text × (Bool × CoreTy)) → HoldsPairwise IsCored own core → IsCored item made
    → HoldsPairwise IsCored (own ++ item ∷ []) (core ++ made ∷ [])
cored-more [] [] item made all is = (is, tt)
cored-more [] (core ∷ cores) item made all is = elim all [ ]
cored-more (own ∷ owns) [] item made all is = elim all [ ]
cored-more (own ∷ owns) (core ∷ cores) item made all is = (all.0, cored-more owns cores item made all.1 is)

-- their names are the same
pub cored-names : (own : List (Text × (Bool × Ty))) (core : List (Text × (Bool × CoreTy))) → HoldsPairwise IsCored own core
    → map (λ item. item.0) own ≡ map (λ item. item.0) core
cored-names [] [] all = refl
cored-names [] (core ∷ cores) all = elim all [ ]
cored-names (own ∷ owns) [] all = elim all [ ]
cored-names (own ∷ owns) (core ∷ cores) all = λ i. all.0.0 i ∷ cored-names owns cores all.1 i
