use Rattle.std.specs.Prelude.{◌≡◌, ◌∷◌}
use Rattle.cedar_type_rules.specs.StandsIn.{StandsIn, StandsInFields}
use Rattle.cedar_type_rules.specs.Ty.{Ty, never, any_entity, union_of, Fields}
use Rattle.cedar_type_rules.specs.declared.core_type_fault.CoreTypeFault.{CoreTypeFault}
use Rattle.cedar_type_rules.specs.declared.core_type_fault.CoreTypeFault.TheVariants as fault

-- a type is the one without values
abbrev pub IsNever : Ty → Type 0
IsNever ty = ty ≡ never

-- a type is that of entities of any type
abbrev pub IsAnyEntity : Ty → Type 0
IsAnyEntity ty = ty ≡ any_entity

-- a type is a union of two entity types or more
abbrev pub IsWideUnion : Ty → Type 0
IsWideUnion (union_of (name ∷ other ∷ rest)) = Unit {0}
IsWideUnion _ = ⊥

-- what a fault names stands in the type, unless memory runs out
abbrev pub IsCoreFault : Ty → CoreTypeFault → Type 0
IsCoreFault ty fault.NeverType = StandsIn IsNever ty
IsCoreFault ty fault.AnyEntityType = StandsIn IsAnyEntity ty
IsCoreFault ty fault.UnionType = StandsIn IsWideUnion ty
IsCoreFault ty fault.Memory = Unit {0}

-- what a fault names stands in the type of an attribute, unless memory runs out
abbrev pub IsFieldsFault : Fields → CoreTypeFault → Type 0
IsFieldsFault fields fault.NeverType = StandsInFields IsNever fields
IsFieldsFault fields fault.AnyEntityType = StandsInFields IsAnyEntity fields
IsFieldsFault fields fault.UnionType = StandsInFields IsWideUnion fields
IsFieldsFault fields fault.Memory = Unit {0}
