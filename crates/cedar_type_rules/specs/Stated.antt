use Rattle.std.specs.Prelude.{IsTrue, List, Contains}
use Rattle.cedar_ast.specs.Words.{IsValue, Tree}
use Rattle.cedar_ast.specs.declared.extension.Extensions.{Extensions}
use Rattle.cedar_type_rules.specs.Has.{Has}
use Rattle.cedar_type_rules.specs.Ty.{Ty, never, set_of, record_of, extension_of, Fields, end, field}

abbrev mutual
  -- a type is inhabited throughout: no `Never` stands in it, and each extension type in it has a
  -- value
  pub IsInhabited : Extensions → Ty → Type 0
  IsInhabited extensions never = ⊥
  IsInhabited extensions (set_of ty) = IsInhabited extensions ty
  IsInhabited extensions (record_of fields openness) = AreInhabited extensions fields
  IsInhabited extensions (extension_of name) =
      (value : Tree) × IsValue value × Has extensions value (extension_of name)
  IsInhabited extensions _ = Unit {0}

  -- the type of each attribute is inhabited throughout
  pub AreInhabited : Extensions → Fields → Type 0
  AreInhabited extensions end = Unit {0}
  AreInhabited extensions (field name required ty rest) =
      IsInhabited extensions ty × AreInhabited extensions rest

abbrev mutual
  -- every attribute that stands in a type is required
  pub RequiresAll : Ty → Type 0
  RequiresAll (set_of ty) = RequiresAll ty
  RequiresAll (record_of fields openness) = FieldsRequireAll fields
  RequiresAll _ = Unit {0}

  -- each attribute is required, and so is every one in its type
  pub FieldsRequireAll : Fields → Type 0
  FieldsRequireAll end = Unit {0}
  FieldsRequireAll (field name required ty rest) =
      IsTrue required × RequiresAll ty × FieldsRequireAll rest

-- a stated type has no `Never` in it, no optional attribute, and no extension type without a value
abbrev pub IsStated : Extensions → Ty → Type 0
IsStated extensions ty = IsInhabited extensions ty × RequiresAll ty

-- some sample of a list has a type
abbrev pub IsSampled : Extensions → List Tree → Ty → Type 0
IsSampled extensions samples ty =
    (sample : Tree) × Contains samples sample × Has extensions sample ty

abbrev mutual
  -- a type is inhabited by samples: no `Never` stands in it, and each extension type in it has one
  -- of the samples
  pub IsInhabitedWith : Extensions → List Tree → Ty → Type 0
  IsInhabitedWith extensions samples never = ⊥
  IsInhabitedWith extensions samples (set_of ty) = IsInhabitedWith extensions samples ty
  IsInhabitedWith extensions samples (record_of fields openness) =
      AreInhabitedWith extensions samples fields
  IsInhabitedWith extensions samples (extension_of name) =
      IsSampled extensions samples (extension_of name)
  IsInhabitedWith extensions samples _ = Unit {0}

  -- the type of each attribute is inhabited by the samples
  pub AreInhabitedWith : Extensions → List Tree → Fields → Type 0
  AreInhabitedWith extensions samples end = Unit {0}
  AreInhabitedWith extensions samples (field name required ty rest) =
      IsInhabitedWith extensions samples ty × AreInhabitedWith extensions samples rest

-- a type is stated with samples: it is inhabited by them, and each attribute in it is required
abbrev pub IsStatedWith : Extensions → List Tree → Ty → Type 0
IsStatedWith extensions samples ty = IsInhabitedWith extensions samples ty × RequiresAll ty
