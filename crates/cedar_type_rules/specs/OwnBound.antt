use Rattle.std.specs.Prelude.{◌≡◌, ◌⊎◌, Bool, [], ◌∷◌}
use Rattle.cedar_ast.specs.Text.{Text}
use Rattle.cedar_ast.specs.declared.validation_mode.ValidationMode.{ValidationMode}
use Rattle.cedar_type_rules.specs.Below.{HasField}
use Rattle.cedar_type_rules.specs.Bound.{IsBound, IsLeast}
use Rattle.cedar_type_rules.specs.Ty.{Ty, any_set, set_of, record_of, Fields, end, field}
use Rattle.cedar_type_rules.specs.declared.open_tag.OpenTag.{OpenTag}

-- an element type of some types is that of a set among them
abbrev pub IsElementOf : (Ty → Type 0) → Ty → Type 0
IsElementOf Among ty = Among (set_of ty)

-- a type of a name in some types is that of an attribute of that name of a record among them
abbrev pub IsNamedIn : (Ty → Type 0) → Text → Ty → Type 0
IsNamedIn Among name ty =
    (fields : Fields) × (openness : OpenTag) × (required : Bool) × Among (record_of fields openness)
    × HasField fields name required ty

abbrev mutual
  -- a type lies within some types: the any-set if it is among them, a set if its element type lies
  -- within their element types, a record if the type of each attribute lies within their types of
  -- its name, and every other type
  pub LiesWithin : (Ty → Type 0) → Ty → Type 0
  LiesWithin Among any_set = Among any_set
  LiesWithin Among (set_of ty) = LiesWithin (IsElementOf Among) ty
  LiesWithin Among (record_of fields openness) = FieldsLieWithin Among fields
  LiesWithin Among _ = Unit {0}

  -- the type of each attribute lies within the types of its name
  pub FieldsLieWithin : (Ty → Type 0) → Fields → Type 0
  FieldsLieWithin Among end = Unit {0}
  FieldsLieWithin Among (field name required ty rest) =
      LiesWithin (IsNamedIn Among name) ty × FieldsLieWithin Among rest

-- a type is one of two
abbrev pub IsEither : Ty → Ty → Ty → Type 0
IsEither a b ty = (ty ≡ a) ⊎ (ty ≡ b)

-- an own bound of two types is a bound of both that lies within them
abbrev pub IsOwnBound : ValidationMode → Ty → Ty → Ty → Type 0
IsOwnBound mode a b bound = IsBound mode (a ∷ b ∷ []) bound × LiesWithin (IsEither a b) bound

-- two types have an own bound, in a mode
abbrev pub HaveOwnBound : ValidationMode → Ty → Ty → Type 0
HaveOwnBound mode a b = (bound : Ty) × IsOwnBound mode a b bound

-- the least own bound of two types is below each of their own bounds
abbrev pub IsLeastOwnBound : ValidationMode → Ty → Ty → Ty → Type 0
IsLeastOwnBound mode a b = IsLeast mode (IsOwnBound mode a b)
