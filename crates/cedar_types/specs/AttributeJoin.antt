use Rattle.std.specs.Prelude.{◌≡◌, ◌⊎◌, ◌&&◌, Bool, Option, Some, None, Result, Ok, Err}
use Rattle.cedar_ast.specs.declared.validation_mode.ValidationMode.TheVariants.{Strict, Permissive}
use Rattle.cedar_type_rules.specs.Words.{HaveOwnBound, IsFlagHelp, IsHelp, IsLeastOwnBound, Ty}
use Rattle.cedar_type_rules.specs.declared.join_error.JoinError.{JoinError}
use Rattle.cedar_type_rules.specs.declared.join_error.JoinError.TheVariants as error
use Rattle.cedar_types.specs.Meaning.{attribute_of}
use Rattle.cedar_types.specs.declared.attributes.AttributeType.{AttributeType}

-- the type of an attribute
abbrev pub attribute_ty : AttributeType → Ty
attribute_ty attribute = (attribute_of attribute).1

-- two attributes of a name are joined in permissive mode: it is required if both are, and its type
-- is the join; or they are dropped, and their types have no own bound
abbrev pub IsPermissiveAttribute : Bool × Ty → Bool × Ty → Option AttributeType → Type 0
IsPermissiveAttribute a b (Some join) =
    IsLeastOwnBound Permissive a.1 b.1 (attribute_ty join) × ((attribute_of join).0 ≡ (a.0 && b.0))
IsPermissiveAttribute a b None = ¬ HaveOwnBound Permissive a.1 b.1

-- two attributes of a name are joined in strict mode: their flags are the same, and its type is the
-- join; or there is a help, for the flags or for the types
abbrev pub IsStrictAttribute : Bool × Ty → Bool × Ty → Result AttributeType JoinError → Type 0
IsStrictAttribute a b (Ok join) =
    IsLeastOwnBound Strict a.1 b.1 (attribute_ty join) × (a.0 ≡ (attribute_of join).0)
    × (b.0 ≡ (attribute_of join).0)
IsStrictAttribute a b (Err (error.Help given)) =
    IsFlagHelp a b given ⊎ (¬ HaveOwnBound Strict a.1 b.1 × IsHelp Strict a.1 b.1 given)
IsStrictAttribute a b (Err error.Memory) = Unit {0}
