-- What is known of the attributes of a union, where the types of what its members declare are
-- clean.
use Rattle.std.specs.Prelude.{◌≡◌, ◌↔◌, Bool, Contains, IsTrue, List}
use Rattle.cedar_ast.specs.Words.{Included, PlainName, Text}
use Rattle.cedar_ast.specs.declared.validation_mode.ValidationMode.TheVariants.{Permissive}
use Rattle.cedar_queries.specs.KnownAttributes.{AreAttributesOf, AreKnownOfAll, declared_fields}
use Rattle.cedar_schema_semantics.specs.PlainSchema.{SchemaEntityType}
use Rattle.cedar_type_rules.specs.Words.{AreClean, Below, Fields, FieldsBelow, HasField, IsClean, IsLeast, IsSortedByName, Ty, field_names}

-- each of the entity types declares the attribute, with a type that is below the bound in
-- permissive mode
abbrev pub AllDeclareBelow : List (PlainName × SchemaEntityType) → List PlainName → Text → Ty
    → Type 0
AllDeclareBelow types members name bound =
    (member : PlainName) → Contains members member
    → (required : Bool) × (own : Ty) × HasField (declared_fields types member) name required own
    × Below Permissive own bound

-- a clean bound of the types with which the entity types declare the attribute
abbrev pub IsCommonBound : List (PlainName × SchemaEntityType) → List PlainName → Text → Ty → Type 0
IsCommonBound types members name bound = AllDeclareBelow types members name bound × IsClean bound

-- each of the entity types requires the attribute
abbrev pub AllRequire : List (PlainName × SchemaEntityType) → List PlainName → Text → Type 0
AllRequire types members name =
    (member : PlainName) (required : Bool) (own : Ty) → Contains members member
    → HasField (declared_fields types member) name required own → IsTrue required

-- the known attributes are just those that all of the entity types declare with types that have a
-- clean common bound, each with the least of these bounds, and required exactly where all of them
-- require it
pub record AreExactlyKnown (types : List (PlainName × SchemaEntityType)) (members : List PlainName)
    (known : Fields) : Type 0 where
  pub names : (name : Text) → Contains (field_names known) name
      ↔ (bound : Ty) × IsCommonBound types members name bound
  pub least : (name : Text) (required : Bool) (ty : Ty) → HasField known name required ty
      → IsLeast Permissive (IsCommonBound types members name) ty
  pub required : (name : Text) (required : Bool) (ty : Ty) → HasField known name required ty
      → IsTrue required ↔ AllRequire types members name

-- what each of the entity types declares is clean, and in the order of its names
abbrev pub AreCleanTypes : List (PlainName × SchemaEntityType) → List PlainName → Type 0
AreCleanTypes types members =
    (member : PlainName) → Contains members member
    → AreClean (declared_fields types member) × IsSortedByName (declared_fields types member)

-- a law: a type has just one list of attributes
abbrev pub AttributesAreUnique : Type 0
AttributesAreUnique =
    (types : List (PlainName × SchemaEntityType)) (ty : Ty) (known other : Fields)
    → AreAttributesOf types ty known → AreAttributesOf types ty other → known ≡ other

-- a law: what is known of a union of clean types are exactly the common attributes
abbrev pub KnownAttributesAreCommon : Type 0
KnownAttributesAreCommon =
    (types : List (PlainName × SchemaEntityType)) (members : List PlainName) (known : Fields)
    → AreCleanTypes types members → AreKnownOfAll types members known
    → AreExactlyKnown types members known

-- a law: a larger union knows only what a smaller part of it knows, with types above and flags no
-- stronger
abbrev pub LargerUnionsKnowLess : Type 0
LargerUnionsKnowLess =
    (types : List (PlainName × SchemaEntityType)) (part members : List PlainName)
    (less more : Fields)
    → Included part members → AreCleanTypes types members → AreKnownOfAll types members less
    → AreKnownOfAll types part more
    → FieldsBelow Permissive more less
