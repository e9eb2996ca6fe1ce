-- Types of which there are values.
use Rattle.std.specs.Prelude.{◌≡◌, List, Contains}
use Rattle.cedar_ast.specs.Words.{PlainName, PlainUid, Tree}
use Rattle.cedar_ast.specs.declared.extension.Extensions.{Extensions}
use Rattle.cedar_entities.specs.Exists.{Exists}
use Rattle.cedar_entities.specs.Inclusion.{HasUidOf, HasUidsIn}
use Rattle.cedar_schema_semantics.specs.Words.{IsTypeIn, PlainSchema}
use Rattle.cedar_type_rules.specs.Words.{IsInhabitedWith, Ty, union_of}

-- a uid is of an entity type and exists in the schema
abbrev pub IsExistingOf : PlainSchema → PlainName → PlainUid → Type 0
IsExistingOf schema name uid = (uid.ty ≡ name) × Exists schema uid

-- a type is sampled in a schema: it is inhabited by the samples, and of each entity type that it
-- names there is a uid that exists
pub record IsSampled (extensions : Extensions) (samples : List Tree) (schema : PlainSchema)
    (ty : Ty) : Type 0 where
  pub inhabited : IsInhabitedWith extensions samples ty
  pub uids : HasUidsIn (Exists schema) ty

-- each type in a schema is sampled
abbrev pub IsSchemaSampled : Extensions → List Tree → PlainSchema → Type 0
IsSchemaSampled extensions samples schema =
    (ty : Ty) → IsTypeIn schema ty → IsSampled extensions samples schema ty

-- a fact holds of some uid of each entity type of a union; of other types nothing is asked
abbrev pub HasUidsHere : (PlainUid → Type 0) → Ty → Type 0
HasUidsHere Is (union_of names) = (name : PlainName) → Contains names name → HasUidOf Is name
HasUidsHere Is _ = Unit {0}

-- a leaf of a type is sampled in a schema: it is inhabited by the samples, and if it is a union, of
-- each of its entity types there is a uid that exists
abbrev pub IsLeafSampled : Extensions → List Tree → PlainSchema → Ty → Type 0
IsLeafSampled extensions samples schema ty =
    IsInhabitedWith extensions samples ty × HasUidsHere (Exists schema) ty
