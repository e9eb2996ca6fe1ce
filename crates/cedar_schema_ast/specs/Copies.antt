use Rattle.std.specs.Prelude.{◌≡◌}
use Rattle.cedar_ast.specs.Words.{name_loc, name_of, type_loc, type_name}
use Rattle.cedar_ast.specs.declared.entity_type.EntityType.{EntityType}
use Rattle.cedar_ast.specs.declared.internal_name.InternalName.{InternalName}
use Rattle.cedar_schema_ast.specs.ConditionalName.{possibilities_of, possibility_locs, reference_type_of}
use Rattle.cedar_schema_ast.specs.RawName.{raw_loc, raw_name}
use Rattle.cedar_schema_ast.specs.Reference.{Reference}
use Rattle.cedar_schema_ast.specs.TypeExpr.{type_expr, variant_expr, record_type_expr, flag_and_expr}
use Rattle.cedar_schema_ast.specs.TypeLocs.{Locs, type_locs, variant_locs, record_locs, attribute_locs}
use Rattle.cedar_schema_ast.specs.declared.json_schema.conditional_name.ConditionalName.{ConditionalName}
use Rattle.cedar_schema_ast.specs.declared.json_schema.raw_name.RawName.{RawName}
use Rattle.cedar_schema_ast.specs.declared.json_schema.reference_type.ReferenceType.{ReferenceType}
use Rattle.cedar_schema_ast.specs.declared.json_schema.type_of.RecordType.{RecordType}
use Rattle.cedar_schema_ast.specs.declared.json_schema.type_of.Type.{«Type»}
use Rattle.cedar_schema_ast.specs.declared.json_schema.type_of.TypeOfAttribute.{TypeOfAttribute}
use Rattle.cedar_schema_ast.specs.declared.json_schema.type_of.TypeVariant.{TypeVariant}

-- a name as it was written is like another: the same name at the same location
pub record AlikeRaw (it copy : RawName) : Type 0 where
  pub name : raw_name copy ≡ raw_name it
  pub loc : raw_loc copy ≡ raw_loc it

-- a conditional name is like another: it has the same possibilities at the same locations, and the
-- same reference type
pub record AlikeConditional (name copy : ConditionalName) : Type 0 where
  pub possibilities : possibilities_of copy ≡ possibilities_of name
  pub locs : possibility_locs copy ≡ possibility_locs name
  pub reference_type : reference_type_of copy ≡ reference_type_of name

-- a full name is like another: it is the same name at the same location
pub record AlikeFull (it copy : InternalName) : Type 0 where
  pub name : name_of copy ≡ name_of it
  pub loc : name_loc copy ≡ name_loc it

-- an entity type is like another: it has the same name at the same location
pub record AlikeEntity (ty copy : EntityType) : Type 0 where
  pub name : type_name copy ≡ type_name ty
  pub loc : type_loc copy ≡ type_loc ty

-- one thing shows the same as another, in whatever way things are shown that is fair
abbrev pub ShowsSame : {S X Y : Type 0} → (S → Type 0) → (S → X → Y) → X → X → Type 0
ShowsSame {S = S} IsFair show it copy = (way : S) → IsFair way → show way copy ≡ show way it

-- names of some form, where it is given when one is like another
module _ (N : Type 0) (alike : N → N → Type 0) where
  -- which locations stand in a name doesn't tell alike names apart
  abbrev pub LocatesAlike : (N → Locs) → Type 0
  LocatesAlike locs = (name copy : N) → alike name copy → locs copy ≡ locs name

  -- nor does what a name refers to, at a place of whatever kind
  abbrev pub RefersAlike : (ReferenceType → N → Reference) → Type 0
  RefersAlike refer = (kind : ReferenceType) (name copy : N) → alike name copy
      → refer kind copy ≡ refer kind name

  -- a type is a copy of another: it stands for the same, and the same locations stand in it,
  -- whatever alike names both refer to and are located at
  abbrev pub IsTypeCopy : «Type» N → «Type» N → Type 0
  IsTypeCopy it copy = ShowsSame RefersAlike (type_expr N) it copy
      × ShowsSame LocatesAlike (type_locs N) it copy

  -- the same of a type variant
  abbrev pub IsVariantCopy : TypeVariant N → TypeVariant N → Type 0
  IsVariantCopy it copy = ShowsSame RefersAlike (variant_expr N) it copy
      × ShowsSame LocatesAlike (variant_locs N) it copy

  -- the same of a record type
  abbrev pub IsRecordCopy : RecordType N → RecordType N → Type 0
  IsRecordCopy it copy = ShowsSame RefersAlike (record_type_expr N) it copy
      × ShowsSame LocatesAlike (record_locs N) it copy

  -- the same of an attribute
  abbrev pub IsAttributeCopy : TypeOfAttribute N → TypeOfAttribute N → Type 0
  IsAttributeCopy it copy =
      ShowsSame RefersAlike (flag_and_expr N) it copy
      × ShowsSame LocatesAlike (attribute_locs N) it copy
