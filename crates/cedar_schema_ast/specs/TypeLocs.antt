use Rattle.std.specs.List.{flat_map}
use Rattle.std.specs.Prelude.{List, [], ◌∷◌, Option}
use Rattle.cedar_ast.specs.declared.loc.Loc.{Loc}
use Rattle.cedar_schema_ast.specs.declared.json_schema.type_of.RecordType.{RecordType, fold-RecordType}
use Rattle.cedar_schema_ast.specs.declared.json_schema.type_of.Type.{«Type», fold-Type}
use Rattle.cedar_schema_ast.specs.declared.json_schema.type_of.Type.TheOpen as layer
use Rattle.cedar_schema_ast.specs.declared.json_schema.type_of.TypeOfAttribute.{TypeOfAttribute, fold-TypeOfAttribute}
use Rattle.cedar_schema_ast.specs.declared.json_schema.type_of.TypeVariant.{TypeVariant, fold-TypeVariant}

-- the locations that stand in something, in order; None is one that isn't known
abbrev pub Locs : Type 0
Locs = List (Option Loc)

-- types over names of some form, where it is given which locations stand in a name
module _ (N : Type 0) (locs : N → Locs) where
  -- one layer of a type, with the locations in its parts in their places: its own, then those in
  -- the type or the name
  abbrev pub type_locs_step : layer.Type-F N Locs Locs Locs Locs → Locs
  type_locs_step (layer.Plain ty loc) = loc ∷ ty
  type_locs_step (layer.CommonTypeRef name loc) = loc ∷ locs name

  -- one layer of a type variant
  abbrev pub variant_locs_step : layer.TypeVariant-F N Locs Locs Locs Locs → Locs
  variant_locs_step layer.String = []
  variant_locs_step layer.Long = []
  variant_locs_step layer.Boolean = []
  variant_locs_step (layer.Set element) = element.value
  variant_locs_step (layer.Record attributes) = attributes
  variant_locs_step (layer.Entity name) = locs name
  variant_locs_step (layer.EntityOrCommon name) = locs name
  variant_locs_step (layer.Extension name) = []

  -- one record type: the locations in its attributes, in the order of their names
  abbrev pub record_locs_step : layer.RecordType-F N Locs Locs Locs Locs → Locs
  record_locs_step it = flat_map (λ entry. entry.1) it.attributes.entries

  -- one attribute: its own location, then those in its type
  abbrev pub attribute_locs_step : layer.TypeOfAttribute-F N Locs Locs Locs Locs → Locs
  attribute_locs_step it = it.loc ∷ it.ty

  -- the locations in a type
  abbrev pub type_locs : «Type» N → Locs
  type_locs =
      fold-Type N Locs Locs Locs Locs type_locs_step variant_locs_step record_locs_step
      attribute_locs_step

  -- the locations in a type variant
  abbrev pub variant_locs : TypeVariant N → Locs
  variant_locs =
      fold-TypeVariant N Locs Locs Locs Locs type_locs_step variant_locs_step record_locs_step
      attribute_locs_step

  -- the locations in a record type
  abbrev pub record_locs : RecordType N → Locs
  record_locs =
      fold-RecordType N Locs Locs Locs Locs type_locs_step variant_locs_step record_locs_step
      attribute_locs_step

  -- the locations in an attribute
  abbrev pub attribute_locs : TypeOfAttribute N → Locs
  attribute_locs =
      fold-TypeOfAttribute N Locs Locs Locs Locs type_locs_step variant_locs_step record_locs_step
      attribute_locs_step
