use Rattle.std.specs.Prelude.{ℕ, ◌+◌, max, List, [], ◌∷◌, map}
use Rattle.cedar_schema_ast.specs.declared.json_schema.type_of.RecordType.{RecordType, fold-RecordType}
use Rattle.cedar_schema_ast.specs.declared.json_schema.type_of.Type.{«Type», fold-Type}
use Rattle.cedar_schema_ast.specs.declared.json_schema.type_of.Type.TheOpen as layer
use Rattle.cedar_schema_ast.specs.declared.json_schema.type_of.TypeOfAttribute.{TypeOfAttribute, fold-TypeOfAttribute}
use Rattle.cedar_schema_ast.specs.declared.json_schema.type_of.TypeVariant.{TypeVariant, fold-TypeVariant}

-- the greatest of some numbers; 0 where there are none
abbrev pub greatest : List ℕ → ℕ
greatest [] = 0
greatest (first ∷ rest) = max first (greatest rest)

-- types over names of some form
module _ (N : Type 0) where
  -- one layer of a type, with how deep its parts are nested in their places
  abbrev pub type_nesting_step : layer.Type-F N ℕ ℕ ℕ ℕ → ℕ
  type_nesting_step (layer.Plain ty loc) = ty
  type_nesting_step (layer.CommonTypeRef name loc) = 0

  -- one layer of a type variant: a set or a record is one level more than what stands in it
  abbrev pub variant_nesting_step : layer.TypeVariant-F N ℕ ℕ ℕ ℕ → ℕ
  variant_nesting_step (layer.Set element) = 1 + element.value
  variant_nesting_step (layer.Record attributes) = 1 + attributes
  variant_nesting_step layer.String = 0
  variant_nesting_step layer.Long = 0
  variant_nesting_step layer.Boolean = 0
  variant_nesting_step (layer.Entity name) = 0
  variant_nesting_step (layer.EntityOrCommon name) = 0
  variant_nesting_step (layer.Extension name) = 0

  -- the attributes of one record type: as deep as the deepest
  abbrev pub record_nesting_step : layer.RecordType-F N ℕ ℕ ℕ ℕ → ℕ
  record_nesting_step it = greatest (map (λ entry. entry.1) it.attributes.entries)

  -- one attribute: as deep as its type
  abbrev pub attribute_nesting_step : layer.TypeOfAttribute-F N ℕ ℕ ℕ ℕ → ℕ
  attribute_nesting_step it = it.ty

  -- how many sets and records stand in one another in a type
  abbrev pub type_nesting : «Type» N → ℕ
  type_nesting =
      fold-Type N ℕ ℕ ℕ ℕ type_nesting_step variant_nesting_step record_nesting_step
      attribute_nesting_step

  -- the same of a type variant
  abbrev pub variant_nesting : TypeVariant N → ℕ
  variant_nesting =
      fold-TypeVariant N ℕ ℕ ℕ ℕ type_nesting_step variant_nesting_step record_nesting_step
      attribute_nesting_step

  -- the same of the attributes of a record type
  abbrev pub record_nesting : RecordType N → ℕ
  record_nesting =
      fold-RecordType N ℕ ℕ ℕ ℕ type_nesting_step variant_nesting_step record_nesting_step
      attribute_nesting_step

  -- the same of an attribute
  abbrev pub attribute_nesting : TypeOfAttribute N → ℕ
  attribute_nesting =
      fold-TypeOfAttribute N ℕ ℕ ℕ ℕ type_nesting_step variant_nesting_step record_nesting_step
      attribute_nesting_step
