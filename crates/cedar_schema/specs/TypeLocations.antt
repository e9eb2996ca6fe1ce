use Rattle.std.specs.Prelude.{Option}
use Rattle.cedar_ast.specs.declared.loc.Loc.{Loc}
use Rattle.cedar_schema_ast.specs.declared.json_schema.type_of.Type.{«Type», fold-Type}
use Rattle.cedar_schema_ast.specs.declared.json_schema.type_of.Type.TheOpen as layer
use Rattle.cedar_schema_ast.specs.declared.json_schema.type_of.TypeVariant.{TypeVariant, fold-TypeVariant}

-- types over names of some form, whose records and attributes aren't looked into
module _ (N : Type 0) where
  -- where one layer of a type was written: what is elaborated is asked, given the type's own
  -- location
  abbrev pub location_step : layer.Type-F N (Option Loc) (Option Loc → Option Loc) (Unit {0})
      (Unit {0}) → Option Loc
  location_step (layer.Plain ty loc) = ty loc
  location_step (layer.CommonTypeRef name loc) = loc

  -- where one layer was written that is elaborated: of a set where its element was, of all else
  -- where the type itself was
  abbrev pub variant_location_step : layer.TypeVariant-F N (Option Loc) (Option Loc → Option Loc)
      (Unit {0}) (Unit {0}) → Option Loc → Option Loc
  variant_location_step layer.String own = own
  variant_location_step layer.Long own = own
  variant_location_step layer.Boolean own = own
  variant_location_step (layer.Set element) own = element.value
  variant_location_step (layer.Record attributes) own = own
  variant_location_step (layer.Entity name) own = own
  variant_location_step (layer.EntityOrCommon name) own = own
  variant_location_step (layer.Extension name) own = own

  -- where a type was written: a set where its element was, all else where it was itself
  abbrev pub location_of_type : «Type» N → Option Loc
  location_of_type = fold-Type N (Option Loc) (Option Loc → Option Loc) (Unit {0})
      (Unit {0}) location_step variant_location_step (λ it. tt) (λ it. tt)

  -- the same of a type variant, given its own location
  abbrev pub location_of_variant : TypeVariant N → Option Loc → Option Loc
  location_of_variant =
      fold-TypeVariant N (Option Loc) (Option Loc → Option Loc) (Unit {0})
      (Unit {0}) location_step variant_location_step (λ it. tt) (λ it. tt)
