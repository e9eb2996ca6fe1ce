use Rattle.std.specs.Option.{option_map}
use Rattle.std.specs.Prelude.{◌≡◌, Bool, true, List, map, Option, None, IfSome, string_bytes}
use Rattle.std.specs.declared.alloc.Global.{Global}
use Rattle.std.specs.declared.rc.Rc.{Rc}
use Rattle.std.specs.declared.string.String.{String}
use Rattle.cedar_ast.specs.Words.{Text, last_named}
use Rattle.cedar_ast.specs.declared.loc.Loc.{Loc}
use Rattle.cedar_name_map.specs.ByName.{value_at}
use Rattle.cedar_types.specs.Meaning.{ty_of}
use Rattle.cedar_types.specs.declared.attributes.AttributeType.{AttributeType, out-AttributeType}
use Rattle.cedar_types.specs.declared.attributes.Attributes.{Attributes, out-Attributes}
use Rattle.cedar_types.specs.declared.types.Type.{«Type», out-Type}
use Rattle.cedar_types.specs.declared.types.Type.TheOpen as layer

-- an attribute with its locations: its type as it is, whether it has to be there, and where it was
-- declared
pub record Located : Type 0 where
  pub ty : «Type»
  pub required : Bool
  pub loc : Option Loc

-- the attribute with its locations
abbrev pub located : AttributeType → Located
located attribute = record {
  ty = (out-AttributeType attribute).attr_type.value;
  required = (out-AttributeType attribute).is_required;
  loc = (out-AttributeType attribute).loc;
}

-- the attribute of that name with its locations, if there is one
abbrev pub located_at : Text → Attributes → Option Located
located_at name all = option_map located
    (value_at name (out-Attributes all).attrs.value.entries.items)

-- pairs of a name and an attribute, with the locations
abbrev pub located_attributes : List (String Global × AttributeType) → List (Text × Located)
located_attributes items = map (λ item. (string_bytes item.0, located item.1)) items

-- pairs of a name and the type of an attribute that is required, which itself has no location
abbrev pub located_required : List (String Global × Rc «Type» Global) → List (Text × Located)
located_required items = map (λ item.
    (string_bytes item.0, record { ty = item.1.value; required = true; loc = None })) items

-- the attribute of a name is the last of the pairs with that name, with its locations
abbrev pub KeepsLast : List (Text × Located) → Attributes → Type 0
KeepsLast items all = (name : Text) → located_at name all ≡ last_named name items

-- the attribute of that name with its locations, if the type is a record's and lists one
abbrev pub listed_at : Text → «Type» → Option Located
listed_at name ty =
    elim (out-Type ty) [ layer.Record attrs openness ↦ located_at name attrs | _ ↦ None ]

-- the type of the elements as it is, if the type is a set's and has one
abbrev pub element_of : «Type» → Option «Type»
element_of ty =
    elim (out-Type ty) [ layer.Set element ↦ option_map (λ rc. rc.value) element | _ ↦ None ]

-- no attribute that the type lists has a location
abbrev pub IsUnplaced : «Type» → Type 0
IsUnplaced ty = (name : Text) → IfSome (listed_at name ty) (λ attribute. attribute.loc ≡ None)

-- a type is handed on as another: that one stands for the same, lists the same attributes with
-- their locations, and has the same element type
abbrev pub IsHandedOn : «Type» → «Type» → Type 0
IsHandedOn ty given =
    (ty_of given ≡ ty_of ty) × ((name : Text) → listed_at name given ≡ listed_at name ty)
    × (element_of given ≡ element_of ty)
