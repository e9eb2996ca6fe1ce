use Rattle.std.specs.Borrow.{Bor}
use Rattle.std.specs.List.{flat_map}
use Rattle.std.specs.Option.{option_to_list}
use Rattle.std.specs.Prelude.{ℕ, ◌+◌, List, [], ◌∷◌, ◌++◌, map}
use Rattle.cedar_ast.specs.Words.{PlainName, PlainUid}
use Rattle.cedar_schema_elements.specs.ActionKind.{kind_context}
use Rattle.cedar_schema_semantics.specs.Words.{SchemaAction, SchemaEntityType, kind_fields, kind_tags}
use Rattle.cedar_type_rules.specs.Ty.{Ty, set_of, record_of, Fields, end, field}
use Rattle.cedar_types.specs.Meaning.{ty_of}
use Rattle.cedar_types.specs.declared.types.Type.{«Type»}

abbrev mutual
  -- the leaves of a type, from left to right: whatever stands in it that is neither a record nor a
  -- set of elements of a type
  pub leaves : Ty → List Ty
  leaves (set_of ty) = leaves ty
  leaves (record_of fields openness) = leaves_of_fields fields
  leaves ty = ty ∷ []

  -- the leaves of the types of some attributes
  pub leaves_of_fields : Fields → List Ty
  leaves_of_fields end = []
  leaves_of_fields (field name required ty rest) = leaves ty ++ leaves_of_fields rest

-- the leaves of some types, of each in turn
abbrev pub leaves_of : List Ty → List Ty
leaves_of types = flat_map leaves types

-- the types of some attributes
abbrev pub field_types : Fields → List Ty
field_types end = []
field_types (field name required ty rest) = ty ∷ field_types rest

-- the types of the attributes of some entity types, and of the tags
abbrev pub entity_type_types : List (PlainName × SchemaEntityType) → List Ty
entity_type_types types = flat_map (λ entry.
    field_types (kind_fields entry.1.kind) ++ option_to_list (kind_tags entry.1.kind)) types

-- the types of the contexts of some actions
abbrev pub context_types : List (PlainUid × SchemaAction) → List Ty
context_types actions = flat_map (λ entry. option_to_list (kind_context entry.1.kind)) actions

-- the leaves of a schema's types: of the attributes and tags of its entity types, and of the
-- contexts of its actions
abbrev pub schema_leaves : List (PlainName × SchemaEntityType) → List (PlainUid × SchemaAction)
    → List Ty
schema_leaves types actions = leaves_of (entity_type_types types ++ context_types actions)

-- a leaf is neither a record nor a set of elements of a type
abbrev pub IsLeaf : Ty → Type 0
IsLeaf (set_of ty) = ⊥
IsLeaf (record_of fields openness) = ⊥
IsLeaf _ = Unit {0}

-- the types right inside a type: of the elements of a set, or of the attributes of a record
abbrev pub inner_types : Ty → List Ty
inner_types (set_of ty) = ty ∷ []
inner_types (record_of fields openness) = field_types fields
inner_types _ = []

-- what types that are borrowed stand for
abbrev pub shown_types : List (Bor «Type») → List Ty
shown_types types = map (λ ty. ty_of ty.now) types

abbrev mutual
  -- of how many types a type is made, itself among them
  pub parts : Ty → ℕ
  parts (set_of ty) = 1 + parts ty
  parts (record_of fields openness) = 1 + parts_of_fields fields
  parts _ = 1

  -- of how many types the types of some attributes are made
  pub parts_of_fields : Fields → ℕ
  parts_of_fields end = 0
  parts_of_fields (field name required ty rest) = parts ty + parts_of_fields rest

-- of how many types some types are made, all together
abbrev pub part_count : List Ty → ℕ
part_count [] = 0
part_count (ty ∷ rest) = parts ty + part_count rest
