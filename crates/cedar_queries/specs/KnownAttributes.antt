-- What is known of the attributes of entities, over the entity types of a schema.
use Rattle.std.specs.Map.{lookup}
use Rattle.std.specs.Option.{option_map_or}
use Rattle.std.specs.Ordering.{is_eq}
use Rattle.std.specs.Prelude.{◌≡◌, Ok, List, Option, map}
use Rattle.cedar_ast.specs.PlainName.{PlainName, name_cmp}
use Rattle.cedar_ast.specs.declared.validation_mode.ValidationMode.TheVariants.{Permissive}
use Rattle.cedar_schema_semantics.specs.Words.{SchemaEntityType, kind_fields}
use Rattle.cedar_type_rules.specs.Words.{Fields, IsReduceAnswer, Ty, end, never, record_of, union_of}
use Rattle.cedar_type_rules.specs.declared.open_tag.OpenTag.TheVariants.{OpenAttributes}

-- the entity type of a name
abbrev pub type_at : PlainName → List (PlainName × SchemaEntityType) → Option SchemaEntityType
type_at name types = lookup (λ other. is_eq (name_cmp name other)) types

-- the attributes that an entity type declares; one that isn't there declares none
abbrev pub declared_fields : List (PlainName × SchemaEntityType) → PlainName → Fields
declared_fields types name = option_map_or (λ it. kind_fields it.kind) (type_at name types) end

-- what an entity type declares, as an open record
abbrev pub open_record : List (PlainName × SchemaEntityType) → PlainName → Ty
open_record types name = record_of (declared_fields types name) OpenAttributes

-- the attributes are known of entities of each of these types: the join in permissive mode, in
-- turn, of what each declares, as open records
abbrev pub AreKnownOfAll : List (PlainName × SchemaEntityType) → List PlainName → Fields → Type 0
AreKnownOfAll types members known =
    IsReduceAnswer Permissive never (map (open_record types) members)
    (Ok (record_of known OpenAttributes))

-- the attributes are those of a type: a record's own, those that are known of the members of a
-- union, and of every other type none
abbrev pub AreAttributesOf : List (PlainName × SchemaEntityType) → Ty → Fields → Type 0
AreAttributesOf types (record_of fields openness) known = known ≡ fields
AreAttributesOf types (union_of members) known = AreKnownOfAll types members known
AreAttributesOf types _ known = known ≡ end
