-- What a built schema declares of its entity types is clean and in the order of its names.
use Rattle.std.proofs.Common.{◌∷◌, [], true, false, cond, Contains, List, Some, inl, inr, map, refl, subst}
use Rattle.std.specs.List.Sorted.{IsStrictlySortedBy}
use Rattle.std.specs.Option.{option_map_or}
use Rattle.std.specs.Ordering.{is_eq}
use Rattle.cedar_ast.proofs.Lists.{Contains-cons, Contains-preimage}
use Rattle.cedar_queries.specs.KnownAttributes.{type_at}
use Rattle.cedar_schema.specs.Words.{AreClean, AreCleanTypes, Bag, EntityType, EntityTypeKind, Extensions, Fields, IsClean, IsDeclaredSchema, IsSortedByName, IsSortedByName-fields, IsTypeOfKind, PlainName, SchemaEntityType, Ty, ValidatorEntityType, ValidatorEntityTypeKind, ValidatorSchema, declared_fields, end, kind_fields, name_cmp, plain_entry, plain_kind, record_of, schema_of, standard_kind}
use Rattle.cedar_schema_elements.specs.declared.entity_type_kind.ValidatorEntityTypeKind.TheVariants as variant
use Rattle.cedar_schema_laws.proofs.CleanSchemas.{declared_clean}

-- no attributes are in order
none_ascend : IsSortedByName end
unfolding IsStrictlySortedBy
none_ascend = tt

-- what holds of no attributes, and of those of the kind of each entity type, holds of those that
-- are declared of a name
declared_of : (P : Fields → Type 0) → P end → (types : List (PlainName × SchemaEntityType))
    → ((it : PlainName × SchemaEntityType) → Contains types it → P (kind_fields it.1.kind))
    → (name : PlainName) → P (declared_fields types name)
declared_of P none [] each name = none
declared_of P none (it ∷ rest) each name =
    let others = declared_of P none rest (λ other among. each other (Contains-cons it rest other (inr among))) name in
    elim (is_eq (name_cmp name it.0)) as
    (λ b. P (option_map_or (λ (found : SchemaEntityType). kind_fields found.kind) (cond b (Some it.1) (type_at name rest)) end))
    [ true ↦ each it (Contains-cons it rest it (inl refl)) | false ↦ others ]

-- the attributes of a kind are in order
kind_ascends : (kind : ValidatorEntityTypeKind) → IsSortedByName (kind_fields (plain_kind kind))
kind_ascends (variant.Standard it) = IsSortedByName-fields it.attributes
kind_ascends kind = none_ascend

-- those of an entity type of a schema are
type_ascends : (entries : List (EntityType × ValidatorEntityType)) (it : PlainName × SchemaEntityType)
    → Contains (map plain_entry entries) it → IsSortedByName (kind_fields it.1.kind)
type_ascends entries it among =
    let (entry, inside, same) = Contains-preimage plain_entry entries it among in
    let P : PlainName × SchemaEntityType → Type 0 = λ each. IsSortedByName (kind_fields each.1.kind) in
    subst P same (kind_ascends entry.1.kind)

-- the attributes of a kind are clean where its types are
kind_clean : (kind : EntityTypeKind) → ((ty : Ty) → IsTypeOfKind kind ty → IsClean ty) → AreClean (kind_fields kind)
kind_clean (standard_kind fields openness tags) each = each (record_of fields openness) (inl refl)
kind_clean kind each = tt

-- what entity types of the schema that a bag declares declare is clean and in order
pub declared_clean_types : (bag : Bag) (extensions : Extensions) (schema : ValidatorSchema)
    → IsDeclaredSchema bag extensions (schema_of schema)
    → (members : List PlainName) → AreCleanTypes (schema_of schema).entity_types members
declared_clean_types bag extensions schema declared members member among =
    let types = (schema_of schema).entity_types in (
      declared_of AreClean tt types
          (λ it at. kind_clean it.1.kind (λ ty is. declared_clean bag extensions (schema_of schema) declared ty (inl (it, at, is)))) member,
      declared_of IsSortedByName none_ascend types (type_ascends schema.content.tables.entity_types.entries) member,
    )
