-- What is refused of entity types one below the other.
use Rattle.std.specs.Prelude.{◌≡◌, ◌⊎◌, Contains, Some}
use Rattle.cedar_ast.specs.Words.{PlainName, type_name}
use Rattle.cedar_ast.specs.contracts.entity_type.EntityTypeOrd.TheImpl as entity_type_ord
use Rattle.cedar_ast.specs.declared.entity_type.EntityType.{EntityType}
use Rattle.cedar_schema_elements.specs.ValidatorEntityType.{entity_type_of}
use Rattle.cedar_schema_elements.specs.declared.entity_type.ValidatorEntityType.{ValidatorEntityType}
use Rattle.cedar_schema_semantics.specs.Words.{EntityTypeKind, Fault, HasEntityType, IsEnumerated, IsExternal, IsOfKind, PlainSchema, enumerated_below, external_below_enumerated}
use Rattle.cedar_table.specs.Entries.{get_by}
use Rattle.cedar_validation.specs.declared.parts.Parts.{Parts}

-- the lower kind isn't enumerated, and isn't external where the upper is enumerated
pub record IsKindSound (lower upper : EntityTypeKind) : Type 0 where
  pub not_enumerated : ¬ IsEnumerated lower
  pub not_external : IsEnumerated upper → ¬ IsExternal lower

-- why the one kind under a name is refused below the other
abbrev pub IsKindFault : PlainName → EntityTypeKind → PlainName → EntityTypeKind → Fault → Type 0
IsKindFault lower kind upper above fault =
    ((fault ≡ enumerated_below lower upper) × IsEnumerated kind)
    ⊎ ((fault ≡ external_below_enumerated lower upper) × IsExternal kind × IsEnumerated above)

-- the entity type stands under the name
abbrev pub StandsAt : Parts → EntityType → ValidatorEntityType → Type 0
StandsAt parts name it = get_by ((entity_type_ord.ghosts).cmp name) parts.entity_types ≡ Some it

-- each descendant that stands under its name is of a kind that may stand below
abbrev pub IsBelowSound : Parts → ValidatorEntityType → Type 0
IsBelowSound parts above = (lower : EntityType) (below : ValidatorEntityType)
    → Contains above.descendants.keys lower
    → StandsAt parts lower below → IsKindSound (entity_type_of below).kind
    (entity_type_of above).kind

-- one that stands under its name isn't
abbrev pub IsBelowFault : Parts → PlainName → ValidatorEntityType → Fault → Type 0
IsBelowFault parts upper above fault = (lower : EntityType) × (below : ValidatorEntityType)
    × Contains above.descendants.keys lower × StandsAt parts lower below
    × IsKindFault (type_name lower) (entity_type_of below).kind upper
    (entity_type_of above).kind fault

-- the lower entity type is one of the schema and isn't enumerated, and isn't external where the
-- upper is enumerated
pub record IsPairSound (schema : PlainSchema) (lower upper : PlainName) : Type 0 where
  pub declared : HasEntityType schema lower
  pub not_enumerated : ¬ IsOfKind schema lower IsEnumerated
  pub not_external : IsOfKind schema upper IsEnumerated → ¬ IsOfKind schema lower IsExternal
