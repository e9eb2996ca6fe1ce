-- The entity types that a bag declares, as they stand in a schema.
use Rattle.std.specs.Prelude.{List, Contains, map}
use Rattle.cedar_ast.specs.Words.{PlainName, type_name}
use Rattle.cedar_ast.specs.declared.entity_type.EntityType.{EntityType}
use Rattle.cedar_ast.specs.declared.extension.Extensions.{Extensions}
use Rattle.cedar_schema_elements.specs.ValidatorEntityType.{plain_entry}
use Rattle.cedar_schema_elements.specs.declared.entity_type.ValidatorEntityType.{ValidatorEntityType}
use Rattle.cedar_schema_semantics.specs.Words.{Bag, IsDeclaredEntityType, declared_entities}

-- each entry is what the bag declares of its name, and each declared name has an entry
pub record AreDeclaredEntityTypes (bag : Bag) (extensions : Extensions)
    (entries : List (EntityType × ValidatorEntityType)) :
    Type 0 where
  pub each : (ty : EntityType) (it : ValidatorEntityType) → Contains entries (ty, it)
      → IsDeclaredEntityType bag extensions (plain_entry (ty, it))
  pub complete : (name : PlainName) → Contains (map (λ it. it.0) (declared_entities bag)) name
      → Contains (map (λ it. type_name it.0) entries) name
