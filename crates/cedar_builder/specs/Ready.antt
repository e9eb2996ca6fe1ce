-- When the entity types and the actions of a bag can be built.
use Rattle.std.specs.Prelude.{◌≡◌, List, Contains, map}
use Rattle.cedar_ast.specs.Words.{IsReserved, PlainName, PlainUid, SameItems, extension_types}
use Rattle.cedar_ast.specs.declared.entity_type.EntityType.{EntityType}
use Rattle.cedar_ast.specs.declared.extension.Extensions.{Extensions}
use Rattle.cedar_builder.specs.ActionSteps.{names_in}
use Rattle.cedar_elaboration.specs.Scope.{Covers, extensions_in_scope}
use Rattle.cedar_elaboration.specs.declared.type_scope.TypeScope.{TypeScope}
use Rattle.cedar_name_resolution.specs.Words.{HoldsJust, held_names}
use Rattle.cedar_schema_ast.specs.Words.{ActionBody, EntityBody, Expr}
use Rattle.cedar_schema_elements.specs.declared.entity_type.ValidatorEntityType.{ValidatorEntityType}
use Rattle.cedar_schema_semantics.specs.Words.{Bag, IsCounted, declared_actions, declared_entities, defined_names, definitions}
use Rattle.cedar_table.specs.Entries.{Entries}

-- the names in scope are those that the bag defines; enough is known of these, with the extension
-- types that it is over; no common type has two definitions; and no entity type and no type of
-- actions has a reserved name
pub record IsScopeOf (bag : Bag) (given : Extensions) (scope : TypeScope) : Type 0 where
  pub names : HoldsJust (held_names scope.defs.now) (defined_names bag given)
  pub knows : (expr : Expr) → IsCounted bag expr → Covers (definitions bag given) scope expr
  pub extensions : extensions_in_scope scope ≡ extension_types given
  pub one_definition : (name : PlainName) (body other : Expr)
      → Contains (definitions bag given).common (name, body)
      → Contains (definitions bag given).common (name, other) → body ≡ other
  pub unreserved : (name : PlainName) → Contains (definitions bag given).entities name
      → ¬ IsReserved name

-- the declared entity types are those of the bag, whose names are in scope
pub record IsReady (bag : Bag) (given : Extensions)
    (declared : List (PlainName × EntityBody))
    (scope : TypeScope) : Type 0 where
  pub entities : declared ≡ declared_entities bag
  pub known : IsScopeOf bag given scope

-- the declared actions and the entity types are those of the bag, whose names are in scope
pub record AreActionsOf (bag : Bag) (given : Extensions)
    (declared : List (PlainUid × ActionBody))
    (types : Entries EntityType ValidatorEntityType) (scope : TypeScope) : Type 0 where
  pub actions : declared ≡ declared_actions bag
  pub entity_types : SameItems (names_in types) (map (λ it. it.0) (declared_entities bag))
  pub known : IsScopeOf bag given scope
