-- What the private steps promise of entity types as nodes of a graph, which stand under their
-- names.
use Rattle.std.specs.List.{list_any}
use Rattle.std.specs.Prelude.{◌≡◌, ◌⊎◌, ◌↔◌, Bool, List, [], ◌∷◌, Option, None, Some, IsSome, Contains}
use Rattle.cedar_ast.specs.Words.{Chain, PlainName, type_name}
use Rattle.cedar_ast.specs.contracts.entity_type.EntityTypePartialEq.TheImpl as entity_type_eq
use Rattle.cedar_ast.specs.declared.entity_type.EntityType.{EntityType}
use Rattle.cedar_builder.specs.DeclaredNodes.{Leads, at_key}
use Rattle.cedar_builder.specs.EntityTypeSteps.{IsElaboratedKind}
use Rattle.cedar_elaboration.specs.declared.type_scope.TypeScope.{TypeScope}
use Rattle.cedar_graph.specs.Edges.{IsEdgeIn, AreAlike}
use Rattle.cedar_schema_ast.specs.EntityBody.{EntityBody}
use Rattle.cedar_schema_elements.specs.ValidatorEntityType.{entity_type_of, descendant_names}
use Rattle.cedar_schema_elements.specs.declared.entity_type.ValidatorEntityType.{ValidatorEntityType}
use Rattle.cedar_schema_semantics.specs.Words.{Fault, IsEnumerated, enumerated_below, external_below_enumerated, external_kind, out_of_memory, undeclared_entity_types}

-- at a key stands an enumerated entity type
abbrev pub IsEnumeratedAt : Option ValidatorEntityType → Type 0
IsEnumeratedAt None = ⊥
IsEnumeratedAt (Some it) = IsEnumerated (entity_type_of it).kind

-- at a key stands an external entity type
abbrev pub IsExternalAt : Option ValidatorEntityType → Type 0
IsExternalAt None = ⊥
IsExternalAt (Some it) = (entity_type_of it).kind ≡ external_kind

-- the entity type is what a declaration of the name says alone, and has no descendants
pub record IsElaboratedEntity (scope : TypeScope) (stated : PlainName) (body : EntityBody)
    (it : ValidatorEntityType) : Type 0 where
  pub name : (entity_type_of it).name ≡ stated
  pub kind : IsElaboratedKind scope body (entity_type_of it).kind
  pub no_descendants : descendant_names it ≡ []

-- whether the one entity type is among the descendants of the other
abbrev pub has_descendant : ValidatorEntityType → EntityType → Bool
has_descendant it lower = list_any ((entity_type_eq.ghosts).eq lower) it.descendants.keys

-- what stands at a key among entries
abbrev pub node_at : List (EntityType × ValidatorEntityType) → EntityType
    → Option ValidatorEntityType
node_at nodes key = at_key (entity_type_eq.ghosts).eq nodes key

-- the node at the first key has the second among its descendants
abbrev pub EntityTypeLeadsTo : List (EntityType × ValidatorEntityType) → EntityType → EntityType
    → Type 0
EntityTypeLeadsTo nodes upper lower =
    Leads (entity_type_eq.ghosts).eq has_descendant nodes upper lower

-- the one is a parent of the other by some edge
abbrev pub IsAbove : List (EntityType × EntityType) → EntityType → EntityType → Type 0
IsAbove = IsEdgeIn (entity_type_eq.ghosts).eq

-- entity types are the same but for their descendants and locations
abbrev pub SameType : ValidatorEntityType → ValidatorEntityType → Type 0
SameType before after = entity_type_of before ≡ entity_type_of after

-- what stands at a key before and after are such entity types, or none
abbrev pub AreTheSame : Option ValidatorEntityType → Option ValidatorEntityType → Type 0
AreTheSame = AreAlike SameType

-- the upper entity type is among the entries, and the lower isn't enumerated
pub record IsEdgeSound (nodes : List (EntityType × ValidatorEntityType))
    (lower upper : EntityType) : Type 0 where
  pub stands : IsSome (node_at nodes upper)
  pub not_enumerated : ¬ IsEnumeratedAt (node_at nodes lower)

-- why an edge is refused: the upper entity type isn't among the entries, or the lower is enumerated
abbrev pub IsEdgeFault : List (EntityType × ValidatorEntityType) → EntityType → EntityType
    → Fault → Type 0
IsEdgeFault nodes lower upper fault =
    ((fault ≡ undeclared_entity_types (type_name upper ∷ [])) × (node_at nodes upper ≡ None))
    ⊎ ((fault ≡ enumerated_below (type_name lower) (type_name upper))
    × IsEnumeratedAt (node_at nodes lower))

-- the fault is that the one entity type is external and stands below the other, which is enumerated
abbrev pub IsLinkFault : EntityType → EntityType → Fault → Type 0
IsLinkFault lower upper fault =
    fault ≡ external_below_enumerated (type_name lower) (type_name upper)

-- no entity type has descendants, and one stands at the lower end of each edge
pub record AreUnlinked (edges : List (EntityType × EntityType))
    (nodes : List (EntityType × ValidatorEntityType)) : Type 0 where
  pub apart : (upper lower : EntityType) → ¬ EntityTypeLeadsTo nodes upper lower
  pub lowers : (upper lower : EntityType) → IsAbove edges upper lower → IsSome (node_at nodes lower)

-- after as before, but for descendants, which are now those that chains of edges lead to; each edge
-- leads from an entity type that isn't enumerated to one that is among the entries, and no external
-- one stands below an enumerated one
pub record AreLinked (edges : List (EntityType × EntityType))
    (before after : List (EntityType × ValidatorEntityType)) : Type 0 where
  pub same : (key : EntityType) → AreTheSame (node_at before key) (node_at after key)
  pub linked : (upper lower : EntityType)
      → EntityTypeLeadsTo after upper lower ↔ Chain (IsAbove edges) upper lower
  pub ancestors : (upper lower : EntityType) → IsAbove edges upper lower
      → IsSome (node_at before upper)
  pub lowers : (upper lower : EntityType) → IsAbove edges upper lower
      → ¬ IsEnumeratedAt (node_at before lower)
  pub external_above : (upper lower : EntityType) → Chain (IsAbove edges) upper lower
      → IsEnumeratedAt (node_at before upper) → ¬ IsExternalAt (node_at before lower)

-- why edges are refused: some one is, or an external entity type stands below an enumerated one; or
-- memory ran out
abbrev pub IsLinkingFault : List (EntityType × EntityType)
    → List (EntityType × ValidatorEntityType) → Fault → Type 0
IsLinkingFault edges nodes fault = (fault ≡ out_of_memory)
    ⊎ (((edge : EntityType × EntityType) × Contains edges edge
    × IsEdgeFault nodes edge.1 edge.0 fault)
    ⊎ ((upper lower : EntityType) × Chain (IsAbove edges) upper lower
    × IsEnumeratedAt (node_at nodes upper)
    × IsExternalAt (node_at nodes lower) × IsLinkFault lower upper fault))
