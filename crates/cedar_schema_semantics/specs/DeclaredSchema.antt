use Rattle.std.specs.List.Sorted.{IsStrictlySortedBy}
use Rattle.std.specs.Prelude.{◌≡◌, ◌↔◌, List, map, Contains, Option}
use Rattle.cedar_ast.specs.Words.{HoldsOfBoth, PlainName, PlainUid, name_cmp, uid_cmp}
use Rattle.cedar_ast.specs.declared.extension.Extensions.{Extensions}
use Rattle.cedar_schema_ast.specs.Words.{EntityBody, Expr, Reference, Requests, elsewhere, enumerated, external, requests, standard}
use Rattle.cedar_schema_semantics.specs.ActionEntities.{AreActionEntities}
use Rattle.cedar_schema_semantics.specs.Bag.{Bag, declared_entities, declared_actions, definitions}
use Rattle.cedar_schema_semantics.specs.Defined.{Defined, names_of}
use Rattle.cedar_schema_semantics.specs.Descent.{IsDescendant, IsDescendantAction}
use Rattle.cedar_schema_semantics.specs.ElaboratesTo.{ElaboratesTo}
use Rattle.cedar_schema_semantics.specs.EntityTypeKind.{EntityTypeKind, standard_kind, enumerated_kind, external_kind}
use Rattle.cedar_schema_semantics.specs.Names.{Names, ResolvesTo}
use Rattle.cedar_schema_semantics.specs.PlainSchema.{SchemaEntityType, ActionKind, defined_action, external_action, SchemaAction, PlainSchema}
use Rattle.cedar_schema_semantics.specs.Together.{EntitySays, ActionSays}
use Rattle.cedar_type_rules.specs.Ty.{Ty, record_of}
use Rattle.cedar_type_rules.specs.declared.open_tag.OpenTag.TheVariants.{ClosedAttributes}

-- the kind is the one that is declared, where it is given what an expression is elaborated as:
-- closed attributes that are the shape elaborated, with the type of its tags, or none; the same
-- choices; or external
abbrev pub IsKindOver : (Expr → Ty → Type 0) → EntityBody → EntityTypeKind → Type 0
IsKindOver Elaborates (standard parents shape tags) (standard_kind fields openness ty) =
    Elaborates shape (record_of fields ClosedAttributes) × (openness ≡ ClosedAttributes)
    × HoldsOfBoth Elaborates tags ty
IsKindOver Elaborates (enumerated ids) (enumerated_kind choices) = ids ≡ choices
IsKindOver Elaborates (external parents) external_kind = Unit {0}
IsKindOver Elaborates _ _ = ⊥

-- the type of tags is the one that is declared, elaborated, or there is none
abbrev pub AreDeclaredTags : Defined → Option Expr → Option Ty → Type 0
AreDeclaredTags defined = HoldsOfBoth (ElaboratesTo defined)

-- the kind is the one that is declared
abbrev pub IsDeclaredKind : Defined → EntityBody → EntityTypeKind → Type 0
IsDeclaredKind defined = IsKindOver (ElaboratesTo defined)

-- the entity type stands under its name, is of the kind that its declarations say, and has just the
-- declared descendants
pub record IsDeclaredEntityType (bag : Bag) (extensions : Extensions)
    (it : PlainName × SchemaEntityType) : Type 0 where
  pub body : EntityBody
  pub says : EntitySays bag it.0 body
  pub name : it.1.name ≡ it.0
  pub kind : IsDeclaredKind (definitions bag extensions) body it.1.kind
  pub descendants : (lower : PlainName)
      → Contains it.1.descendants lower ↔ IsDescendant bag extensions lower it.0

-- the name is that which some of the references resolves to
abbrev pub IsNamedBy : Names → List Reference → PlainName → Type 0
IsNamedBy names references name =
    (reference : Reference) × Contains references reference × ResolvesTo names reference name

-- the names are just those that some of the references resolve to
abbrev pub AreNamedBy : Names → List Reference → List PlainName → Type 0
AreNamedBy names references listed = (name : PlainName)
    → Contains listed name ↔ IsNamedBy names references name

-- the kind of an action is the declared one, where it is given which names references are to, and
-- what an expression is elaborated as: the names of the principals and of the resources, and the
-- context elaborated; or external
abbrev pub IsActionKindOver : (List Reference → List PlainName → Type 0) → (Expr → Ty → Type 0)
    → Requests → ActionKind → Type 0
IsActionKindOver AreNamed Elaborates (requests principals resources context)
    (defined_action principal_types resource_types ty) =
    AreNamed principals principal_types × AreNamed resources resource_types × Elaborates context ty
IsActionKindOver AreNamed Elaborates elsewhere external_action = Unit {0}
IsActionKindOver AreNamed Elaborates _ _ = ⊥

-- the kind of an action is the declared one
abbrev pub IsDeclaredActionKind : Defined → Requests → ActionKind → Type 0
IsDeclaredActionKind defined =
    IsActionKindOver (AreNamedBy (names_of defined)) (ElaboratesTo defined)

-- the action stands under its uid, is of the kind that its declarations say, and has just the
-- declared descendants
pub record IsDeclaredAction (bag : Bag) (extensions : Extensions)
    (it : PlainUid × SchemaAction) : Type 0 where
  pub applies_to : Requests
  pub says : ActionSays bag it.0 applies_to
  pub uid : it.1.uid ≡ it.0
  pub kind : IsDeclaredActionKind (definitions bag extensions) applies_to it.1.kind
  pub descendants : (lower : PlainUid)
      → Contains it.1.descendants lower ↔ IsDescendantAction bag lower it.0

-- the schema is the one that the bag declares: it has just the declared entity types and actions,
-- each once and as it is declared, and the entities of its defined actions
pub record IsDeclaredSchema (bag : Bag) (extensions : Extensions)
    (schema : PlainSchema) : Type 0 where
  pub entity_types : (it : PlainName × SchemaEntityType) → Contains schema.entity_types it
      → IsDeclaredEntityType bag extensions it
  pub each_entity_type : (name : PlainName)
      → Contains (map (λ it. it.0) (declared_entities bag)) name
      → Contains (map (λ it. it.0) schema.entity_types) name
  pub entity_types_in_order : IsStrictlySortedBy name_cmp (map (λ it. it.0) schema.entity_types)
  pub actions : (it : PlainUid × SchemaAction) → Contains schema.actions it
      → IsDeclaredAction bag extensions it
  pub each_action : (uid : PlainUid) → Contains (map (λ it. it.0) (declared_actions bag)) uid
      → Contains (map (λ it. it.0) schema.actions) uid
  pub actions_in_order : IsStrictlySortedBy uid_cmp (map (λ it. it.0) schema.actions)
  pub action_entities : AreActionEntities schema
