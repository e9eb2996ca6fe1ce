-- The references of fragments fit their positions.
use Rattle.std.proofs.Common.{◌≡◌, List, ◌++◌, Option, None, Some, map, ap, sym, ◌∙◌, arith, Contains, inl, inr}
use Rattle.std.proofs.lemmas.List.Elements.{Contains-append_cases}
use Rattle.std.specs.List.{flat_map}
use Rattle.cedar_ast.proofs.Lists.{Contains-preimage}
use Rattle.cedar_fragments.specs.Words.{ActionRequests, Declaration, Entity, EntityTypeFragment, IsEntityTypePosition, IsPrincipalOrResource, PlainName, PositionsFit, Reference, ReferenceType, ValidatorNamespaceDef, ValidatorSchemaFragment, action_fragment_declaration, action_fragment_declarations, common_type_declaration, common_type_declarations, definition_declarations, definition_namespace, entity_parents, entity_type_declaration, entity_type_declarations, fragment_body, fragment_declarations, fragment_requests, written_bag, written_definition, written_fragment}
use Rattle.cedar_fragments.specs.declared.namespace.entity_types.EntityTypeFragment.TheVariants as variant
use Rattle.cedar_schema_semantics.proofs.OccurrenceLemmas.{Contains-flat_map}

-- where a name at the place of an entity type refers to one
module _ (N : Type 0) (refer : ReferenceType → N → Reference) (fits : (name : N) → (refer Entity name).kind ≡ Entity) where
  -- each of some names at such places does
  named_fit : (names : List N) (reference : Reference) → Contains (map (refer Entity) names) reference → reference.kind ≡ Entity
  named_fit names reference among =
      let found = Contains-preimage (refer Entity) names reference among in
      ap (λ (each : Reference). each.kind) (sym found.2) ∙ fits found.0

  -- the parents of an entity type do
  parents_fit : (it : EntityTypeFragment N) (reference : Reference)
      → Contains (entity_parents (fragment_body N refer it)) reference → reference.kind ≡ Entity
  parents_fit (variant.Standard attributes parents tags) reference among = named_fit parents.items reference among
  parents_fit (variant.Enum choices) reference among = absurd (omega (arith, among.1))
  parents_fit (variant.External parents) reference among = named_fit parents.items reference among

  -- the principals and resources of an action do
  requests_fit : (it : Option (ActionRequests N)) (reference : Reference)
      → IsPrincipalOrResource (fragment_requests N refer it) reference → reference.kind ≡ Entity
  requests_fit None reference place = absurd place
  requests_fit (Some it) reference place = elim place [
    | inl here ↦ named_fit it.principals.items reference here
    | inr there ↦ named_fit it.resources.items reference there
  ]

  module _ (A : Type 0) (refer_action : ReferenceType → A → Reference) where
    -- the references of a definition do
    definition_fits : (definition : ValidatorNamespaceDef N A) (it : Declaration) (reference : Reference)
        → Contains (definition_declarations N refer A refer_action definition) it → IsEntityTypePosition it.body reference → reference.kind ≡ Entity
    definition_fits definition it reference among place =
        let common = common_type_declarations N refer definition.common_types in
        let entities = entity_type_declarations N refer definition.entity_types in
        let actions = action_fragment_declarations N refer A refer_action definition.actions in
        elim (Contains-append_cases (common ++ entities) actions it among) [
          | inl types ↦ elim (Contains-append_cases common entities it types) [
            | inl here ↦
                let found = Contains-preimage (common_type_declaration N refer) definition.common_types.defs.items it here in
                absurd (rw (← found.2) at place)
            | inr here ↦
                let found = Contains-preimage (entity_type_declaration N refer) definition.entity_types.defs.items it here in
                parents_fit found.0.fragment reference (rw (← found.2) at place)
          ]
          | inr here ↦
              let found = Contains-preimage (action_fragment_declaration N refer A refer_action) definition.actions.defs.items it here in
              requests_fit found.0.fragment.requests reference (rw (← found.2) at place)
        ]

    -- the references of some fragments do
    pub fragments_fit : (fragments : List (ValidatorSchemaFragment N A))
        → PositionsFit (flat_map (fragment_declarations N refer A refer_action) fragments)
    fragments_fit fragments reference placed =
        let fragment = Contains-flat_map (fragment_declarations N refer A refer_action) fragments placed.0 placed.1 in
        let definition = Contains-flat_map (definition_declarations N refer A refer_action) fragment.0.definitions.items placed.0 fragment.2 in
        definition_fits definition.0 placed.0 reference definition.2 placed.2

-- so do those of fragments whose names are written in the namespaces of their definitions
pub written_fit : (N : Type 0) (refer : Option PlainName → ReferenceType → N → Reference)
    → ((namespace : Option PlainName) (name : N) → (refer namespace Entity name).kind ≡ Entity)
    → (fragments : List (ValidatorSchemaFragment N N)) → PositionsFit (written_bag N refer fragments)
written_fit N refer fits fragments reference placed =
    let fragment = Contains-flat_map (written_fragment N refer) fragments placed.0 placed.1 in
    let definition = Contains-flat_map (written_definition N refer) fragment.0.definitions.items placed.0 fragment.2 in
    let namespace = definition_namespace N N definition.0 in
    definition_fits N (refer namespace) (fits namespace) N (refer namespace) definition.0 placed.0 reference definition.2 placed.2
