-- The references of raw fragments fit their positions.
use Rattle.std.proofs.Common.{◌≡◌, Bool, true, false, List, ◌++◌, Option, None, Some, map, ap, sym, arith, Contains, inl, inr}
use Rattle.std.proofs.lemmas.List.Elements.{Contains-append_cases}
use Rattle.std.specs.Option.{option_map}
use Rattle.cedar_ast.proofs.Lists.{Contains-preimage}
use Rattle.cedar_schema_ast.specs.declared.json_schema.entity_type.EntityTypeKind.{EntityTypeKind}
use Rattle.cedar_schema_ast.specs.declared.json_schema.entity_type.EntityTypeKind.TheVariants as variant
use Rattle.cedar_schema_laws.specs.Words.{ApplySpec, Declaration, Entity, Fragment, IsEntityTypePosition, IsPrincipalOrResource, NamespaceDefinition, PlainName, PositionsFit, RawName, Reference, action_declarations, common_declarations, entity_declarations, entity_parents, kind_body, plain_name, raw_bag, raw_declarations, raw_fragment, raw_reference, requests_by}
use Rattle.cedar_schema_semantics.proofs.OccurrenceLemmas.{Contains-flat_map}

module _ (namespace : Option PlainName) where
  -- each of some names at places of entity types refers to one
  named_fit : (names : List RawName) (reference : Reference)
      → Contains (map (raw_reference namespace Entity) names) reference → reference.kind ≡ Entity
  named_fit names reference among =
      let found = Contains-preimage (raw_reference namespace Entity) names reference among in
      ap (λ (each : Reference). each.kind) (sym found.2)

  -- the parents of an entity type do
  parents_fit : (kind : EntityTypeKind RawName) (is_external : Bool) (reference : Reference)
      → Contains (entity_parents (kind_body RawName (raw_reference namespace) kind is_external)) reference → reference.kind ≡ Entity
  parents_fit (variant.Standard it) false reference among = named_fit it.member_of_types.items reference among
  parents_fit (variant.Standard it) true reference among = named_fit it.member_of_types.items reference among
  parents_fit (variant.Enum choices) false reference among = absurd (omega (arith, among.1))
  parents_fit (variant.Enum choices) true reference among = absurd (omega (arith, among.1))

  -- the principals and resources of an action do
  requests_fit : (is_external : Bool) (it : Option (ApplySpec RawName)) (reference : Reference)
      → IsPrincipalOrResource (requests_by RawName (raw_reference namespace) namespace is_external it) reference → reference.kind ≡ Entity
  requests_fit true it reference place = absurd place
  requests_fit false None reference place = elim place [
    | inl none ↦ absurd (omega (arith, none.1))
    | inr none ↦ absurd (omega (arith, none.1))
  ]
  requests_fit false (Some it) reference place =
      elim place [
        | inl left ↦ named_fit it.principal_types.items reference left
        | inr right ↦ named_fit it.resource_types.items reference right
      ]

  -- the references of a definition do
  definition_fits : (definition : NamespaceDefinition RawName) (it : Declaration) (reference : Reference)
      → Contains (raw_declarations namespace definition) it → IsEntityTypePosition it.body reference → reference.kind ≡ Entity
  definition_fits definition it reference among place =
      let common = common_declarations RawName (raw_reference namespace) namespace definition.common_types.entries in
      let entities = entity_declarations RawName (raw_reference namespace) namespace definition.entity_types.entries in
      let actions = action_declarations RawName (raw_reference namespace) namespace definition.actions.entries in
      elim (Contains-append_cases (common ++ entities) actions it among) [
        | inl types ↦
            elim (Contains-append_cases common entities it types) [
              | inl here ↦
                  let found = Contains-preimage _ definition.common_types.entries it here in absurd (rw (← found.2) at place)
              | inr here ↦
                  let found = Contains-preimage _ definition.entity_types.entries it here in
                  parents_fit found.0.1.kind found.0.1.external reference (rw (← found.2) at place)
            ]
        | inr here ↦
            let found = Contains-preimage _ definition.actions.entries it here in
            requests_fit found.0.1.external found.0.1.applies_to reference (rw (← found.2) at place)
      ]

-- the references of raw fragments fit their positions
pub raw_bag_fits : (fragments : List (Fragment RawName)) → PositionsFit (raw_bag fragments)
raw_bag_fits fragments reference placed =
    let fragment = Contains-flat_map raw_fragment fragments placed.0 placed.1 in
    let entry = Contains-flat_map _ fragment.0.0.entries placed.0 fragment.2 in
    definition_fits (option_map plain_name entry.0.0) entry.0.1 placed.0 reference entry.2 placed.2
