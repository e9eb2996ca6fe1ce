-- An enumerated entity type has no parent, unless something is at fault.
use Rattle.std.proofs.Common.{arith, Contains, inl, inr}
use Rattle.cedar_schema_laws.specs.Words.{Bag, Extensions, HasParent, IsIllFormed, PlainName, declared_entities, defined_entities, duplicate_entity_type, enumerated, enumerated_below}
use Rattle.cedar_schema_semantics.proofs.OccurrenceLemmas.{two_values}
use Rattle.cedar_schema_semantics.proofs.TogetherLemmas.{declared_definition, definition_or_external}

-- an enumerated entity type with a parent is defined twice, or an external declaration gives it the
-- parent
pub enumerated_parent : (bag : Bag) (extensions : Extensions) (lower upper : PlainName) (choices : _)
    → Contains (declared_entities bag) (lower, enumerated choices) → HasParent bag extensions lower upper → IsIllFormed bag extensions
enumerated_parent bag extensions lower upper choices among (reference, (body, there, parent), resolves) =
    elim (definition_or_external body) [
      | inl definition ↦
          elim (two_values (defined_entities bag) lower (enumerated choices) body
          (declared_definition bag lower (enumerated choices) tt among) (declared_definition bag lower body definition there)) [
            | inl same ↦ absurd (omega (arith, (rw (← same) at parent).1))
            | inr twice ↦ (duplicate_entity_type lower, twice)
          ]
      | inr is_external ↦ (
        enumerated_below lower upper,
        (
          choices,
          is_external.0,
          reference,
          among,
          rw is_external.1 at there,
          rw is_external.1 at parent,
          resolves,
        ),
      )
    ]
