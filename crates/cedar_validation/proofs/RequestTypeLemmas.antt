-- Principals, resources and descendants of actions that aren't of the schema.
use Rattle.std.proofs.Common.{◌⊎◌, [], ◌∷◌, subst, sym, inl, inr, Contains}
use Rattle.cedar_ast.proofs.Basics.{Contains-single}
use Rattle.cedar_validation.specs.Words.{ActionKind, Extensions, Fault, IsMisplaced, IsPrincipalOrResourceOf, IsValidationFault, IsSchemaFault, IsUnknownType, PlainName, PlainSchema, PlainUid, SchemaAction, defined_action, external_action, kind_principals, kind_resources, undeclared_action_descendant, undeclared_entity_types}

-- one entity type that isn't known is a fault
pub one_unknown : (extensions : Extensions) (schema : PlainSchema) (name : PlainName) → IsUnknownType schema name
    → IsSchemaFault extensions schema (undeclared_entity_types (name ∷ []))
one_unknown extensions schema name unknown = (
  λ none. cc,
  λ other among. rw (Contains-single name other among) at unknown,
)

-- why an action is refused is why its schema is
pub misplaced_fault : (schema : PlainSchema) (entry : PlainUid × SchemaAction) → Contains schema.actions entry → (fault : Fault)
    → IsMisplaced schema entry.1 fault → IsValidationFault schema fault
misplaced_fault schema entry among fault misplaced =
    elim misplaced [
      | inl wanting ↦ inl wanting
      | inr one ↦ inr (λ extensions.
          let P : Fault → Type 0 = IsSchemaFault extensions schema in
          elim one [
            | inl of ↦ subst P (sym of.1) (one_unknown extensions schema of.0 (inr (inr (entry, among, of.2, of.3))))
            | inr of ↦ let descendant : IsSchemaFault extensions schema (undeclared_action_descendant of.0) = (entry.0, (entry.1, among, of.2), of.3) in
                subst P (sym of.1) descendant
          ])
    ]

-- and nothing else is
pub for_cases : (kind : ActionKind) (name : PlainName) → IsPrincipalOrResourceOf kind name
    → Contains (kind_principals kind) name ⊎ Contains (kind_resources kind) name
for_cases (defined_action principals resources context) name either = either
for_cases external_action name either = absurd either
