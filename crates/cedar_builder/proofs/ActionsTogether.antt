-- Definitions of actions among their declarations.
use Rattle.std.proofs.Common.{◌≡◌, ◌↔◌, false, List, refl, sym, ap}
use Rattle.std.proofs.lemmas.Bool.{false≢true}
use Rattle.std.specs.List.{flat_map}
use Rattle.cedar_builder.specs.Words.{ActionKind, IsElaboratedKind, PlainUid, Requests, TypeScope, action_definition_in, defined_action, definition_in, elsewhere, external_action, is_action_definition, requests}

-- declarations give the same definitions by the test
pub definitions_alike : (entries : List (PlainUid × Requests))
    → flat_map (definition_in is_action_definition) entries ≡ flat_map (λ it. action_definition_in it.0 it.1) entries
definitions_alike entries = ap (λ give. flat_map give entries) (λ i it. alike it.0 it.1 i) where
  alike : (uid : PlainUid) (applies_to : Requests) → definition_in is_action_definition (uid, applies_to) ≡ action_definition_in uid applies_to
  alike uid (requests principals resources context) = refl
  alike uid elsewhere = refl

-- an action is external exactly where no definition is elaborated
pub external_told : (scope : TypeScope) (applies_to : Requests) (kind : ActionKind) → IsElaboratedKind scope applies_to kind
    → (kind ≡ external_action) ↔ (is_action_definition applies_to ≡ false)
external_told scope (requests principals resources context) (defined_action principal_types resource_types ty) elaborated =
    (λ is. absurd cc, λ none. absurd (false≢true (sym none)))
external_told scope elsewhere external_action elaborated = (λ is. refl, λ none. refl)
external_told scope _ _ elaborated = absurd elaborated
