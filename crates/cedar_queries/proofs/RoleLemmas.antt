-- The types that actions name in a role, action after action.
use Rattle.std.proofs.Common.{◌≡◌, List, map, ap, sym, ◌∙◌}
use Rattle.std.proofs.lemmas.List.Folds.{flat_map-map}
use Rattle.std.specs.List.{flat_map}
use Rattle.cedar_queries.specs.Words.{EntityUID, Role, ValidatorActionId, action_of, plain_action_entry, types_in_role}

-- those of the actions alone are those of the actions under their uids
pub types_pairwise : (role : Role) (entries : List (EntityUID × ValidatorActionId)) (actions : List ValidatorActionId)
    → actions ≡ map (λ entry. entry.1) entries
    → flat_map (λ it. types_in_role role (action_of it).kind) actions
    ≡ flat_map (λ it. types_in_role role it.1.kind) (map plain_action_entry entries)
types_pairwise role entries actions are =
    ap (flat_map (λ it. types_in_role role (action_of it).kind)) are
    ∙ (flat_map-map (λ it. types_in_role role (action_of it).kind) (λ (entry : EntityUID × ValidatorActionId). entry.1) entries
    ∙ sym (flat_map-map (λ it. types_in_role role it.1.kind) plain_action_entry entries))
