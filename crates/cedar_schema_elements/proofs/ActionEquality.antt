-- Actions are equal exactly where they are the same, ignoring locations.
use Rattle.std.proofs.Common.{◌≡◌, ◌&&◌, refl}
use Rattle.std.proofs.lemmas.Bool.Decides.{Decides-and, Decides-like}
use Rattle.std.specs.Bool.{Decides}
use Rattle.std.specs.HashSet.{hash_set_eq}
use Rattle.cedar_ast.proofs.Names.{entity_type_eq-same}
use Rattle.cedar_ast.proofs.Uids.{entity_uid_eq-same}
use Rattle.cedar_ast.specs.contracts.entity_type.EntityTypeEq.TheImpl as entity_type_equal
use Rattle.cedar_ast.specs.contracts.entity_type.EntityTypePartialEq.TheImpl as entity_type_eq
use Rattle.cedar_schema_ast.specs.contracts.json_schema.conditional_name.ConditionalNameEq.TheImpl as reference_equal
use Rattle.cedar_schema_ast.specs.contracts.json_schema.conditional_name.ConditionalNamePartialEq.TheImpl as reference_eq
use Rattle.cedar_schema_elements.proofs.SetLemmas.{ordered_uids-Decides, reference-Decides, sets-Decides}
use Rattle.cedar_schema_elements.proofs.TypeSetLemmas.{type_sets-Decides}
use Rattle.cedar_schema_elements.specs.ActionKind.{plain_kind}
use Rattle.cedar_schema_elements.specs.ValidatorActionId.{parts_of}
use Rattle.cedar_schema_elements.specs.Words.{ConditionalName, EntityType, SameActionKind, SameItems, ValidatorActionId, ValidatorActionKind, ValidatorApplySpec, action_of, conditional_reference, principal_names, principal_references, resource_names, resource_references, type_name}
use Rattle.cedar_schema_elements.specs.contracts.action_id.ValidatorActionIdPartialEq.TheImpl as action_eq
use Rattle.cedar_schema_elements.specs.contracts.action_kind.ValidatorActionKindPartialEq.TheImpl as kind_eq
use Rattle.cedar_schema_elements.specs.declared.action_kind.ValidatorActionKind.TheVariants as variant
use Rattle.cedar_types.proofs.EqualityLaws.{none, types-Decides}

-- apply specs are equal exactly where they have the same principals and resources
pub apply_specs-Decides : (a b : ValidatorApplySpec EntityType)
    → Decides (hash_set_eq (entity_type_eq.ghosts).eq a.principals b.principals
    && hash_set_eq (entity_type_eq.ghosts).eq a.resources b.resources)
    (SameItems (principal_names a) (principal_names b) × SameItems (resource_names a) (resource_names b))
apply_specs-Decides a b =
    let same = sets-Decides (entity_type_eq.ghosts).eq type_name entity_type_equal.Laws.laws-law entity_type_eq-same in
    Decides-and _ _ (same a.principals b.principals) (same a.resources b.resources)

-- apply specs over references are equal exactly where they have the same references
pub reference_specs-Decides : (a b : ValidatorApplySpec ConditionalName)
    → Decides (hash_set_eq (reference_eq.ghosts).eq a.principals b.principals
    && hash_set_eq (reference_eq.ghosts).eq a.resources b.resources)
    (SameItems (principal_references a) (principal_references b) × SameItems (resource_references a) (resource_references b))
reference_specs-Decides a b =
    let same = sets-Decides (reference_eq.ghosts).eq conditional_reference reference_equal.Laws.laws-law reference-Decides in
    Decides-and _ _ (same a.principals b.principals) (same a.resources b.resources)

-- kinds of actions are equal exactly where they are for the same requests
pub kinds-Decides : (a b : ValidatorActionKind)
    → Decides ((kind_eq.ghosts).eq a b) (SameActionKind (plain_kind a) (plain_kind b))
kinds-Decides (variant.Defined a) (variant.Defined b) =
    Decides-like _ (λ both. (both.0, both.1.0, both.1.1)) (λ all. (all.0, (all.1, all.2)))
    (Decides-and _ _ (type_sets-Decides a.value.principals b.value.principals)
    (Decides-and _ _ (type_sets-Decides a.value.resources b.value.resources) (types-Decides a.value.context b.value.context)))
kinds-Decides variant.External variant.External = (λ _. tt, λ _. refl)
kinds-Decides (variant.Defined a) variant.External = none (λ e. e)
kinds-Decides variant.External (variant.Defined b) = none (λ e. e)

-- actions are equal exactly where their uids, their kinds and their descendants are
pub actions-Same : (a b : ValidatorActionId) → Decides ((action_eq.ghosts).eq a b)
    (((action_of a).uid ≡ (action_of b).uid) × SameActionKind (action_of a).kind (action_of b).kind
    × SameItems (action_of a).descendants (action_of b).descendants)
actions-Same a b =
    Decides-like _ (λ all. (all.0, all.1.0, all.1.1)) (λ all. (all.0, (all.1, all.2)))
    (Decides-and _ _ (entity_uid_eq-same (parts_of a).name (parts_of b).name) (Decides-and _ _ (kinds-Decides (parts_of a).kind (parts_of b).kind)
    (ordered_uids-Decides (parts_of a).descendants.keys (parts_of b).descendants.keys (parts_of a).in_order (parts_of b).in_order)))
