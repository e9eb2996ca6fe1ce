-- Entity types of schemas are equal exactly where they are the same, ignoring locations.
use Rattle.std.proofs.Common.{◌≡◌, Option, Some, None, List, [], ◌∷◌, map, refl, ap, nat_eq}
use Rattle.std.proofs.lemmas.Bool.Decides.{Decides-and, Decides-like}
use Rattle.std.specs.Bool.{Decides}
use Rattle.std.specs.Cmp.Lexicographic.{pointwise}
use Rattle.std.specs.Option.{option_eq, option_map}
use Rattle.cedar_ast.proofs.Names.{entity_type_eq-same}
use Rattle.cedar_ast.proofs.Texts.{text_eq-Decides}
use Rattle.cedar_schema_elements.proofs.SetLemmas.{ordered_types-Decides}
use Rattle.cedar_schema_elements.specs.Words.{Eid, PlainEntityType, SameItems, StandardValidatorEntityType, «Type», ValidatorEntityType, ValidatorEntityTypeKind, descendant_names, eid_text, entity_type_of, enumerated_kind, kind_fields, kind_openness, kind_tags, plain_kind, plain_standard, standard_kind, ty_of}
use Rattle.cedar_schema_elements.specs.contracts.entity_type.ValidatorEntityTypePartialEq.TheImpl as entity_type_eq
use Rattle.cedar_schema_elements.specs.contracts.entity_type_kind.StandardValidatorEntityTypePartialEq.TheImpl as standard_eq
use Rattle.cedar_schema_elements.specs.contracts.entity_type_kind.ValidatorEntityTypeKindPartialEq.TheImpl as kind_eq
use Rattle.cedar_schema_elements.specs.declared.entity_type_kind.ValidatorEntityTypeKind.TheVariants as variant
use Rattle.cedar_types.proofs.EqualityLaws.{none, types-Decides, attributes-Decides, open_tag-Decides}
use Rattle.cedar_types.specs.contracts.types.TypePartialEq.TheImpl as type_eq

-- types that may be missing are equal exactly where they stand for the same
tags-Decides : (a b : Option «Type») → Decides (option_eq (type_eq.ghosts).eq a b) (option_map ty_of a ≡ option_map ty_of b)
tags-Decides None None = (λ _. refl, λ _. refl)
tags-Decides None (Some b) = none (λ e. cc)
tags-Decides (Some a) None = none (λ e. cc)
tags-Decides (Some a) (Some b) = Decides-like _ (ap Some) (λ e. cc) (types-Decides a b)

-- lists of ids are equal exactly where their texts are
ids-Decides : (xs ys : List Eid) → Decides (pointwise (λ a b. pointwise nat_eq (eid_text a) (eid_text b)) xs ys)
    (map eid_text xs ≡ map eid_text ys)
ids-Decides [] [] = (λ _. refl, λ _. refl)
ids-Decides [] (y ∷ ys) = none (λ e. cc)
ids-Decides (x ∷ xs) [] = none (λ e. cc)
ids-Decides (x ∷ xs) (y ∷ ys) =
    Decides-like _ (λ both i. both.0 i ∷ both.1 i) (λ e. (cc, cc))
    (Decides-and _ _ (text_eq-Decides (eid_text x) (eid_text y)) (ids-Decides xs ys))

-- standard entity types are equal exactly where they stand for the same
pub standard-Decides : (a b : StandardValidatorEntityType) → Decides ((standard_eq.ghosts).eq a b) (plain_standard a ≡ plain_standard b)
standard-Decides a b =
    Decides-like _ (λ all i. standard_kind (all.0 i) (all.1.0 i) (all.1.1 i))
    (λ e. (ap kind_fields e, (ap kind_openness e, ap kind_tags e)))
    (Decides-and _ _ (attributes-Decides a.attributes b.attributes)
    (Decides-and _ _ (open_tag-Decides a.open_attributes b.open_attributes) (tags-Decides a.tags b.tags)))

-- kinds of entity types are equal exactly where they stand for the same
pub kinds-Decides : (a b : ValidatorEntityTypeKind) → Decides ((kind_eq.ghosts).eq a b) (plain_kind a ≡ plain_kind b)
kinds-Decides (variant.Standard a) (variant.Standard b) = standard-Decides a b
kinds-Decides (variant.Enum a) (variant.Enum b) = Decides-like _ (ap enumerated_kind) (λ e. cc)
    (ids-Decides (a.head ∷ a.tail.items) (b.head ∷ b.tail.items))
kinds-Decides variant.External variant.External = (λ _. refl, λ _. refl)
kinds-Decides a b = none (λ e. cc)

-- entity types are equal exactly where their names, their kinds and their descendants are
pub entity_types-Same : (a b : ValidatorEntityType) → Decides ((entity_type_eq.ghosts).eq a b)
    ((entity_type_of a ≡ entity_type_of b) × SameItems (descendant_names a) (descendant_names b))
entity_types-Same a b =
    Decides-like _ (λ all. ((λ i. record { name = all.0 i; kind = all.1.1 i }), all.1.0))
    (λ same. (ap (λ (it : PlainEntityType). it.name) same.0, (same.1, ap (λ (it : PlainEntityType). it.kind) same.0)))
    (Decides-and _ _ (entity_type_eq-same a.name b.name) (Decides-and _ _ (ordered_types-Decides a.descendants.keys b.descendants.keys a.in_order b.in_order) (kinds-Decides a.kind b.kind)))
