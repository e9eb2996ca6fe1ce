-- Schemas are equal exactly where they are the same, ignoring locations.
use Rattle.std.proofs.Common.{◌≡◌, ◌∙◌, ◌&&◌, Bool, true, false, [], ◌∷◌, List, map, refl, ap, subst, sym}
use Rattle.std.proofs.lemmas.Bool.Decides.{Decides-and, Decides-like}
use Rattle.std.specs.Bool.{Decides}
use Rattle.std.specs.Cmp.Lexicographic.{pointwise}
use Rattle.std.specs.Map.{keys_of, values_of}
use Rattle.cedar_ast.proofs.Names.{entity_type_eq-same}
use Rattle.cedar_ast.proofs.Uids.{entity_uid_eq-same}
use Rattle.cedar_ast.specs.contracts.entity_type.EntityTypePartialEq.TheImpl as name_eq
use Rattle.cedar_ast.specs.contracts.entity_uid.EntityUIDPartialEq.TheImpl as uid_eq
use Rattle.cedar_schema.proofs.SchemaNames.{entities_known}
use Rattle.cedar_schema.specs.Words.{EntityType, EntityUID, HoldsPairwise, PlainEntityType, SameAction, SameEntityType, SameSchema, ValidatorActionId, ValidatorEntityType, ValidatorSchema, plain_action_entry, plain_entry, schema_of}
use Rattle.cedar_schema.specs.contracts.schema.ValidatorSchemaPartialEq.TheImpl as schema_eq
use Rattle.cedar_schema_elements.proofs.ActionEquality.{actions-Same}
use Rattle.cedar_schema_elements.proofs.EntityTypeEquality.{entity_types-Same}
use Rattle.cedar_schema_elements.specs.contracts.action_id.ValidatorActionIdPartialEq.TheImpl as action_eq
use Rattle.cedar_schema_elements.specs.contracts.entity_type.ValidatorEntityTypePartialEq.TheImpl as entity_type_eq
use Rattle.cedar_schema_laws.proofs.SameEntities.{same_entities}
use Rattle.cedar_types.proofs.EqualityLaws.{none}

-- the test of two entries of the map of entity types
abbrev same_entry : EntityType × ValidatorEntityType → EntityType × ValidatorEntityType → Bool
same_entry p q = (name_eq.ghosts).eq p.0 q.0 && (entity_type_eq.ghosts).eq p.1 q.1

-- the test of two entries of the map of actions
abbrev same_action_entry : EntityUID × ValidatorActionId → EntityUID × ValidatorActionId → Bool
same_action_entry p q = (uid_eq.ghosts).eq p.0 q.0 && (action_eq.ghosts).eq p.1 q.1

-- two entries are equal exactly where their entity types are the same under one name
entry-Same : (p q : EntityType × ValidatorEntityType) → Decides (same_entry p q) (SameEntityType (plain_entry p) (plain_entry q))
entry-Same p q =
    Decides-like _
    (λ both. record {
      key = both.0;
      name = ap (λ (it : PlainEntityType). it.name) both.1.0;
      kind =
          ap (λ (it : PlainEntityType). it.kind) both.1.0;
      descendants = both.1.1;
    })
    (λ same. (same.key, ((λ i. record { name = same.name i; kind = same.kind i }), same.descendants)))
    (Decides-and _ _ (entity_type_eq-same p.0 q.0) (entity_types-Same p.1 q.1))

-- two entries are equal exactly where their actions are the same under one uid
action_entry-Same : (p q : EntityUID × ValidatorActionId)
    → Decides (same_action_entry p q) (SameAction (plain_action_entry p) (plain_action_entry q))
action_entry-Same p q =
    Decides-like _
    (λ both. record { key = both.0; uid = both.1.0; kind = both.1.1; descendants = both.1.2 })
    (λ same. (same.key, (same.uid, same.kind, same.descendants)))
    (Decides-and _ _ (entity_uid_eq-same p.0 q.0) (actions-Same p.1 q.1))

-- lists are equal by a test exactly where what they stand for is pairwise the same, if the test
-- decides that of each two items
pairwise-Same : {A P : Type 0} (test : A → A → Bool) (plain : A → P) (Same : P → P → Type 0)
    → ((p q : A) → Decides (test p q) (Same (plain p) (plain q))) → (xs ys : List A)
    → Decides (pointwise test xs ys) (HoldsPairwise Same (map plain xs) (map plain ys))
pairwise-Same test plain Same decides [] [] = (λ _. tt, λ _. refl)
pairwise-Same test plain Same decides [] (y ∷ ys) = none (λ same. same)
pairwise-Same test plain Same decides (x ∷ xs) [] = none (λ same. same)
pairwise-Same test plain Same decides (x ∷ xs) (y ∷ ys) = Decides-and _ _ (decides x y) (pairwise-Same test plain Same decides xs ys)

-- of four tests, those of the first two and of the others may be taken together in either way
and_crossed : (a b c d : Bool) → ((a && b) && (c && d)) ≡ ((a && c) && (b && d))
and_crossed false b c d = refl
and_crossed true true c d = refl
and_crossed true false true d = refl
and_crossed true false false d = refl

-- the keys of two lists of entries and their values are pairwise equal where the entries are
columns_equal : {K V : Type 0} (eq : K → K → Bool) (same : V → V → Bool) (xs ys : List (K × V))
    → (pointwise eq (keys_of xs) (keys_of ys) && pointwise same (values_of xs) (values_of ys))
    ≡ pointwise (λ p q. eq p.0 q.0 && same p.1 q.1) xs ys
columns_equal eq same [] [] = refl
columns_equal eq same [] (y ∷ ys) = refl
columns_equal eq same (x ∷ xs) [] = refl
columns_equal eq same (x ∷ xs) (y ∷ ys) =
    and_crossed (eq x.0 y.0) (pointwise eq (keys_of xs) (keys_of ys)) (same x.1 y.1) (pointwise same (values_of xs) (values_of ys))
    ∙ ap (λ rest. (eq x.0 y.0 && same x.1 y.1) && rest) (columns_equal eq same xs ys)

-- schemas are equal exactly where they are the same
pub schemas-Same : (a b : ValidatorSchema) → Decides ((schema_eq.ghosts).eq a b) (SameSchema (schema_of a) (schema_of b))
schemas-Same a b =
    Decides-like _
    (λ both. record {
      entity_types = both.0;
      actions = both.1;
      action_entities = same_entities (schema_of a) (schema_of b) (entities_known a)
          (entities_known b) both.1;
    })
    (λ same. (same.entity_types, same.actions))
    (Decides-and _ _
    (subst (λ answer. Decides answer (HoldsPairwise SameEntityType (map plain_entry a.content.tables.entity_types.entries)
    (map plain_entry b.content.tables.entity_types.entries)))
    (sym (columns_equal (name_eq.ghosts).eq (entity_type_eq.ghosts).eq a.content.tables.entity_types.entries b.content.tables.entity_types.entries))
    (pairwise-Same same_entry plain_entry SameEntityType entry-Same a.content.tables.entity_types.entries b.content.tables.entity_types.entries))
    (subst (λ answer. Decides answer (HoldsPairwise SameAction (map plain_action_entry a.content.tables.actions.entries)
    (map plain_action_entry b.content.tables.actions.entries)))
    (sym (columns_equal (uid_eq.ghosts).eq (action_eq.ghosts).eq a.content.tables.actions.entries b.content.tables.actions.entries))
    (pairwise-Same same_action_entry plain_action_entry SameAction action_entry-Same a.content.tables.actions.entries b.content.tables.actions.entries)))
