-- A schema is the same as itself, and its entries are copies of themselves.
use Rattle.std.proofs.Common.{List, [], ◌∷◌, refl}
use Rattle.cedar_schema.specs.Words.{ActionEntity, EntityType, EntityUID, HoldsPairwise, IsActionCopied, IsTypeCopied, PlainName, PlainSchema, PlainUid, SameAction, SameActionEntity, SameEntityType, SameItems, SameSchema, SchemaAction, SchemaEntityType, ValidatorActionId, ValidatorEntityType, plain_action_entry, plain_entry}
use Rattle.cedar_schema_semantics.proofs.SameActions.{kind_itself}

-- what holds of each item and itself holds pairwise of a list and itself
pairwise_itself : {A : Type 0} (R : A → A → Type 0) → ((x : A) → R x x) → (xs : List A) → HoldsPairwise R xs xs
pairwise_itself R each [] = tt
pairwise_itself R each (x ∷ xs) = (each x, pairwise_itself R each xs)

-- a list has the items that it has
items_itself : {A : Type 0} (xs : List A) → SameItems xs xs
items_itself xs = λ item. (λ among. among, λ among. among)

type_itself : (it : PlainName × SchemaEntityType) → SameEntityType it it
type_itself it = record { key = refl; name = refl; kind = refl; descendants = items_itself it.1.descendants }

action_itself : (it : PlainUid × SchemaAction) → SameAction it it
action_itself it = record { key = refl; uid = refl; kind = kind_itself it.1.kind; descendants = items_itself it.1.descendants }

entity_itself : (it : ActionEntity) → SameActionEntity it it
entity_itself it = record { uid = refl; attributes = refl; tags = refl; ancestors = items_itself it.ancestors }

-- a schema is the same as itself
pub schema_itself : (schema : PlainSchema) → SameSchema schema schema
schema_itself schema = record {
  entity_types = pairwise_itself SameEntityType type_itself schema.entity_types;
  actions = pairwise_itself SameAction action_itself schema.actions;
  action_entities = pairwise_itself SameActionEntity entity_itself schema.action_entities;
}

-- entity types are copies of themselves
pub types_themselves : (types : List (EntityType × ValidatorEntityType)) → HoldsPairwise IsTypeCopied types types
types_themselves =
    pairwise_itself IsTypeCopied
    (λ it. record { same = type_itself (plain_entry it); key_loc = refl; name_loc = refl; attributes = λ name. refl; loc = refl })

-- and so are actions
pub actions_themselves : (actions : List (EntityUID × ValidatorActionId)) → HoldsPairwise IsActionCopied actions actions
actions_themselves =
    pairwise_itself IsActionCopied
    (λ it. record {
      same = action_itself (plain_action_entry it);
      requests = refl;
      key_loc = refl;
      key_type_loc = refl;
      name_loc = refl;
      name_type_loc = refl;
      loc = refl;
    })
