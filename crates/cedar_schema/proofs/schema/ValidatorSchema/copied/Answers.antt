use Rattle.std.proofs.Common.{map, subst, sym}
use Rattle.std.proofs.lemmas.Result.{IfOk-weaker}
use Rattle.cedar_schema.proofs.SchemaKeys.{keys_given}
use Rattle.cedar_schema.proofs.SchemaNames.{entities_known, entities_of_copy, known_names, same_under_names}
use Rattle.cedar_schema.proofs.schema.ValidatorSchema.copied.Goals as goal
use Rattle.cedar_schema.specs.Words.{PlainSchema, SameSchema, plain_action_entry, plain_entry, schema_listing, schema_of}
use Rattle.cedar_schema_laws.proofs.SameEntities.{same_entities}
use Rattle.cedar_validation.proofs.CopyLemmas.{action_copies_located, actions_same, type_copies_located, types_same}

-- the copies have the names of the originals, which stand under their own
pub from_parts-requires-clause-under_names : goal.from_parts-requires-clause-under_names
from_parts-requires-clause-under_names c =
    let self = c.args.self.now in
    let types_copied = rw c.content-content.ensures at c.in_ok-copied_types.ensures in
    let actions_copied = rw c.content-content.ensures at c.in_ok-actions.ensures in
    let types = c.in_ok-copied_types.field-0.entries in
    let actions = c.in_ok-actions.actions.entries in
    same_under_names (map plain_entry self.content.tables.entity_types.entries) (map plain_entry types)
    (map plain_action_entry self.content.tables.actions.entries) (map plain_action_entry actions) (schema_of self).action_entities _
    (types_same self.content.tables.entity_types.entries types types_copied)
    (actions_same self.content.tables.actions.entries actions actions_copied) (known_names self)

-- copied tables are the same, and entities made of the same actions are the same
pub returns-clause-schema : goal.returns-clause-schema
returns-clause-schema c =
    let self = c.args.self.now in
    let types_copied = rw c.content-content.ensures at c.in_ok-copied_types.ensures in
    let actions_copied = rw c.content-content.ensures at c.in_ok-actions.ensures in
    let types = c.in_ok-copied_types.field-0.entries in
    let actions = c.in_ok-actions.actions.entries in
    let copied : PlainSchema = schema_listing (map plain_entry types) actions in
    let turn = actions_same self.content.tables.actions.entries actions actions_copied in
    let same : SameSchema copied (schema_of self) = record {
      entity_types = types_same self.content.tables.entity_types.entries types types_copied;
      actions = turn;
      action_entities = same_entities copied (schema_of self) (entities_of_copy self (map plain_entry types) actions turn)
          (entities_known self) turn;
    } in
    let P : PlainSchema → Type 0 = λ schema. SameSchema schema (schema_of self) in
    IfOk-weaker c.from_parts.result _ _ (λ copy is. subst P (sym is) same) c.from_parts.ensures.schema

-- every schema has its keys located as in what stands under them
pub returns-clause-keys : goal.returns-clause-keys
returns-clause-keys c = keys_given _ c.from_parts.result c.from_parts.ensures.schema

-- copies are located as the originals, whose keys are located as in their nodes
pub from_parts-requires-clause-keys : goal.from_parts-requires-clause-keys
from_parts-requires-clause-keys c =
    let self = c.args.self.now in
    let types_copied = rw c.content-content.ensures at c.in_ok-copied_types.ensures in
    let actions_copied = rw c.content-content.ensures at c.in_ok-actions.ensures in
    record {
      of_types = type_copies_located self.content.tables.entity_types.entries c.in_ok-copied_types.field-0.entries types_copied
          self.content.types_located;
      of_actions = action_copies_located self.content.tables.actions.entries c.in_ok-actions.actions.entries actions_copied
          self.content.actions_located;
    }
