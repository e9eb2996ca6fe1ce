use Rattle.std.proofs.Common.{map}
use Rattle.std.proofs.lemmas.Grind.{merely}
use Rattle.cedar_schema.proofs.SchemaNames.{schema_in_order}
use Rattle.cedar_schema.proofs.schema.ValidatorSchema.from_parts.Goals as goal
use Rattle.cedar_schema.specs.Words.{plain_action_entry, plain_entry}
use Rattle.cedar_schema_elements.specs.Words.{listed_entities}

pub invariant_of-content : goal.invariant_of-content
invariant_of-content c =
    let types = c.args.parts.tables.entity_types.entries in
    let actions = c.args.parts.tables.actions.entries in
    let entities = listed_entities (map plain_action_entry actions) in
    record {
      environments_of_actions = merely (c.in_ok-environments.ensures (map plain_entry types) entities);
      in_order = merely (schema_in_order types actions entities c.keys_ascend.ensures c.keys_ascend-2.ensures);
      under_names = merely c.requires.under_names;
      types_located = c.requires.keys.of_types;
      actions_located = c.requires.keys.of_actions;
    }
