use Rattle.std.proofs.Common.{map}
use Rattle.std.proofs.lemmas.Result.{IfOk-weaker}
use Rattle.cedar_schema.proofs.schema.ValidatorSchema.action_entities.Goals as goal
use Rattle.cedar_schema.specs.Words.{AreActionEntities, action_entries, entities_of, plain_action_entity, plain_entry, schema_with}

pub returns : goal.returns
returns c =
    let schema = c.args.self.now in
    IfOk-weaker c.action_entities.result _
    (λ entities. AreActionEntities (schema_with (map plain_entry schema.content.tables.entity_types.entries) (action_entries schema) (map plain_action_entity (entities_of entities))))
    (λ entities are. are (map plain_entry schema.content.tables.entity_types.entries)) (rw c.content.ensures at c.action_entities.ensures)
