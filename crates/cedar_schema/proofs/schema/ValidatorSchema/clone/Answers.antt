use Rattle.cedar_schema.proofs.Itself.{actions_themselves, schema_itself, types_themselves}
use Rattle.cedar_schema.proofs.schema.ValidatorSchema.clone.Goals as goal
use Rattle.cedar_schema.specs.Words.{action_entries, schema_entries, schema_of}

-- another owner holds what the schema holds, which is the same as itself
pub returns-clause-schema : goal.returns-clause-schema
returns-clause-schema c =
    let same = rw c.in-Some.is at c.in_ok-content.ensures in
    rw same (schema_itself (schema_of c.args.self.now))

pub returns-clause-entity_types : goal.returns-clause-entity_types
returns-clause-entity_types c =
    let same = rw c.in-Some.is at c.in_ok-content.ensures in
    rw same (types_themselves (schema_entries c.args.self.now))

pub returns-clause-actions : goal.returns-clause-actions
returns-clause-actions c =
    let same = rw c.in-Some.is at c.in_ok-content.ensures in
    rw same (actions_themselves (action_entries c.args.self.now))
