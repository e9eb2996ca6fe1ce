use Rattle.std.proofs.Common.{rules, sym, subst}
use Rattle.cedar_schema.proofs.SchemaNames.{closed_under_names, known_names}
use Rattle.cedar_schema.proofs.schema.ValidatorSchema.try_validate.Goals as goal
use Rattle.cedar_schema.specs.Words.{ClosesSchema, PlainSchema, schema_of}

pub returns-in_err-tables-clause-fault : goal.returns-in_err-tables-clause-fault
returns-in_err-tables-clause-fault c =
    let at_fault = c.in_err-tables.ensures.fault (schema_of c.args.self).action_entities in
    search (rules, at_fault)

pub from_parts-requires-clause-under_names : goal.from_parts-requires-clause-under_names
from_parts-requires-clause-under_names c =
    let closes = c.in_ok-tables.ensures.closed (schema_of c.args.self).action_entities in
    closed_under_names (schema_of c.args.self) _ closes (known_names c.args.self)

pub returns-clause-closed : goal.returns-clause-closed
returns-clause-closed c =
    let P : PlainSchema → Type 0 = ClosesSchema (schema_of c.args.self) in
    subst P (sym c.in_ok-from_parts.ensures.schema) (c.in_ok-tables.ensures.closed (schema_of c.args.self).action_entities)

pub from_parts-requires-clause-keys : goal.from_parts-requires-clause-keys
from_parts-requires-clause-keys c = record {
  of_types = c.in_ok-tables.ensures.types_located c.args.self.content.types_located;
  of_actions = c.in_ok-tables.ensures.actions_located c.args.self.content.actions_located;
}
