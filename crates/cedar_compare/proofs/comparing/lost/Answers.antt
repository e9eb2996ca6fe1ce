use Rattle.cedar_schema.proofs.Lookups.{schema_keyed}
use Rattle.cedar_compare.proofs.comparing.lost.Goals as goal

pub losses-requires-clause-versions : goal.losses-requires-clause-versions
losses-requires-clause-versions c = record {
  old_keyed = schema_keyed c.args.old.schema.now;
  new_keyed = schema_keyed c.args.new.schema.now;
  sampled = c.requires.old.sampled;
  new_actions = c.requires.new_actions;
}
