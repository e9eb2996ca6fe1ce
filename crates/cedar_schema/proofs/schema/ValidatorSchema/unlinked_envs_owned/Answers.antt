use Rattle.std.proofs.Common.{map}
use Rattle.cedar_schema.proofs.schema.ValidatorSchema.unlinked_envs_owned.Goals as goal
use Rattle.cedar_schema.specs.Words.{owned_environment, schema_of}
use Rattle.cedar_schema_laws.proofs.MereLemmas.{known_environments}

pub returns : goal.returns
returns c =
    let schema = c.args.self.now in
    let known = known_environments (schema_of schema) (map owned_environment schema.content.environments.items) schema.content.environments_of_actions in
    rw (c.deref.ensures.value, c.content.ensures) known
