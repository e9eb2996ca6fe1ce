use Rattle.cedar_queries.proofs.RoleLemmas.{types_pairwise}
use Rattle.cedar_queries.proofs.requests.principals.Goals as goal
use Rattle.cedar_queries.specs.declared.requests.Role.TheVariants as role

pub returns : goal.returns
returns c = types_pairwise role.Principal c.args.actions.now.entries c.values.result c.values.ensures.rest
