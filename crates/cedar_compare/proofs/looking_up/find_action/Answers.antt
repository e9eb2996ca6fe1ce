use Rattle.std.specs.Option.{option_copied}
use Rattle.cedar_ast.specs.EntityUID.{uid_of}
use Rattle.cedar_schema.proofs.Lookups.{action_at}
use Rattle.cedar_compare.proofs.looking_up.find_action.Goals as goal

pub returns : goal.returns
returns c = action_at c.args.schema.now (uid_of c.args.uid.now) (option_copied c.get_action_id.result) c.get_action_id.ensures
