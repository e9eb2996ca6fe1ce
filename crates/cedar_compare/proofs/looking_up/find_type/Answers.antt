use Rattle.std.specs.Option.{option_copied}
use Rattle.cedar_ast.specs.EntityType.{type_name}
use Rattle.cedar_schema.proofs.Lookups.{type_at}
use Rattle.cedar_compare.proofs.looking_up.find_type.Goals as goal

pub returns : goal.returns
returns c = type_at c.args.schema.now (type_name c.args.name.now) (option_copied c.get_entity_type.result) c.get_entity_type.ensures
