use Rattle.std.proofs.Common.{map, refl}
use Rattle.cedar_ast.proofs.Basics.{OnOk-map}
use Rattle.cedar_ast.specs.Words.{name_of}
use Rattle.cedar_name_resolution.specs.Words.{listed_names, namespace_name}
use Rattle.cedar_schema_text_writer.proofs.NamesGiven.{definition_held}
use Rattle.cedar_schema_text_writer.proofs.known.add_definition.Goals as goal

pub returns : goal.returns
returns c =
    OnOk-map c.add_action_type.result c.add_action_type.ensures (λ last.
    definition_held (namespace_name c.args.namespace) c.args.it.now (listed_names c.args.lists.now) _ (map name_of c.add_entity_types.new.names.items)
    c.in_ok-add_common_types.ensures c.in_ok-add_entity_types.ensures last refl)
