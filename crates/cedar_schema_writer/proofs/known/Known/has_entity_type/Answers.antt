use Rattle.std.proofs.Common.{sym, ◌∙◌}
use Rattle.cedar_schema_writer.proofs.Keyed.{type_found}
use Rattle.cedar_schema_writer.proofs.known.Known.has_entity_type.Goals as goal

pub returns : goal.returns
returns c =
    let found = type_found c.args.self.now.entity_types.now.entries c.args.name.now in
    (λ there. found.0 (sym c.contains_key.ensures ∙ there), λ among. c.contains_key.ensures ∙ found.1 among)
