use Rattle.std.proofs.Common.{sym, ◌∙◌}
use Rattle.cedar_schema_writer.proofs.Keyed.{action_found}
use Rattle.cedar_schema_writer.proofs.known.Known.has_action.Goals as goal

pub returns : goal.returns
returns c =
    let found = action_found c.args.self.now.actions.now.entries c.args.uid.now in
    (λ there. found.0 (sym c.contains_key.ensures ∙ there), λ among. c.contains_key.ensures ∙ found.1 among)
