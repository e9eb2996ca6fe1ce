use Rattle.std.proofs.Common.{ap, ◌∙◌}
use Rattle.cedar_ast.proofs.ShownLemmas.{same_shown}
use Rattle.cedar_fragments.proofs.CopyLemmas.{same_flat}
use Rattle.cedar_fragments.proofs.namespace.entity_types.EntityTypesDef.clone.Goals as goal
use Rattle.cedar_fragments.specs.Words.{entity_type_declaration, entity_type_locs}

pub returns : goal.returns
returns g c = record {
  declarations = λ refer fair.
      let shown = entity_type_declaration g.row.N.Denot refer in
      same_shown _ shown (λ def copy ran. ran.says.met.declaration refer fair ∙ ap shown ran.shows)
      c.args.self.now.defs.items c.in_ok-defs.defs.items c.in_ok-defs.ensures;
  locs = λ locs fair.
      let shown = entity_type_locs g.row.N.Denot locs in
      same_flat _ shown (λ def copy ran. ran.says.met.locs locs fair ∙ ap shown ran.shows)
      c.args.self.now.defs.items c.in_ok-defs.defs.items c.in_ok-defs.ensures;
}
