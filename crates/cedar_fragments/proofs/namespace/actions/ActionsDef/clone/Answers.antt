use Rattle.std.proofs.Common.{ap, ◌∙◌}
use Rattle.cedar_ast.proofs.ShownLemmas.{same_shown}
use Rattle.cedar_fragments.proofs.CopyLemmas.{same_flat}
use Rattle.cedar_fragments.proofs.namespace.actions.ActionsDef.clone.Goals as goal
use Rattle.cedar_fragments.specs.Words.{action_def_locs, action_fragment_declaration}

pub returns : goal.returns
returns g c = record {
  declarations = λ refer refer_action fair fair_action.
      let shown = action_fragment_declaration g.row.N.Denot refer g.row.A.Denot refer_action in
      same_shown _ shown (λ def copy ran. ran.says.met.declaration refer refer_action fair fair_action ∙ ap shown ran.shows)
      c.args.self.now.defs.items c.in_ok-defs.defs.items c.in_ok-defs.ensures;
  locs = λ locs action_locs fair fair_action.
      let shown = action_def_locs g.row.N.Denot locs g.row.A.Denot action_locs in
      same_flat _ shown (λ def copy ran. ran.says.met.locs locs action_locs fair fair_action ∙ ap shown ran.shows)
      c.args.self.now.defs.items c.in_ok-defs.defs.items c.in_ok-defs.ensures;
}
