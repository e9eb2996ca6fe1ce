use Rattle.std.proofs.Common.{ap, ◌∙◌}
use Rattle.cedar_ast.proofs.ShownLemmas.{same_shown}
use Rattle.cedar_fragments.proofs.CopyLemmas.{same_flat, same_namespace}
use Rattle.cedar_fragments.proofs.namespace.fragment.ValidatorSchemaFragment.clone.Goals as goal
use Rattle.cedar_fragments.specs.Words.{definition_common_names, definition_declarations, definition_loc, definition_locs, definition_name, definition_namespace, definition_namespaces, named_namespace}

-- each copy declares what its original declares, also definition by definition, and keeps the
-- locations, the namespaces and the names of the common types
pub returns : goal.returns
returns g c =
    let definitions = c.args.self.now.definitions.items in
    let copies = c.in_ok-definitions.definitions.items in
    let turn = c.in_ok-definitions.ensures in
    let name = definition_name g.row.N.Denot g.row.A.Denot in
    let loc = definition_loc g.row.N.Denot g.row.A.Denot in
    let common = definition_common_names g.row.N.Denot g.row.A.Denot in
    record {
      declarations = λ refer refer_action fair fair_action.
          let shown = definition_declarations g.row.N.Denot refer g.row.A.Denot refer_action in
          same_flat _ shown (λ def copy ran. ran.says.met.declarations refer refer_action fair fair_action ∙ ap shown ran.shows)
          definitions copies turn;
      pairwise = λ refer refer_action fair fair_action.
          let shown = definition_declarations g.row.N.Denot refer g.row.A.Denot refer_action in
          same_shown _ shown (λ def copy ran. ran.says.met.declarations refer refer_action fair fair_action ∙ ap shown ran.shows)
          definitions copies turn;
      locs = λ locs action_locs fair fair_action.
          let shown = definition_locs g.row.N.Denot locs g.row.A.Denot action_locs in
          same_flat _ shown (λ def copy ran. ran.says.met.locs locs action_locs fair fair_action ∙ ap shown ran.shows)
          definitions copies turn;
      namespaces = same_shown _ (definition_namespace g.row.N.Denot g.row.A.Denot)
          (λ def copy ran. same_namespace def.namespace copy.namespace (ran.says.met.name ∙ ap name ran.shows))
          definitions copies turn;
      named = same_flat _ (definition_namespaces g.row.N.Denot g.row.A.Denot)
          (λ def copy ran i. named_namespace ((ran.says.met.name ∙ ap name ran.shows) i) ((ran.says.met.loc ∙ ap loc ran.shows) i))
          definitions copies turn;
      common_types = same_flat _ common (λ def copy ran. ran.says.met.common_types ∙ ap common ran.shows)
          definitions copies turn;
    }
