use Rattle.std.proofs.Common.{◌∷◌, ◌++◌, ap, ◌∙◌, false}
use Rattle.cedar_ast.proofs.ShownLemmas.{same_shown}
use Rattle.cedar_fragments.proofs.CopyLemmas.{same_flat}
use Rattle.cedar_fragments.proofs.namespace.actions.ActionFragment.clone.Goals as goal
use Rattle.cedar_fragments.specs.Words.{fragment_parent, parent_locs}

pub returns : goal.returns
returns g c = record {
  body = λ refer refer_action fair fair_action.
      let shown = fragment_parent g.row.A.Denot refer_action in
      let parents = same_shown _ shown (λ parent copy ran. ran.says.met.reference refer_action fair_action ∙ ap shown ran.shows)
      c.args.self.now.parents.items c.in_ok-copied_items.field-0.items c.in_ok-copied_items.ensures in
      λ i. record {
        has_attributes = false;
        parents = parents i;
        applies_to = c.in_ok-copied_requests.ensures.requests refer fair i;
      };
  locs = λ locs action_locs fair fair_action.
      let shown = parent_locs g.row.A.Denot action_locs in
      let parents = same_flat _ shown (λ parent copy ran. ran.says.met.locs action_locs fair_action ∙ ap shown ran.shows)
      c.args.self.now.parents.items c.in_ok-copied_items.field-0.items c.in_ok-copied_items.ensures in
      λ i. c.args.self.now.loc ∷ c.in_ok-copied_requests.ensures.locs locs fair i ++ parents i;
}
