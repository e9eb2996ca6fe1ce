use Rattle.std.proofs.Common.{◌++◌, rules}
use Rattle.cedar_fragments.proofs.namespace.definition.ValidatorNamespaceDef.clone.Goals as goal

pub returns : goal.returns
returns g c = record {
  declarations = λ refer refer_action fair fair_action i.
      c.in_ok-clone.ensures.declarations refer fair i ++ c.in_ok-clone-2.ensures.declarations refer fair i
      ++ c.in_ok-clone-3.ensures.declarations refer refer_action fair fair_action i;
  locs = λ locs action_locs fair fair_action i.
      c.in_ok-clone.ensures.locs locs fair i ++ c.in_ok-clone-2.ensures.locs locs fair i
      ++ c.in_ok-clone-3.ensures.locs locs action_locs fair fair_action i;
  name = search rules;
  loc = search rules;
  common_types = search rules;
}
