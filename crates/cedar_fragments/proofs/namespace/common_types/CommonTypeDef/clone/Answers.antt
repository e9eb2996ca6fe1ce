use Rattle.std.proofs.Common.{◌∷◌, rules}
use Rattle.cedar_fragments.proofs.namespace.common_types.CommonTypeDef.clone.Goals as goal
use Rattle.cedar_fragments.specs.Words.{common_type, declared_as}

pub returns : goal.returns
returns g c = record {
  declaration = λ refer fair i. declared_as (c.in_ok-clone.ensures.name i) (common_type (c.in_ok-clone-2.ensures.written refer fair i));
  locs = λ locs fair i. c.in_ok-clone.ensures.loc i ∷ c.in_ok-clone-2.ensures.locs locs fair i;
  name = search rules;
}
