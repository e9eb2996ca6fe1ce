use Rattle.std.proofs.Common.{ap, map}
use Rattle.cedar_schema.proofs.collected_fragments.CollectedFragments.with_room.Goals as goal
use Rattle.cedar_schema.specs.Words.{shown_common_type}

pub returns : goal.returns
returns g c = record {
  located = record {
    shown = c.in_ok-built_in.ensures.shown;
    types = ap (map shown_common_type) c.in_ok-built_in.ensures.types;
  };
  gathered = c.in_ok-with_room.ensures;
}
