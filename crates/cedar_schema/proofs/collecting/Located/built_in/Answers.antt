use Rattle.std.proofs.Common.{ap, map}
use Rattle.cedar_schema.proofs.collecting.Located.built_in.Goals as goal
use Rattle.cedar_schema.specs.Words.{shown_name}

pub returns-clause-shown : goal.returns-clause-shown
returns-clause-shown c = record {
  common_types = ap (map shown_name) c.new.ensures.items;
  namespaces = c.in_ok-built_in_namespaces.ensures;
}
