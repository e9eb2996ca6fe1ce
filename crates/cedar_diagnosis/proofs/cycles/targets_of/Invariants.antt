use Rattle.std.proofs.Common.{◌≡◌, length, map, take}
use Rattle.cedar_diagnosis.proofs.cycles.targets_of.Given as goal
use Rattle.cedar_diagnosis.specs.Links.{AreLinkTargets, link_told}

abbrev pub invariant-loop-link : goal.invariant-loop-link
invariant-loop-link g l = record {
  len : length l.targets.items ≡ length l.names;
  are : AreLinkTargets (map g.F.FaultKind.fault l.names) (map (link_told g.F.FaultKind.fault) (take l.link-index l.links)) l.targets.items;
}
