use Rattle.std.proofs.Common.{◌≡◌, ◌+◌, ◌++◌, ◌∷◌, [], ap, arith, map, sym, take, ◌∙◌}
use Rattle.std.proofs.lemmas.List.{map_more}
use Rattle.cedar_diagnosis.proofs.LinkLemmas.{targets_more, targets_none}
use Rattle.cedar_diagnosis.proofs.cycles.targets_of.Goals as goal
use Rattle.cedar_diagnosis.specs.Links.{link_told}

pub loop-link-init : goal.loop-link-init
loop-link-init g c = record {
  len = omega (arith, c.in_ok-targets.ensures.len, c.in_ok-targets.targets.ok.0);
  are = targets_none (map g.F.FaultKind.fault c.args.names.now) c.in_ok-targets.targets.items c.in_ok-targets.ensures.empty;
}

pub loop-link-preserved : goal.loop-link-preserved
loop-link-preserved g c =
    let fault = g.F.FaultKind.fault in
    let told = link_told fault in
    let links = c.args.links.now in
    let item = c.link-item.result in
    let one_more : map told (take (c.loop-link.link-index + 1) links) ≡ map told (take c.loop-link.link-index links) ++ told item ∷ [] =
    map_more told links c.loop-link.link-index item c.loop-link-test.true
    ∙ ap (λ each. map told (take c.loop-link.link-index links) ++ told each ∷ []) (sym c.link-item.is) in
    record {
      len = c.in_ok-add_target.ensures.len ∙ c.loop-link.invariant.len;
      are = rw one_more (targets_more (map fault c.args.names.now) (map told (take c.loop-link.link-index links)) (told item)
          c.loop-link.targets.items c.add_target.new.targets.items c.loop-link.invariant.are c.in_ok-add_target.ensures);
    }
