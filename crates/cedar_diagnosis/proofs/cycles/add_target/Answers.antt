use Rattle.std.proofs.Common.{◌≡◌, ◌++◌, ◌∷◌, [], ◌<◌, ap, arith, length, map, sym, ◌∙◌}
use Rattle.std.proofs.lemmas.List.{length-map}
use Rattle.std.proofs.lemmas.Option.{slice_get_within}
use Rattle.cedar_diagnosis.proofs.KeyLemmas.{once_in_order}
use Rattle.cedar_diagnosis.proofs.LinkLemmas.{one_target}
use Rattle.cedar_diagnosis.proofs.cycles.add_target.Goals as goal
use Rattle.cedar_diagnosis.specs.Links.{link_told}
use Rattle.cedar_graph.proofs.Lists.{items_at-read}
use Rattle.cedar_graph.specs.Words.{items_at}

pub returns : goal.returns
returns g c =
    let fault = g.F.FaultKind.fault in
    let names = map fault c.args.names.now in
    let targets = c.args.targets.now.items in
    let from = c.in-Some.from in
    let standing = slice_get_within names from (fault c.args.link.now.from) c.in-Some.ensures.found in
    let within : from < length targets = omega (arith, standing, length-map c.args.names.now fault, c.requires.len, c.args.targets.now.ok.0) in
    let pushed : c.push.new.self.items ≡ items_at targets from ++ c.in-Some-number_of.to ∷ [] =
    c.in_ok-push.ensures.items
    ∙ ap (λ items. items ++ c.in-Some-number_of.to ∷ []) (ap (λ list. list.items) c.index_mut.ensures.value
    ∙ sym (items_at-read targets from c.index_mut.result.now within)) in
    one_target names (link_told fault c.args.link.now) targets from c.in-Some-number_of.to c.push.new.self
    (once_in_order g.F.Key.Ord.cmp fault g.met.F.FaultKind.ties c.args.names.now c.requires.ordered) within pushed c.in-Some.ensures.found
    c.in-Some-number_of.ensures.found
