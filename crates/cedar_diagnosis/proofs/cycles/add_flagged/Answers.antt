use Rattle.std.proofs.Common.{◌≡◌, ap, map, get_or, refl, subst, sym, ◌∙◌}
use Rattle.std.proofs.lemmas.Bool.{false≢true}
use Rattle.cedar_diagnosis.proofs.AddingLemmas.{adds_found, adds_nothing}
use Rattle.cedar_diagnosis.proofs.KeyLemmas.{once_in_order}
use Rattle.cedar_diagnosis.proofs.LinkLemmas.{at_once}
use Rattle.cedar_diagnosis.proofs.cycles.add_flagged.Goals as goal
use Rattle.cedar_diagnosis.specs.Links.{IsAt, IsFlagged, link_told}
use Rattle.std.proofs.Common.{false}

-- a name whose flag is set is added
pub returns-then-flags-number : goal.returns-then-flags-number
returns-then-flags-number g c =
    let fault = g.L.FaultKind.fault in
    adds_found c.add_source.result (IsFlagged (map fault c.args.names.now) c.args.flags.now (link_told fault c.args.link.now))
    (map fault c.args.keys.now.keys) (map fault c.add_source.new.keys.keys) (fault c.args.link.now.from)
    (refl, c.in-Some.number, c.in-Some.ensures.found, c.if-flags-number.true) (λ item flagged. flagged.0) c.add_source.ensures

-- and another isn't
pub returns : goal.returns
returns g c =
    let fault = g.L.FaultKind.fault in
    let names = map fault c.args.names.now in
    let once = once_in_order g.L.Key.Ord.cmp fault g.met.L.FaultKind.ties c.args.names.now c.requires.ordered in
    adds_nothing (IsFlagged names c.args.flags.now (link_told fault c.args.link.now)) (map fault c.args.keys.now.keys)
    (λ item flagged.
    let at = subst (IsAt names c.in-Some.number) flagged.0 c.in-Some.ensures.found in
    let same : flagged.1 ≡ c.in-Some.number = at_once names flagged.1 c.in-Some.number item (once item) flagged.2 at in
    false≢true (sym c.if-flags-number.false ∙ (ap (λ k. get_or c.args.flags.now k false) (sym same) ∙ flagged.3)))
