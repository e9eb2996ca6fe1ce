use Rattle.std.proofs.Common.{◌≡◌, map, sym, ◌∙◌}
use Rattle.cedar_diagnosis.proofs.AddingLemmas.{adds_found}
use Rattle.cedar_diagnosis.proofs.cycles.add_source.Goals as goal
use Rattle.cedar_schema_semantics.specs.Words.{Fault}

pub returns : goal.returns
returns g c =
    let fault = g.L.FaultKind.fault in
    let Same : Fault → Type 0 = λ each. fault c.args.link.now.from ≡ each in
    adds_found c.add_key.result Same (map fault c.args.keys.now.keys) (map fault c.add_key.new.keys.keys) (fault c.in_ok-copy.field-0)
    (sym c.in_ok-copy.ensures) (λ item same. c.in_ok-copy.ensures ∙ same) c.add_key.ensures
