use Rattle.std.proofs.Common.{List, [], map, subst}
use Rattle.cedar_ast.specs.Chain.{Chain}
use Rattle.cedar_diagnosis.proofs.AddingLemmas.{adds_like}
use Rattle.cedar_diagnosis.proofs.KeyLemmas.{tells_just}
use Rattle.cedar_diagnosis.proofs.LinkLemmas.{chains_in}
use Rattle.cedar_diagnosis.proofs.cycles.tell_cycles.Goals as goal
use Rattle.cedar_diagnosis.specs.Adding.{Adds}
use Rattle.cedar_diagnosis.specs.Lent.{declarations_of}
use Rattle.cedar_diagnosis.specs.Links.{IsLinked, LinksIn, link_told}
use Rattle.cedar_diagnosis.specs.declared.cycles.Link.{Link}
use Rattle.cedar_schema_semantics.specs.Words.{Fault, fault_of}

pub returns : goal.returns
returns g c =
    let fault = g.L.FaultKind.fault in
    let bag = declarations_of c.args.bag.now in
    let Linked = g.L.Links.linked c.args.linker.now in
    let links = map (link_told fault) c.in_ok-links.links.items in
    let keys = map fault c.in_ok-keys_on_cycles.field-0.keys in
    let OnCycle : Fault → Type 0 = λ each. Chain (LinksIn Linked bag) each each in
    let Of : List (Link g.row.L-Key.Denot) → Type 0 = λ each. Adds (λ (item : Fault). Chain (IsLinked (map (link_told fault) each)) item item) [] keys in
    let found : Of c.in_ok-links.links.items = subst Of c.deref.ensures.value c.in_ok-keys_on_cycles.ensures in
    let same = chains_in Linked bag links c.in_ok-links.ensures in
    tells_just c.tell.result OnCycle (map fault_of c.args.faults.now.items) (map fault_of c.tell.new.faults.items) keys c.tell.ensures.told
    (adds_like (λ each. Chain (IsLinked links) each each) OnCycle [] keys (λ each. (same each each).0) (λ each. (same each each).1) found)
    c.tell.ensures.once
