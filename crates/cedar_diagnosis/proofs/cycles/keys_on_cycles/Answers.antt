use Rattle.std.proofs.Common.{◌≡◌, Bool, IfOk, List, Contains, [], ap, arith, length, map, refl, sym, subst}
use Rattle.std.proofs.lemmas.List.{length-map}
use Rattle.std.proofs.lemmas.Option.{slice_get_within}
use Rattle.cedar_ast.specs.Chain.{Chain}
use Rattle.cedar_diagnosis.proofs.AddingLemmas.{members_of}
use Rattle.cedar_diagnosis.proofs.KeyLemmas.{once_in_order}
use Rattle.cedar_diagnosis.proofs.LinkLemmas.{flagged_on_cycle, keys_like}
use Rattle.cedar_diagnosis.proofs.cycles.keys_on_cycles.Goals as goal
use Rattle.cedar_diagnosis.specs.Adding.{Adds, SomeGives}
use Rattle.cedar_diagnosis.specs.Links.{AreLinkTargets, IsFlagged, IsLinked, link_told}
use Rattle.cedar_schema_semantics.specs.Words.{Fault}

pub on_cycles-requires : goal.on_cycles-requires
on_cycles-requires g c = λ i j target.
    let names = map g.L.FaultKind.fault c.deref.result.now in
    let found = c.in_ok-targets.ensures.targets.sound i j target in
    let within = slice_get_within names j found.0.1 found.3 in
    omega (arith, within, length-map c.deref.result.now g.L.FaultKind.fault, c.in_ok-targets.ensures.len)

pub returns : goal.returns
returns g c =
    let fault = g.L.FaultKind.fault in
    let links = map (link_told fault) c.args.links.now in
    let names = c.in_ok-names.names.items in
    let flags = c.in_ok-flags.flags.items in
    let targets = c.in_ok-targets.targets.items in
    let Found : List g.row.L-Key.Denot → List Bool → Type 0 = λ each flag.
    IfOk c.flagged.result (λ keys. Adds (SomeGives (IsFlagged (map fault each) flag) links) [] (map fault keys.keys)) in
    let found : Found names flags = subst (λ each. Found each flags) c.deref-2.ensures.value (subst (Found c.deref-2.result.now) c.deref-3.ensures.value c.flagged.ensures) in
    let Targets : List g.row.L-Key.Denot → Type 0 = λ each. AreLinkTargets (map fault each) links targets in
    let are : Targets names = subst Targets c.deref.ensures.value c.in_ok-targets.ensures.targets in
    let len : length targets ≡ length (map fault names) =
    omega (arith, length-map names fault, c.in_ok-targets.ensures.len, ap length c.deref.ensures.value, c.in_ok-targets.targets.ok.0) in
    let members = members_of (SomeGives (λ (link : Fault × Fault) (each : Fault). link.0 ≡ each) links) (map fault c.in_ok-sources.field-0.keys) c.in_ok-sources.ensures in
    let have : (link : Fault × Fault) → Contains links link → Contains (map fault names) link.0 =
    λ link among. subst (λ each. Contains (map fault each) link.0) (sym c.in_ok-names.ensures.names) ((members link.0).1 (link, among, refl)) in
    keys_like c.flagged.result (λ keys. map fault keys.keys) (SomeGives (IsFlagged (map fault names) flags) links)
    (λ each. Chain (IsLinked links) each each)
    (flagged_on_cycle (map fault names) links targets are
    (once_in_order g.L.Key.Ord.cmp fault g.met.L.FaultKind.ties names c.in_ok-names.ensures.ordered) have flags len
    (λ number within. c.in_ok-flags.ensures.flags number (omega (arith, within, c.in_ok-targets.targets.ok.0)))) found
