use Rattle.std.proofs.Common.{[], ◌∷◌, ◌++◌, map, ap, ◌∙◌}
use Rattle.std.proofs.lemmas.List.{map-append}
use Rattle.cedar_diagnosis.proofs.KeyLemmas.{once_in_order}
use Rattle.cedar_diagnosis.proofs.ListedSoFar.{listed_more}
use Rattle.cedar_diagnosis.proofs.finding.tell.Goals as goal
use Rattle.cedar_schema_semantics.specs.Words.{fault_of}

-- one more fault is told
pub loop-key-preserved : goal.loop-key-preserved
loop-key-preserved g c =
    let fault = g.F.FaultKind.fault in
    let before = c.loop-key.faults.items in
    listed_more (λ key. fault key ∷ []) (map fault_of c.args.faults.now.items) c.args.keys.keys c.loop-key.key-iterator c.next.new.self
    (map fault_of before) (map fault_of c.push.new.self.items) c.in-Some.key c.in-Some.ensures.steps
    (ap (map fault_of) c.in_ok-push.ensures.items
    ∙ (map-append fault_of before (c.in_ok-error.field-0 ∷ []) ∙ ap (λ each. map fault_of before ++ each ∷ []) c.in_ok-error.ensures))
    c.loop-key.invariant

-- keys stand in order
pub returns-clause-once : goal.returns-clause-once
returns-clause-once g c fault =
    once_in_order g.F.Key.Ord.cmp g.F.FaultKind.fault g.met.F.FaultKind.ties c.args.keys.keys c.len.ensures.ordered fault
