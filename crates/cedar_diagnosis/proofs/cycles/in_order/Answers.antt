use Rattle.std.proofs.Common.{◌≡◌, List, [], ◌∷◌, sym, ◌∙◌, subst}
use Rattle.std.specs.List.Sorted.{IsStrictlySortedBy}
use Rattle.cedar_diagnosis.proofs.ListedSoFar.{flat_map-itself, listed_all, listed_more}
use Rattle.cedar_diagnosis.proofs.cycles.in_order.Goals as goal

pub loop-key-preserved : goal.loop-key-preserved
loop-key-preserved g c =
    listed_more (λ key. key ∷ []) [] c.args.keys.keys c.loop-key.key-iterator c.next.new.self c.loop-key.names.items c.push.new.self.items c.in-Some.key
    c.in-Some.ensures.steps c.in_ok-push.ensures.items c.loop-key.invariant

pub returns-clause-names : goal.returns-clause-names
returns-clause-names g c =
    listed_all (λ key. key ∷ []) [] c.args.keys.keys c.loop-key.key-iterator c.loop-key.names.items c.in-None.ensures.steps.0 c.loop-key.invariant
    ∙ flat_map-itself c.args.keys.keys

pub returns-clause-ordered : goal.returns-clause-ordered
returns-clause-ordered g c =
    let names : c.loop-key.names.items ≡ c.args.keys.keys =
    listed_all (λ key. key ∷ []) [] c.args.keys.keys c.loop-key.key-iterator c.loop-key.names.items c.in-None.ensures.steps.0 c.loop-key.invariant
    ∙ flat_map-itself c.args.keys.keys in
    let Sorted : List g.row.F-Key.Denot → Type 0 = λ keys. IsStrictlySortedBy g.F.Key.Ord.cmp keys in
    subst Sorted (sym names) c.len.ensures.ordered
