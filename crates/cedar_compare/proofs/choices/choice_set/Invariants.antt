use Rattle.std.proofs.Common.{◌≡◌, ◌∷◌, map, take}
use Rattle.cedar_compare.proofs.choices.choice_set.Given as goal
use Rattle.cedar_compare.specs.Words.{eid_text}

abbrev pub invariant-loop-eid : goal.invariant-loop-eid
invariant-loop-eid l = map eid_text l.eids.items ≡ eid_text l.choices.head ∷ map eid_text (take l.eid-index l.eid-items)
