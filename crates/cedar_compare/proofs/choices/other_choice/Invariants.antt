use Rattle.std.proofs.Common.{All, Contains, take}
use Rattle.cedar_compare.proofs.choices.other_choice.Given as goal
use Rattle.cedar_compare.specs.Words.{choice_texts, eid_text}

abbrev pub invariant-loop-eid : goal.invariant-loop-eid
invariant-loop-eid l = All (λ eid. Contains (choice_texts l.others) (eid_text eid)) (take l.eid-index l.eid-items)
