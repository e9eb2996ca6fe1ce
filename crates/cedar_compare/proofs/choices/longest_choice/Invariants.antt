use Rattle.std.proofs.Common.{◌≤◌, All, length, take}
use Rattle.cedar_ast.specs.Eid.{eid_text}
use Rattle.cedar_compare.proofs.choices.longest_choice.Given as goal

abbrev pub invariant-loop-eid : goal.invariant-loop-eid
invariant-loop-eid l = record {
  head : length (eid_text l.choices.head) ≤ l.longest;
  tail : All (λ eid. length (eid_text eid) ≤ l.longest) (take l.eid-index l.eid-items);
}
