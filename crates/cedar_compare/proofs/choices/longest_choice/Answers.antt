use Rattle.std.proofs.Common.{◌≤◌, All, List, ap, arith, length, subst}
use Rattle.std.proofs.lemmas.Grind.{common_steps}
use Rattle.std.proofs.lemmas.List.{take_all}
use Rattle.std.proofs.lemmas.List.Elements.{All-more}
use Rattle.cedar_compare.proofs.ChoiceLemmas.{each_image}
use Rattle.cedar_compare.proofs.choices.longest_choice.Goals as goal
use Rattle.cedar_compare.specs.Words.{Eid, Text, eid_text}

pub loop-eid-preserved : goal.loop-eid-preserved
loop-eid-preserved c =
    let items = c.deref-eid-items.result.now in
    let i = c.loop-eid.eid-index in
    let next = c.max-longest.result in
    let P : Eid → Type 0 = λ eid. length (eid_text eid) ≤ next in
    let more : c.loop-eid.longest ≤ next = grind (arith, common_steps, c.max-longest.ensures) in
    let len = ap length c.as_str.ensures in
    let here : length (eid_text c.eid-item.result) ≤ next = grind (arith, common_steps, c.max-longest.ensures, len) in
    record {
      head = omega (arith, c.loop-eid.invariant.head, more);
      tail = All-more P items i c.eid-item.result c.loop-eid-test.true
          (λ k d below. omega (arith, c.loop-eid.invariant.tail k d below, more)) (subst P c.eid-item.is here);
    }

pub returns : goal.returns
returns c =
    let tail = c.args.choices.now.tail.items in
    let Q : List Eid → Type 0 = All (λ eid. length (eid_text eid) ≤ c.loop-eid.longest) in
    let all = subst Q (take_all c.loop-eid.eid-index c.deref-eid-items.result.now c.loop-eid-test.false) c.loop-eid.invariant.tail in
    each_image (λ (text : Text). length text ≤ c.loop-eid.longest) eid_text c.args.choices.now.head tail c.loop-eid.invariant.head
    (subst Q c.deref-eid-items.ensures.value all)
