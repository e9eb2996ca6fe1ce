use Rattle.std.proofs.Common.{All, List, inl, inr, map, refl, subst, sym, ◌∙◌, Contains}
use Rattle.std.proofs.lemmas.Bool.{false≢true}
use Rattle.std.proofs.lemmas.List.{take_all}
use Rattle.std.proofs.lemmas.List.Elements.{All-more}
use Rattle.cedar_ast.proofs.Basics.{Contains-image}
use Rattle.cedar_ast.proofs.Lists.{Contains-cons}
use Rattle.cedar_compare.proofs.ChoiceLemmas.{each_image}
use Rattle.cedar_compare.proofs.choices.other_choice.Goals as goal
use Rattle.cedar_compare.specs.Words.{Eid, choice_texts, eid_text}

-- the head isn't one of the others
pub returns-then-not-is_among : goal.returns-then-not-is_among
returns-then-not-is_among c =
    let head = c.args.choices.now.head in
    let tail = c.args.choices.now.tail.items in (
      Contains-cons (eid_text head) (map eid_text tail) (eid_text head) (inl refl),
      λ also. false≢true (sym c.if-not-is_among.true
          ∙ c.is_among.ensures.1 ((c.in_ok-known.ensures (eid_text head)).1 also)),
    )

-- an id of the tail isn't
pub returns-then-not-is_among-2 : goal.returns-then-not-is_among-2
returns-then-not-is_among-2 c =
    let items = c.deref-eid-items.result.now in
    let head = c.args.choices.now.head in
    let tail = c.args.choices.now.tail.items in
    let eid = c.eid-item.result in
    let there : Contains items eid = (c.loop-eid.eid-index, c.loop-eid-test.true, sym c.eid-item.is) in
    let among : Contains tail eid = subst (λ (xs : List Eid). Contains xs eid) c.deref-eid-items.ensures.value there in (
      Contains-cons (eid_text head) (map eid_text tail) (eid_text eid) (inr (Contains-image eid_text tail eid among)),
      λ also. false≢true (sym c.if-not-is_among-2.true
          ∙ c.is_among-in-loop-eid.ensures.1 ((c.in_ok-known.ensures (eid_text eid)).1 also)),
    )

pub loop-eid-preserved : goal.loop-eid-preserved
loop-eid-preserved c =
    let P : Eid → Type 0 = λ eid. Contains (choice_texts c.args.others.now) (eid_text eid) in
    let among = (c.in_ok-known.ensures (eid_text c.eid-item.result)).0 (c.is_among-in-loop-eid.ensures.0 c.if-not-is_among-2.false) in
    All-more P c.deref-eid-items.result.now c.loop-eid.eid-index c.eid-item.result c.loop-eid-test.true c.loop-eid.invariant
    (subst P c.eid-item.is among)

-- each is one of the others
pub returns : goal.returns
returns c =
    let P : Eid → Type 0 = λ eid. Contains (choice_texts c.args.others.now) (eid_text eid) in
    let Q : List Eid → Type 0 = All P in
    let all = subst Q (take_all c.loop-eid.eid-index c.deref-eid-items.result.now c.loop-eid-test.false) c.loop-eid.invariant in
    let head = (c.in_ok-known.ensures (eid_text c.args.choices.now.head)).0 (c.is_among.ensures.0 c.if-not-is_among.false) in
    each_image (Contains (choice_texts c.args.others.now)) eid_text c.args.choices.now.head c.args.choices.now.tail.items
    head (subst Q c.deref-eid-items.ensures.value all)
