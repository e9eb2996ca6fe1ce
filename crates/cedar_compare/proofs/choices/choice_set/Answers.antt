use Rattle.std.proofs.Common.{◌≡◌, List, ◌∷◌, ap, length, map, subst, sym, ◌∙◌}
use Rattle.std.proofs.lemmas.Iterator.{items_from_drains}
use Rattle.std.proofs.lemmas.Iterator.Adapters.{YieldsList-from_vec}
use Rattle.std.proofs.lemmas.List.{map-id, take_all}
use Rattle.std.specs.List.{list_any}
use Rattle.std.specs.Ordering.{eq_by_cmp}
use Rattle.cedar_ast.proofs.Texts.{text_cmp-Equal}
use Rattle.cedar_ast.specs.contracts.eid.EidOrd.TheImpl as eid_ord
use Rattle.cedar_compare.proofs.choices.choice_set.Goals as goal
use Rattle.cedar_compare.specs.Words.{Eid, SameItems, choice_texts, eid_text}
use Rattle.cedar_name_resolution.proofs.SetLemmas.{collected}

-- what is collected are the choices, first the head and then the others
pub returns : goal.returns
returns c =
    let items = c.loop-eid.eids.items in
    let head = eid_text c.args.choices.now.head in
    let ran = c.in_ok-from_iter.ensures.ran in
    let same : ran.1 ≡ items = sym (map-id ran.1)
    ∙ items_from_drains ran.1 ran.3 (YieldsList-from_vec items ran.2.0 (ran.0.rest.ok.0 ∙ ap length ran.2.0)) in
    let found = collected (eid_ord.ghosts).cmp eid_text (λ a b. text_cmp-Equal (eid_text a) (eid_text b)) c.in_ok-from_iter.field-0 items
    (λ key. ran.4.0 key ∙ ap (list_any (eq_by_cmp (eid_ord.ghosts).cmp key)) same, ran.4.1) in
    let all : map eid_text items ≡ choice_texts c.args.choices.now =
    c.loop-eid.invariant
    ∙ ap (λ (eids : List Eid). head ∷ map eid_text eids)
    (take_all c.loop-eid.eid-index c.deref-eid-items.result.now c.loop-eid-test.false ∙ c.deref-eid-items.ensures.value) in
    subst (SameItems (map eid_text c.in_ok-from_iter.field-0.keys)) all found
