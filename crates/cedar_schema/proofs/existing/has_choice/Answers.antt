use Rattle.std.proofs.Common.{ap, inr, map, sym, ◌∙◌, ⊎_elim}
use Rattle.std.proofs.lemmas.Bool.{false≢true}
use Rattle.std.specs.List.{list_any}
use Rattle.cedar_ast.proofs.Ids.{eid_eq-same}
use Rattle.cedar_ast.proofs.Lists.{Contains-cons, Contains-cons_cases, list_any-Contains}
use Rattle.cedar_ast.specs.contracts.eid.EidPartialEq.TheImpl as eid_eq
use Rattle.cedar_schema.proofs.existing.has_choice.Goals as goal
use Rattle.cedar_schema.specs.Words.{eid_text}
use Rattle.cedar_ast.specs.declared.eid.Eid.{Eid}

pub returns-else-eq : goal.returns-else-eq
returns-else-eq c =
    let eid = c.args.eid.now in
    let head = c.args.choices.now.head in
    let tail = c.args.choices.now.tail.items in
    let found = c.contains.ensures.value ∙ ap (list_any (λ (it : Eid). (eid_eq.ghosts).eq it eid)) c.deref.ensures.value in
    let same = list_any-Contains eid_text (eid_text eid) (λ it. (eid_eq.ghosts).eq it eid) (λ it. eid_eq-same it eid) tail in (
      λ yes. Contains-cons (eid_text head) (map eid_text tail) (eid_text eid) (inr (same.0 (sym found ∙ yes))),
      λ among. ⊎_elim
          (λ here. absurd (false≢true (sym c.if-eq.false ∙ (c.eq.ensures ∙ (eid_eq-same head eid).1 here))))
          (λ later. found ∙ same.1 later)
          (Contains-cons_cases (eid_text head) (map eid_text tail) (eid_text eid) among),
    )
