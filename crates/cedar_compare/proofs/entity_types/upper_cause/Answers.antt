use Rattle.std.proofs.Common.{Contains, inr, subst, sym, ◌∙◌}
use Rattle.std.proofs.lemmas.Bool.{false≢true}
use Rattle.cedar_compare.proofs.StandLemmas.{may_stand}
use Rattle.cedar_compare.proofs.entity_types.upper_cause.Goals as goal
use Rattle.cedar_compare.specs.Words.{LacksChoice, ListsDescendant, new_of, old_of, type_name, uid_of}

pub returns-then-lists_type : goal.returns-then-lists_type
returns-then-lists_type c = λ it named among.
    let new = new_of c.args.versions.now in
    let upper = uid_of c.args.upper.now in
    let name = type_name c.args.name.now in
    let of = c.lists_type.ensures.0 c.if-lists_type.true in
    let there = subst (λ n. Contains new.entity_types (n, of.0)) c.entity_type.ensures.name of.1 in
    let lacks : LacksChoice new upper = (of.0, there, λ may. c.requires.new (may_stand new name upper of.0 there of.2 may)) in
    (inr (subst (Contains it.ancestors) (sym c.in_ok-clone.ensures.uid) among), subst (LacksChoice new) (sym c.in_ok-clone.ensures.uid) lacks)

pub returns : goal.returns
returns c = λ it named among.
    let old = old_of c.args.versions.now in
    let new = new_of c.args.versions.now in
    let name = type_name c.args.name.now in
    let is = c.in_ok-clone-2.ensures.name ∙ c.entity_type-2.ensures.name in
    let above = c.requires.old in (
      subst (λ n. ListsDescendant old n (type_name c.in_ok-clone-2.field-0)) (sym named)
          (subst (ListsDescendant old name) (sym is) (above.0, above.1, above.2)),
      λ listed. false≢true (sym c.if-lists_type.false ∙ c.lists_type.ensures.1
          (subst (ListsDescendant new name) (is ∙ sym c.entity_type.ensures.name)
          (subst (λ n. ListsDescendant new n (type_name c.in_ok-clone-2.field-0)) named listed))),
    )
