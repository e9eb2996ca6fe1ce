use Rattle.std.proofs.Common.{Some, None, subst, sym, ◌∙◌, ⊎_elim}
use Rattle.std.proofs.lemmas.Bool.{false≢true}
use Rattle.cedar_compare.proofs.ActionAncestorLemmas.{action_upper_found}
use Rattle.cedar_compare.proofs.actions.action_cause.Goals as goal
use Rattle.cedar_compare.specs.Words.{ListsApart, new_of, old_of, uid_of}

pub returns-then-not-is_defined : goal.returns-then-not-is_defined
returns-then-not-is_defined c = λ defined. false≢true (sym c.if-not-is_defined.true ∙ c.is_defined.ensures.1 defined)

pub returns-in_ok-clone-in-Some : goal.returns-in_ok-clone-in-Some
returns-in_ok-clone-in-Some c =
    let old = old_of c.args.versions.now in
    let new = new_of c.args.versions.now in
    let apart = action_upper_found old new c.args.ancestors.now c.args.uid.now (Some c.in-Some.upper.now) c.requires.ancestors.0 c.in-Some.ensures.value in
    subst (ListsApart old new (uid_of c.args.uid.now)) (sym c.in_ok-clone-in-Some.ensures.uid) apart

pub returns-in-None : goal.returns-in-None
returns-in-None c =
    let old = old_of c.args.versions.now in
    let new = new_of c.args.versions.now in
    let onto = action_upper_found old new c.args.ancestors.now c.args.uid.now None c.requires.ancestors.0 c.in-None.ensures.value in
    let back = action_upper_found new old c.args.ancestors.now c.args.uid.now None c.requires.ancestors.1 c.in-None.ensures.value in (
      c.is_defined.ensures.0 c.if-not-is_defined.false,
      λ upper listed. ⊎_elim (λ none. absurd none) (λ there. there) (onto upper listed),
      λ upper listed. ⊎_elim (λ none. absurd none) (λ there. there) (back upper listed),
    )
