use Rattle.std.proofs.Common.{◌≡◌, [], Contains, ap, inl, inr, map, subst, sym, ◌∙◌, ⊎_elim}
use Rattle.cedar_ast.proofs.Basics.{Contains-none, Contains-single}
use Rattle.cedar_ast.proofs.Lists.{Contains-cons, Contains-cons_cases}
use Rattle.cedar_ast.proofs.Uids.{entity_uid_ord-Equal}
use Rattle.cedar_ast.specs.EntityUID.{uid_of}
use Rattle.cedar_ast.specs.contracts.entity_uid.EntityUIDOrd.TheImpl as uid_ord
use Rattle.cedar_compare.proofs.actions.ancestors_of.Goals as goal
use Rattle.cedar_name_resolution.proofs.SetLemmas.{inserted}

-- at first none of the ancestors is copied, and all are left
pub loop-uid-init : goal.loop-uid-init
loop-uid-init c = λ uid.
    let all = ap (map uid_of) c.into_iter-uid-iterator.ensures.into_iter_gives ∙ c.ancestors-uid-items.ensures.ancestors in
    let none = ap (map uid_of) c.new-ancestors.ensures.empty in (
      λ among. inr (subst (λ xs. Contains xs uid) (sym all) among),
      λ either. ⊎_elim (λ here. absurd (Contains-none uid (subst (λ xs. Contains xs uid) none here))) (λ there. subst (λ xs. Contains xs uid) all there) either,
    )

-- one more ancestor is copied: it is no longer left, but among the copies
pub loop-uid-preserved : goal.loop-uid-preserved
loop-uid-preserved c = λ uid.
    let before = c.loop-uid.ancestors.keys in
    let copy = c.in_ok-clone.field-0 in
    let first = uid_of c.in-Some.uid.now in
    let rest = map uid_of c.next.new.self in
    let same : uid_of copy ≡ first = c.in_ok-clone.ensures.uid in
    let steps = ap (map uid_of) c.in-Some.ensures.steps in
    let so_far = c.loop-uid.invariant uid in
    let keys : map uid_of c.insert.new.self.keys ≡ _ = ap (map uid_of) c.in_ok-_new.ensures.keys in
    let also = inserted (uid_ord.ghosts).cmp uid_of entity_uid_ord-Equal before copy uid in (
      λ among. ⊎_elim
          (λ there. inl (subst (λ xs. Contains xs uid) (sym keys) (also.1 (inl there))))
          (λ still. ⊎_elim
          (λ here. inl (subst (λ xs. Contains xs uid) (sym keys) (also.1 (inr (Contains-cons (uid_of copy) [] uid (inl (same ∙ here)))))))
          (λ later. inr later)
          (Contains-cons_cases first rest uid (subst (λ xs. Contains xs uid) steps still)))
          (so_far.0 among),
      λ either. so_far.1 (⊎_elim
          (λ there. ⊎_elim
          (λ old. inl old)
          (λ new. inr (subst (λ xs. Contains xs uid) (sym steps) (Contains-cons first rest uid (inl (sym same ∙ Contains-single (uid_of copy) uid new)))))
          (also.0 (subst (λ xs. Contains xs uid) keys there)))
          (λ later. inr (subst (λ xs. Contains xs uid) (sym steps) (Contains-cons first rest uid (inr later))))
          either),
    )

-- where no ancestor is left, the copies are all of them
pub returns : goal.returns
returns c = λ uid.
    let none = ap (map uid_of) c.in-None.ensures.steps.0 in (
      λ among. (c.loop-uid.invariant uid).1 (inl among),
      λ among. ⊎_elim (λ here. here) (λ there. absurd (Contains-none uid (subst (λ xs. Contains xs uid) none there))) ((c.loop-uid.invariant uid).0 among),
    )
