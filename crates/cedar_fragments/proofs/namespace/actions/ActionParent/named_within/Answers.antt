use Rattle.std.proofs.Common.{◌≡◌, List, [], ◌∷◌, Option, Some, map, ap, sym, subst, ◌∙◌, refl, Contains, string_bytes, arith, inl, inr}
use Rattle.cedar_ast.proofs.Lists.{Contains-cons_cases}
use Rattle.cedar_fragments.proofs.namespace.actions.ActionParent.named_within.Goals as goal
use Rattle.cedar_fragments.specs.Words.{Entity, IsFirst, NamesNoAction, PlainName, Reference, Text, carried_action, conditional_reference, fragment_parent, held_names, names_of, namespace_name, uid_of}

-- the action is the first of the possible names under which one is defined
pub returns-in-Some-clause-named : goal.returns-in-Some-clause-named
returns-in-Some-clause-named g c =
    let id = string_bytes c.args.self.now.id in
    let IsTypeOfAction : PlainName → Type 0 = λ ty. Contains (held_names c.args.all_defs.now).actions (record { ty = ty; eid = id }) in
    let refers : names_of c.into_possibilities.result
    ≡ (g.N.WrittenName.refer (namespace_name c.args.namespace) Entity c.args.self.now.ty).possibilities =
    c.into_possibilities.ensures.names ∙ ap (λ (it : Reference). it.possibilities) c.in_ok-reference.ensures in
    let HasFirst : List PlainName → Type 0 = λ each. IsFirst IsTypeOfAction each (uid_of c.in-Some.uid).ty in
    let first : HasFirst (names_of c.into_possibilities.result) × ((uid_of c.in-Some.uid).eid ≡ id) = rw c.in-Some.is at c.in_ok-uid.ensures.uid in
    (subst HasFirst refers first.0, first.1)

-- where no possible name is that of an action, the error carries the parent
pub returns-in_ok-reference_within-in-None-clause-fault : goal.returns-in_ok-reference_within-in-None-clause-fault
returns-in_ok-reference_within-in-None-clause-fault g c =
    let id = string_bytes c.args.self.now.id in
    let parent = fragment_parent g.row.N.Denot (g.N.WrittenName.refer (namespace_name c.args.namespace)) c.args.self.now in
    let actions = (held_names c.args.all_defs.now).actions in
    let IsTypeOfAction : PlainName → Type 0 = λ ty. Contains actions (record { ty = ty; eid = id }) in
    let none : (name : PlainName) → Contains (names_of c.into_possibilities.result) name → ¬ IsTypeOfAction name =
    rw c.in-None.is at c.in_ok-uid.ensures.uid in
    let HasNone : List PlainName → Type 0 = λ each. (name : PlainName) → Contains each name → ¬ IsTypeOfAction name in
    let refers : names_of c.into_possibilities.result
    ≡ (g.N.WrittenName.refer (namespace_name c.args.namespace) Entity c.args.self.now.ty).possibilities =
    c.into_possibilities.ensures.names ∙ ap (λ (it : Reference). it.possibilities) c.in_ok-reference.ensures in
    let nothing : NamesNoAction actions parent = subst HasNone refers none in
    let same : string_bytes c.in_ok-clone-in-None.field-0 ≡ id = c.in_ok-clone-in-None.ensures.cases in
    let carries : Text × Option Reference =
    (string_bytes c.in_ok-clone-in-None.field-0, Some (conditional_reference c.in_ok-reference_within-in-None.field-0)) in
    let is_carried : carries ≡ (parent.id, Some parent.ty) =
    (λ i. (same i, Some (c.in_ok-reference_within-in-None.ensures i))) in
    let Has : List (Text × Option Reference) → Text × Option Reference → Type 0 = λ each carried. Contains each carried in (
      (λ empty. cc),
      λ carried among.
          let is : carries ≡ carried =
          elim (Contains-cons_cases carries [] carried
          (subst (λ each. Has (carries ∷ map carried_action each) carried) c.new.ensures.items among)) [
            | inl here ↦ here
            | inr later ↦ absurd (omega (arith, later.1))
          ] in
          (parent, refl, sym is ∙ is_carried, nothing),
    )
