use Rattle.std.proofs.Common.{◌≡◌, [], ◌∷◌, map, refl, sym, subst, ap, ◌∙◌, Contains}
use Rattle.std.proofs.lemmas.Bool.{false≢true}
use Rattle.cedar_ast.specs.Words.{IsUnqualified, PlainUid, uid_of}
use Rattle.cedar_diagnosis.proofs.AddingLemmas.{adds_found, adds_nothing}
use Rattle.cedar_diagnosis.proofs.NameLemmas.{named_one, named_only}
use Rattle.cedar_diagnosis.proofs.shadowing.ShadowedActionsFinds.find.Goals as goal
use Rattle.cedar_diagnosis.specs.Finding.{FindsShadowedAction, plain_uid}
use Rattle.cedar_diagnosis.specs.Lent.{declaration_of}
use Rattle.cedar_diagnosis.specs.Names.{action_uids_in}
use Rattle.cedar_name_resolution.specs.Words.{held_names}
use Rattle.cedar_schema_semantics.specs.Words.{action_shadowing}

-- an action in the empty namespace isn't shadowed
pub returns-then-is_unqualified : goal.returns-then-is_unqualified
returns-then-is_unqualified c =
    let it = declaration_of c.args.it.now in
    let uid = uid_of c.in-Some.uid in
    let actions = (held_names c.args.self.now.declared.now).actions in
    let one : uid ∷ [] ≡ action_uids_in it = rw c.in-Some.is at c.in_ok-uid.ensures in
    let plain : IsUnqualified uid.ty =
    subst IsUnqualified (c.name.ensures.name ∙ c.entity_type.ensures.name) (c.is_unqualified.ensures.0 c.if-is_unqualified.true) in
    adds_nothing (FindsShadowedAction actions it) (map (λ key. action_shadowing (plain_uid (uid_of key).eid) (uid_of key)) c.args.keys.now.keys)
    (λ fault found.
    let Plain : PlainUid → Type 0 = λ each. IsUnqualified each.ty in
    found.3 (subst Plain (named_only uid (action_uids_in it) one found.0 found.1) plain))

-- another is where the one of its id there is declared
pub returns-then-is_defined_as_action : goal.returns-then-is_defined_as_action
returns-then-is_defined_as_action c =
    let it = declaration_of c.args.it.now in
    let uid = uid_of c.in-Some.uid in
    let actions = (held_names c.args.self.now.declared.now).actions in
    let one : uid ∷ [] ≡ action_uids_in it = rw c.in-Some.is at c.in_ok-uid.ensures in
    adds_found c.add_key.result (FindsShadowedAction actions it)
    (map (λ key. action_shadowing (plain_uid (uid_of key).eid) (uid_of key)) c.args.keys.now.keys)
    (map (λ key. action_shadowing (plain_uid (uid_of key).eid) (uid_of key)) c.add_key.new.keys.keys)
    (action_shadowing (plain_uid uid.eid) uid) (
      uid,
      named_one uid (action_uids_in it) one,
      subst (Contains actions) c.in_ok-plain.ensures (c.is_defined_as_action.ensures.0 c.if-is_defined_as_action.true),
      λ plain. false≢true (sym c.if-is_unqualified.false
          ∙ c.is_unqualified.ensures.1 (subst IsUnqualified (sym (c.name.ensures.name ∙ c.entity_type.ensures.name)) plain)),
      refl,
    )
    (λ fault found. ap (λ (each : PlainUid). action_shadowing (plain_uid each.eid) each) (named_only uid (action_uids_in it) one found.0 found.1) ∙ found.4)
    c.add_key.ensures

pub returns : goal.returns
returns c =
    let it = declaration_of c.args.it.now in
    let uid = uid_of c.in-Some.uid in
    let actions = (held_names c.args.self.now.declared.now).actions in
    let one : uid ∷ [] ≡ action_uids_in it = rw c.in-Some.is at c.in_ok-uid.ensures in
    adds_nothing (FindsShadowedAction actions it) (map (λ key. action_shadowing (plain_uid (uid_of key).eid) (uid_of key)) c.args.keys.now.keys)
    (λ fault found.
    let There : PlainUid → Type 0 = λ each. Contains actions (plain_uid each.eid) in
    let there = subst There (sym (named_only uid (action_uids_in it) one found.0 found.1)) found.2 in
    false≢true (sym c.if-is_defined_as_action.false ∙ c.is_defined_as_action.ensures.1 (subst (Contains actions) (sym c.in_ok-plain.ensures) there)))
