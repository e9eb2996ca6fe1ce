use Rattle.std.proofs.Common.{ap, refl, subst, sym, ◌∙◌}
use Rattle.std.proofs.lemmas.Bool.{false≢true}
use Rattle.cedar_compare.proofs.EntityLemmas.{real_entity}
use Rattle.cedar_compare.proofs.entity_types.lost_choice.Goals as goal
use Rattle.cedar_compare.specs.Words.{ActionEntity, EntityTypeKind, IsEntityIn, IsEntityOfKind, IsEntityOfType, PlainUid, bare_entity, eid_text, new_of, old_of, plain_action_entity, type_name, type_subject}

-- the choice's entity is one of the new version
pub returns-then-is_kept : goal.returns-then-is_kept
returns-then-is_kept c =
    let versions = c.args.versions.now in
    subst (IsEntityIn versions.extensions.now (new_of versions)) c.in_ok-witness.ensures (c.is_kept.ensures.0 c.if-is_kept.true)

-- the choice's entity is none of the new version, or it would be kept
pub choice_cause-requires-clause-lost : goal.choice_cause-requires-clause-lost
choice_cause-requires-clause-lost c = λ in_new.
    let versions = c.args.versions.now in
    let same = c.uid.ensures.uid ∙ ap (λ (e : ActionEntity). e.uid) c.in_ok-witness.ensures in
    false≢true (sym c.if-is_kept.false ∙ c.is_kept.ensures.1 (subst (IsEntityIn versions.extensions.now (new_of versions)) (sym c.in_ok-witness.ensures)
    (subst (λ (u : PlainUid). IsEntityIn versions.extensions.now (new_of versions) (bare_entity u.ty u.eid)) same in_new)))

-- the choice's entity is one of the old version and none of the new, so it is a witness of the loss
pub returns : goal.returns
returns c =
    let versions = c.args.versions.now in
    let extensions = versions.extensions.now in
    let old = old_of versions in
    let is = c.in_ok-witness.ensures in
    let it = plain_action_entity c.in_ok-witness.witness in
    let bare = bare_entity (type_name c.args.name.now) (eid_text c.args.eid.now) in
    let choice = c.requires.old in
    let of : IsEntityOfType extensions old bare = (
      choice.0,
      choice.1,
      subst (λ (k : EntityTypeKind). IsEntityOfKind extensions old k bare) (sym choice.2.1) (choice.2.2, refl, refl, refl),
    ) in (
      ap (λ (e : ActionEntity). type_subject e.uid.ty) is,
      (
        (
          real_entity c.in_ok-witness.witness (ap (λ (e : ActionEntity). e.attributes) is) (ap (λ (e : ActionEntity). e.tags) is),
          subst (IsEntityOfType extensions old) (sym is) of,
          λ in_new. false≢true (sym c.if-is_kept.false ∙ c.is_kept.ensures.1 in_new),
        ),
        c.in_ok-cause.ensures it (sym c.uid.ensures.uid),
      ),
    )

-- a choice of the new version is one of its entities
pub returns-then-is_among : goal.returns-then-is_among
returns-then-is_among c = c.requires.kept (eid_text c.args.eid.now) (c.is_among.ensures.0 c.if-is_among.true)
