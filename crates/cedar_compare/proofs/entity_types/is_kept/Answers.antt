use Rattle.std.proofs.Common.{◌≡◌, [], List, Contains, ap, inl, inr, map, refl, subst, sym, ◌∙◌, ⊎_elim}
use Rattle.std.proofs.lemmas.Bool.{false≢true}
use Rattle.cedar_ast.proofs.Basics.{Contains-image, Contains-none, no_members}
use Rattle.cedar_ast.proofs.Lists.{Contains-preimage}
use Rattle.cedar_compare.proofs.EntityLemmas.{entity_found}
use Rattle.cedar_compare.proofs.entity_types.is_kept.Goals as goal
use Rattle.cedar_compare.specs.Words.{ActionEntity, DefinesAction, ListsDescendantAction, PlainUid, entities_of, entity_uid, new_of, plain_action_entity}

-- an entity of one of the entity types of the new version is one of the new version
pub returns-then-is_bare_of_type : goal.returns-then-is_bare_of_type
returns-then-is_bare_of_type c = (
  λ _. inl ((c.is_bare_of_type.ensures c.args.versions.now.extensions.now).0 c.if-is_bare_of_type.true),
  λ _. refl,
)

-- the entity is that of the action of its uid just where the action has no ancestors
pub returns-in-Some : goal.returns-in-Some
returns-in-Some c =
    let versions = c.args.versions.now in
    let extensions = versions.extensions.now in
    let new = new_of versions in
    let it = plain_action_entity c.args.entity.now in
    let action = c.in-Some.action.now in
    let found = entity_found versions.new_actions.now _ _ c.in-Some.ensures in
    let same : it.uid ≡ entity_uid action = sym c.uid.ensures.uid ∙ found.1 in
    let of = c.requires.versions.new_actions.entities (plain_action_entity action)
    (Contains-image plain_action_entity (entities_of versions.new_actions.now) action found.0) in
    let none : it.ancestors ≡ [] = ap (λ (e : ActionEntity). e.ancestors) c.requires.bare in (
      λ met. inr (record {
        defined = subst (DefinesAction new) (sym same) of.defined;
        attributes = ap (λ (e : ActionEntity). e.attributes) c.requires.bare;
        tags = ap (λ (e : ActionEntity). e.tags) c.requires.bare;
        ancestors = λ upper. (
          λ among. absurd (Contains-none upper (subst (λ xs. Contains xs upper) none among)),
          λ listed. absurd (Contains-none upper (subst (λ (xs : List PlainUid). Contains xs upper) (c.is_without_ancestors.ensures.0 met)
              ((of.ancestors upper).1 (subst (λ u. ListsDescendantAction new u upper) same listed)))),
        );
      }),
      λ in_new. ⊎_elim
          (λ typed. absurd (false≢true (sym c.if-is_bare_of_type.false ∙ (c.is_bare_of_type.ensures extensions).1 typed)))
          (λ also. c.is_without_ancestors.ensures.1 (no_members (plain_action_entity action).ancestors
          (λ upper among. Contains-none upper (subst (λ xs. Contains xs upper) none
          ((also.ancestors upper).1 (subst (λ u. ListsDescendantAction new u upper) (sym same) ((of.ancestors upper).0 among)))))))
          in_new,
    )

-- an entity of no entity type and of no action is none of the new version
pub returns-in-None : goal.returns-in-None
returns-in-None c =
    let versions = c.args.versions.now in
    let extensions = versions.extensions.now in
    let it = plain_action_entity c.args.entity.now in
    let lacking = entity_found versions.new_actions.now _ _ c.in-None.ensures in (
      λ wrong. absurd (false≢true wrong),
      λ in_new. ⊎_elim
          (λ typed. absurd (false≢true (sym c.if-is_bare_of_type.false ∙ (c.is_bare_of_type.ensures extensions).1 typed)))
          (λ also.
          let there = c.requires.versions.new_actions.each it.uid also.defined in
          let plain = Contains-preimage (λ (e : ActionEntity). e.uid) (map plain_action_entity (entities_of versions.new_actions.now)) it.uid there in
          let entity = Contains-preimage plain_action_entity (entities_of versions.new_actions.now) plain.0 plain.1 in
          absurd (lacking entity.0 entity.1 (c.uid.ensures.uid ∙ (sym plain.2 ∙ sym (ap (λ (e : ActionEntity). e.uid) entity.2)))))
          in_new,
    )
