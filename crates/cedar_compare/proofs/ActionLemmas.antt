-- Actions whose entities the new version of a schema lacks, and those that it keeps.
use Rattle.std.proofs.Common.{◌≡◌, ◌⊎◌, inl, inr, subst, sym, ◌∙◌, ⊎_elim, Contains}
use Rattle.cedar_ast.proofs.Basics.{Contains-none, no_members}
use Rattle.cedar_compare.specs.Words.{ActionEntity, AreTagsOf, DefinesAction, EntityTypeKind, Entries, Extensions, Has, IsActionCause, IsEntityOfAction, IsEntityOfKind, IsEntityOfType, IsLostAction, IsReal, KeepsAction, ListsApart, ListsDescendantAction, MayStandAbove, NamesWhatExists, PlainCause, PlainSchema, PlainUid, action_above, enumerated_kind, external_kind, removed, map_value, record_of, standard_kind}

-- an entity that agrees with one of a kind in all but the order of its ancestors is one of it
of_same_parts : (extensions : Extensions) (schema : PlainSchema) (kind : EntityTypeKind) (one it : ActionEntity) → it.uid ≡ one.uid
    → it.attributes ≡ one.attributes → it.tags ≡ one.tags
    → ((upper : PlainUid) → Contains it.ancestors upper → Contains one.ancestors upper)
    → IsEntityOfKind extensions schema kind one → IsEntityOfKind extensions schema kind it
of_same_parts extensions schema (standard_kind fields openness tags) one it uid attributes tags_same above of = (
  subst (λ (a : Entries). Has extensions (map_value a) (record_of fields openness)) (sym attributes) of.0,
  subst (AreTagsOf extensions tags) (sym tags_same) of.1,
  record {
    attributes = subst (λ (a : Entries). NamesWhatExists schema (map_value a)) (sym attributes) of.2.attributes;
    tags = subst (λ (a : Entries). NamesWhatExists schema (map_value a)) (sym tags_same) of.2.tags;
  },
  record {
    above = λ upper among. subst (λ (u : PlainUid). MayStandAbove schema u.ty upper) (sym uid) (of.3.above upper (above upper among));
    not_itself = λ among. of.3.not_itself (subst (Contains one.ancestors) uid (above it.uid among));
  },
)
of_same_parts extensions schema (enumerated_kind choices) one it uid attributes tags_same above of = (
  subst (λ (u : PlainUid). Contains choices u.eid) (sym uid) of.0,
  attributes ∙ of.1,
  tags_same ∙ of.2,
  no_members it.ancestors (λ upper among. Contains-none upper (subst (λ xs. Contains xs upper) of.3 (above upper among))),
)
of_same_parts extensions schema external_kind one it uid attributes tags_same above of = of

-- entities of one action are of the same types
pub of_type_alike : (extensions : Extensions) (schema old : PlainSchema) (one it : ActionEntity) → one.uid ≡ it.uid → IsEntityOfAction old one
    → IsEntityOfAction old it → IsEntityOfType extensions schema it → IsEntityOfType extensions schema one
of_type_alike extensions schema old one it same of also (ty, there, of_kind) = (
  ty,
  subst (λ (u : PlainUid). Contains schema.entity_types (u.ty, ty)) (sym same) there,
  of_same_parts extensions schema ty.kind it one same (of.attributes ∙ sym also.attributes) (of.tags ∙ sym also.tags)
      (λ upper among. (also.ancestors upper).1 (subst (λ u. ListsDescendantAction old u upper) same ((of.ancestors upper).0 among)))
      of_kind,
)

module _ (extensions : Extensions) (old new : PlainSchema) where
  -- the entity of an action is lost where it is of no type of the new schema, and that doesn't
  -- define the action or one of the two alone lists another above it
  pub lost_action : (it : ActionEntity) → IsReal it → IsEntityOfAction old it → ¬ IsEntityOfType extensions new it
      → (¬ DefinesAction new it.uid) ⊎ ((upper : PlainUid) × ListsApart old new it.uid upper)
      → IsLostAction extensions old new it
  lost_action it real of no_type why = (real, of, λ among. ⊎_elim no_type (λ also. refuse also why) among)
    where
      refuse : IsEntityOfAction new it → (¬ DefinesAction new it.uid) ⊎ ((upper : PlainUid) × ListsApart old new it.uid upper) → ⊥
      refuse also why = ⊎_elim
          (λ undefined. undefined also.defined)
          (λ (upper, apart). ⊎_elim
          (λ first. first.1 ((also.ancestors upper).0 ((of.ancestors upper).1 first.0)))
          (λ second. second.1 ((of.ancestors upper).0 ((also.ancestors upper).1 second.0)))
          apart)
          why

  -- it is kept where the new schema defines the action and the same stand above it in both
  pub kept_defined : (uid : PlainUid) → DefinesAction new uid
      → ((upper : PlainUid) → ListsDescendantAction old uid upper → ListsDescendantAction new uid upper)
      → ((upper : PlainUid) → ListsDescendantAction new uid upper → ListsDescendantAction old uid upper)
      → KeepsAction extensions old new uid
  kept_defined uid defined onto back it named real of = inr (record {
    defined = subst (DefinesAction new) (sym named) defined;
    attributes = of.attributes;
    tags = of.tags;
    ancestors = λ upper. (
      λ among. subst (λ u. ListsDescendantAction new u upper) (sym named)
          (onto upper (subst (λ u. ListsDescendantAction old u upper) named ((of.ancestors upper).0 among))),
      λ listed. (of.ancestors upper).1 (subst (λ u. ListsDescendantAction old u upper) (sym named)
          (back upper (subst (λ u. ListsDescendantAction new u upper) named listed))),
    );
  })

  -- it is kept where its entity is one of a type of the new schema
  pub kept_of_type : (one : ActionEntity) → IsEntityOfAction old one → IsEntityOfType extensions new one
      → KeepsAction extensions old new one.uid
  kept_of_type one of (ty, there, of_kind) it named real also = inl (
    ty,
    subst (λ (u : PlainUid). Contains new.entity_types (u.ty, ty)) (sym named) there,
    of_same_parts extensions new ty.kind one it named (also.attributes ∙ sym of.attributes) (also.tags ∙ sym of.tags)
        (λ upper among. (of.ancestors upper).1 (subst (λ u. ListsDescendantAction old u upper) named ((also.ancestors upper).0 among)))
        of_kind,
  )

  -- an entity whose action has a true cause to be lost is lost, where it is of no type
  pub lost_by_cause : (it : ActionEntity) (cause : PlainCause) → IsReal it → IsEntityOfAction old it → ¬ IsEntityOfType extensions new it
      → IsActionCause old new it.uid cause → IsLostAction extensions old new it
  lost_by_cause it removed real of no_type undefined = lost_action it real of no_type (inl undefined)
  lost_by_cause it (action_above upper) real of no_type apart = lost_action it real of no_type (inr (upper, apart))
  lost_by_cause it _ real of no_type cause = absurd cause
