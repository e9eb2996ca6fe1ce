-- Entities that the new version of a schema lacks, and entity types of which it keeps all.
use Rattle.std.proofs.Common.{◌≡◌, List, [], ◌∷◌, Option, Some, None, inl, refl, ap, subst, sym, ⊎_elim, Contains}
use Rattle.cedar_ast.proofs.Basics.{Contains-image, Contains-none}
use Rattle.cedar_ast.proofs.Lists.{Contains-cons, Contains-cons_cases}
use Rattle.cedar_ast.proofs.ValueLemmas.{IsText-nil}
use Rattle.cedar_compare.proofs.NoTags.{no_tags}
use Rattle.cedar_compare.specs.Words.{ActionEntity, AreAncestorsIn, AreTagsApart, AreTagsIn, AreTagsOf, AreValuesApart, DefinesAction, EntityTypeKind, Entries, Exists, Extensions, Has, HasAction, IncludedBetween, IsAlike, IsAncestorCause, IsCauseOfKinds, IsEntityOfKind, IsFreshEntity, IsIdOf, IsKeyed, IsLostEntity, IsOutsideBetween, IsReal, IsSampleOf, IsStandard, IsTagOutside, IsTypeLoss, IsValue, KeepsEntityType, MayHave, MayStandAbove, NamesOnlyExisting, NamesWhatExists, PlainBetween, PlainCause, PlainName, PlainSchema, PlainStep, PlainUid, SchemaAction, SchemaEntityType, Text, entity_lost, enumerated_kind, external_kind, kind_choices, kind_fields, kind_openness, kind_tags, map_value, no_entry, one_tag, record_of, removed, standard_kind, type_subject, uid_value, values_apart}
use Rattle.cedar_compare.specs.declared.difference.Part.TheVariants.{Attributes, Tags}

-- entities of a kind may have an id where its choices, if it has some, say so
pub id_of_choices : (kind : EntityTypeKind) (id : Text) → IsIdOf kind id → MayHave (kind_choices kind) id
id_of_choices (standard_kind fields openness tags) id of = tt
id_of_choices (enumerated_kind choices) id of = of
id_of_choices external_kind id of = tt

pub choices_of_id : (kind : EntityTypeKind) (id : Text) → MayHave (kind_choices kind) id → IsIdOf kind id
choices_of_id (standard_kind fields openness tags) id may = tt
choices_of_id (enumerated_kind choices) id may = may
choices_of_id external_kind id may = tt

-- an action that is defined is one of the schema
pub defined_there : (schema : PlainSchema) (uid : PlainUid) → DefinesAction schema uid → HasAction schema uid
defined_there schema uid (it, among, defined) =
    Contains-image (λ (entry : PlainUid × SchemaAction). entry.0) schema.actions (uid, it) among

module _ (extensions : Extensions) (schema : PlainSchema) where
  -- an entity of a standard kind has its attributes and its tags, which name what exists, and uids
  -- above it that may stand there
  pub parts_of : (kind : EntityTypeKind) (it : ActionEntity) → IsStandard kind → IsEntityOfKind extensions schema kind it
      → Has extensions (map_value it.attributes) (record_of (kind_fields kind) (kind_openness kind))
      × AreTagsOf extensions (kind_tags kind) it.tags × NamesOnlyExisting schema it × AreAncestorsIn schema it
  parts_of (standard_kind fields openness tags) it standard of = of
  parts_of _ it standard of = absurd standard

  -- and what has these is an entity of the kind
  pub of_parts : (kind : EntityTypeKind) (it : ActionEntity) → IsStandard kind
      → Has extensions (map_value it.attributes) (record_of (kind_fields kind) (kind_openness kind))
      → AreTagsOf extensions (kind_tags kind) it.tags → NamesOnlyExisting schema it → AreAncestorsIn schema it
      → IsEntityOfKind extensions schema kind it
  of_parts (standard_kind fields openness tags) it standard has tagged names above = (has, tagged, names, above)
  of_parts _ it standard has tagged names above = absurd standard

module _ (extensions : Extensions) (old new : PlainSchema) where
  -- an entity of one of the old schema's types is lost where no type of the new admits it, and no
  -- action of the new has its uid
  pub lost_here : (it : ActionEntity) (ty : SchemaEntityType) → Contains old.entity_types (it.uid.ty, ty) → IsReal it
      → IsEntityOfKind extensions old ty.kind it → ¬ HasAction new it.uid
      → ((other : SchemaEntityType) → Contains new.entity_types (it.uid.ty, other) → ¬ IsEntityOfKind extensions new other.kind it)
      → IsLostEntity extensions old new it
  lost_here it ty there real of no_action refused = (
    real,
    (ty, there, of),
    λ among. ⊎_elim (λ one. refused one.0 one.1 one.2) (λ action. no_action (defined_there new it.uid action.defined)) among,
  )

  -- an entity of a standard type whose uid the new schema doesn't name is lost where no standard
  -- type of the new one admits its attributes, its tags and what stands above it
  lost_fresh : (it : ActionEntity) (ty : SchemaEntityType) (name : PlainName) → it.uid.ty ≡ name
      → IsFreshEntity new name it.attributes it.tags it.ancestors it
      → Contains old.entity_types (name, ty) → IsStandard ty.kind
      → IsSampleOf extensions old (kind_fields ty.kind) (kind_openness ty.kind) it.attributes
      → IsValue (map_value it.tags) → AreTagsIn extensions old (kind_tags ty.kind) it.tags
      → ((upper : PlainUid) → Contains it.ancestors upper → IsValue (uid_value upper) × MayStandAbove old name upper)
      → ((other : SchemaEntityType) → Contains new.entity_types (name, other) → IsStandard other.kind
      → Has extensions (map_value it.attributes) (record_of (kind_fields other.kind) (kind_openness other.kind))
      → NamesWhatExists new (map_value it.attributes) → AreTagsIn extensions new (kind_tags other.kind) it.tags
      → ((upper : PlainUid) → Contains it.ancestors upper → MayStandAbove new name upper) → ⊥)
      → IsLostEntity extensions old new it
  lost_fresh it ty name named fresh there standard sample tags_real tagged above refused =
      lost_here it ty (subst (λ n. Contains old.entity_types (n, ty)) (sym named) there)
      (fresh.real, sample.0, tags_real, λ upper among. (above upper among).0)
      (of_parts extensions old ty.kind it standard sample.1 tagged.0 (record { attributes = sample.2; tags = tagged.1 }) (record {
        above = λ upper among. subst (λ n. MayStandAbove old n upper) (sym named) (above upper among).1;
        not_itself = fresh.not_itself;
      }))
      fresh.fresh.no_action
      (λ other among of. refuses other (subst (λ n. Contains new.entity_types (n, other)) named among) of)
    where
      refuses : (other : SchemaEntityType) → Contains new.entity_types (name, other) → ¬ IsEntityOfKind extensions new other.kind it
      refuses other among of = kinds other.kind refl of
        where
          kinds : (kind : EntityTypeKind) → other.kind ≡ kind → IsEntityOfKind extensions new kind it → ⊥
          kinds (standard_kind fields openness tags) is of' =
              let standard' : IsStandard other.kind = subst IsStandard (sym is) tt in
              let parts = parts_of extensions new other.kind it standard' of in
              refused other among standard' parts.0 parts.2.attributes (parts.1, parts.2.tags)
              (λ upper below. subst (λ n. MayStandAbove new n upper) named (parts.3.above upper below))
          kinds (enumerated_kind choices) is of' =
              fresh.fresh.no_choice other choices among (ap kind_choices is) of'.0
          kinds external_kind is of' = of'

  -- the same of an entity that is put together of such parts
  pub lost_with : (it : ActionEntity) (ty : SchemaEntityType) (name : PlainName) (attributes tags : Entries) (ancestors : List PlainUid)
      → IsFreshEntity new name attributes tags ancestors it
      → Contains old.entity_types (name, ty) → IsStandard ty.kind
      → IsSampleOf extensions old (kind_fields ty.kind) (kind_openness ty.kind) attributes
      → IsValue (map_value tags) → AreTagsIn extensions old (kind_tags ty.kind) tags
      → ((upper : PlainUid) → Contains ancestors upper → IsValue (uid_value upper) × MayStandAbove old name upper)
      → ((other : SchemaEntityType) → Contains new.entity_types (name, other) → IsStandard other.kind
      → Has extensions (map_value attributes) (record_of (kind_fields other.kind) (kind_openness other.kind))
      → NamesWhatExists new (map_value attributes) → AreTagsIn extensions new (kind_tags other.kind) tags
      → ((upper : PlainUid) → Contains ancestors upper → MayStandAbove new name upper) → ⊥)
      → IsLostEntity extensions old new it
  lost_with it ty name attributes tags ancestors fresh there standard =
      let P : Entries → Entries → List PlainUid → Type 0 = λ a t u. IsFreshEntity new name a t u it
      → IsSampleOf extensions old (kind_fields ty.kind) (kind_openness ty.kind) a
      → IsValue (map_value t) → AreTagsIn extensions old (kind_tags ty.kind) t
      → ((upper : PlainUid) → Contains u upper → IsValue (uid_value upper) × MayStandAbove old name upper)
      → ((other : SchemaEntityType) → Contains new.entity_types (name, other) → IsStandard other.kind
      → Has extensions (map_value a) (record_of (kind_fields other.kind) (kind_openness other.kind))
      → NamesWhatExists new (map_value a) → AreTagsIn extensions new (kind_tags other.kind) t
      → ((upper : PlainUid) → Contains u upper → MayStandAbove new name upper) → ⊥)
      → IsLostEntity extensions old new it in
      let here : P it.attributes it.tags it.ancestors =
      λ own. lost_fresh it ty name own.fresh.ty own there standard in
      subst (λ u. P attributes tags u) fresh.ancestors_are
      (subst (λ t. P attributes t it.ancestors) fresh.tags_are (subst (λ a. P a it.tags it.ancestors) fresh.attributes_are here)) fresh

  -- a standard type is kept where its attributes, its tags and what may stand above its entities
  -- are
  pub kept_standard : (name : PlainName) (ty other : SchemaEntityType) → IsKeyed old
      → Contains old.entity_types (name, ty) → Contains new.entity_types (name, other)
      → IsStandard ty.kind → IsStandard other.kind
      → IncludedBetween extensions old (record_of (kind_fields ty.kind) (kind_openness ty.kind))
      new (record_of (kind_fields other.kind) (kind_openness other.kind))
      → IsTagOutside extensions old new (kind_tags ty.kind) (kind_tags other.kind) None
      → ((upper : PlainUid) → MayStandAbove old name upper → MayStandAbove new name upper)
      → KeepsEntityType extensions old new name
  kept_standard name ty other keyed there there' standard standard' included tagged above it named real (one, among, of) =
      let same : one ≡ ty = keyed.types name one ty (subst (λ n. Contains old.entity_types (n, one)) named among) there in
      let of' : IsEntityOfKind extensions old ty.kind it = subst (λ (t : SchemaEntityType). IsEntityOfKind extensions old t.kind it) same of in
      let parts = parts_of extensions old ty.kind it standard of' in
      let attributes = included (map_value it.attributes) real.1 parts.0 parts.2.attributes in
      let tags = tagged it.tags real.2 (parts.1, parts.2.tags) in
      inl (
        other,
        subst (λ n. Contains new.entity_types (n, other)) (sym named) there',
        of_parts extensions new other.kind it standard' attributes.0 tags.0 (record { attributes = attributes.1; tags = tags.1 }) (record {
          above = λ upper below. subst (λ n. MayStandAbove new n upper) (sym named)
              (above upper (subst (λ n. MayStandAbove old n upper) named (parts.3.above upper below)));
          not_itself = parts.3.not_itself;
        }),
      )

-- a kind of the sort of a standard one is standard
pub alike_standard : (a b : EntityTypeKind) → IsAlike a b → IsStandard a → IsStandard b
alike_standard (standard_kind fields openness tags) (standard_kind others other_openness other_tags) alike standard = tt
alike_standard (enumerated_kind choices) b alike standard = absurd standard
alike_standard external_kind b alike standard = absurd standard
alike_standard a b alike standard = elim alike [ ]

-- a cause of the tags of two standard kinds
pub cause_of_tags : (extensions : Extensions) (old new : PlainSchema) (a b : EntityTypeKind) (steps : List PlainStep) (lost : Option PlainUid)
    → IsStandard a → IsStandard b → AreTagsApart extensions old new steps lost (kind_tags a) (kind_tags b)
    → IsCauseOfKinds extensions old new a b (values_apart Tags steps lost)
cause_of_tags extensions old new (standard_kind f o t) (standard_kind g p u) steps lost standard standard' apart = apart
cause_of_tags extensions old new _ _ steps lost standard standard' apart = absurd assumption

-- a cause of their attributes
pub cause_of_attributes : (extensions : Extensions) (old new : PlainSchema) (a b : EntityTypeKind) (steps : List PlainStep)
    (lost : Option PlainUid) → IsStandard a → IsStandard b
    → AreValuesApart extensions old new steps lost (record_of (kind_fields a) (kind_openness a)) (record_of (kind_fields b) (kind_openness b))
    → IsCauseOfKinds extensions old new a b (values_apart Attributes steps lost)
cause_of_attributes extensions old new (standard_kind f o t) (standard_kind g p u) steps lost standard standard' apart = apart
cause_of_attributes extensions old new _ _ steps lost standard standard' apart = absurd assumption

module _ (extensions : Extensions) (old new : PlainSchema) (name : PlainName) (ty : SchemaEntityType)
    (there : Contains old.entity_types (name, ty)) where
  -- a standard type is lost where the new schema has none of the name
  pub removed_loss : (it : ActionEntity) (attributes : Entries) → IsKeyed old → IsStandard ty.kind
      → IsFreshEntity new name attributes no_entry [] it → IsSampleOf extensions old (kind_fields ty.kind) (kind_openness ty.kind) attributes
      → ((other : SchemaEntityType) → Contains new.entity_types (name, other) → ¬ IsStandard other.kind)
      → IsTypeLoss extensions old new name (entity_lost it removed)
  removed_loss it attributes keyed standard fresh sample lacking = (
    ap type_subject fresh.fresh.ty,
    (
      lost_with extensions old new it ty name attributes no_entry [] fresh there standard sample tt (no_tags extensions (kind_tags ty.kind), tt)
          (λ upper among. absurd (Contains-none upper among))
          (λ other among standard' has names tagged above. lacking other among standard'),
      λ one other among also alike.
          let same : one ≡ ty = keyed.types name one ty (subst (λ n. Contains old.entity_types (n, one)) fresh.fresh.ty among) there in
          lacking other (subst (λ n. Contains new.entity_types (n, other)) fresh.fresh.ty also)
          (alike_standard one.kind other.kind alike (subst (λ (t : SchemaEntityType). IsStandard t.kind) (sym same) standard)),
    ),
  )

  module _ (other : SchemaEntityType) (there' : Contains new.entity_types (name, other)) (keyed : IsKeyed new)
      (standard : IsStandard ty.kind) (standard' : IsStandard other.kind) where
    -- what the new schema has of the name is the one type
    as_other : (P : SchemaEntityType → Type 0) (one : SchemaEntityType) → Contains new.entity_types (name, one) → P one → P other
    as_other P one among holds = subst P (keyed.types name one other among there') holds

    -- it is lost where an entity has tags that the other type hasn't
    pub tags_loss : (it : ActionEntity) (attributes : Entries) (found : PlainBetween)
        → IsFreshEntity new name attributes (one_tag found.value) [] it
        → IsSampleOf extensions old (kind_fields ty.kind) (kind_openness ty.kind) attributes
        → IsTagOutside extensions old new (kind_tags ty.kind) (kind_tags other.kind) (Some found)
        → IsTypeLoss extensions old new name (entity_lost it (values_apart Tags found.steps found.lost))
    tags_loss it attributes found fresh sample (real, of, lacks, apart) = (
      ap type_subject fresh.fresh.ty,
      (
        lost_with extensions old new it ty name attributes (one_tag found.value) [] fresh there standard sample
            (IsText-nil, real, tt, Contains-none []) of
            (λ upper among. absurd (Contains-none upper among))
            (λ one among std has names tagged above.
            lacks (as_other (λ t. AreTagsIn extensions new (kind_tags t.kind) (one_tag found.value)) one among tagged)),
        (
          ty,
          other,
          subst (λ n. Contains old.entity_types (n, ty)) (sym fresh.fresh.ty) there,
          subst (λ n. Contains new.entity_types (n, other)) (sym fresh.fresh.ty) there',
          cause_of_tags extensions old new ty.kind other.kind found.steps found.lost standard standard' apart,
        ),
      ),
    )

    -- or attributes
    pub attributes_loss : (it : ActionEntity) (attributes : Entries) (steps : List PlainStep) (lost : Option PlainUid)
        → IsFreshEntity new name attributes no_entry [] it
        → IsOutsideBetween extensions (Exists old) (Exists new) (record_of (kind_fields ty.kind) (kind_openness ty.kind))
        (record_of (kind_fields other.kind) (kind_openness other.kind))
        (record { value = map_value attributes; steps = steps; lost = lost })
        → IsTypeLoss extensions old new name (entity_lost it (values_apart Attributes steps lost))
    attributes_loss it attributes steps lost fresh found = (
      ap type_subject fresh.fresh.ty,
      (
        lost_with extensions old new it ty name attributes no_entry [] fresh there standard (found.real, found.has, found.exists) tt
            (no_tags extensions (kind_tags ty.kind), tt)
            (λ upper among. absurd (Contains-none upper among))
            (λ one among std has names tagged above. found.lacks (
              as_other (λ t. Has extensions (map_value attributes) (record_of (kind_fields t.kind) (kind_openness t.kind))) one among has,
              names,
            )),
        (
          ty,
          other,
          subst (λ n. Contains old.entity_types (n, ty)) (sym fresh.fresh.ty) there,
          subst (λ n. Contains new.entity_types (n, other)) (sym fresh.fresh.ty) there',
          cause_of_attributes extensions old new ty.kind other.kind steps lost standard standard' found.apart,
        ),
      ),
    )

  -- it is lost where an entity has a uid above it that may not stand there any more
  pub below_loss : (it : ActionEntity) (attributes : Entries) (upper : PlainUid) (cause : PlainCause) → IsStandard ty.kind
      → IsFreshEntity new name attributes no_entry (upper ∷ []) it
      → IsSampleOf extensions old (kind_fields ty.kind) (kind_openness ty.kind) attributes
      → IsValue (uid_value upper) → MayStandAbove old name upper → ¬ MayStandAbove new name upper
      → IsAncestorCause extensions old new name upper cause
      → IsTypeLoss extensions old new name (entity_lost it cause)
  below_loss it attributes upper cause standard fresh sample real may may_not true_cause = (
    ap type_subject fresh.fresh.ty,
    (
      lost_with extensions old new it ty name attributes no_entry (upper ∷ []) fresh there standard sample tt
          (no_tags extensions (kind_tags ty.kind), tt)
          (λ one among. ⊎_elim
          (λ same. (subst (λ u. IsValue (uid_value u)) same real, subst (MayStandAbove old name) same may))
          (λ none. absurd (Contains-none one none))
          (Contains-cons_cases upper [] one among))
          (λ other among std has names tagged above. may_not (above upper (Contains-cons upper [] upper (inl refl)))),
      true_cause it fresh.fresh.ty (subst (λ us. Contains us upper) (sym fresh.ancestors_are) (Contains-cons upper [] upper (inl refl))),
    ),
  )
