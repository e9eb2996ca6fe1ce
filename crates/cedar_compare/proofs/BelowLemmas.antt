-- What a schema below another admits, that one admits.
use Rattle.std.proofs.Common.{◌≡◌, None, Option, Some, inl, inr, refl, ap, subst, sym, ◌∙◌, ⊎_elim}
use Rattle.cedar_ast.proofs.Basics.{Contains-image}
use Rattle.cedar_compare.specs.Words.{ActionBelow, ActionEntity, ActionKind, AreTagsOf, EntityTypeKind, Entries, Environment, Exists, Extensions, Gives, Has, IsDefinedKind, IsEntityIn, IsEntityOfKind, IsEnumerated, IsIdOf, IsReal, IsRealRequest, IsRequestIn, IsRequestOf, Keeps, KeepsUids, KindBelow, MayHaveId, MayStandAbove, Permissive, PlainName, PlainRequest, PlainSchema, PlainUid, SchemaAction, SchemaBelow, SchemaEntityType, TagsBelow, Text, Tree, Ty, defined_action, entry_at, enumerated_kind, external_action, external_kind, map_value, record_of, standard_kind}
use Rattle.cedar_entities.proofs.KeptLemmas.{all_kept}
use Rattle.cedar_schema_semantics.proofs.OccurrenceLemmas.{Contains-entry}
use Rattle.cedar_type_rules.proofs.MemberLaws.{HasBy-above}

-- tags of a type that go over to another are tags of that one
tags_above : (extensions : Extensions) (lower upper : Option Ty) (tags : Entries) → TagsBelow lower upper → AreTagsOf extensions lower tags
    → AreTagsOf extensions upper tags
tags_above extensions None None tags below of = of
tags_above extensions None (Some upper) tags below of = λ name value found.
    absurd (let missed : entry_at name tags ≡ None = subst (λ (all : Entries). entry_at name all ≡ None) (sym of) refl in
    let wrong : None ≡ Some value = sym missed ∙ found in cc)
tags_above extensions (Some lower) None tags below of = elim below [ ]
tags_above extensions (Some lower) (Some upper) tags below of = λ name value found.
    HasBy-above (Gives extensions) value Permissive lower upper (of name value found) below

-- entities of a kind are of each kind above it, if what may stand above them still may
entities_above : (extensions : Extensions) (old new : PlainSchema) (lower upper : EntityTypeKind) (it : ActionEntity) → KindBelow lower upper
    → ((above : PlainUid) → MayStandAbove old it.uid.ty above → MayStandAbove new it.uid.ty above)
    → KeepsUids (Exists old) (Exists new) → IsReal it → IsEntityOfKind extensions old lower it → IsEntityOfKind extensions new upper it
entities_above extensions old new (standard_kind a openness tags) (standard_kind b upper_openness upper_tags) it below still keeps real of = (
  HasBy-above (Gives extensions) (map_value it.attributes) Permissive (record_of a openness) (record_of b upper_openness) of.0 below.0,
  tags_above extensions tags upper_tags it.tags below.1 of.1,
  record {
    attributes = all_kept (Exists old) (Exists new) (map_value it.attributes) keeps real.1 of.2.attributes;
    tags = all_kept (Exists old) (Exists new) (map_value it.tags) keeps real.2 of.2.tags;
  },
  record {
    above = λ above among. still above (of.3.above above among);
    not_itself = of.3.not_itself;
  },
)
entities_above extensions old new (enumerated_kind a) (enumerated_kind b) it below still keeps real of =
    (below it.uid.eid of.0, of.1, of.2, of.3)
entities_above extensions old new external_kind external_kind it below still keeps real of = of
entities_above extensions old new lower upper it below still keeps real of = elim below [ ]

-- an id of a kind is one of each kind above it
id_above : (lower upper : EntityTypeKind) (id : Text) → KindBelow lower upper → IsIdOf lower id → IsIdOf upper id
id_above (standard_kind a openness tags) (standard_kind b upper_openness upper_tags) id below of = tt
id_above (enumerated_kind a) (enumerated_kind b) id below of = below id of
id_above external_kind external_kind id below of = tt
id_above lower upper id below of = elim below [ ]

-- a defined action goes over to a defined one
defined_above : (lower upper : ActionKind) → ActionBelow lower upper → IsDefinedKind lower → IsDefinedKind upper
defined_above (defined_action p r c) (defined_action q s d) below of = tt
defined_above external_action external_action below of = of
defined_above lower upper below of = elim below [ ]

module _ (extensions : Extensions) (old new : PlainSchema) (below : SchemaBelow old new) where
  -- what may stand above entities of a type still may
  stand_above : (name : PlainName) (upper : PlainUid) → MayStandAbove old name upper → MayStandAbove new name upper
  stand_above name upper may =
      let other = below.entity_types upper.ty may.0 may.1 in
      (other.0, other.1, other.3 name may.2, id_above may.0.kind other.0.kind upper.eid other.2 may.3)

  -- an id that a type may have in the old schema it may have in the new
  ids_above : (uid : PlainUid) → MayHaveId old uid → MayHaveId new uid
  ids_above uid may it among = of_kind it.kind refl
    where
      of_kind : (kind : EntityTypeKind) → it.kind ≡ kind → IsIdOf kind uid.eid
      of_kind (standard_kind fields openness tags) is = tt
      of_kind external_kind is = tt
      of_kind (enumerated_kind choices) is =
          let found = Contains-entry old.entity_types uid.ty (below.enumerated uid.ty it among (subst IsEnumerated (sym is) tt)) in
          let other = below.entity_types uid.ty found.0 found.1 in
          subst (λ (kind : EntityTypeKind). IsIdOf kind uid.eid) (ap (λ (ty : SchemaEntityType). ty.kind) (below.once uid.ty other.0 it other.1 among) ∙ is)
          (id_above found.0.kind other.0.kind uid.eid other.2 (may found.0 found.1))

  -- a uid that exists in the old schema does in the new
  exists_above : KeepsUids (Exists old) (Exists new)
  exists_above uid real exists = record {
    choice = ids_above uid exists.choice;
    action = λ of_actions.
        let it = Contains-entry old.actions uid (exists.action of_actions) in
        let other = below.actions uid it.0 it.1 in
        Contains-image (λ (entry : PlainUid × SchemaAction). entry.0) new.actions (uid, other.0) other.1;
  }

  -- each entity stays one
  entity_above : (it : ActionEntity) → IsReal it → IsEntityIn extensions old it → IsEntityIn extensions new it
  entity_above it real among =
      ⊎_elim
      (λ of. (let other = below.entity_types it.uid.ty of.0 of.1 in
      inl (other.0, other.1, entities_above extensions old new of.0.kind other.0.kind it other.2 (stand_above it.uid.ty) exists_above real of.2)))
      (λ of. (let other = below.actions it.uid of.defined.0 of.defined.1 in
      inr (record {
        defined = (other.0, other.1, defined_above of.defined.0.kind other.0.kind other.2 of.defined.2);
        attributes = of.attributes;
        tags = of.tags;
        ancestors = λ upper. (
          λ above. (below.listed it.uid upper).0 ((of.ancestors upper).0 above),
          λ lists. (of.ancestors upper).1 ((below.listed it.uid upper).1 lists),
        );
      })))
      among

  -- requests of an action go over
  requests_above : (lower upper : ActionKind) (it : Environment) (context : Tree) → ActionBelow lower upper → IsRequestOf lower it
      → Has extensions context it.context
      → (ty : Ty) × IsRequestOf upper (record { principal = it.principal; action = it.action; resource = it.resource; context = ty })
      × Has extensions context ty
  requests_above (defined_action p r c) (defined_action q s d) it context lower of has = (
    d,
    (lower.0 it.principal of.0, lower.1 it.resource of.1, refl),
    HasBy-above (Gives extensions) context Permissive c d (subst (Has extensions context) (sym of.2) has) lower.2,
  )
  requests_above external_action external_action it context goes of has = absurd of
  requests_above lower upper it context goes of has = elim goes [ ]

  -- each request stays one
  request_above : (it : PlainRequest) → IsRealRequest it → IsRequestIn extensions old it → IsRequestIn extensions new it
  request_above it real (environment, (action, among, asked), types, has, names, first, second) =
      let other = below.actions environment.action action among in
      let more = requests_above action.kind other.0.kind environment it.context other.2 asked has in (
        record { principal = environment.principal; action = environment.action; resource = environment.resource; context = more.0 },
        (other.0, other.1, more.1),
        record {
          principal_type = types.principal_type;
          of_action = types.of_action;
          resource_type = types.resource_type;
        },
        more.2,
        all_kept (Exists old) (Exists new) it.context exists_above real.3 names,
        ids_above it.principal first,
        ids_above it.resource second,
      )

-- a schema below another is kept by it
pub below_keeps : (extensions : Extensions) (old new : PlainSchema) → SchemaBelow old new → Keeps extensions old new
below_keeps extensions old new below = record {
  entities = λ it real of. entity_above extensions old new below it real of;
  requests = λ it real of. request_above extensions old new below it real of;
}
