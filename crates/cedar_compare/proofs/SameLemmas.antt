-- A schema keeps all that another admits which is the same.
use Rattle.std.proofs.Common.{◌≡◌, inl, inr, subst, sym, ◌∙◌, ⊎_elim, Contains}
use Rattle.cedar_compare.specs.Words.{ActionEntity, ActionKind, EntityTypeKind, Environment, Exists, Extensions, HoldsPairwise, IsEntityIn, IsEntityOfKind, IsIdOf, IsReal, IsRealRequest, IsRequestIn, IsRequestOf, IsValue, Keeps, KeepsUids, ListsDescendantAction, MayHaveId, MayStandAbove, NamesWhatExists, PlainName, PlainRequest, PlainSchema, PlainUid, SameAction, SameActionKind, SameEntityType, SameItems, SameSchema, SchemaAction, SchemaEntityType, Tree, defined_action, enumerated_kind, external_kind, map_value, standard_kind}
use Rattle.cedar_ast.proofs.Basics.{Contains-image}
use Rattle.cedar_entities.proofs.KeptLemmas.{all_kept}
use Rattle.cedar_schema_semantics.proofs.OccurrenceLemmas.{Contains-entry}
use Rattle.cedar_schema_semantics.proofs.SameActions.{action_back, defined_like}
use Rattle.cedar_schema_semantics.proofs.TurnLemmas.{turn_back, turn_forth}

-- the same entity types the other way round
type_back : (it other : PlainName × SchemaEntityType) → SameEntityType it other → SameEntityType other it
type_back it other same = record {
  key = sym same.key;
  name = sym same.name;
  kind = sym same.kind;
  descendants = λ name. ((same.descendants name).1, (same.descendants name).0);
}

-- entity types and actions are pairwise the same
abbrev AreAlike : PlainSchema → PlainSchema → Type 0
AreAlike schema other =
    HoldsPairwise SameEntityType schema.entity_types other.entity_types × HoldsPairwise SameAction schema.actions other.actions

-- so they are the other way round
alike_back : (schema other : PlainSchema) → AreAlike schema other → AreAlike other schema
alike_back schema other alike = (
  turn_back SameEntityType SameEntityType type_back schema.entity_types other.entity_types alike.0,
  turn_back SameAction SameAction action_back schema.actions other.actions alike.1,
)

-- and is for them
asked_like : (kind other : ActionKind) (it : Environment) → SameActionKind kind other → IsRequestOf kind it → IsRequestOf other it
asked_like (defined_action p r c) (defined_action q s d) it same of =
    ((same.0 it.principal).0 of.0, (same.1 it.resource).0 of.1, sym same.2 ∙ of.2)
asked_like _ _ it same of = absurd assumption

module _ (schema other : PlainSchema) (alike : AreAlike schema other) where
  -- an entity type of the one schema is one of the other, of the same kind and with the same
  -- descendants
  type_there : (name : PlainName) (it : SchemaEntityType) → Contains schema.entity_types (name, it)
      → (found : SchemaEntityType) × Contains other.entity_types (name, found) × (it.kind ≡ found.kind)
      × SameItems it.descendants found.descendants
  type_there name it among =
      let found = turn_forth SameEntityType schema.entity_types other.entity_types alike.0 (name, it) among in
      let P : PlainName → Type 0 = λ key. Contains other.entity_types (key, found.0.1) in
      (found.0.1, subst P (sym found.2.key) found.1, found.2.kind, found.2.descendants)

  -- an action of the one schema is one of the other, for the same requests and with the same
  -- descendants
  action_there : (uid : PlainUid) (it : SchemaAction) → Contains schema.actions (uid, it)
      → (found : SchemaAction) × Contains other.actions (uid, found) × SameActionKind it.kind found.kind
      × SameItems it.descendants found.descendants
  action_there uid it among =
      let found = turn_forth SameAction schema.actions other.actions alike.1 (uid, it) among in
      let P : PlainUid → Type 0 = λ key. Contains other.actions (key, found.0.1) in
      (found.0.1, subst P (sym found.2.key) found.1, found.2.kind, found.2.descendants)

  -- what the one lists the other lists
  lists_there : (lower upper : PlainUid) → ListsDescendantAction schema lower upper → ListsDescendantAction other lower upper
  lists_there lower upper lists =
      let found = action_there upper lists.0 lists.1 in
      (found.0, found.1, (found.3 lower).0 lists.2)

module _ (extensions : Extensions) (old new : PlainSchema) (alike : AreAlike old new) where
  -- what may stand above entities of a type still may
  stand_there : (name : PlainName) (upper : PlainUid) → MayStandAbove old name upper → MayStandAbove new name upper
  stand_there name upper may =
      let found = type_there old new alike upper.ty may.0 may.1 in
      (found.0, found.1, (found.3 name).0 may.2, subst (λ kind. IsIdOf kind upper.eid) found.2 may.3)

  -- an id that a type may have it still may
  id_there : (uid : PlainUid) → MayHaveId old uid → MayHaveId new uid
  id_there uid may it among =
      let found = type_there new old (alike_back old new alike) uid.ty it among in
      subst (λ kind. IsIdOf kind uid.eid) (sym found.2) (may found.0 found.1)

  -- a uid that exists still does
  exists_there : KeepsUids (Exists old) (Exists new)
  exists_there uid real exists = record {
    choice = id_there uid exists.choice;
    action = λ of_actions.
        let it = Contains-entry old.actions uid (exists.action of_actions) in
        let found = action_there old new alike uid it.0 it.1 in
        Contains-image (λ (entry : PlainUid × SchemaAction). entry.0) new.actions (uid, found.0) found.1;
  }

  -- so what names what exists still does
  names_there : (value : Tree) → IsValue value → NamesWhatExists old value → NamesWhatExists new value
  names_there value real names = all_kept (Exists old) (Exists new) value exists_there real names

  -- entities of a kind stay so
  kind_there : (kind : EntityTypeKind) (it : ActionEntity) → IsReal it → IsEntityOfKind extensions old kind it
      → IsEntityOfKind extensions new kind it
  kind_there (standard_kind fields openness tags) it real of = (
    of.0,
    of.1,
    record {
      attributes = names_there (map_value it.attributes) real.1 of.2.attributes;
      tags = names_there (map_value it.tags) real.2 of.2.tags;
    },
    record {
      above = λ upper among. stand_there it.uid.ty upper (of.3.above upper among);
      not_itself = of.3.not_itself;
    },
  )
  kind_there (enumerated_kind choices) it real of = of
  kind_there external_kind it real of = of

  -- each entity stays one
  entity_there : (it : ActionEntity) → IsReal it → IsEntityIn extensions old it → IsEntityIn extensions new it
  entity_there it real among =
      ⊎_elim
      (λ of. (let found = type_there old new alike it.uid.ty of.0 of.1 in
      inl (found.0, found.1, kind_there found.0.kind it real (subst (λ kind. IsEntityOfKind extensions old kind it) found.2 of.2))))
      (λ of. (let found = action_there old new alike it.uid of.defined.0 of.defined.1 in
      inr (record {
        defined = (found.0, found.1, defined_like of.defined.0.kind found.0.kind found.2 of.defined.2);
        attributes = of.attributes;
        tags = of.tags;
        ancestors = λ upper. (
          λ above. lists_there old new alike it.uid upper ((of.ancestors upper).0 above),
          λ lists. (of.ancestors upper).1 (lists_there new old (alike_back old new alike) it.uid upper lists),
        );
      })))
      among

  -- each request stays one
  request_there : (it : PlainRequest) → IsRealRequest it → IsRequestIn extensions old it → IsRequestIn extensions new it
  request_there it real (environment, (action, among, asked), types, has, names, first, second) =
      let found = action_there old new alike environment.action action among in (
        environment,
        (found.0, found.1, asked_like action.kind found.0.kind environment found.2 asked),
        types,
        has,
        names_there it.context real.3 names,
        id_there it.principal first,
        id_there it.resource second,
      )

  -- so all is kept
  alike_keeps : Keeps extensions old new
  alike_keeps = record {
    entities = λ it real of. entity_there it real of;
    requests = λ it real of. request_there it real of;
  }

-- schemas that are the same keep each other
pub same_keep : (extensions : Extensions) (old new : PlainSchema) → SameSchema old new → Keeps extensions old new × Keeps extensions new old
same_keep extensions old new same =
    let alike : AreAlike old new = (same.entity_types, same.actions) in
    (alike_keeps extensions old new alike, alike_keeps extensions new old (alike_back old new alike))
