-- What references resolve to is decided, and so is which entity types and actions are below which.
use Rattle.std.proofs.Common.{◌⊎◌, ◌++◌, List, inl, inr, map, Contains}
use Rattle.std.proofs.lemmas.List.Elements.{Contains-append_left, Contains-append_right}
use Rattle.cedar_ast.proofs.Basics.{Contains-image}
use Rattle.cedar_schema_laws.proofs.ChainDecisions.{list_below}
use Rattle.cedar_schema_laws.proofs.ListDecisions.{Listed, decide_either, decide_first, decide_some, decide_stands, find_first, list_all}
use Rattle.cedar_schema_laws.proofs.TypeDecisions.{decide_like, decide_uids}
use Rattle.cedar_schema_laws.specs.Words.{ActionBody, ActionReference, Bag, Common, CommonOrEntity, Entity, EntityBody, Extensions, HasParent, HasParentAction, IsDefined, IsDescendant, IsDescendantAction, IsNamedBy, IsUnresolved, MayNameCommon, MayNameEntity, Names, NamesAction, PlainName, PlainUid, Reference, ReferenceType, ResolvesTo, action_uids, declared_actions, declared_entities, defined_names, entity_parents}
use Rattle.cedar_schema_semantics.proofs.ResolutionLemmas.{first_defined}
use Rattle.cedar_type_rules.proofs.AnsweredLemmas.{decide_names}
use Rattle.cedar_type_rules.proofs.Decisions.{IsDecided, decide_among, decide_both}
use Rattle.cedar_type_rules.proofs.RecordAnswers.{decide_texts}

-- a reference of the kind may name common types or not
pub decide_may_common : (kind : ReferenceType) → IsDecided (MayNameCommon kind)
decide_may_common Common = inl tt
decide_may_common Entity = inr (λ may. may)
decide_may_common CommonOrEntity = inl tt

-- a reference of the kind may name entity types or not
decide_may_entity : (kind : ReferenceType) → IsDecided (MayNameEntity kind)
decide_may_entity Common = inr (λ may. may)
decide_may_entity Entity = inl tt
decide_may_entity CommonOrEntity = inl tt

module _ (names : Names) where
  -- a reference of the kind may name what is defined under the name, or not
  decide_defined : (kind : ReferenceType) (name : PlainName) → IsDecided (IsDefined names kind name)
  decide_defined kind name =
      decide_either (decide_both (decide_may_common kind) (decide_among decide_names names.common name))
      (decide_both (decide_may_entity kind) (decide_among decide_names names.entities name))

  -- a reference resolves to some name, or is unresolved
  pub resolves_or_not : (reference : Reference) → ((name : PlainName) × ResolvesTo names reference name) ⊎ IsUnresolved names reference
  resolves_or_not reference =
      find_first (IsDefined names reference.kind) (decide_defined reference.kind) reference.possibilities

  -- a reference resolves to the name or doesn't
  decide_resolves : (name : PlainName) (reference : Reference) → IsDecided (ResolvesTo names reference name)
  decide_resolves name reference =
      decide_first (IsDefined names reference.kind) (decide_defined reference.kind) decide_names reference.possibilities name

  -- the names that some references resolve to are listed
  pub list_named : (references : List Reference) → Listed (IsNamedBy names references)
  list_named references =
      list_all (IsNamedBy names references)
      (λ name. decide_some (λ reference. ResolvesTo names reference name) (decide_resolves name) references)
      (names.common ++ names.entities)
      (λ name named. elim (first_defined names named.0.kind named.0.possibilities name named.2).1 [
        | inl common ↦ Contains-append_left names.common names.entities name common.1
        | inr is_entity ↦ Contains-append_right names.common names.entities name is_entity.1
      ])

-- a reference to an action names that of the uid or doesn't
decide_action : (actions : List PlainUid) (uid : PlainUid) (reference : ActionReference) → IsDecided (NamesAction actions reference uid)
decide_action actions uid reference =
    decide_both (decide_first (λ ty. Contains actions (record { ty = ty; eid = reference.id }))
    (λ ty. decide_among decide_uids actions (record { ty = ty; eid = reference.id })) decide_names reference.ty.possibilities uid.ty)
    (decide_texts uid.eid reference.id)

module _ (bag : Bag) where
  -- the one action is a parent of the other or isn't
  decide_parent_action : (lower upper : PlainUid) → IsDecided (HasParentAction bag lower upper)
  decide_parent_action lower upper =
      let NamesUpper : ActionReference → Type 0 = λ reference. NamesAction (action_uids bag) reference upper in
      let HasUpper : ActionBody → Type 0 = λ body. (reference : ActionReference) × Contains body.parents reference × NamesUpper reference in
      decide_like (λ found. (found.2.0, (found.0, found.1, found.2.1), found.2.2))
      (λ has. (has.1.0, has.1.1, (has.0, has.1.2, has.2))) (decide_stands decide_uids (declared_actions bag) HasUpper
      (λ body. decide_some NamesUpper (decide_action (action_uids bag) upper) body.parents) lower)

  -- the descendants of an action are listed
  pub list_descendant_actions : (upper : PlainUid) → Listed (λ lower. IsDescendantAction bag lower upper)
  list_descendant_actions =
      list_below (HasParentAction bag) (action_uids bag)
      (λ lower upper has. Contains-image (λ (it : PlainUid × ActionBody). it.0) (declared_actions bag) (lower, has.1.0) has.1.1)
      decide_parent_action

module _ (bag : Bag) (extensions : Extensions) where
  -- the one entity type is a parent of the other or isn't
  decide_parent : (lower upper : PlainName) → IsDecided (HasParent bag extensions lower upper)
  decide_parent lower upper =
      let Resolves : Reference → Type 0 = λ reference. ResolvesTo (defined_names bag extensions) reference upper in
      let HasUpper : EntityBody → Type 0 = λ body. (reference : Reference) × Contains (entity_parents body) reference × Resolves reference in
      decide_like (λ found. (found.2.0, (found.0, found.1, found.2.1), found.2.2))
      (λ has. (has.1.0, has.1.1, (has.0, has.1.2, has.2))) (decide_stands decide_names (declared_entities bag) HasUpper
      (λ body. decide_some Resolves (decide_resolves (defined_names bag extensions) upper) (entity_parents body)) lower)

  -- the descendants of an entity type are listed
  pub list_descendants : (upper : PlainName) → Listed (λ lower. IsDescendant bag extensions lower upper)
  list_descendants =
      list_below (HasParent bag extensions) (map (λ it. it.0) (declared_entities bag))
      (λ lower upper has. Contains-image (λ (it : PlainName × EntityBody). it.0) (declared_entities bag) (lower, has.1.0) has.1.1)
      decide_parent
