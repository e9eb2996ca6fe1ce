-- The entities of the actions of a schema are listed.
use Rattle.std.proofs.Common.{◌≡◌, List, [], ◌∷◌, map, inl, inr, refl, Contains}
use Rattle.cedar_ast.proofs.Basics.{Contains-image}
use Rattle.cedar_ast.proofs.Lists.{Contains-preimage}
use Rattle.cedar_ast.proofs.PlainNames.{uid_cmp-Equal, uid_cmp-total}
use Rattle.cedar_schema_laws.proofs.ListDecisions.{Listed, decide_stands, in_order, list_all}
use Rattle.cedar_schema_laws.proofs.TypeDecisions.{decide_uids}
use Rattle.cedar_schema_laws.specs.Words.{ActionEntity, ActionKind, AreActionEntities, DefinesAction, IsDefinedKind, ListsDescendantAction, PlainSchema, PlainUid, SchemaAction, defined_action, external_action, no_entry, uid_cmp}
use Rattle.cedar_type_rules.proofs.Decisions.{IsDecided, decide_among}

-- a kind is defined or external
decide_kind : (kind : ActionKind) → IsDecided (IsDefinedKind kind)
decide_kind (defined_action principals resources context) = inl tt
decide_kind external_action = inr (λ is. is)

-- a schema has a defined action of the uid or hasn't
decide_defines : (schema : PlainSchema) (uid : PlainUid) → IsDecided (DefinesAction schema uid)
decide_defines schema uid =
    decide_stands decide_uids schema.actions (λ action. IsDefinedKind action.kind) (λ action. decide_kind action.kind) uid

-- a schema lists the one action among the descendants of the other or doesn't
decide_lists : (schema : PlainSchema) (lower upper : PlainUid) → IsDecided (ListsDescendantAction schema lower upper)
decide_lists schema lower upper =
    decide_stands decide_uids schema.actions (λ action. Contains action.descendants lower)
    (λ action. decide_among decide_uids action.descendants lower) upper

-- items that are made into others and back are as before
there_and_back : {X Y : Type 0} (f : X → Y) (g : Y → X) → ((x : X) → g (f x) ≡ x) → (xs : List X) → map g (map f xs) ≡ xs
there_and_back f g back [] = refl
there_and_back f g back (x ∷ xs) = λ i. back x i ∷ there_and_back f g back xs i

module _ (schema : PlainSchema) where
  -- the actions that list the one among their descendants are listed
  list_ancestors : (lower : PlainUid) → Listed (ListsDescendantAction schema lower)
  list_ancestors lower =
      list_all (ListsDescendantAction schema lower) (decide_lists schema lower) (map (λ it. it.0) schema.actions)
      (λ upper lists. Contains-image (λ (it : PlainUid × SchemaAction). it.0) schema.actions (upper, lists.0) lists.1)

  -- the uids of the defined actions are listed
  list_defined : Listed (DefinesAction schema)
  list_defined =
      list_all (DefinesAction schema) (decide_defines schema) (map (λ it. it.0) schema.actions)
      (λ uid defines. Contains-image (λ (it : PlainUid × SchemaAction). it.0) schema.actions (uid, defines.0) defines.1)

  -- the entity of the action of the uid
  abbrev entity_of : PlainUid → ActionEntity
  entity_of uid = record { uid = uid; attributes = no_entry; tags = no_entry; ancestors = (list_ancestors uid).0 }

  -- of some actions the entities are listed
  pub list_entities : (entities : List ActionEntity) × AreActionEntities (record schema { action_entities = entities })
  list_entities =
      let uids = in_order uid_cmp uid_cmp-total uid_cmp-Equal list_defined.0 in
      let entities = map entity_of uids.0 in
      let same : map (λ it. it.uid) entities ≡ uids.0 = there_and_back entity_of (λ it. it.uid) (λ uid. refl) uids.0 in (
        entities,
        record {
          entities = λ it among.
              let found = Contains-preimage entity_of uids.0 it among in
              rw (← found.2) (record {
                defined = (list_defined.1 found.0).0 ((uids.1 found.0).0 found.1);
                attributes = refl;
                tags = refl;
                ancestors = (list_ancestors found.0).1;
              });
          each = λ uid defines. rw same ((uids.1 uid).1 ((list_defined.1 uid).1 defines));
          in_order = rw same uids.2;
        },
      )
