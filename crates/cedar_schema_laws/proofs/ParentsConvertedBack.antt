-- In the bag of a schema that is converted back each is below those that list it among their
-- descendants.
use Rattle.std.proofs.Common.{◌≡◌, ◌↔◌, Option, map, ap, sym, refl, inl, inr, arith, Contains}
use Rattle.std.proofs.lemmas.List.Elements.{Contains-append_left}
use Rattle.cedar_ast.proofs.Basics.{Contains-image}
use Rattle.cedar_ast.proofs.Chains.{refined}
use Rattle.cedar_schema_laws.proofs.EntriesConvertedBack.{action_declared, declared_action_from, declared_type_from, same_uids, type_declared}
use Rattle.cedar_schema_laws.proofs.ListDecisions.{find_first}
use Rattle.cedar_schema_laws.proofs.NamesConvertedBack.{named_again, stands_for_itself}
use Rattle.cedar_schema_laws.proofs.TypeDecisions.{decide_uids}
use Rattle.cedar_schema_laws.specs.Words.{Bag, Chain, Entity, EntityBody, EntityTypeKind, Extensions, HasAction, HasEntityType, HasParent, HasParentAction, IsConvertedBack, IsDefined, IsDescendant, IsDescendantAction, IsEnumerated, IsKindWritten, IsNameWrittenIn, IsNamedAgain, IsUidWrittenIn, IsWritable, ListsDescendant, ListsDescendantAction, NamesAction, PlainName, PlainSchema, PlainUid, Reference, SchemaAction, SchemaEntityType, action_uids, defined_names, definitions, entity_parents, enumerated, enumerated_kind, external, external_kind, full_name, full_uid, one, standard, standard_kind}
use Rattle.cedar_schema_semantics.proofs.OccurrenceLemmas.{Contains-entry}
use Rattle.cedar_schema_semantics.proofs.ResolutionLemmas.{IsFirst-like, IsFirst-same}
use Rattle.cedar_type_rules.proofs.Decisions.{decide_among}

module _ (namespace : Option PlainName) (IsAbove : PlainName → Type 0) where
  -- a parent that is written is the name in full of one above
  pub parent_above : (kind : EntityTypeKind) (body : EntityBody) → IsKindWritten namespace IsAbove kind body
      → (reference : Reference) → Contains (entity_parents body) reference
      → (name : PlainName) × IsAbove name × (full_name namespace name ≡ reference)
  parent_above (standard_kind fields openness tags) (standard parents shape expr) is reference among = (is.0 reference).0 among
  parent_above (enumerated_kind choices) (enumerated ids) is reference among = absurd (omega (arith, among.1))
  parent_above external_kind (external parents) is reference among = (is reference).0 among
  parent_above _ _ is reference among = absurd is

  -- one above is written as a parent, but of what is enumerated
  pub above_parent : (kind : EntityTypeKind) (body : EntityBody) → IsKindWritten namespace IsAbove kind body → ¬ IsEnumerated kind
      → (name : PlainName) → IsAbove name → Contains (entity_parents body) (full_name namespace name)
  above_parent (standard_kind fields openness tags) (standard parents shape expr) is other name above =
      (is.0 (full_name namespace name)).1 (name, above, refl)
  above_parent (enumerated_kind choices) body is other name above = absurd (other tt)
  above_parent external_kind (external parents) is other name above = (is (full_name namespace name)).1 (name, above, refl)
  above_parent _ _ is other name above = absurd is

-- what lists another among its descendants is in the schema
pub upper_there : (schema : PlainSchema) (lower upper : PlainName) → ListsDescendant schema lower upper → HasEntityType schema upper
upper_there schema lower upper lists =
    Contains-image (λ (each : PlainName × SchemaEntityType). each.0) schema.entity_types (upper, lists.0) lists.1

-- so of actions
pub upper_action_there : (schema : PlainSchema) (lower upper : PlainUid) → ListsDescendantAction schema lower upper
    → HasAction schema upper
upper_action_there schema lower upper lists =
    Contains-image (λ (each : PlainUid × SchemaAction). each.0) schema.actions (upper, lists.0) lists.1

module _ (schema : PlainSchema) (bag : Bag) (extensions : Extensions) (writable : IsWritable schema)
    (written : IsConvertedBack schema bag) where
  -- the name of an entity type of the schema is named again
  pub type_again : (namespace : Option PlainName) (name : PlainName) → IsNameWrittenIn schema namespace name → HasEntityType schema name
      → IsNamedAgain (definitions bag extensions) namespace name
  type_again namespace name in_place has =
      named_again schema bag written extensions namespace name (writable.names namespace name in_place)
      (Contains-append_left (map (λ it. it.0) schema.entity_types) (map (λ it. it.0.ty) schema.actions) name has)

  -- a parent in the bag lists the one among its descendants
  pub parent_lists : (lower upper : PlainName) → HasParent bag extensions lower upper → ListsDescendant schema lower upper
  parent_lists lower upper (reference, (body, among, parent), resolves) =
      let from = declared_type_from schema bag written lower body among in
      let entry = from.2 in
      let above = parent_above entry.namespace (λ other. ListsDescendant schema lower other) from.0.kind body entry.kind
      reference parent in
      let again = type_again entry.namespace above.0 (inr (inl (lower, entry.path, above.1)))
      (upper_there schema lower above.0 above.1) in
      let names = defined_names bag extensions in
      let same = IsFirst-same (IsDefined names Entity) (full_name entry.namespace above.0).possibilities above.0 upper
      again.resolves (rw (← above.2) at resolves) in
      rw same at above.1

  -- what lists another among its descendants is a parent of it in the bag
  lists_parent : (lower upper : PlainName) → ListsDescendant schema lower upper → HasParent bag extensions lower upper
  lists_parent lower upper lists =
      let it = Contains-entry schema.entity_types lower (writable.entity_types_below lower upper lists) in
      let found = type_declared schema bag written (lower, it.0) it.1 in
      let entry = found.2 in
      let parent = above_parent entry.namespace (λ other. ListsDescendant schema lower other) it.0.kind found.0 entry.kind
      (λ is. writable.none_enumerated lower upper lists (it.0, it.1, is)) upper lists in
      let again = type_again entry.namespace upper (inr (inl (lower, entry.path, lists))) (upper_there schema lower upper lists) in
      (full_name entry.namespace upper, (found.0, found.1, parent), again.resolves)

  -- a uid that is written in full names the action again
  pub action_again : (namespace : Option PlainName) (uid : PlainUid) → IsUidWrittenIn schema namespace uid → HasAction schema uid
      → NamesAction (action_uids bag) (full_uid namespace uid) uid
  action_again namespace uid in_place has =
      let uids = map (λ (it : PlainUid × SchemaAction). it.0) schema.actions in
      let InBag : PlainName → Type 0 = λ ty. Contains (action_uids bag) (record { ty = ty; eid = uid.eid }) in
      let InSchema : PlainName → Type 0 = λ ty. Contains uids (record { ty = ty; eid = uid.eid }) in
      let possibilities = (full_name namespace uid.ty).possibilities in
      elim (find_first InBag (λ ty. decide_among decide_uids (action_uids bag) (record { ty = ty; eid = uid.eid })) possibilities) [
        | inl first ↦
            let other : PlainUid = record { ty = first.0; eid = uid.eid } in
            let same = writable.uids namespace uid in_place other (
              IsFirst-like InBag InSchema (λ ty. (same_uids schema bag written (record { ty = ty; eid = uid.eid })).0)
                  (λ ty. (same_uids schema bag written (record { ty = ty; eid = uid.eid })).1) possibilities first.0 first.1,
              refl,
            ) in
            (rw (ap (λ (each : PlainUid). each.ty) same) at first.1, refl)
        | inr none ↦ absurd (none uid.ty (stands_for_itself namespace uid.ty) ((same_uids schema bag written uid).1 has))
      ]

  -- a parent of an action in the bag lists the one among its descendants
  parent_lists_action : (lower upper : PlainUid) → HasParentAction bag lower upper → ListsDescendantAction schema lower upper
  parent_lists_action lower upper (reference, (body, among, parent), names_upper) =
      let entry = (declared_action_from schema bag written lower body among).2 in
      let above = (entry.parents reference).0 parent in
      let again = action_again entry.namespace above.0 (lower, entry.path, above.1) (upper_action_there schema lower above.0 above.1) in
      let other = rw (← above.2) at names_upper in
      let same_type = IsFirst-same (λ ty. Contains (action_uids bag) (record { ty = ty; eid = above.0.eid }))
      (full_name entry.namespace above.0.ty).possibilities above.0.ty upper.ty again.0 other.0 in
      let same : above.0 ≡ upper = λ i. record { ty = same_type i; eid = sym other.1 i } in
      rw same at above.1

  -- what lists another among its descendants is a parent action of it in the bag
  lists_parent_action : (lower upper : PlainUid) → ListsDescendantAction schema lower upper → HasParentAction bag lower upper
  lists_parent_action lower upper lists =
      let it = Contains-entry schema.actions lower (writable.actions_below lower upper lists) in
      let found = action_declared schema bag written (lower, it.0) it.1 in
      let entry = found.2 in
      let reference = full_uid entry.namespace upper in
      let parent = (entry.parents reference).1 (upper, lists, refl) in (
        reference,
        (found.0, found.1, parent),
        action_again entry.namespace upper (lower, entry.path, lists) (upper_action_there schema lower upper lists),
      )

  -- the descendants in the bag are those that one or more steps of the listed ones reach
  pub same_descendants : (lower upper : PlainName) → IsDescendant bag extensions lower upper ↔ Chain (ListsDescendant schema) lower upper
  same_descendants lower upper =
      (refined (λ k l has. one (parent_lists k l has)), refined (λ k l lists. one (lists_parent k l lists)))

  -- the same of actions
  pub same_action_descendants : (lower upper : PlainUid) → IsDescendantAction bag lower upper
      ↔ Chain (ListsDescendantAction schema) lower upper
  same_action_descendants lower upper =
      (refined (λ k l has. one (parent_lists_action k l has)), refined (λ k l lists. one (lists_parent_action k l lists)))
