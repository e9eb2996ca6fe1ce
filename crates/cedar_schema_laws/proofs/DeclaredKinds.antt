-- What is declared in a bag that isn't ill-formed has a kind, entity types and actions alike.
use Rattle.std.proofs.Common.{◌≡◌, [], Option, Some, None, map, inl, inr, refl, Contains}
use Rattle.cedar_schema_laws.proofs.ElaboratedTypes.{counted_written}
use Rattle.cedar_schema_laws.proofs.ReferenceDecisions.{list_named}
use Rattle.cedar_schema_laws.proofs.TypeDecisions.{decide_uids}
use Rattle.cedar_schema_laws.specs.Words.{ActionKind, ActionSays, AreDeclaredTags, Bag, ClosedAttributes, CountsInEntity, CountsInRequests, Defined, ElaboratesTo, EntityBody, EntitySays, EntityTypeKind, Expr, Extensions, Fields, IsCounted, IsDeclaredActionKind, IsDeclaredKind, IsIllFormed, IsNoRecord, IsRecordType, PlainName, PlainUid, Requests, Ty, action_uids, as_common, as_record, declared_entities, defined_action, defined_actions, defined_entities, definitions, elsewhere, enumerated, enumerated_kind, external, external_action, external_kind, names_of, record_of, requests, shape_not_record, standard, standard_kind}
use Rattle.cedar_schema_semantics.proofs.DeclarationLemmas.{entity_declaration, action_declaration}
use Rattle.cedar_schema_semantics.proofs.OccurrenceLemmas.{Contains-entry}
use Rattle.cedar_schema_semantics.proofs.TogetherLemmas.{action_definition_declared, action_definition_says, definition_declared, definition_says}
use Rattle.cedar_type_rules.proofs.AnsweredLemmas.{decide_names}
use Rattle.cedar_type_rules.proofs.Decisions.{IsDecided, decide_among}

-- a record type that an expression is elaborated as is closed
elaborated_closed : (defined : Defined) {expr : Expr} {ty : Ty} → ElaboratesTo defined expr ty → IsRecordType ty → (fields : Fields)
    × (ty ≡ record_of fields ClosedAttributes)
elaborated_closed defined (as_record {fields = fields} members) is = (fields, refl)
elaborated_closed defined (as_common reference name body resolves common written) is = elaborated_closed defined written is
elaborated_closed defined _ is = absurd is

-- a type is a record type or isn't
pub decide_record : (ty : Ty) → IsDecided (IsRecordType ty)
decide_record (record_of fields openness) = inl tt
decide_record _ = inr (λ is. is)

-- the declarations of a declared entity type say something together
pub entity_says : (bag : Bag) (name : PlainName) → Contains (map (λ it. it.0) (declared_entities bag)) name
    → (body : EntityBody) × EntitySays bag name body
entity_says bag name among =
    elim (decide_among decide_names (map (λ it. it.0) (defined_entities bag)) name) [
      | inl is ↦
          let it = Contains-entry (defined_entities bag) name is in
          (it.0, definition_says bag name it.0 it.1)
      | inr none ↦ (external [], (among, none))
    ]

-- the declarations of a declared action say something together
pub action_says : (bag : Bag) (uid : PlainUid) → Contains (action_uids bag) uid → (applies_to : Requests) × ActionSays bag uid applies_to
action_says bag uid among =
    elim (decide_among decide_uids (map (λ it. it.0) (defined_actions bag)) uid) [
      | inl is ↦
          let it = Contains-entry (defined_actions bag) uid is in
          (it.0, action_definition_says bag uid it.0 it.1)
      | inr none ↦ (elsewhere, (among, none))
    ]

module _ (bag : Bag) (extensions : Extensions) (well : ¬ IsIllFormed bag extensions) where
  -- what the bag defines
  abbrev ours : Defined
  ours = definitions bag extensions

  -- what counts in the definition of an entity type counts
  entity_counts : (name : PlainName) (body : EntityBody) (expr : Expr) → Contains (declared_entities bag) (name, body)
      → CountsInEntity body expr → IsCounted bag expr
  entity_counts name body expr among counts =
      let it = entity_declaration bag name body among in
      (it.0, it.1, rw it.2 counts)

  -- what counts in the definition of an action counts
  requests_count : (uid : PlainUid) (of : Requests) (expr : Expr) → Contains (defined_actions bag) (uid, of)
      → CountsInRequests of expr → IsCounted bag expr
  requests_count uid of expr among counts =
      let found = action_definition_declared bag uid of among in
      let it = action_declaration bag uid found.0 found.1 in
      (it.0, it.1, rw (it.2, found.2) counts)

  -- what counts, and is elaborated as no type but a record type, is elaborated as a closed one
  record_written : (expr : Expr) → IsCounted bag expr → ¬ IsNoRecord ours expr → (fields : Fields)
      × ElaboratesTo ours expr (record_of fields ClosedAttributes)
  record_written expr counts some =
      let it = counted_written bag extensions well expr counts in
      elim (decide_record it.0) [
        | inl is ↦ let closed = elaborated_closed ours it.1 is in (closed.0, rw closed.1 at it.1)
        | inr none ↦ absurd (some (it.0, it.1, none))
      ]

  -- tags that count are elaborated, if there are some
  tags_written : (tags : Option Expr) → ((expr : Expr) → tags ≡ Some expr → IsCounted bag expr) → (ty : Option Ty)
      × AreDeclaredTags ours tags ty
  tags_written None counts = (None, tt)
  tags_written (Some expr) counts = let it = counted_written bag extensions well expr (counts expr refl) in (Some it.0, it.1)

  -- what is said of an entity type gives a kind
  pub entity_kind : (name : PlainName) (body : EntityBody) → EntitySays bag name body → (kind : EntityTypeKind)
      × IsDeclaredKind ours body kind
  entity_kind name (standard parents shape tags) says =
      let there = (definition_declared bag name (standard parents shape tags) says).0 in
      let counts = λ (expr : Expr). entity_counts name (standard parents shape tags) expr there in
      let attributes = record_written shape (counts shape (inl refl))
      (λ none. well (shape_not_record name, (parents, shape, tags, there, none))) in
      let tagged = tags_written tags (λ expr is. counts expr (inr is)) in
      (standard_kind attributes.0 ClosedAttributes tagged.0, (attributes.1, refl, tagged.1))
  entity_kind name (enumerated choices) says = (enumerated_kind choices, refl)
  entity_kind name (external parents) says = (external_kind, tt)

  -- what is said of an action gives a kind
  pub action_kind : (uid : PlainUid) (applies_to : Requests) → ActionSays bag uid applies_to → (kind : ActionKind)
      × IsDeclaredActionKind ours applies_to kind
  action_kind uid (requests principals resources context) says =
      let principal_types = list_named (names_of ours) principals in
      let resource_types = list_named (names_of ours) resources in
      let it = counted_written bag extensions well context
      (requests_count uid (requests principals resources context) context says refl) in
      (defined_action principal_types.0 resource_types.0 it.0, (principal_types.1, resource_types.1, it.1))
  action_kind uid elsewhere says = (external_action, tt)
