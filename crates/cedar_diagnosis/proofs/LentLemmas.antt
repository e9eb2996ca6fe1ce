-- What is lent has names that aren't reserved.
use Rattle.std.proofs.Common.{◌≡◌, Bool, true, false, List, map, ap, sym, subst, Contains, Option, None, Some, inl, inr, string_bytes}
use Rattle.std.proofs.lemmas.List.Elements.{Contains-append_cases}
use Rattle.cedar_ast.proofs.Basics.{Contains-none, Contains-single}
use Rattle.cedar_ast.proofs.Lists.{Contains-preimage}
use Rattle.cedar_ast.specs.Words.{IsReserved, PlainName, PlainUid, action_word, reserved_word, unreserved_id_text}
use Rattle.cedar_ast.specs.declared.extension.Extensions.{Extensions}
use Rattle.cedar_ast.specs.declared.name.Name.{Name}
use Rattle.cedar_diagnosis.proofs.GivenLemmas.{keys_in}
use Rattle.cedar_diagnosis.proofs.NameLemmas.{within_unreserved}
use Rattle.cedar_diagnosis.specs.Lent.{declaration_of, declarations_of, lent_body, lent_id, namespace_of}
use Rattle.cedar_diagnosis.specs.Names.{action_uids_in, common_names_in, entity_names_in}
use Rattle.cedar_diagnosis.specs.declared.lent.Lent.{Lent}
use Rattle.cedar_diagnosis.specs.declared.lent.LentBody.{LentBody}
use Rattle.cedar_diagnosis.specs.declared.lent.LentBody.TheVariants as lent
use Rattle.cedar_schema_ast.specs.ActionBody.{requests_by}
use Rattle.cedar_schema_ast.specs.Words.{Declaration, EntityBody, Reference, common_type_text, entity_type, kind_body, name_within, raw_reference}
use Rattle.cedar_schema_ast.specs.declared.json_schema.action_type.ApplySpec.{ApplySpec}
use Rattle.cedar_schema_ast.specs.declared.json_schema.entity_type.EntityTypeKind.{EntityTypeKind}
use Rattle.cedar_schema_ast.specs.declared.json_schema.entity_type.EntityTypeKind.TheVariants as variant
use Rattle.cedar_schema_ast.specs.declared.json_schema.raw_name.RawName.{RawName}
use Rattle.cedar_schema_semantics.proofs.ResolutionLemmas.{first_defined, names_no_common}
use Rattle.cedar_schema_semantics.specs.Words.{Entity, IsAtEntityTypePosition, IsEntityTypePosition, IsPrincipalOrResource, ResolvesTo, action_in, action_uids, common_in, declared_common, declared_entities, declared_name, declared_uid, defined_names, entity_in}

-- the name of a common type that is lent
by_body : (namespace : Option Name) (body : LentBody) (name : PlainName)
    → Contains (map (λ each. each.0) (common_in (name_within (namespace_of namespace) (lent_id body)) (lent_body (namespace_of namespace) body))) name
    → ¬ IsReserved name
by_body namespace (lent.CommonType id declared) name among reserved =
    let is = Contains-single (name_within (namespace_of namespace) (common_type_text id.now)) name among in
    within_unreserved namespace (unreserved_id_text id.now.id) id.now.id.unreserved (subst IsReserved (sym is) reserved)
by_body namespace (lent.EntityType id declared) name among reserved = Contains-none name among
by_body namespace (lent.Action id declared) name among reserved = Contains-none name among

-- no common type that is lent has a reserved name
pub commons_unreserved : (items : List Lent) (name : PlainName)
    → Contains (map (λ it. it.0) (declared_common (declarations_of items))) name → ¬ IsReserved name
commons_unreserved items name among =
    let it = (keys_in (λ it. common_in (declared_name it) it.body) (declarations_of items) name).1 among in
    let lent' = Contains-preimage declaration_of items it.0 it.1 in
    let Has : Declaration → Type 0 = λ each. Contains (common_names_in each) name in
    by_body lent'.0.namespace.now lent'.0.body name (subst Has (sym lent'.2) it.2)

-- no entity type that is lent has a reserved name
entity_by_body : (namespace : Option Name) (body : LentBody) (name : PlainName)
    → Contains (map (λ each. each.0) (entity_in (name_within (namespace_of namespace) (lent_id body)) (lent_body (namespace_of namespace) body))) name
    → ¬ IsReserved name
entity_by_body namespace (lent.EntityType id declared) name among reserved =
    let is = Contains-single (name_within (namespace_of namespace) (unreserved_id_text id.now)) name among in
    within_unreserved namespace (unreserved_id_text id.now) id.now.unreserved (subst IsReserved (sym is) reserved)
entity_by_body namespace (lent.CommonType id declared) name among reserved = Contains-none name among
entity_by_body namespace (lent.Action id declared) name among reserved = Contains-none name among

pub entities_unreserved : (items : List Lent) (name : PlainName)
    → Contains (map (λ it. it.0) (declared_entities (declarations_of items))) name → ¬ IsReserved name
entities_unreserved items name among =
    let it = (keys_in (λ it. entity_in (declared_name it) it.body) (declarations_of items) name).1 among in
    let lent' = Contains-preimage declaration_of items it.0 it.1 in
    let Has : Declaration → Type 0 = λ each. Contains (entity_names_in each) name in
    entity_by_body lent'.0.namespace.now lent'.0.body name (subst Has (sym lent'.2) it.2)

-- nor has the type of an action
action_by_body : (namespace : Option Name) (body : LentBody) (uid : PlainUid)
    → Contains (map (λ each. each.0) (action_in (record { ty = name_within (namespace_of namespace) action_word; eid = lent_id body })
    (lent_body (namespace_of namespace) body))) uid → ¬ IsReserved uid.ty
action_by_body namespace (lent.Action id declared) uid among reserved =
    let is = Contains-single (record { ty = name_within (namespace_of namespace) action_word; eid = string_bytes id.now }) uid among in
    let ReservedType : PlainUid → Type 0 = λ each. IsReserved each.ty in
    within_unreserved namespace action_word (λ (wrong : action_word ≡ reserved_word). cc) (subst ReservedType (sym is) reserved)
action_by_body namespace (lent.CommonType id declared) uid among reserved = Contains-none uid among
action_by_body namespace (lent.EntityType id declared) uid among reserved = Contains-none uid among

pub actions_unreserved : (items : List Lent) (uid : PlainUid) → Contains (action_uids (declarations_of items)) uid → ¬ IsReserved uid.ty
actions_unreserved items uid among =
    let it = (keys_in (λ it. action_in (declared_uid it) it.body) (declarations_of items) uid).1 among in
    let lent' = Contains-preimage declaration_of items it.0 it.1 in
    let Has : Declaration → Type 0 = λ each. Contains (action_uids_in each) uid in
    action_by_body lent'.0.namespace.now lent'.0.body uid (subst Has (sym lent'.2) it.2)

-- names that are written at positions are references to entity types
named_entity : (namespace : Option PlainName) (names : List RawName) (reference : Reference)
    → Contains (map (raw_reference namespace Entity) names) reference → reference.kind ≡ Entity
named_entity namespace names reference among =
    let found = Contains-preimage (raw_reference namespace Entity) names reference among in
    ap (λ (each : Reference). each.kind) (sym found.2)

kind_at_entity : (namespace : Option PlainName) (of : EntityTypeKind RawName) (external : Bool) (reference : Reference)
    → IsEntityTypePosition (entity_type (kind_body RawName (raw_reference namespace) of external)) reference → reference.kind ≡ Entity
kind_at_entity namespace (variant.Standard it) true reference stands = named_entity namespace it.member_of_types.items reference stands
kind_at_entity namespace (variant.Standard it) false reference stands = named_entity namespace it.member_of_types.items reference stands
kind_at_entity namespace (variant.Enum choices) true reference stands = absurd (Contains-none reference stands)
kind_at_entity namespace (variant.Enum choices) false reference stands = absurd (Contains-none reference stands)

kind_at_requests : (namespace : Option PlainName) (external : Bool) (applies_to : Option (ApplySpec RawName)) (reference : Reference)
    → IsPrincipalOrResource (requests_by RawName (raw_reference namespace) namespace external applies_to) reference → reference.kind ≡ Entity
kind_at_requests namespace true applies_to reference stands = absurd stands
kind_at_requests namespace false None reference stands = elim stands [
  | inl never ↦ absurd (Contains-none reference never)
  | inr never ↦ absurd (Contains-none reference never)
]
kind_at_requests namespace false (Some it) reference stands = elim stands [
  | inl principal ↦ named_entity namespace it.principal_types.items reference principal
  | inr resource ↦ named_entity namespace it.resource_types.items reference resource
]

kind_at : (namespace : Option Name) (body : LentBody) (reference : Reference)
    → IsEntityTypePosition (lent_body (namespace_of namespace) body) reference → reference.kind ≡ Entity
kind_at namespace (lent.CommonType id declared) reference stands = absurd stands
kind_at namespace (lent.EntityType id declared) reference stands =
    kind_at_entity (namespace_of namespace) declared.now.kind declared.now.external reference stands
kind_at namespace (lent.Action id declared) reference stands =
    kind_at_requests (namespace_of namespace) declared.now.external declared.now.applies_to reference stands

-- what a reference at a position resolves to isn't reserved
pub positions_unreserved : (items : List Lent) (extensions : Extensions) (reference : Reference) (name : PlainName)
    → IsAtEntityTypePosition (declarations_of items) reference → ResolvesTo (defined_names (declarations_of items) extensions) reference name
    → ¬ IsReserved name
positions_unreserved items extensions reference name position resolves =
    let bag = declarations_of items in
    let lent' = Contains-preimage declaration_of items position.0 position.1 in
    let Stands : Declaration → Type 0 = λ each. IsEntityTypePosition each.body reference in
    let fits : reference.kind ≡ Entity = kind_at lent'.0.namespace.now lent'.0.body reference (subst Stands (sym lent'.2) position.2) in
    let found = first_defined (defined_names bag extensions) reference.kind reference.possibilities name resolves in
    elim found.1 [
      | inl common ↦ absurd (names_no_common reference.kind fits common.0)
      | inr entity ↦ elim (Contains-append_cases (map (λ (it : PlainName × EntityBody). it.0) (declared_entities bag)) (map (λ (uid : PlainUid). uid.ty) (action_uids bag)) name entity.1) [
        | inl declared ↦ entities_unreserved items name declared
        | inr of_action ↦
            let uid = Contains-preimage (λ (each : PlainUid). each.ty) (action_uids bag) name of_action in
            λ reserved. actions_unreserved items uid.0 uid.1 (subst IsReserved (sym uid.2) reserved)
      ]
    ]
