-- In the bag of a valid schema that is converted back each entity type and action is declared as it
-- is in the schema.
use Rattle.std.proofs.Common.{◌≡◌, ◌↔◌, List, [], ◌∷◌, Option, Some, None, map, refl, inl, inr, Contains}
use Rattle.std.proofs.lemmas.List.Elements.{Contains-append_left, Contains-append_right}
use Rattle.cedar_ast.proofs.Basics.{Contains-image, Contains-single}
use Rattle.cedar_ast.proofs.Lists.{Contains-preimage}
use Rattle.cedar_schema_laws.proofs.EntriesConvertedBack.{IsActionWritten, IsTypeWritten}
use Rattle.cedar_schema_laws.proofs.NamesConvertedBack.{named_again}
use Rattle.cedar_schema_laws.proofs.ParentsConvertedBack.{type_again}
use Rattle.cedar_schema_laws.proofs.TypesConvertedBack.{type_back}
use Rattle.cedar_schema_laws.specs.Words.{ActionBody, ActionKind, AreDeclaredTags, AreFullNames, AreRequestsWritten, AreTagsWritten, Bag, ClosedAttributes, Defined, ElaboratesTo, Entity, EntityBody, EntityTypeKind, Expr, Extensions, HasEntityType, IsContextOf, IsConvertedBack, IsDeclaredActionKind, IsDeclaredKind, IsDefined, IsKindWritten, IsKnownType, IsNamedAgain, IsNamedBy, IsPrincipalOrResourceOf, IsTypeIn, IsTypeOfKind, IsTypeWrittenIn, IsUnknownType, IsValidSchema, IsWritable, ListsDescendant, MentionsEntity, OpenAttributes, PlainName, PlainSchema, PlainUid, Reference, Requests, SchemaAction, SchemaEntityType, Ty, defined_action, definitions, elsewhere, enumerated, enumerated_kind, external, external_action, external_kind, full_name, names_of, record_of, requests, schema_names, standard, standard_kind, type_written, undeclared_entity_types}
use Rattle.cedar_schema_semantics.proofs.ResolutionLemmas.{IsFirst-same}
use Rattle.cedar_type_rules.proofs.AnsweredLemmas.{decide_names}
use Rattle.cedar_type_rules.proofs.Decisions.{decide_among}

module _ (schema : PlainSchema) (extensions : Extensions) (valid : IsValidSchema extensions schema) where
  -- no name is unknown
  none_unknown : (name : PlainName) → ¬ IsUnknownType schema name
  none_unknown name unknown =
      valid (undeclared_entity_types (name ∷ []))
      ((λ is. absurd cc), λ each among. rw (Contains-single name each among) at unknown)

  -- a known type is one of those that the schema defines
  known_defined : (name : PlainName) → IsKnownType schema name → Contains (schema_names schema).entities name
  known_defined name known =
      let types = map (λ (it : PlainName × SchemaEntityType). it.0) schema.entity_types in
      let of_actions = map (λ (it : PlainUid × SchemaAction). it.0.ty) schema.actions in
      elim known [
        | inl has ↦ Contains-append_left types of_actions name has
        | inr of_action ↦
            let it = Contains-preimage (λ (each : PlainUid × SchemaAction). each.0) schema.actions of_action.0 of_action.1 in
            Contains-append_right types of_actions name
            (rw (it.2, of_action.2) at (Contains-image (λ (each : PlainUid × SchemaAction). each.0.ty) schema.actions it.0 it.1))
      ]

  -- a name that stands in a type of the schema is one of those that it defines
  pub mentioned_known : (ty : Ty) → IsTypeIn schema ty → (name : PlainName) → MentionsEntity ty name
      → Contains (schema_names schema).entities name
  mentioned_known ty type_in name mentions =
      elim (decide_among decide_names (schema_names schema).entities name) [
        | inl known ↦ known
        | inr none ↦ absurd (none_unknown name (inl (ty, type_in, mentions, λ known. none (known_defined name known))))
      ]

  -- a principal or a resource of an action is an entity type of the schema
  pub request_known : (it : PlainUid × SchemaAction) → Contains schema.actions it → (name : PlainName)
      → IsPrincipalOrResourceOf it.1.kind name → HasEntityType schema name
  request_known it among name of =
      elim (decide_among decide_names (map (λ (each : PlainName × SchemaEntityType). each.0) schema.entity_types) name) [
        | inl known ↦ known
        | inr none ↦ absurd (none_unknown name (inr (inr (it, among, of, none))))
      ]

-- a type that is written in a namespace is one of the schema
pub written_in_schema : (schema : PlainSchema) (namespace : Option PlainName) (ty : Ty) → IsTypeWrittenIn schema namespace ty
    → IsTypeIn schema ty
written_in_schema schema namespace ty place =
    elim place [ inl of_type ↦ inl (of_type.0, of_type.1, of_type.3) | inr of_action ↦ inr (of_action.0, of_action.1, of_action.3) ]

module _ (defined : Defined) (namespace : Option PlainName) where
  -- the type of tags is the one that is declared, where it is elaborated
  tags_back : (tags : Option Ty) (written : Option Expr) → AreTagsWritten namespace tags written
      → ((ty : Ty) → tags ≡ Some ty → (expr : Expr) → type_written namespace ty ≡ Some expr → ElaboratesTo defined expr ty)
      → AreDeclaredTags defined written tags
  tags_back (Some ty) (Some expr) is back = back ty refl expr is
  tags_back None None is back = tt
  tags_back _ _ is back = absurd is

  -- a kind of entity type that is written is the one that is declared, where its types are
  -- elaborated
  kind_back : (IsAbove : PlainName → Type 0) (kind : EntityTypeKind) (body : EntityBody) → IsKindWritten namespace IsAbove kind body
      → ((ty : Ty) → IsTypeOfKind kind ty → (expr : Expr) → type_written namespace ty ≡ Some expr → ElaboratesTo defined expr ty)
      → IsDeclaredKind defined body kind
  kind_back IsAbove (standard_kind fields ClosedAttributes tags) (standard parents shape written) is back = (
    back (record_of fields ClosedAttributes) (inl refl) shape is.1,
    refl,
    tags_back tags written is.2 (λ ty same. back ty (inr same)),
  )
  kind_back IsAbove (standard_kind fields OpenAttributes tags) (standard parents shape written) is back =
      let clash : None ≡ Some shape = is.1 in absurd cc
  kind_back IsAbove (enumerated_kind choices) (enumerated ids) is back = is
  kind_back IsAbove external_kind (external parents) is back = tt
  kind_back IsAbove _ _ is back = absurd is

  -- names that are written in full are those that the references resolve to, where each is named
  -- again
  names_back : (names : List PlainName) (references : List Reference) → AreFullNames namespace (λ name. Contains names name) references
      → ((name : PlainName) → Contains names name → IsNamedAgain defined namespace name)
      → (name : PlainName) → Contains names name ↔ IsNamedBy (names_of defined) references name
  names_back names references are again name = (
    λ among. (full_name namespace name, (are (full_name namespace name)).1 (name, among, refl), (again name among).resolves),
    λ named.
        let from = (are named.0).0 named.1 in
        let same = IsFirst-same (IsDefined (names_of defined) Entity) (full_name namespace from.0).possibilities from.0 name
        (again from.0 from.1).resolves (rw (← from.2) at named.2) in
        rw same at from.1,
  )

  -- a kind of action that is written is the one that is declared, where its types are elaborated
  -- and its names named again
  requests_back : (kind : ActionKind) (applies_to : Requests) → AreRequestsWritten namespace kind applies_to
      → ((ty : Ty) → IsContextOf kind ty → (expr : Expr) → type_written namespace ty ≡ Some expr → ElaboratesTo defined expr ty)
      → ((name : PlainName) → IsPrincipalOrResourceOf kind name → IsNamedAgain defined namespace name)
      → IsDeclaredActionKind defined applies_to kind
  requests_back (defined_action ps rs ty) (requests principals resources context) is back again = (
    names_back ps principals is.0 (λ name among. again name (inl among)),
    names_back rs resources is.1 (λ name among. again name (inr among)),
    back ty refl context is.2,
  )
  requests_back external_action elsewhere is back again = tt
  requests_back _ _ is back again = absurd is

module _ (schema : PlainSchema) (bag : Bag) (extensions : Extensions) (writable : IsWritable schema)
    (written : IsConvertedBack schema bag) (valid : IsValidSchema extensions schema) where
  -- a name that stands in a type which is written in a namespace is named again
  pub mentioned_again : (namespace : Option PlainName) (ty : Ty) → IsTypeWrittenIn schema namespace ty → (name : PlainName)
      → MentionsEntity ty name → IsNamedAgain (definitions bag extensions) namespace name
  mentioned_again namespace ty place name mentions =
      named_again schema bag written extensions namespace name (writable.names namespace name (inl (ty, place, mentions)))
      (mentioned_known schema extensions valid ty (written_in_schema schema namespace ty place) name mentions)

  -- a type that is written in a namespace is what is elaborated of the expression
  pub elaborated_again : (namespace : Option PlainName) (ty : Ty) → IsTypeWrittenIn schema namespace ty → (expr : Expr)
      → type_written namespace ty ≡ Some expr → ElaboratesTo (definitions bag extensions) expr ty
  elaborated_again namespace ty place expr is =
      type_back (definitions bag extensions) namespace ty expr is (mentioned_again namespace ty place)

  -- what is declared of an entity type of the schema is of its kind
  pub kind_declared : (it : PlainName × SchemaEntityType) → Contains schema.entity_types it → (body : EntityBody)
      → IsTypeWritten schema it body → IsDeclaredKind (definitions bag extensions) body it.1.kind
  kind_declared it among body entry =
      kind_back (definitions bag extensions) entry.namespace (λ upper. ListsDescendant schema it.0 upper) it.1.kind body entry.kind
      (λ ty of expr is. elaborated_again entry.namespace ty (inl (it, among, entry.path, of)) expr is)

  -- a principal or a resource of an action is named again
  pub request_again : (it : PlainUid × SchemaAction) → Contains schema.actions it → (body : ActionBody)
      (entry : IsActionWritten schema it body) → (name : PlainName) → IsPrincipalOrResourceOf it.1.kind name
      → IsNamedAgain (definitions bag extensions) entry.namespace name
  request_again it among body entry name of =
      type_again schema bag extensions writable written entry.namespace name (inr (inr (it, among, entry.path, of)))
      (request_known schema extensions valid it among name of)

  -- what is declared of an action of the schema is of its kind
  pub action_kind_declared : (it : PlainUid × SchemaAction) → Contains schema.actions it → (body : ActionBody)
      → IsActionWritten schema it body → IsDeclaredActionKind (definitions bag extensions) body.applies_to it.1.kind
  action_kind_declared it among body entry =
      requests_back (definitions bag extensions) entry.namespace it.1.kind body.applies_to entry.applies_to
      (λ ty of expr is. elaborated_again entry.namespace ty (inr (it, among, entry.path, of)) expr is)
      (request_again it among body entry)
