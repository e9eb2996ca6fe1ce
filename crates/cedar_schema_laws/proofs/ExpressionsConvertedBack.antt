-- What stands in the expressions of types that are written, and which expressions count in the bag
-- of a schema that is converted back.
use Rattle.std.proofs.Common.{◌≡◌, false, List, [], ◌∷◌, Option, Some, None, ap, ◌∙◌, refl, inl, inr, arith}
use Rattle.std.proofs.lemmas.Bool.{false≢true}
use Rattle.std.specs.Option.{option_zip}
use Rattle.cedar_schema_laws.proofs.EntriesConvertedBack.{action_written_by, type_written_by}
use Rattle.cedar_schema_laws.proofs.KindsConvertedBack.{mentioned_again, request_known}
use Rattle.cedar_schema_laws.proofs.NamesConvertedBack.{from_schema}
use Rattle.cedar_schema_laws.proofs.ParentsConvertedBack.{parent_above, type_again, upper_there}
use Rattle.cedar_schema_laws.proofs.TypesConvertedBack.{map_some, zip_some}
use Rattle.cedar_schema_laws.specs.Words.{ActionKind, AnyBool, AreRequestsWritten, AreTagsWritten, Bag, ClosedAttributes, CountsInEntity, CountsInRequests, EntityBody, EntityTypeKind, Expr, Extensions, False, Fields, FieldsMentionEntity, FieldsMentionExtensionType, HasEntityType, HasOpenRecord, HasToResolve, IsAtEntityTypePosition, IsContextOf, IsConvertedBack, IsCounted, IsKindWritten, IsNameWrittenIn, IsNamedAgain, IsPrincipalOrResource, IsPrincipalOrResourceOf, IsTypeOfKind, IsTypeWrittenIn, IsValidSchema, IsWritable, ListsDescendant, Members, MembersHaveOpenRecord, MembersMentionExtension, MembersRefer, MentionsEntity, MentionsExtension, MentionsExtensionType, OpenAttributes, PlainName, PlainSchema, Reference, Refers, Requests, Text, True, Ty, any_entity, any_set, defined_action, definitions, elsewhere, end, extension_expr, extension_of, extension_written, external_action, field, fields_written, full_name, long, long_expr, member, named, never, no_member, record_expr, record_of, requests, set_expr, set_of, standard, standard_kind, text, text_expr, truth, truth_expr, type_written, union_of}

module _ (namespace : Option PlainName) where
  -- no open record stands in the expression, it refers to entity types of the type in full, and it
  -- mentions extension types of it
  pub record SaysOf (ty : Ty) (expr : Expr) : Type 0 where
    pub closed : ¬ HasOpenRecord expr
    pub refers : (reference : Reference) → Refers expr reference
        → (name : PlainName) × MentionsEntity ty name × (full_name namespace name ≡ reference)
    pub mentions : (word : Text) → MentionsExtension expr word → MentionsExtensionType ty (record { base = word; path = [] })

  -- the same of attributes
  record MembersSayOf (fields : Fields) (members : Members) : Type 0 where
    closed : ¬ MembersHaveOpenRecord members
    refers : (reference : Reference) → MembersRefer members reference
        → (name : PlainName) × FieldsMentionEntity fields name × (full_name namespace name ≡ reference)
    mentions : (word : Text) → MembersMentionExtension members word
        → FieldsMentionExtensionType fields (record { base = word; path = [] })

  -- an extension type
  extension_says : (base : Text) (path : List Text) (expr : Expr) → extension_written base path ≡ Some expr
      → SaysOf (extension_of (record { base = base; path = path })) expr
  extension_says base [] expr is =
      let same : extension_expr base ≡ expr = cc in
      rw (← same) (record {
        closed = λ none. none;
        refers = λ reference none. absurd none;
        mentions = λ word same i. record { base = same i; path = [] };
      })
  extension_says base (part ∷ path) expr is = cc

  mutual
    -- the expression of a type says what it does of the type
    pub type_says : (ty : Ty) (expr : Expr) → type_written namespace ty ≡ Some expr → SaysOf ty expr
    type_says never expr is = cc
    type_says (truth AnyBool) expr is =
        let same : truth_expr ≡ expr = cc in
        rw (← same) (record { closed = λ none. none; refers = λ reference none. absurd none; mentions = λ word none. absurd none })
    type_says (truth True) expr is = cc
    type_says (truth False) expr is = cc
    type_says long expr is =
        let same : long_expr ≡ expr = cc in
        rw (← same) (record { closed = λ none. none; refers = λ reference none. absurd none; mentions = λ word none. absurd none })
    type_says text expr is =
        let same : text_expr ≡ expr = cc in
        rw (← same) (record { closed = λ none. none; refers = λ reference none. absurd none; mentions = λ word none. absurd none })
    type_says any_entity expr is = cc
    type_says (union_of []) expr is = cc
    type_says (union_of (name ∷ [])) expr is =
        let same : named (full_name namespace name) ≡ expr = cc in
        rw (← same) (record {
          closed = λ none. none;
          refers = λ reference full. (name, (0, omega arith, refl), full);
          mentions = λ word none. absurd none;
        })
    type_says (union_of (name ∷ other ∷ rest)) expr is = cc
    type_says any_set expr is = cc
    type_says (set_of ty) expr is =
        let of = map_some set_expr (type_written namespace ty) expr is in
        let says = type_says ty of.0 of.1 in
        rw (← of.2) (record { closed = says.closed; refers = says.refers; mentions = says.mentions })
    type_says (record_of fields ClosedAttributes) expr is =
        let of = map_some (λ members. record_expr members false) (fields_written namespace fields) expr is in
        let says = fields_say fields of.0 of.1 in
        rw (← of.2) (record {
          closed = λ opened. elim opened [ inl additional ↦ false≢true additional | inr right ↦ says.closed right ];
          refers = says.refers;
          mentions = says.mentions;
        })
    type_says (record_of fields OpenAttributes) expr is = cc
    type_says (extension_of name) expr is = extension_says name.base name.path expr is

    -- the same of attributes
    fields_say : (fields : Fields) (members : Members) → fields_written namespace fields ≡ Some members → MembersSayOf fields members
    fields_say end members is =
        let same : no_member ≡ members = cc in
        rw (← same) (record { closed = λ none. none; refers = λ reference none. absurd none; mentions = λ word none. absurd none })
    fields_say (field name required ty rest) members is =
        let make : Expr × Members → Members = λ both. member name required both.0 both.1 in
        let of = map_some make (option_zip (type_written namespace ty) (fields_written namespace rest)) members is in
        let both = zip_some (type_written namespace ty) (fields_written namespace rest) of.0 of.1 in
        let first = type_says ty of.0.0 both.0 in
        let later = fields_say rest of.0.1 both.1 in
        rw (← of.2) (record {
          closed = λ opened. elim opened [ inl left ↦ first.closed left | inr right ↦ later.closed right ];
          refers = λ reference refers. elim refers [
            | inl here ↦ let found = first.refers reference here in (found.0, inl found.1, found.2)
            | inr there ↦ let found = later.refers reference there in (found.0, inr found.1, found.2)
          ];
          mentions = λ word mentions. elim mentions [
            | inl here ↦ inl (first.mentions word here)
            | inr there ↦ inr (later.mentions word there)
          ];
        })

  -- the type of tags that count is that of the kind
  tags_count : (tags : Option Ty) (written : Option Expr) → AreTagsWritten namespace tags written → (expr : Expr) → written ≡ Some expr
      → (ty : Ty) × (tags ≡ Some ty) × (type_written namespace ty ≡ Some expr)
  tags_count (Some ty) (Some other) is expr same = (ty, refl, is ∙ same)
  tags_count None (Some other) is expr same = absurd is
  tags_count _ None is expr same = absurd (first_of (assumption, cc))

  -- what counts in what is written of an entity type is the expression of a type of its kind
  kind_counts : (IsAbove : PlainName → Type 0) (kind : EntityTypeKind) (body : EntityBody) → IsKindWritten namespace IsAbove kind body
      → (expr : Expr) → CountsInEntity body expr → (ty : Ty) × IsTypeOfKind kind ty × (type_written namespace ty ≡ Some expr)
  kind_counts IsAbove (standard_kind fields openness tags) (standard parents shape written) is expr counts =
      elim counts [
        | inl same ↦ (record_of fields openness, inl refl, is.1 ∙ ap Some same)
        | inr same ↦ let found = tags_count tags written is.2 expr same in (found.0, inr found.1, found.2)
      ]
  kind_counts IsAbove _ (standard parents shape written) is expr counts = absurd is
  kind_counts IsAbove _ _ is expr counts = absurd counts

  -- what counts in the requests that are written of an action is the expression of its context
  requests_count : (kind : ActionKind) (applies_to : Requests) → AreRequestsWritten namespace kind applies_to → (expr : Expr)
      → CountsInRequests applies_to expr → (ty : Ty) × IsContextOf kind ty × (type_written namespace ty ≡ Some expr)
  requests_count (defined_action ps rs ty) (requests principals resources context) is expr counts = (ty, refl, is.2 ∙ ap Some counts)
  requests_count external_action (requests principals resources context) is expr counts = absurd is
  requests_count kind elsewhere is expr counts = absurd counts

  -- a principal or a resource that is written is the name in full of one of the action
  request_placed_by : (kind : ActionKind) (applies_to : Requests) → AreRequestsWritten namespace kind applies_to → (reference : Reference)
      → IsPrincipalOrResource applies_to reference
      → (name : PlainName) × IsPrincipalOrResourceOf kind name × (full_name namespace name ≡ reference)
  request_placed_by (defined_action ps rs ty) (requests principals resources context) is reference placed =
      elim placed [
        | inl principal ↦ let found = (is.0 reference).0 principal in (found.0, inl found.1, found.2)
        | inr resource ↦ let found = (is.1 reference).0 resource in (found.0, inr found.1, found.2)
      ]
  request_placed_by external_action (requests principals resources context) is reference placed = absurd is
  request_placed_by kind elsewhere is reference placed = absurd placed

-- a type that is written in a namespace as the expression
pub record IsExpressionOf (schema : PlainSchema) (expr : Expr) : Type 0 where
  pub namespace : Option PlainName
  pub ty : Ty
  pub place : IsTypeWrittenIn schema namespace ty
  pub is : type_written namespace ty ≡ Some expr

-- an entity type of the schema that the reference names in full in a namespace
pub record IsFullNameOf (schema : PlainSchema) (reference : Reference) : Type 0 where
  pub namespace : Option PlainName
  pub name : PlainName
  pub place : IsNameWrittenIn schema namespace name
  pub there : HasEntityType schema name
  pub is : full_name namespace name ≡ reference

module _ (schema : PlainSchema) (bag : Bag) (extensions : Extensions) (written : IsConvertedBack schema bag) where
  -- an expression that counts is that of a type which is written
  pub counted_of : (expr : Expr) → IsCounted bag expr → IsExpressionOf schema expr
  counted_of expr (d, among, counts) =
      elim (from_schema schema bag written d among) [
        | inl from ↦
            let entry = type_written_by schema from.0 d from.2 in
            let found = kind_counts entry.namespace (λ upper. ListsDescendant schema from.0.0 upper) from.0.1.kind from.2.body entry.kind expr
            (rw from.2.declares at counts) in
            record { namespace = entry.namespace; ty = found.0; place = inl (from.0, from.1, entry.path, found.1); is = found.2 }
        | inr from ↦
            let entry = action_written_by schema from.0 d from.2 in
            let found = requests_count entry.namespace from.0.1.kind from.2.applies_to entry.applies_to expr (rw from.2.declares at counts) in
            record { namespace = entry.namespace; ty = found.0; place = inr (from.0, from.1, entry.path, found.1); is = found.2 }
      ]

  -- a reference at the place of an entity type names one of the schema in full
  pub placed_of : IsValidSchema extensions schema → (reference : Reference) → IsAtEntityTypePosition bag reference → IsFullNameOf schema reference
  placed_of valid reference (d, among, placed) =
      elim (from_schema schema bag written d among) [
        | inl from ↦
            let entry = type_written_by schema from.0 d from.2 in
            let found = parent_above entry.namespace (λ upper. ListsDescendant schema from.0.0 upper) from.0.1.kind from.2.body entry.kind
            reference (rw from.2.declares at placed) in
            record {
              namespace = entry.namespace;
              name = found.0;
              place = inr (inl (from.0.0, entry.path, found.1));
              there = upper_there schema from.0.0 found.0 found.1;
              is = found.2;
            }
        | inr from ↦
            let entry = action_written_by schema from.0 d from.2 in
            let found = request_placed_by entry.namespace from.0.1.kind from.2.applies_to entry.applies_to reference
            (rw from.2.declares at placed) in
            record {
              namespace = entry.namespace;
              name = found.0;
              place = inr (inr (from.0, from.1, entry.path, found.1));
              there = request_known schema extensions valid from.0 from.1 found.0 found.1;
              is = found.2;
            }
      ]

  -- a reference that has to name something names again what it names in full
  pub resolves_again : IsWritable schema → IsValidSchema extensions schema → (reference : Reference) → HasToResolve bag reference
      → (namespace : Option PlainName) × (name : PlainName) × IsNamedAgain (definitions bag extensions) namespace name
      × (full_name namespace name ≡ reference)
  resolves_again writable valid reference has =
      elim has [
        | inl counted ↦
            let of = counted_of counted.0 counted.1 in
            let found = (type_says of.namespace of.ty counted.0 of.is).refers reference counted.2 in (
              of.namespace,
              found.0,
              mentioned_again schema bag extensions writable written valid of.namespace of.ty of.place found.0 found.1,
              found.2,
            )
        | inr placed ↦
            let of = placed_of valid reference placed in
            (of.namespace, of.name, type_again schema bag extensions writable written of.namespace of.name of.place of.there, of.is)
      ]
