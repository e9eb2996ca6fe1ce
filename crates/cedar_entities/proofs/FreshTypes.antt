-- Entity types that neither a type nor a schema names.
use Rattle.std.proofs.Common.{inl, inr, refl, subst, ℕ, suc, ◌+◌, ◌≤◌, length, List, [], ◌∷◌, ◌++◌, map, Contains, arith, codes}
use Rattle.std.proofs.lemmas.List.Elements.{Contains-append_left, Contains-append_right}
use Rattle.cedar_ast.proofs.Basics.{Contains-image}
use Rattle.cedar_ast.proofs.Lists.{Contains-cons_cases}
use Rattle.cedar_ast.proofs.ValueLemmas.{IsName-stretch, IsText-nil, length-stretch, stretch, stretch_name}
use Rattle.cedar_entities.specs.Words.{Exists, Fields, FieldsMentionEntity, IsActionType, IsValue, MentionsEntity, PlainName, PlainSchema, PlainUid, SchemaEntityType, Ty, any_entity, any_set, end, extension_of, field, long, never, record_of, set_of, text, truth, uid_value, union_of}
use Rattle.cedar_type_rules.proofs.AnsweredLemmas.{decide_names}
use Rattle.cedar_type_rules.proofs.ApartLemmas.{texts_differ}
use Rattle.cedar_type_rules.proofs.Decisions.{IsDecided, decide_among}

abbrev mutual
  -- the entity types that a type mentions
  mentioned : Ty → List PlainName
  mentioned (union_of names) = names
  mentioned (set_of ty) = mentioned ty
  mentioned (record_of fields openness) = fields_mentioned fields
  mentioned _ = []

  fields_mentioned : Fields → List PlainName
  fields_mentioned end = []
  fields_mentioned (field name required ty rest) = mentioned ty ++ fields_mentioned rest

mutual
  -- what is mentioned is listed
  is_mentioned : (ty : Ty) (name : PlainName) → MentionsEntity ty name → Contains (mentioned ty) name
  is_mentioned (union_of names) name mentions = mentions
  is_mentioned (set_of ty) name mentions = is_mentioned ty name mentions
  is_mentioned (record_of fields openness) name mentions = is_mentioned_of fields name mentions
  is_mentioned ty name mentions = elim mentions [ ]

  is_mentioned_of : (fields : Fields) (name : PlainName) → FieldsMentionEntity fields name → Contains (fields_mentioned fields) name
  is_mentioned_of end name mentions = elim mentions [ ]
  is_mentioned_of (field first required ty rest) name (inl here) =
      Contains-append_left (mentioned ty) (fields_mentioned rest) name (is_mentioned ty name here)
  is_mentioned_of (field first required ty rest) name (inr later) =
      Contains-append_right (mentioned ty) (fields_mentioned rest) name (is_mentioned_of rest name later)

mutual
  -- a type mentions an entity type or doesn't
  pub decide_mentions : (ty : Ty) (name : PlainName) → IsDecided (MentionsEntity ty name)
  decide_mentions (union_of names) name = decide_among decide_names names name
  decide_mentions (set_of ty) name = decide_mentions ty name
  decide_mentions (record_of fields openness) name = decide_fields_mention fields name
  decide_mentions never name = inr (λ mentions. mentions)
  decide_mentions (truth known) name = inr (λ mentions. mentions)
  decide_mentions long name = inr (λ mentions. mentions)
  decide_mentions text name = inr (λ mentions. mentions)
  decide_mentions any_entity name = inr (λ mentions. mentions)
  decide_mentions any_set name = inr (λ mentions. mentions)
  decide_mentions (extension_of other) name = inr (λ mentions. mentions)

  decide_fields_mention : (fields : Fields) (name : PlainName) → IsDecided (FieldsMentionEntity fields name)
  decide_fields_mention end name = inr (λ mentions. mentions)
  decide_fields_mention (field first required ty rest) name = elim (decide_mentions ty name) [
    | inl here ↦ inl (inl here)
    | inr absent ↦
        elim (decide_fields_mention rest name) [
          | inl later ↦ inl (inr later)
          | inr none ↦ inr (λ mentions. elim mentions [ inl here ↦ absent here | inr later ↦ none later ])
        ]
  ]

-- how long the base names of a list are together
abbrev lengths : List PlainName → ℕ
lengths [] = 0
lengths (name ∷ rest) = length name.base + lengths rest

-- none of them is longer
no_longer : (names : List PlainName) (name : PlainName) → Contains names name → length name.base ≤ lengths names
no_longer [] name among = absurd (omega (arith, among.1))
no_longer (first ∷ rest) name among =
    elim (Contains-cons_cases first rest name among) [
      | inl same ↦ subst (λ (n : PlainName). length n.base ≤ length first.base + lengths rest) same (omega arith)
      | inr later ↦ let less = no_longer rest name later in omega (arith, less)
    ]

-- a name of more `_` than that isn't one of them
unlisted : (names : List PlainName) → ¬ Contains names (stretch_name (lengths names))
unlisted names among =
    let less = no_longer names (stretch_name (lengths names)) among in
    let long_enough = length-stretch (suc (lengths names)) in
    omega (arith, less, long_enough)

-- nor is it the type of actions
pub not_of_actions : (k : ℕ) → ¬ IsActionType (stretch_name k)
not_of_actions k same = texts_differ (stretch (suc k)) (codes "Action") refl same

-- the names of a schema's entity types
abbrev names_of : PlainSchema → List PlainName
names_of schema = map (λ (it : PlainName × SchemaEntityType). it.0) schema.entity_types

-- a uid whose type neither a schema nor a type names
abbrev pub fresh_uid : PlainSchema → Ty → PlainUid
fresh_uid schema upper = record { ty = stretch_name (lengths (mentioned upper ++ names_of schema)); eid = [] }

-- it is one of the language
pub fresh_real : (schema : PlainSchema) (upper : Ty) → IsValue (uid_value (fresh_uid schema upper))
fresh_real schema upper = (IsName-stretch (lengths (mentioned upper ++ names_of schema)), IsText-nil)

-- it exists
pub fresh_exists : (schema : PlainSchema) (upper : Ty) → Exists schema (fresh_uid schema upper)
fresh_exists schema upper = record {
  choice = λ it there. absurd (unlisted (mentioned upper ++ names_of schema)
      (Contains-append_right (mentioned upper) (names_of schema) (fresh_uid schema upper).ty
      (Contains-image (λ (each : PlainName × SchemaEntityType). each.0) schema.entity_types ((fresh_uid schema upper).ty, it) there)));
  action = λ of_actions. absurd (not_of_actions (lengths (mentioned upper ++ names_of schema)) of_actions);
}

-- and the type doesn't mention its type
pub fresh_unmentioned : (schema : PlainSchema) (upper : Ty) → ¬ MentionsEntity upper (fresh_uid schema upper).ty
fresh_unmentioned schema upper mentions =
    unlisted (mentioned upper ++ names_of schema)
    (Contains-append_left (mentioned upper) (names_of schema) (fresh_uid schema upper).ty (is_mentioned upper (fresh_uid schema upper).ty mentions))
