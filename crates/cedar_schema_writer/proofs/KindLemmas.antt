-- Kinds of entity types and actions that are written, and whether they can be.
use Rattle.std.proofs.Common.{◌≡◌, ◌↔◌, List, [], ◌∷◌, Option, None, Some, map, ap, sym, subst, ◌∙◌, refl, inl, inr, string_bytes, Contains}
use Rattle.std.proofs.lemmas.Simd.{map-map}
use Rattle.cedar_ast.proofs.Basics.{Contains-image}
use Rattle.cedar_ast.proofs.Lists.{Contains-cons, Contains-preimage}
use Rattle.cedar_schema_writer.specs.Words.{ActionEntityUID, ActionKind, AreFullNames, AreRequestsWritten, Entity, EntityBody, EntityTypeKind, Expr, Fields, IsKindWritten, IsSoundAction, IsSoundKind, IsSoundType, Names, NamesNoOther, OpenTag, PlainName, RawName, Reference, Text, Ty, defined_action, elsewhere, enumerated, enumerated_kind, external, external_action, external_kind, full_name, full_uid, kind_context, kind_fields, kind_openness, kind_principals, kind_resources, kind_tags, parent_action, parent_type, raw_name, raw_reference, record_of, requests, standard, standard_kind, type_written, written_action_type, written_uid}

module _ {A B : Type 0} (f : A → B) where
  -- images are just those of the items
  pub images : (items : List A) (b : B) → Contains (map f items) b ↔ ((a : A) × Contains items a × (f a ≡ b))
  images items b = (
    Contains-preimage f items b,
    λ of. rw of.2 at (Contains-image f items of.0 of.1),
  )

  -- images of the items of which one fact holds are those of the items of which another holds that
  -- is the same
  pub images-same : (P Q : A → Type 0) → ((a : A) → P a ↔ Q a) → (shown : List B)
      → ((b : B) → Contains shown b ↔ ((a : A) × P a × (f a ≡ b))) → (b : B) → Contains shown b ↔ ((a : A) × Q a × (f a ≡ b))
  images-same P Q same shown are b = (
    λ among. let of = (are b).0 among in (of.0, (same of.0).0 of.1, of.2),
    λ of. (are b).1 (of.0, (same of.0).1 of.1, of.2),
  )

module _ (namespace : Option PlainName) (P Q : PlainName → Type 0) (same : (name : PlainName) → P name ↔ Q name) where
  -- a kind is written with the same parents
  pub kind-same : (kind : EntityTypeKind) (body : EntityBody) → IsKindWritten namespace P kind body → IsKindWritten namespace Q kind body
  kind-same (standard_kind fields openness tags) (standard parents shape written) is = (images-same (full_name namespace) P Q same parents is.0, is.1, is.2)
  kind-same (enumerated_kind choices) (enumerated ids) is = is
  kind-same external_kind (external parents) is = images-same (full_name namespace) P Q same parents is
  kind-same _ _ is = absurd is

  -- and can be
  pub sound_kind-same : (names : Names) (kind : EntityTypeKind) → IsSoundKind names namespace P kind → IsSoundKind names namespace Q kind
  sound_kind-same names kind sound = record {
    types = sound.types;
    without_parents = λ is upper above. sound.without_parents is upper ((same upper).1 above);
  }

module _ (names : Names) (namespace : Option PlainName) (IsAbove : PlainName → Type 0) where
  -- a standard entity type can be written exactly if its attributes and its tags can
  pub sound_standard : (fields : Fields) (openness : OpenTag) (tags : Option Ty) → IsSoundType names namespace (record_of fields openness)
      → ((ty : Ty) → tags ≡ Some ty → IsSoundType names namespace ty) → IsSoundKind names namespace IsAbove
      (standard_kind fields openness tags)
  sound_standard fields openness tags attributes tag_type =
      record {
        types = λ ty. elim [ inl record_type ↦ rw record_type attributes | inr is ↦ tag_type ty is ];
        without_parents = λ no. absurd no;
      }

  -- an enumerated one can without parents
  pub sound_enumerated : (choices : List Text) → ((upper : PlainName) → ¬ IsAbove upper)
      → IsSoundKind names namespace IsAbove (enumerated_kind choices)
  sound_enumerated choices none = record { types = λ ty no. absurd no; without_parents = λ is upper. none upper }

  -- an external one can
  pub sound_external : IsSoundKind names namespace IsAbove external_kind
  sound_external = record { types = λ ty no. absurd no; without_parents = λ no. absurd no }

-- the full names of parents are those of the names that are written
pub written_names : (namespace : Option PlainName) (parents : List RawName)
    → AreFullNames namespace (λ upper. Contains (map raw_name parents) upper) (map (raw_reference namespace Entity) parents)
written_names namespace parents =
    rw (map-map (full_name namespace) raw_name parents) at (images (full_name namespace) (map raw_name parents))

-- a parent of an action is the full uid that is written
parent-same : (namespace : Option PlainName) (it : ActionEntityUID RawName)
    → parent_action RawName (raw_reference namespace) namespace it ≡ full_uid namespace (written_uid it)
parent-same namespace it =
    ap (λ (reference : Reference). record { id = string_bytes it.id; ty = reference }) (by it.ty)
  where
    by : (ty : Option RawName) → parent_type RawName (raw_reference namespace) namespace ty ≡ full_name namespace (written_action_type ty)
    by None = refl
    by (Some name) = refl

-- so are all of them
pub written_parents : (namespace : Option PlainName) (parents : List (ActionEntityUID RawName))
    → map (parent_action RawName (raw_reference namespace) namespace) parents ≡ map (full_uid namespace) (map written_uid parents)
written_parents namespace [] = refl
written_parents namespace (first ∷ rest) = λ i. parent-same namespace first i ∷ written_parents namespace rest i

-- a kind that is standard is made of its parts
pub standard-parts : (kind : EntityTypeKind) (fields : Fields) (openness : OpenTag) (tags : Option Ty)
    → kind ≡ standard_kind fields openness tags
    → standard_kind (kind_fields kind) (kind_openness kind) (kind_tags kind) ≡ kind
standard-parts kind fields openness tags is = ap (λ it. standard_kind (kind_fields it) (kind_openness it) (kind_tags it)) is ∙ sym is

-- a list that shows nothing is empty
pub shows_none : {A B : Type 0} (f : A → B) (xs : List A) → ((y : B) → ¬ Contains (map f xs) y) → xs ≡ []
shows_none f [] none = refl
shows_none f (x ∷ xs) none = absurd (none (f x) (Contains-cons (f x) (map f xs) (f x) (inl refl)))

-- an enumerated kind that can be written has no parents
pub enumerated_alone : (names : Names) (namespace : Option PlainName) (IsAbove : PlainName → Type 0) (kind : EntityTypeKind)
    (choices : List Text) → kind ≡ enumerated_kind choices → IsSoundKind names namespace IsAbove kind → (upper : PlainName)
    → ¬ IsAbove upper
enumerated_alone names namespace IsAbove kind choices is sound =
    (rw is at sound).without_parents tt

module _ (namespace : Option PlainName) where
  -- an action with a context is written for its requests
  pub defined_written : (kind : ActionKind) (principals resources : List RawName) (context : Ty) (expr : Expr)
      → kind_context kind ≡ Some context → map raw_name principals ≡ kind_principals kind → map raw_name resources ≡ kind_resources kind
      → type_written namespace context ≡ Some expr
      → AreRequestsWritten namespace kind
      (requests (map (raw_reference namespace Entity) principals) (map (raw_reference namespace Entity) resources) expr)
  defined_written (defined_action principal_types resource_types ty) principals resources context expr is these those written =
      let same : ty ≡ context = cc in (
        rw these at (written_names namespace principals),
        rw those at (written_names namespace resources),
        ap (type_written namespace) same ∙ written,
      )
  defined_written external_action principals resources context expr is these those written = cc

  -- one without is external
  pub external_written : (kind : ActionKind) → None ≡ kind_context kind → AreRequestsWritten namespace kind elsewhere
  external_written (defined_action principals resources context) is = cc
  external_written external_action is = tt

  -- an action can be written where its context can, and its principals and resources name no others
  pub sound_action : (names : Names) (kind : ActionKind) (context : Ty) → kind_context kind ≡ Some context
      → IsSoundType names namespace context
      → ((name : PlainName) → Contains (kind_principals kind) name → NamesNoOther names namespace name)
      → ((name : PlainName) → Contains (kind_resources kind) name → NamesNoOther names namespace name)
      → IsSoundAction names namespace kind
  sound_action names (defined_action principals resources ty) context is sound these those =
      let same : ty ≡ context = cc in
      let IsSound : Ty → Type 0 = IsSoundType names namespace in
      record {
        context = λ it of. subst IsSound (sym same ∙ of) sound;
        no_other = λ name. elim [ inl here ↦ these name here | inr there ↦ those name there ];
      }
  sound_action names external_action context is sound these those = cc
