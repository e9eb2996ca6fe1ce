-- A bag that isn't ill-formed declares one schema, and the types of it have just the declared
-- values.
use Rattle.std.proofs.Common.{◌≡◌, ◌↔◌, List, [], ◌∷◌, Option, Some, None, map, ap, sym, ◌∙◌, refl, inl, inr, Contains}
use Rattle.cedar_ast.proofs.Lists.{Contains-cons, Contains-preimage}
use Rattle.cedar_ast.proofs.PlainNames.{name_cmp-total, uid_cmp-total}
use Rattle.cedar_schema_laws.proofs.ActionEntityLaws.{entities_declared}
use Rattle.cedar_schema_laws.proofs.AdmitsLemmas.{has_admitted, admitted_of}
use Rattle.cedar_schema_laws.proofs.KindLemmas.{kind_there}
use Rattle.cedar_schema_laws.specs.Words.{ActionEntity, ActionKind, AdmitsTheSame, AreDeclaredTags, Bag, ClosedAttributes, Defined, ElaboratesTo, EntityBody, EntityTypeKind, Expr, Extensions, Fields, HoldsPairwise, IsDeclaredAction, IsDeclaredActionKind, IsDeclaredEntityType, IsDeclaredKind, IsDeclaredSchema, IsDescendant, IsDescendantAction, IsEntityOfDefinition, IsIllFormed, IsNamedBy, PlainName, PlainSchema, PlainUid, Requests, SameAction, SameActionEntity, SameActionKind, SameEntityType, SameItems, SameSchema, SchemaAction, SchemaEntityType, Ty, TypeNamesFit, TypesAdmitTheDeclared, action_uids, declared_entities, defined_action, defined_actions, definitions, duplicate_action, duplicate_common_type, duplicate_entity_type, elsewhere, end, enumerated, enumerated_kind, extension_types, external, external_action, external_kind, name_cmp, names_of, record_of, requests, standard, standard_kind, uid_cmp}
use Rattle.cedar_schema_semantics.proofs.BuiltInLemmas.{one_definition}
use Rattle.cedar_schema_semantics.proofs.DefinedLemmas.{SameDefined-itself}
use Rattle.cedar_schema_semantics.proofs.ResolutionLemmas.{HasOneDefinition, elaborated_once}
use Rattle.cedar_schema_semantics.proofs.TogetherLemmas.{IsDefinition, declared_definition, definition_says, entity_says_once, action_says_once, said_is_declared, said_action_is_declared}
use Rattle.cedar_type_rules.proofs.AntisymmetryLaws.{Included-same}

-- in a bag that isn't ill-formed each common name has one definition
pub one_of_well_formed : (bag : Bag) (extensions : Extensions) → TypeNamesFit (extension_types extensions)
    → ¬ IsIllFormed bag extensions → HasOneDefinition (definitions bag extensions)
one_of_well_formed bag extensions fit well =
    one_definition bag extensions fit (λ name twice. well (duplicate_common_type name, twice))

-- the attributes of a record type
abbrev fields_in : Ty → Fields
fields_in (record_of fields openness) = fields
fields_in _ = end

-- the type of tags is one
tags_once : (defined : Defined) → HasOneDefinition defined → (tags : Option Expr) (ty ty' : Option Ty)
    → AreDeclaredTags defined tags ty → AreDeclaredTags defined tags ty' → ty ≡ ty'
tags_once defined one None None None fits fits' = refl
tags_once defined one (Some expr) (Some ty) (Some ty') fits fits' = ap Some (elaborated_once defined one fits fits')
tags_once _ _ _ _ _ fits fits' = absurd assumption

-- what is declared of an entity type gives one kind
kind_once : (defined : Defined) → HasOneDefinition defined → (body : EntityBody) (kind kind' : EntityTypeKind)
    → IsDeclaredKind defined body kind → IsDeclaredKind defined body kind' → kind ≡ kind'
kind_once defined one (standard parents shape tags) (standard_kind fields openness ty) (standard_kind fields' openness' ty') fits fits' =
    let same_fields : fields ≡ fields' = ap fields_in (elaborated_once defined one fits.0 fits'.0) in
    let same_tag : openness ≡ openness' = fits.1 ∙ sym fits'.1 in
    let same_tags : ty ≡ ty' = tags_once defined one tags ty ty' fits.2 fits'.2 in
    λ i. standard_kind (same_fields i) (same_tag i) (same_tags i)
kind_once defined one (enumerated ids) (enumerated_kind choices) (enumerated_kind choices') fits fits' =
    ap enumerated_kind (sym fits ∙ fits')
kind_once defined one (external parents) external_kind external_kind fits fits' = refl
kind_once _ _ _ _ _ fits fits' = absurd assumption

-- lists of the items that one fact picks are the same up to order and repeats
pub same_items : {A : Type 0} (P : A → Type 0) (items others : List A) → ((item : A) → Contains items item ↔ P item)
    → ((item : A) → Contains others item ↔ P item) → SameItems items others
same_items P items others first second item =
    (λ among. (second item).1 ((first item).0 among), λ among. (first item).1 ((second item).0 among))

-- what is declared of an action gives one kind, up to the order of names
action_kind_once : (defined : Defined) → HasOneDefinition defined → (body : Requests) (kind kind' : ActionKind)
    → IsDeclaredActionKind defined body kind → IsDeclaredActionKind defined body kind' → SameActionKind kind kind'
action_kind_once defined one (requests principals resources context) (defined_action ps rs ty) (defined_action ps' rs' ty') fits fits' = (
  same_items (IsNamedBy (names_of defined) principals) ps ps' fits.0 fits'.0,
  same_items (IsNamedBy (names_of defined) resources) rs rs' fits.1 fits'.1,
  elaborated_once defined one fits.2 fits'.2,
)
action_kind_once defined one elsewhere external_action external_action fits fits' = tt
action_kind_once _ _ _ _ _ fits fits' = absurd assumption

module _ (bag : Bag) (extensions : Extensions) (fit : TypeNamesFit (extension_types extensions)) (well : ¬ IsIllFormed bag extensions) where
  -- two entity types of one name that are declared are the same
  same_entity_type : (it other : PlainName × SchemaEntityType) → it.0 ≡ other.0 → IsDeclaredEntityType bag extensions it
      → IsDeclaredEntityType bag extensions other → SameEntityType it other
  same_entity_type it other same first second =
      let defined = definitions bag extensions in
      let alike = entity_says_once bag (λ name twice. well (duplicate_entity_type name, twice)) it.0 second.body first.body
      (rw same second.says) first.says in
      record {
        key = same;
        name = first.name ∙ (same ∙ sym second.name);
        kind = kind_once defined (one_of_well_formed bag extensions fit well) first.body it.1.kind other.1.kind
            first.kind (kind_there defined defined (SameDefined-itself defined) second.body first.body other.1.kind alike second.kind);
        descendants = same_items (λ lower. IsDescendant bag extensions lower it.0) it.1.descendants other.1.descendants
            first.descendants (rw same second.descendants);
      }

  -- two actions of one uid that are declared are the same
  same_action : (it other : PlainUid × SchemaAction) → it.0 ≡ other.0 → IsDeclaredAction bag extensions it
      → IsDeclaredAction bag extensions other → SameAction it other
  same_action it other same first second =
      let defined = definitions bag extensions in
      let alike = action_says_once bag (λ uid twice. well (duplicate_action uid, twice)) it.0 first.applies_to second.applies_to
      first.says (rw same second.says) in
      record {
        key = same;
        uid = first.uid ∙ (same ∙ sym second.uid);
        kind = action_kind_once defined (one_of_well_formed bag extensions fit well) first.applies_to it.1.kind
            other.1.kind first.kind (rw alike second.kind);
        descendants = same_items (λ lower. IsDescendantAction bag lower it.0) it.1.descendants other.1.descendants
            first.descendants (rw same second.descendants);
      }

  -- the entities of one action are the same
  same_action_entity : (it other : ActionEntity) → it.uid ≡ other.uid → IsEntityOfDefinition bag it
      → IsEntityOfDefinition bag other → SameActionEntity it other
  same_action_entity it other same first second =
      record {
        uid = same;
        attributes = first.attributes ∙ sym second.attributes;
        tags = first.tags ∙ sym second.tags;
        ancestors = same_items (λ upper. IsDescendantAction bag it.uid upper) it.ancestors other.ancestors
            first.ancestors (rw same second.ancestors);
      }

-- the first of some items
abbrev first_of : {A : Type 0} → A → List A → A
first_of default [] = default
first_of default (first ∷ rest) = first

-- the items after the first
abbrev rest_of : {A : Type 0} → List A → List A
rest_of [] = []
rest_of (first ∷ rest) = rest

-- lists whose keys are pairwise the same are the same, where items of one key are
pub same_pairwise : {A K : Type 0} (key : A → K) (P : A → Type 0) (R : A → A → Type 0)
    → ((it other : A) → key it ≡ key other → P it → P other → R it other) → (items others : List A)
    → map key items ≡ map key others → ((it : A) → Contains items it → P it)
    → ((it : A) → Contains others it → P it) → HoldsPairwise R items others
same_pairwise key P R same [] [] keys each each' = tt
same_pairwise key P R same (it ∷ items) (other ∷ others) keys each each' = (
  same it other (ap (first_of (key it)) keys) (each it (Contains-cons it items it (inl refl)))
      (each' other (Contains-cons other others other (inl refl))),
  same_pairwise key P R same items others (ap rest_of keys) (λ x among. each x (Contains-cons it items x (inr among)))
      (λ x among. each' x (Contains-cons other others x (inr among))),
)
same_pairwise key P R same _ _ keys each each' = absurd cc

-- keys that are all among those of another list, if each item of it is declared and each that is
-- declared is there
pub keys_included : {A K : Type 0} (key : A → K) (Q : K → Type 0) (items others : List A)
    → ((it : A) → Contains items it → Q (key it)) → ((k : K) → Q k → Contains (map key others) k) → (k : K)
    → Contains (map key items) k → Contains (map key others) k
keys_included key Q items others each there k among =
    let found = Contains-preimage key items k among in
    there k (rw found.2 at (each found.0 found.1))

-- a bag that isn't ill-formed declares one schema
pub one_schema : (bag : Bag) (extensions : Extensions) → TypeNamesFit (extension_types extensions)
    → ¬ IsIllFormed bag extensions → (schema other : PlainSchema) → IsDeclaredSchema bag extensions schema
    → IsDeclaredSchema bag extensions other → SameSchema schema other
one_schema bag extensions fit well schema other first second =
    let Types : PlainName → Type 0 = Contains (map (λ it. it.0) (declared_entities bag)) in
    let Actions : PlainUid → Type 0 = Contains (action_uids bag) in
    let Entities : PlainUid → Type 0 = Contains (map (λ it. it.0) (defined_actions bag)) in
    let declared_type = λ (it : PlainName × SchemaEntityType) (declared : IsDeclaredEntityType bag extensions it).
    said_is_declared bag it.0 declared.body declared.says in
    let declared_action = λ (it : PlainUid × SchemaAction) (declared : IsDeclaredAction bag extensions it).
    said_action_is_declared bag it.0 declared.applies_to declared.says in
    let ours = entities_declared bag extensions schema first in
    let theirs = entities_declared bag extensions other second in
    let type_key = λ (it : PlainName × SchemaEntityType). it.0 in
    let action_key = λ (it : PlainUid × SchemaAction). it.0 in
    let entity_key = λ (it : ActionEntity). it.uid in
    let types = Included-same name_cmp name_cmp-total (map type_key schema.entity_types)
    (map type_key other.entity_types) first.entity_types_in_order second.entity_types_in_order
    (keys_included type_key Types schema.entity_types other.entity_types
    (λ it among. declared_type it (first.entity_types it among)) second.each_entity_type)
    (keys_included type_key Types other.entity_types schema.entity_types
    (λ it among. declared_type it (second.entity_types it among)) first.each_entity_type) in
    let actions = Included-same uid_cmp uid_cmp-total (map action_key schema.actions)
    (map action_key other.actions) first.actions_in_order second.actions_in_order
    (keys_included action_key Actions schema.actions other.actions
    (λ it among. declared_action it (first.actions it among)) second.each_action)
    (keys_included action_key Actions other.actions schema.actions
    (λ it among. declared_action it (second.actions it among)) first.each_action) in
    let entities = Included-same uid_cmp uid_cmp-total (map entity_key schema.action_entities)
    (map entity_key other.action_entities) first.action_entities.in_order second.action_entities.in_order
    (keys_included entity_key Entities schema.action_entities other.action_entities
    (λ it among. (ours.0 it among).defined) theirs.1)
    (keys_included entity_key Entities other.action_entities schema.action_entities
    (λ it among. (theirs.0 it among).defined) ours.1) in
    record {
      entity_types = same_pairwise type_key (IsDeclaredEntityType bag extensions) SameEntityType
          (same_entity_type bag extensions fit well) schema.entity_types other.entity_types types first.entity_types second.entity_types;
      actions = same_pairwise action_key (IsDeclaredAction bag extensions) SameAction
          (same_action bag extensions fit well) schema.actions other.actions actions first.actions second.actions;
      action_entities = same_pairwise entity_key (IsEntityOfDefinition bag) SameActionEntity
          (same_action_entity bag extensions fit well) schema.action_entities other.action_entities entities
          ours.0 theirs.0;
    }

-- what is elaborated as a type has just the values that it admits
pub admits_the_same : (bag : Bag) (extensions : Extensions) → HasOneDefinition (definitions bag extensions)
    → (expr : Expr) (ty : Ty) → ElaboratesTo (definitions bag extensions) expr ty → AdmitsTheSame bag extensions expr ty
admits_the_same bag extensions one expr ty written value =
    let defined = definitions bag extensions in
    (λ has. admitted_of defined extensions written value has, λ admitted. has_admitted defined extensions one admitted written)

-- the types of the declared schema have just the declared values
pub types_admit : (bag : Bag) (extensions : Extensions) → TypeNamesFit (extension_types extensions)
    → ¬ IsIllFormed bag extensions → (schema : PlainSchema) → IsDeclaredSchema bag extensions schema
    → TypesAdmitTheDeclared bag extensions schema
types_admit bag extensions fit well schema declared =
    let defined = definitions bag extensions in
    let one = one_of_well_formed bag extensions fit well in
    let fits = λ (name : PlainName) (body : EntityBody) (it : SchemaEntityType) (is : IsDefinition body)
    (among : Contains (declared_entities bag) (name, body)) (there : Contains schema.entity_types (name, it)).
    (let found = declared.entity_types (name, it) there in
    kind_there defined defined (SameDefined-itself defined) found.body body it.kind
    (entity_says_once bag (λ each twice. well (duplicate_entity_type each, twice)) name found.body body found.says
    (definition_says bag name body (declared_definition bag name body is among)))
    found.kind) in
    record {
      attributes = λ name parents shape tags it fields openness tag_type among there is.
          (let kind_fits = rw is at (fits name (standard parents shape tags) it tt among there) in
          rw kind_fits.1 (admits_the_same bag extensions one shape (record_of fields ClosedAttributes) kind_fits.0));
      tags = λ name parents shape tags it fields openness tag_type among there is.
          (let kind_fits = rw is at (fits name (standard parents shape (Some tags)) it tt among there) in
          admits_the_same bag extensions one tags tag_type kind_fits.2);
      contexts = λ uid principals resources context it principal_types resource_types ty among there is.
          (let found = declared.actions (uid, it) there in
          let same = action_says_once bag (λ each twice. well (duplicate_action each, twice)) uid
          found.applies_to (requests principals resources context) found.says among in
          let kind_fits = rw (same, is) at found.kind in
          admits_the_same bag extensions one context ty kind_fits.2);
    }
