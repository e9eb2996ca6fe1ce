-- A schema whose parts can be written, and are.
use Rattle.std.proofs.Common.{◌≡◌, ◌↔◌, ◌++◌, List, [], ◌∷◌, Option, None, Some, map, ap, refl, inl, inr, Contains}
use Rattle.std.proofs.lemmas.List.Elements.{Contains-append_cases, Contains-append_left, Contains-append_right}
use Rattle.std.proofs.lemmas.List.Sorted.{Contains-permutation, IsPermutation-append_left, IsPermutation-sym, IsPermutation-trans}
use Rattle.cedar_ast.proofs.Basics.{Contains-image}
use Rattle.cedar_ast.proofs.Lists.{Contains-preimage}
use Rattle.cedar_ast.proofs.TurnLemmas.{turn_weaker}
use Rattle.cedar_schema_semantics.proofs.ResolutionLemmas.{IsFirst-like}
use Rattle.cedar_schema_semantics.proofs.TurnLemmas.{turn_back, turn_forth}
use Rattle.cedar_schema_writer.proofs.Written.{none_there}
use Rattle.cedar_schema_writer.specs.Words.{ActionBody, ActionEntity, ArePut, Bag, Declaration, Entity, IsActionDeclaration, IsActionType, IsConvertedBack, IsDefined, IsPathOf, IsSoundActionEntry, IsSoundEntityType, IsTypeDeclaration, IsWritable, Known, ListsDescendant, ListsDescendantAction, Names, NamesNoOther, NamesNoOtherAction, PlainName, PlainSchema, PlainUid, SchemaAction, SchemaEntityType, Text, action_declared, full_name, known_names, known_schema, parts_schema, schema_names, type_name}

-- where the same entity types are known, a name names no other both times
no_other-same : (names other : Names) → ((name : PlainName) → Contains names.entities name ↔ Contains other.entities name)
    → (namespace : Option PlainName) (name : PlainName) → NamesNoOther names namespace name → NamesNoOther other namespace name
no_other-same names other same namespace name no_other it resolves =
    no_other it (IsFirst-like (IsDefined other Entity) (IsDefined names Entity)
    (λ each. elim [ inl common ↦ absurd common.0 | inr of ↦ inr (tt, (same each).1 of.1) ])
    (λ each. elim [ inl common ↦ absurd common.0 | inr of ↦ inr (tt, (same each).0 of.1) ])
    (full_name namespace name).possibilities it resolves)

-- each path is that of names in some namespace
namespace_of_path : (path : List Text) → (namespace : Option PlainName) × IsPathOf namespace path
namespace_of_path [] = (None, refl)
namespace_of_path (first ∷ rest) = by (namespace_of_path rest) where
  by : ((namespace : Option PlainName) × IsPathOf namespace rest) → (namespace : Option PlainName) × IsPathOf namespace (first ∷ rest)
  by (None, is) = (Some (record { base = first; path = [] }), ap (λ others. first ∷ others) is)
  by (Some outer, is) = (Some (record { base = outer.base; path = first ∷ outer.path }), ap (λ others. first ∷ others) is)

-- what holds of the key of each item holds of each key
of_key : {A K : Type 0} (key : A → K) (items : List A) (P : K → Type 0) → ((it : A) → Contains items it → P (key it))
    → (k : K) → Contains (map key items) k → P k
of_key key items P each k among =
    let found = Contains-preimage key items k among in rw found.2 at (each found.0 found.1)

-- what is known is the schema's, where the types of actions are collected
module _ (known : Known) (exact : (name : PlainName) → Contains (map type_name known.action_types.now.keys) name
    ↔ Contains (map (λ (it : PlainUid × SchemaAction). it.0.ty) (known_schema known).actions) name) (entities : List ActionEntity) where
  same_names : (name : PlainName) → Contains (known_names known).entities name
      ↔ Contains (schema_names (parts_schema known.entity_types.now.entries known.actions.now.entries entities)).entities name
  same_names name =
      let types = map (λ (it : PlainName × SchemaEntityType). it.0) (known_schema known).entity_types in
      let collected = map type_name known.action_types.now.keys in
      let of_actions = map (λ (it : PlainUid × SchemaAction). it.0.ty) (known_schema known).actions in (
        λ among. elim (Contains-append_cases types collected name among) [
          | inl there ↦ Contains-append_left types of_actions name there
          | inr there ↦ Contains-append_right types of_actions name ((exact name).0 there)
        ],
        λ among. elim (Contains-append_cases types of_actions name among) [
          | inl there ↦ Contains-append_left types collected name there
          | inr there ↦ Contains-append_right types collected name ((exact name).1 there)
        ],
      )

  to_schema : (namespace : Option PlainName) (name : PlainName) → NamesNoOther (known_names known) namespace name
      → NamesNoOther (schema_names (parts_schema known.entity_types.now.entries known.actions.now.entries entities)) namespace name
  to_schema = no_other-same (known_names known) (schema_names
      (parts_schema known.entity_types.now.entries known.actions.now.entries entities)) same_names

  to_known : (namespace : Option PlainName) (name : PlainName)
      → NamesNoOther (schema_names (parts_schema known.entity_types.now.entries known.actions.now.entries entities)) namespace name
      → NamesNoOther (known_names known) namespace name
  to_known = no_other-same (schema_names (parts_schema known.entity_types.now.entries known.actions.now.entries entities))
      (known_names known)
      (λ name. ((same_names name).1, (same_names name).0))

  module _ (type_sound : (it : PlainName × SchemaEntityType) → Contains (known_schema known).entity_types it → IsSoundEntityType known it)
      (action_sound : (it : PlainUid × SchemaAction) → Contains (known_schema known).actions it → IsSoundActionEntry known it) where
    type_above : (namespace : Option PlainName) (lower upper : PlainName) → IsPathOf namespace lower.path
        → ListsDescendant (known_schema known) lower upper → NamesNoOther (known_names known) namespace upper
    type_above namespace lower upper is lists =
        of_key (λ (it : PlainName × SchemaEntityType). it.0) (known_schema known).entity_types
        (λ key. IsPathOf namespace key.path → ListsDescendant (known_schema known) key upper
        → NamesNoOther (known_names known) namespace upper)
        (λ it among path listed. (type_sound it among).above namespace path upper listed)
        lower ((type_sound (upper, lists.0) lists.1).below lower lists.2) is lists

    action_above : (namespace : Option PlainName) (lower upper : PlainUid) → IsPathOf namespace lower.ty.path
        → ListsDescendantAction (known_schema known) lower upper → NamesNoOtherAction (known_names known) namespace upper
    action_above namespace lower upper is lists =
        of_key (λ (it : PlainUid × SchemaAction). it.0) (known_schema known).actions
        (λ key. IsPathOf namespace key.ty.path → ListsDescendantAction (known_schema known) key upper
        → NamesNoOtherAction (known_names known) namespace upper)
        (λ it among path listed. (action_sound it among).above namespace path upper listed)
        lower ((action_sound (upper, lists.0) lists.1).below lower lists.2) is lists

    -- where each part can be written, the schema can
    pub parts_writable : IsWritable (parts_schema known.entity_types.now.entries known.actions.now.entries entities)
    parts_writable = record {
      types = λ namespace ty. elim [
        | inl of ↦ (((type_sound of.0 of.1).kind namespace of.2).types ty of.3).written
        | inr of ↦ (((action_sound of.0 of.1).kind namespace of.2).context ty of.3).written
      ];
      names = λ namespace name written. to_schema namespace name (elim written [
        | inl in_type ↦ elim in_type.1 [
          | inl of ↦ (((type_sound of.0 of.1).kind namespace of.2).types in_type.0 of.3).no_other name in_type.2
          | inr of ↦ (((action_sound of.0 of.1).kind namespace of.2).context in_type.0 of.3).no_other name in_type.2
        ]
        | inr (inl above) ↦ type_above namespace above.0 name above.1 above.2
        | inr (inr of) ↦ ((action_sound of.0 of.1).kind namespace of.2).no_other name of.3
      ]);
      uids = λ namespace uid above. action_above namespace above.0 uid above.1 above.2;
      action_types = λ uid has.
          of_key (λ (it : PlainUid × SchemaAction). it.0) (known_schema known).actions (λ key. IsActionType key.ty)
          (λ it among. (action_sound it among).action_type) uid has;
      entity_types_below = λ lower upper lists. (type_sound (upper, lists.0) lists.1).below lower lists.2;
      none_enumerated = λ lower upper lists of.
          let namespace = namespace_of_path lower.path in
          ((type_sound (lower, of.0) of.1).kind namespace.0 namespace.1).without_parents of.2 upper lists;
      actions_below = λ lower upper lists. (action_sound (upper, lists.0) lists.1).below lower lists.2;
    }

  module _ (writable : IsWritable (parts_schema known.entity_types.now.entries known.actions.now.entries entities)) where
    -- where the schema can be written, so can each entity type
    pub type_writable : (it : PlainName × SchemaEntityType) → Contains (known_schema known).entity_types it → IsSoundEntityType known it
    type_writable it among = record {
      kind = λ namespace is. record {
        types = λ ty of. record {
          written = writable.types namespace ty (inl (it, among, is, of));
          no_other = λ name mentions. to_known namespace name (writable.names namespace name (inl (ty, inl (it, among, is, of), mentions)));
        };
        without_parents = λ enumerated upper lists. writable.none_enumerated it.0 upper lists (it.1, among, enumerated);
      };
      above = λ namespace is upper lists. to_known namespace upper (writable.names namespace upper (inr (inl (it.0, is, lists))));
      below = λ lower listed. writable.entity_types_below lower it.0 (it.1, among, listed);
    }

    -- and each action
    pub action_writable : (it : PlainUid × SchemaAction) → Contains (known_schema known).actions it → IsSoundActionEntry known it
    action_writable it among = record {
      action_type = writable.action_types it.0 (Contains-image (λ (entry : PlainUid × SchemaAction). entry.0)
          (known_schema known).actions it among);
      kind = λ namespace is. record {
        context = λ ty of. record {
          written = writable.types namespace ty (inr (it, among, is, of));
          no_other = λ name mentions. to_known namespace name (writable.names namespace name (inl (ty, inr (it, among, is, of), mentions)));
        };
        no_other = λ name role. to_known namespace name (writable.names namespace name (inr (inr (it, among, is, role))));
      };
      above = λ namespace is upper lists. writable.uids namespace upper (it.0, is, lists);
      below = λ lower listed. writable.actions_below lower it.0 (it.1, among, listed);
    }

-- the declarations of entity types hold none of an action
pub no_action : (schema : PlainSchema) (before after : Bag) → before ≡ []
    → ArePut (IsTypeDeclaration schema) schema.entity_types before after
    → (namespace : Option PlainName) (id : Text) (body : ActionBody) → ¬ Contains after (action_declared namespace id body)
no_action schema before after nothing put namespace id body among =
    let item = action_declared namespace id body in
    let back = Contains-permutation after (before ++ put.put) item (IsPermutation-sym _ _ put.in_some_order) among in
    let there : Contains put.put item =
    elim (Contains-append_cases before put.put item back) [ inl old ↦ absurd (none_there before item nothing old) | inr new ↦ new ] in
    let Declares : Declaration → PlainName × SchemaEntityType → Type 0 = λ declaration it. IsTypeDeclaration schema it declaration in
    let found = turn_forth Declares put.put schema.entity_types
    (turn_back (IsTypeDeclaration schema) Declares (λ it declaration is. is) schema.entity_types put.put put.turn) item there in
    let same = found.2.declares in cc

-- where the declarations of the entity types and those of the actions are put in, the schema is
-- converted back
pub parts_written : (known : Known) (entities : List ActionEntity) (before middle after : Bag) → before ≡ []
    → ArePut (IsTypeDeclaration (known_schema known)) (known_schema known).entity_types before middle
    → ArePut (IsActionDeclaration (known_schema known)) (known_schema known).actions middle after
    → IsConvertedBack (parts_schema known.entity_types.now.entries known.actions.now.entries entities) after
parts_written known entities before middle after nothing types actions =
    let schema = parts_schema known.entity_types.now.entries known.actions.now.entries entities in
    record {
      entity_types = types.put;
      actions = actions.put;
      each_entity_type = turn_weaker (IsTypeDeclaration (known_schema known)) (IsTypeDeclaration schema)
          (λ it declaration is. record { name = is.name; body = is.body; declares = is.declares; kind = is.kind })
          (known_schema known).entity_types types.put types.turn;
      each_action = turn_weaker (IsActionDeclaration (known_schema known)) (IsActionDeclaration schema)
          (λ it declaration is. record {
            uid = is.uid;
            parents = is.parents;
            applies_to = is.applies_to;
            declares = is.declares;
            above = is.above;
            kind = is.kind;
          })
          (known_schema known).actions actions.put actions.turn;
      in_some_order =
          IsPermutation-trans _ _ _ (IsPermutation-append_left actions.put types.put middle
          (rw nothing at types.in_some_order)) actions.in_some_order;
    }
