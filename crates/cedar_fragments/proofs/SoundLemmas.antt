-- Declarations that give cause for a refusal whatever else is declared, and those that give none.
use Rattle.std.proofs.Common.{◌≡◌, ◌≢◌, ◌⊎◌, List, [], ◌∷◌, sym, ◌∙◌, ap, refl, inl, inr, Contains, Option, arith, subst}
use Rattle.std.proofs.lemmas.Bool.{false≢true}
use Rattle.std.specs.List.{AllByRecursion}
use Rattle.cedar_ast.proofs.Basics.{AllByRecursion-at, Contains-image}
use Rattle.cedar_ast.proofs.Lists.{Contains-preimage}
use Rattle.cedar_fragments.specs.Words.{ActionBody, Bag, CommonType, CommonTypeId, Declaration, EntityBody, Fault, GivesNoCause, HasAttributes, HasNoDefinitionFault, Included, IsActionType, IsDefinitionFault, IsReserved, IsSound, NamesNoAttributes, PlainName, PlainUid, RawName, Text, action, action_attributes, action_entity_type, action_uids, action_word, common_declarations, declared_actions, declared_entities, declared_name, declared_uid, entity_type, name_within, out_of_memory, path_within, raw_reference, reserved_name, reserved_word}
use Rattle.cedar_schema_semantics.proofs.DeclarationLemmas.{entity_declaration, action_declaration, declares_entity, declares_action}

-- a declared entity type that is sound
pub sound_entity : (bag : Bag) → AllByRecursion IsSound bag → (name : PlainName) (body : EntityBody)
    → Contains (declared_entities bag) (name, body) → (¬ IsActionType name) × ¬ Contains name.path reserved_word
sound_entity bag sound name body among =
    let declared = entity_declaration bag name body among in
    rw (← declared.3) (rw declared.2 at (AllByRecursion-at IsSound bag declared.0 sound declared.1))

-- a declared action that is sound
pub sound_action : (bag : Bag) → AllByRecursion IsSound bag → (uid : PlainUid) (body : ActionBody)
    → Contains (declared_actions bag) (uid, body) → ¬ Contains uid.ty.path reserved_word
sound_action bag sound uid body among =
    let declared = action_declaration bag uid body among in
    let no_cause : GivesNoCause declared.0 (action body) = rw declared.2 at (AllByRecursion-at IsSound bag declared.0 sound declared.1) in
    rw (← declared.3) no_cause.1

-- an action with attributes isn't sound
sound_attributes : (bag : Bag) → AllByRecursion IsSound bag → (namespace : Option PlainName) (id : Text) → ¬ HasAttributes bag namespace id
sound_attributes bag sound namespace id has =
    let no_cause : GivesNoCause (record { namespace = namespace; id = id; body = action has.0 }) (action has.0) =
    AllByRecursion-at IsSound bag (record { namespace = namespace; id = id; body = action has.0 }) sound has.1 in
    false≢true (sym no_cause.0 ∙ has.2)

-- where each declaration is sound, there is no cause for such a refusal
pub sound_bag : (bag : Bag) → AllByRecursion IsSound bag → HasNoDefinitionFault bag
sound_bag bag sound extensions (action_attributes ids) of at_fault = listed ids at_fault.0 at_fault.3
  where
    listed : (named : List Text) → named ≢ [] → ((id : Text) → Contains named id → HasAttributes bag at_fault.2 id) → ⊥
    listed [] some has = some refl
    listed (id ∷ rest) some has = sound_attributes bag sound at_fault.2 id (has id (0, omega arith, refl))
sound_bag bag sound extensions (action_entity_type name) of at_fault =
    (sound_entity bag sound name at_fault.0 at_fault.1).0 at_fault.2
sound_bag bag sound extensions (reserved_name name) of at_fault = elim at_fault.0 [
  | inl among ↦
      let entity = Contains-preimage _ (declared_entities bag) name among in
      (sound_entity bag sound entity.0.0 entity.0.1 entity.1).1 (rw entity.2 at_fault.1)
  | inr among ↦
      let uid = Contains-preimage _ (action_uids bag) name among in
      let declared = Contains-preimage _ (declared_actions bag) uid.0 uid.1 in
      sound_action bag sound declared.0.0 declared.0.1 declared.1
      (rw (declared.2, uid.2) at_fault.1)
]
sound_bag bag sound extensions _ of at_fault = of

-- an entity type that some declarations declare is declared by all of them
entity_included : (part whole : Bag) → Included part whole → (name : PlainName) (body : EntityBody)
    → Contains (declared_entities part) (name, body) → Contains (declared_entities whole) (name, body)
entity_included part whole included name body among =
    let declared = entity_declaration part name body among in
    rw declared.3 at (declares_entity whole declared.0 body (included declared.0 declared.1) declared.2)

-- an action that some declarations declare is declared by all of them
action_included : (part whole : Bag) → Included part whole → (uid : PlainUid) (body : ActionBody)
    → Contains (declared_actions part) (uid, body) → Contains (declared_actions whole) (uid, body)
action_included part whole included uid body among =
    let declared = action_declaration part uid body among in
    rw declared.3 at (declares_action whole declared.0 body (included declared.0 declared.1) declared.2)

-- the fault of some declarations is that of all of them
pub fault_included : (part whole : Bag) → Included part whole → (fault : Fault) → IsDefinitionFault part fault → IsDefinitionFault whole fault
fault_included part whole included (action_attributes ids) at_fault = (
  tt,
  λ extensions. let found = at_fault.1 extensions in
      (found.0, found.1, found.2, λ id among. let has = found.3 id among in (has.0, included _ has.1, has.2)),
)
fault_included part whole included (action_entity_type name) at_fault = (
  tt,
  λ extensions. let found = at_fault.1 extensions in
      (found.0, entity_included part whole included name found.0 found.1, found.2),
)
fault_included part whole included (reserved_name name) at_fault = (
  tt,
  λ extensions. let found = at_fault.1 extensions in (
    elim found.0 [
      | inl among ↦
          let entity = Contains-preimage _ (declared_entities part) name among in
          inl (rw (← entity.2) (Contains-image _ (declared_entities whole) entity.0
          (entity_included part whole included entity.0.0 entity.0.1 entity.1)))
      | inr among ↦
          let uid = Contains-preimage _ (action_uids part) name among in
          let declared = Contains-preimage _ (declared_actions part) uid.0 uid.1 in
          inr (rw (← uid.2) (Contains-image _ (action_uids whole) uid.0
          (rw (← declared.2) (Contains-image _ (declared_actions whole) declared.0
          (action_included part whole included declared.0.0 declared.0.1 declared.1)))))
    ],
    found.1,
  ),
)
fault_included part whole included _ at_fault = absurd at_fault.0

-- the refusal of the name of an entity type is a fault of the declarations among which it is
pub fault_of_entity : (bag : Bag) (namespace : Option PlainName) (id : Text) (body : EntityBody) (fault : Fault)
    → Contains bag (record { namespace = namespace; id = id; body = entity_type body })
    → (fault ≡ out_of_memory)
    ⊎ (((fault ≡ action_entity_type (name_within namespace id)) × IsActionType (name_within namespace id))
    ⊎ ((fault ≡ reserved_name (name_within namespace id)) × Contains (path_within namespace) reserved_word))
    → (fault ≡ out_of_memory) ⊎ IsDefinitionFault bag fault
fault_of_entity bag namespace id body fault among refused =
    let it : Declaration = record { namespace = namespace; id = id; body = entity_type body } in
    let declared : Contains (declared_entities bag) (declared_name it, body) = declares_entity bag it body among refl in
    elim refused [
      | inl memory ↦ inl memory
      | inr (inl is_action) ↦ inr (rw is_action.0 (tt, λ extensions. (body, declared, is_action.1)))
      | inr (inr reserved) ↦ inr (rw reserved.0
          (tt, λ extensions. (inl (Contains-image _ (declared_entities bag) (declared_name it, body) declared), reserved.1)))
    ]

-- the name of a type of actions is reserved where its path is
pub action_path_reserved : (namespace : Option PlainName) (name : PlainName) → name ≡ name_within namespace action_word → IsReserved name
    → Contains (path_within namespace) reserved_word
action_path_reserved namespace name is reserved =
    elim (subst IsReserved is reserved) [
      | inl base ↦ absurd (no_word base)
      | inr among ↦ among
    ]
  where
    no_word : action_word ≢ reserved_word
    no_word wrong = cc

-- so where the name isn't reserved, the path isn't
pub uid_unreserved : (namespace : Option PlainName) (name : PlainName) → name ≡ name_within namespace action_word → (¬ IsReserved name)
    → ¬ Contains (path_within namespace) reserved_word
uid_unreserved namespace name is unreserved among = unreserved (subst IsReserved (sym is) (inr among))

-- the refusal of the uid of an action is a fault of the declarations among which it is
pub fault_of_action : (bag : Bag) (namespace : Option PlainName) (id : Text) (body : ActionBody) (fault : Fault)
    → Contains bag (record { namespace = namespace; id = id; body = action body })
    → (name : PlainName) → name ≡ name_within namespace action_word
    → (fault ≡ out_of_memory) ⊎ ((fault ≡ reserved_name name) × IsReserved name)
    → (fault ≡ out_of_memory) ⊎ IsDefinitionFault bag fault
fault_of_action bag namespace id body fault among name is refused =
    let it : Declaration = record { namespace = namespace; id = id; body = action body } in
    let declared : Contains (declared_actions bag) (declared_uid it, body) = declares_action bag it body among refl in
    elim refused [
      | inl memory ↦ inl memory
      | inr reserved ↦ inr (rw (reserved.0 ∙ ap reserved_name is) (
        tt,
        λ extensions. (
          inr (Contains-image _ (action_uids bag) (declared_uid it)
              (Contains-image _ (declared_actions bag) (declared_uid it, body) declared)),
          action_path_reserved namespace name is reserved.1,
        ),
      ))
    ]

-- the refusal of the name of an entity type names no actions
pub name_names_none : (name : PlainName) (A B : Type 0) (fault : Fault)
    → (fault ≡ out_of_memory) ⊎ (((fault ≡ action_entity_type name) × A) ⊎ ((fault ≡ reserved_name name) × B))
    → NamesNoAttributes fault
name_names_none name A B fault refused = elim refused [
  | inl memory ↦ rw memory tt
  | inr (inl is_action) ↦ rw is_action.0 tt
  | inr (inr reserved) ↦ rw reserved.0 tt
]

-- common types give no cause
pub common_sound : (namespace : Option PlainName) (entries : List (CommonTypeId × CommonType RawName))
    → AllByRecursion IsSound (common_declarations RawName (raw_reference namespace) namespace entries)
common_sound namespace [] = tt
common_sound namespace (entry ∷ entries) = (tt, common_sound namespace entries)
