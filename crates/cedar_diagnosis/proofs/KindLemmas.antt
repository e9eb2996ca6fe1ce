-- What is found in the declarations of a bag are its faults of a kind.
use Rattle.std.proofs.Common.{◌≡◌, ◌≢◌, ◌↔◌, List, [], ◌∷◌, ◌++◌, map, ap, sym, ◌∙◌, subst, refl, inl, inr, Contains}
use Rattle.std.specs.List.Sorted.{IsStrictlySortedBy}
use Rattle.std.proofs.lemmas.List.Elements.{Contains-append_left, Contains-append_right, Contains-append_cases}
use Rattle.cedar_ast.proofs.Basics.{Contains-image, Contains-single}
use Rattle.cedar_ast.specs.Words.{IsReserved, PlainName, PlainUid, Text, Twice, TypeNamesFit, extension_types, reserved_word, text_cmp}
use Rattle.cedar_ast.specs.declared.extension.Extensions.{Extensions}
use Rattle.cedar_diagnosis.proofs.AddingLemmas.{members_of}
use Rattle.cedar_diagnosis.proofs.GivenLemmas.{action_base, action_definitions_in, entity_definitions_in, keys_in, told_in, twice_told, types_in}
use Rattle.cedar_diagnosis.specs.Adding.{SomeGives, TellsJust}
use Rattle.cedar_diagnosis.specs.Diagnosis.{IsTold, NamesOne}
use Rattle.cedar_diagnosis.specs.Finding.{FindsActionType, FindsAttributes, FindsShadowedAction, FindsShadowedType, FindsUndefinedType, FindsUnknownExtension, plain_uid}
use Rattle.cedar_diagnosis.specs.Kinds as kind
use Rattle.cedar_diagnosis.proofs.TogetherLemmas.{TellsAlso}
use Rattle.cedar_diagnosis.specs.Kinds.{Kind, kind_of}
use Rattle.cedar_diagnosis.specs.Mentioned.{HasOpenIn, HasToResolveIn}
use Rattle.cedar_diagnosis.specs.Names.{common_names_in, defined_actions_in, defined_entities_in, entity_names_in}
use Rattle.cedar_name_resolution.specs.Words.{HoldsJust, names_given, type_names}
use Rattle.cedar_ast.proofs.Lists.{Contains-cons, Contains-preimage}
use Rattle.cedar_schema_ast.specs.Words.{Declaration, Expr, Reference, Requests}
use Rattle.cedar_schema_ast.specs.declared.json_schema.reference_type.ReferenceType.{ReferenceType}
use Rattle.std.proofs.lemmas.List.{map-append}
use Rattle.std.specs.List.{flat_map}
use Rattle.cedar_schema_semantics.proofs.BuiltInLemmas.{built_ins_once}
use Rattle.cedar_schema_semantics.proofs.OccurrenceLemmas.{Contains-entry, Twice-append, Twice-left}
use Rattle.cedar_schema_semantics.specs.Words.{Bag, EntityBody, Fault, HasAttributes, HasToResolve, IsDefined, IsFault, IsUnresolved, Names, ShadowsType, action, action_definition_in, built_in_name, built_in_types, built_ins, common_in, declared_common, defined_actions, defined_entities, duplicate_action, duplicate_common_type, duplicate_entity_type, entity_definitions, action_attributes, action_entity_type, action_in, action_shadowing, alias_name, declared_entities, declared_name, declared_types, declared_uid, defined_names, entity_in, open_record, type_not_defined, type_shadowing, unknown_extension_type}

-- one text alone is in order
sorted_alone : (id : Text) → IsStrictlySortedBy text_cmp (id ∷ [])
unfolding IsStrictlySortedBy
sorted_alone id = (tt, tt)

-- names that are the same define the same
pub defined_like : (names others : Names) → HoldsJust names others → (named : ReferenceType) (name : PlainName)
    → IsDefined names named name ↔ IsDefined others named name
defined_like names others same named name = (
  elim [
    | inl common ↦ inl (common.0, (same.common name).0 common.1)
    | inr entity ↦ inr (entity.0, (same.entities name).0 entity.1)
  ],
  elim [
    | inl common ↦ inl (common.0, (same.common name).1 common.1)
    | inr entity ↦ inr (entity.0, (same.entities name).1 entity.1)
  ],
)

-- and leave the same references unresolved
pub unresolved_like : (names others : Names) → HoldsJust names others → (reference : Reference)
    → IsUnresolved names reference ↔ IsUnresolved others reference
unresolved_like names others same reference = (
  λ none name among defined. none name among ((defined_like names others same reference.kind name).1 defined),
  λ none name among defined. none name among ((defined_like names others same reference.kind name).0 defined),
)

module _ (bag : Bag) (extensions : Extensions) where
  -- what may be told of a kind
  abbrev pub MayTell : Kind → Fault → Type 0
  MayTell of fault = (kind_of fault ≡ of) × IsFault bag extensions fault × NamesOne fault

  -- where what is told are the faults of a kind, the kind is told
  pub tells_kind : (of : Kind) (Holds : Fault → Type 0) (before after : List Fault) → ((fault : Fault) → Holds fault → MayTell of fault)
      → ((more : List Fault) → ((fault : Fault) → Holds fault → Contains more fault) → (fault : Fault) → kind_of fault ≡ of
      → IsFault bag extensions fault → IsTold more fault)
      → TellsJust Holds before after → TellsAlso bag extensions of before after
  tells_kind of Holds before after sound complete tells =
      let just = members_of Holds tells.more tells.just in (
        tells.more,
        tells.told,
        record {
          of_kind = λ fault among. (sound fault ((just fault).0 among)).0;
          each = λ fault among. (sound fault ((just fault).0 among)).1;
          one = λ fault among. (sound fault ((just fault).0 among)).2;
          once = tells.once;
          all = complete tells.more (λ fault holds. (just fault).1 holds);
        },
      )

  -- an open record is a fault, and is found
  open_sound : (fault : Fault) → SomeGives (λ (it : Declaration) (each : Fault). HasOpenIn it.body × (open_record ≡ each)) bag fault
      → MayTell kind.open_record fault
  open_sound fault some =
      let opens = some.2.0 in
      subst (MayTell kind.open_record) some.2.1 (refl, (opens.0, (some.0, some.1, opens.1), opens.2), tt)

  open_complete : (more : List Fault)
      → ((fault : Fault) → SomeGives (λ (it : Declaration) (each : Fault). HasOpenIn it.body × (open_record ≡ each)) bag fault → Contains more fault)
      → (fault : Fault) → kind_of fault ≡ kind.open_record → IsFault bag extensions fault → IsTold more fault
  open_complete more has open_record is fault =
      has open_record (fault.1.0, fault.1.1, ((fault.0, fault.1.2, fault.2), refl))
  open_complete more has _ is fault = absurd cc

  pub tells_open_records : (before after : List Fault)
      → TellsJust (SomeGives (λ (it : Declaration) (each : Fault). HasOpenIn it.body × (open_record ≡ each)) bag) before after
      → TellsAlso bag extensions kind.open_record before after
  tells_open_records before after =
      tells_kind kind.open_record (SomeGives (λ (it : Declaration) (each : Fault). HasOpenIn it.body × (open_record ≡ each)) bag) before after
      open_sound open_complete

  -- an unknown extension type is a fault, and is found
  extension_sound : (fault : Fault) → SomeGives (FindsUnknownExtension extensions) bag fault → MayTell kind.unknown_extension_type fault
  extension_sound fault some =
      let it = some.2 in
      let found = it.1 in
      subst (MayTell kind.unknown_extension_type) it.2.1
      (refl, (found.0, (some.0, some.1, found.1), found.2, refl, it.2.0), tt)

  extension_complete : (more : List Fault) → ((fault : Fault) → SomeGives (FindsUnknownExtension extensions) bag fault → Contains more fault)
      → (fault : Fault) → kind_of fault ≡ kind.unknown_extension_type → IsFault bag extensions fault → IsTold more fault
  extension_complete more has (unknown_extension_type name) is fault =
      let alone : alias_name name.base ≡ name = (λ i. record { base = name.base; path = sym fault.3 i }) in
      let Told : PlainName → Type 0 = λ each. Contains more (unknown_extension_type each) in
      let Unknown : PlainName → Type 0 = λ each. ¬ Contains (extension_types extensions) each in
      subst Told alone
      (has (unknown_extension_type (alias_name name.base))
      (fault.1.0, fault.1.1, (name.base, (fault.0, fault.1.2, fault.2), (subst Unknown (sym alone) fault.4, refl))))
  extension_complete more has _ is fault = absurd cc

  pub tells_unknown_extensions : (before after : List Fault) → TellsJust (SomeGives (FindsUnknownExtension extensions) bag) before after
      → TellsAlso bag extensions kind.unknown_extension_type before after
  tells_unknown_extensions before after =
      tells_kind kind.unknown_extension_type (SomeGives (FindsUnknownExtension extensions) bag) before after extension_sound extension_complete

  -- what has to name something in a declaration of the bag has to in the bag
  has_to_resolve : (reference : Reference) → ((it : Declaration) × Contains bag it × HasToResolveIn it.body reference) ↔ HasToResolve bag reference
  has_to_resolve reference = (
    λ some. elim some.2 [
      | inl stands ↦ inl (stands.0, (some.0, some.1, stands.1), stands.2)
      | inr position ↦ inr (some.0, some.1, position)
    ],
    elim [
      | inl stands ↦ (stands.1.0, stands.1.1, inl (stands.0, stands.1.2, stands.2))
      | inr position ↦ (position.0, position.1, inr position.2)
    ],
  )

  module _ (names : Names) (same : HoldsJust names (defined_names bag extensions)) where
    -- a reference that has to name something and doesn't is a fault, and is found
    undefined_sound : (fault : Fault) → SomeGives (FindsUndefinedType names) bag fault → MayTell kind.type_not_defined fault
    undefined_sound fault some =
        let found = some.2 in
        let reference = found.0 in
        let Stands : Reference → Type 0 = λ each. HasToResolve bag each × IsUnresolved (defined_names bag extensions) each in
        let stands : Stands reference =
        ((has_to_resolve reference).0 (some.0, some.1, found.1), (unresolved_like names (defined_names bag extensions) same reference).0 found.2.0) in
        let some_one : (reference ∷ []) ≢ [] = λ (is : (reference ∷ []) ≡ []). cc in
        subst (MayTell kind.type_not_defined) found.2.1
        (refl, (some_one, λ each among. subst Stands (Contains-single reference each among) stands), (reference, refl))

    undefined_complete : (more : List Fault) → ((fault : Fault) → SomeGives (FindsUndefinedType names) bag fault → Contains more fault)
        → (fault : Fault) → kind_of fault ≡ kind.type_not_defined → IsFault bag extensions fault → IsTold more fault
    undefined_complete more has (type_not_defined references) is fault = λ reference among.
        let stands = fault.1 reference among in
        let it = (has_to_resolve reference).1 stands.0 in
        has (type_not_defined (reference ∷ []))
        (it.0, it.1, (reference, it.2, ((unresolved_like names (defined_names bag extensions) same reference).1 stands.1, refl)))
    undefined_complete more has _ is fault = absurd cc

    pub tells_undefined_types : (before after : List Fault) → TellsJust (SomeGives (FindsUndefinedType names) bag) before after
        → TellsAlso bag extensions kind.type_not_defined before after
    tells_undefined_types before after =
        tells_kind kind.type_not_defined (SomeGives (FindsUndefinedType names) bag) before after undefined_sound undefined_complete

  -- an action with attributes is a fault, and is found
  attributes_sound : (fault : Fault) → SomeGives FindsAttributes bag fault → MayTell kind.action_attributes fault
  attributes_sound fault some =
      let it = some.0 in
      let found = some.2 in
      let same : it ≡ record { namespace = it.namespace; id = it.id; body = action found.0 } =
      (λ i. record { namespace = it.namespace; id = it.id; body = found.1 i }) in
      let has : HasAttributes bag it.namespace it.id = (found.0, subst (Contains bag) same some.1, found.2) in
      let some_one : (it.id ∷ []) ≢ [] = λ (is : (it.id ∷ []) ≡ []). cc in
      subst (MayTell kind.action_attributes) found.3
      (refl, (some_one, sorted_alone it.id, it.namespace, λ id among. subst (HasAttributes bag it.namespace) (Contains-single it.id id among) has), (it.id, refl))

  attributes_complete : (more : List Fault) → ((fault : Fault) → SomeGives FindsAttributes bag fault → Contains more fault)
      → (fault : Fault) → kind_of fault ≡ kind.action_attributes → IsFault bag extensions fault → IsTold more fault
  attributes_complete more has (action_attributes ids) is fault = λ id among.
      let it = fault.3 id among in
      has (action_attributes (id ∷ []))
      (record { namespace = fault.2; id = id; body = action it.0 }, it.1, (it.0, refl, it.2, refl))
  attributes_complete more has _ is fault = absurd cc

  pub tells_attributes : (before after : List Fault) → TellsJust (SomeGives FindsAttributes bag) before after
      → TellsAlso bag extensions kind.action_attributes before after
  tells_attributes before after =
      tells_kind kind.action_attributes (SomeGives FindsAttributes bag) before after attributes_sound attributes_complete

  -- what is declared of an entity type of a name
  entity_named : (name : PlainName) → ((it : Declaration) × Contains bag it × Contains (entity_names_in it) name)
      ↔ ((body : EntityBody) × Contains (declared_entities bag) (name, body))
  entity_named name =
      let keys = keys_in (λ it. entity_in (declared_name it) it.body) bag name in (
        λ some. Contains-entry (declared_entities bag) name (keys.0 some),
        λ entry. keys.1 (Contains-image (λ (each : PlainName × EntityBody). each.0) (declared_entities bag) (name, entry.0) entry.1),
      )

  -- an entity type with the base name of types of actions is a fault, and is found
  action_type_sound : (fault : Fault) → SomeGives FindsActionType bag fault → MayTell kind.action_entity_type fault
  action_type_sound fault some =
      let found = some.2 in
      let entry = (entity_named found.0).0 (some.0, some.1, found.1) in
      subst (MayTell kind.action_entity_type) found.3 (refl, (entry.0, entry.1, found.2), tt)

  action_type_complete : (more : List Fault) → ((fault : Fault) → SomeGives FindsActionType bag fault → Contains more fault)
      → (fault : Fault) → kind_of fault ≡ kind.action_entity_type → IsFault bag extensions fault → IsTold more fault
  action_type_complete more has (action_entity_type name) is fault =
      let it = (entity_named name).1 (fault.0, fault.1) in
      has (action_entity_type name) (it.0, it.1, (name, it.2, fault.2, refl))
  action_type_complete more has _ is fault = absurd cc

  pub tells_action_types : (before after : List Fault) → TellsJust (SomeGives FindsActionType bag) before after
      → TellsAlso bag extensions kind.action_entity_type before after
  tells_action_types before after =
      tells_kind kind.action_entity_type (SomeGives FindsActionType bag) before after action_type_sound action_type_complete

  module _ (declared : Names) (just : HoldsJust declared (names_given bag)) where
    -- the names of types that are held are those that are declared
    pub held_types : (name : PlainName) → Contains (type_names declared) name ↔ Contains (declared_types bag) name
    held_types name = (
      λ among. elim (Contains-append_cases declared.common declared.entities name among) [
        | inl common ↦ Contains-append_left _ _ name ((just.common name).0 common)
        | inr entity ↦ Contains-append_right _ _ name ((just.entities name).0 entity)
      ],
      λ among. elim (Contains-append_cases _ _ name among) [
        | inl common ↦ Contains-append_left declared.common declared.entities name ((just.common name).1 common)
        | inr entity ↦ Contains-append_right declared.common declared.entities name ((just.entities name).1 entity)
      ],
    )

    -- a type that is shadowed is a fault, and is found
    shadowed_type_sound : (fault : Fault) → SomeGives (FindsShadowedType (type_names declared)) bag fault → MayTell kind.type_shadowing fault
    shadowed_type_sound fault some =
        let found = some.2 in
        subst (MayTell kind.type_shadowing) found.4
        (refl, ((held_types (alias_name found.0.base)).0 found.2, (types_in bag found.0).0 (some.0, some.1, found.1), found.3), tt)

    shadowed_type_complete : (more : List Fault)
        → ((fault : Fault) → SomeGives (FindsShadowedType (type_names declared)) bag fault → Contains more fault)
        → (fault : Fault) → kind_of fault ≡ kind.type_shadowing → IsFault bag extensions fault → IsTold more fault
    shadowed_type_complete more has (type_shadowing plain qualified) is fault =
        let shadows = fault.2 in
        let same : plain ≡ alias_name qualified.base = (λ i. record { base = shadows.3 i; path = shadows.0 i }) in
        let it = (types_in bag qualified).1 fault.1 in
        let Told : PlainName → Type 0 = λ each. Contains more (type_shadowing each qualified) in
        let Shadows : PlainName → Type 0 = λ each. ShadowsType each qualified in
        subst Told (sym same)
        (has (type_shadowing (alias_name qualified.base) qualified)
        (it.0, it.1, (qualified, it.2, subst (Contains (type_names declared)) same ((held_types plain).1 fault.0), subst Shadows same shadows, refl)))
    shadowed_type_complete more has _ is fault = absurd cc

    pub tells_shadowed_types : (before after : List Fault) → TellsJust (SomeGives (FindsShadowedType (type_names declared)) bag) before after
        → TellsAlso bag extensions kind.type_shadowing before after
    tells_shadowed_types before after =
        tells_kind kind.type_shadowing (SomeGives (FindsShadowedType (type_names declared)) bag) before after shadowed_type_sound shadowed_type_complete

    -- an action that is shadowed is a fault, and is found
    shadowed_action_sound : (fault : Fault) → SomeGives (FindsShadowedAction declared.actions) bag fault → MayTell kind.action_shadowing fault
    shadowed_action_sound fault some =
        let found = some.2 in
        let among = (keys_in (λ it. action_in (declared_uid it) it.body) bag found.0).0 (some.0, some.1, found.1) in
        subst (MayTell kind.action_shadowing) found.4
        (refl, ((just.actions (plain_uid found.0.eid)).0 found.2, among, (refl, found.3, refl)), tt)

    shadowed_action_complete : (more : List Fault)
        → ((fault : Fault) → SomeGives (FindsShadowedAction declared.actions) bag fault → Contains more fault)
        → (fault : Fault) → kind_of fault ≡ kind.action_shadowing → IsFault bag extensions fault → IsTold more fault
    shadowed_action_complete more has (action_shadowing plain qualified) is fault =
        let shadows = fault.2 in
        let base = action_base bag plain fault.0 in
        let same : plain ≡ plain_uid qualified.eid =
        (λ i. record { ty = record { base = base i; path = shadows.0 i }; eid = shadows.2 i }) in
        let it = (keys_in (λ it. action_in (declared_uid it) it.body) bag qualified).1 fault.1 in
        let Told : PlainUid → Type 0 = λ each. Contains more (action_shadowing each qualified) in
        subst Told (sym same)
        (has (action_shadowing (plain_uid qualified.eid) qualified)
        (it.0, it.1, (qualified, it.2, subst (Contains declared.actions) same ((just.actions plain).1 fault.0), shadows.1, refl)))
    shadowed_action_complete more has _ is fault = absurd cc

    pub tells_shadowed_actions : (before after : List Fault) → TellsJust (SomeGives (FindsShadowedAction declared.actions) bag) before after
        → TellsAlso bag extensions kind.action_shadowing before after
    tells_shadowed_actions before after =
        tells_kind kind.action_shadowing (SomeGives (FindsShadowedAction declared.actions) bag) before after shadowed_action_sound shadowed_action_complete

  -- what stands twice as it is told is told, where that is the kind
  tells_repeated : {K : Type 0} (of : Kind) (tell : K → Fault) → ((a b : K) → tell a ≡ tell b → a ≡ b) → (keys : List K) (given : List Fault)
      → given ≡ map tell keys → ((key : K) → Twice keys key → MayTell of (tell key))
      → ((more : List Fault) → ((key : K) → Twice keys key → Contains more (tell key)) → (fault : Fault) → kind_of fault ≡ of
      → IsFault bag extensions fault → IsTold more fault) → (before after : List Fault) → TellsJust (Twice given) before after
      → TellsAlso bag extensions of before after
  tells_repeated of tell back keys given all sound complete before after =
      let TwiceIn : Fault → List Fault → Type 0 = λ fault each. Twice each fault in
      tells_kind of (Twice given) before after
      (λ fault twice.
      let it = (twice_told tell back keys fault).0 (subst (TwiceIn fault) all twice) in
      subst (MayTell of) it.2 (sound it.0 it.1))
      (λ more has. complete more (λ key twice.
      has (tell key) (subst (TwiceIn (tell key)) (sym all) ((twice_told tell back keys (tell key)).1 (key, twice, refl)))))

  -- entity types that are defined twice
  entities_complete : (more : List Fault)
      → ((name : PlainName) → Twice (map (λ (it : PlainName × EntityBody). it.0) (defined_entities bag)) name → Contains more (duplicate_entity_type name))
      → (fault : Fault) → kind_of fault ≡ kind.duplicate_entity_type → IsFault bag extensions fault → IsTold more fault
  entities_complete more has (duplicate_entity_type name) is fault = has name fault
  entities_complete more has _ is fault = absurd cc

  pub tells_entity_types : (before after : List Fault)
      → TellsJust (Twice (flat_map (λ it. map duplicate_entity_type (defined_entities_in it)) bag)) before after
      → TellsAlso bag extensions kind.duplicate_entity_type before after
  tells_entity_types =
      tells_repeated kind.duplicate_entity_type duplicate_entity_type (λ a b same. cc) (map (λ (it : PlainName × EntityBody). it.0) (defined_entities bag))
      (flat_map (λ it. map duplicate_entity_type (defined_entities_in it)) bag)
      (told_in (λ it. entity_definitions (entity_in (declared_name it) it.body)) duplicate_entity_type bag
      ∙ ap (λ entries. map duplicate_entity_type (map (λ (it : PlainName × EntityBody). it.0) entries)) (entity_definitions_in bag))
      (λ name twice. (refl, twice, tt)) entities_complete

  -- actions that are defined twice
  actions_complete : (more : List Fault)
      → ((uid : PlainUid) → Twice (map (λ (it : PlainUid × Requests). it.0) (defined_actions bag)) uid → Contains more (duplicate_action uid))
      → (fault : Fault) → kind_of fault ≡ kind.duplicate_action → IsFault bag extensions fault → IsTold more fault
  actions_complete more has (duplicate_action uid) is fault = has uid fault
  actions_complete more has _ is fault = absurd cc

  pub tells_actions : (before after : List Fault)
      → TellsJust (Twice (flat_map (λ it. map duplicate_action (defined_actions_in it)) bag)) before after
      → TellsAlso bag extensions kind.duplicate_action before after
  tells_actions =
      tells_repeated kind.duplicate_action duplicate_action (λ a b same. cc) (map (λ (it : PlainUid × Requests). it.0) (defined_actions bag))
      (flat_map (λ it. map duplicate_action (defined_actions_in it)) bag)
      (told_in (λ it. flat_map (λ each. action_definition_in each.0 each.1.applies_to) (action_in (declared_uid it) it.body)) duplicate_action bag
      ∙ ap (λ entries. map duplicate_action (map (λ (it : PlainUid × Requests). it.0) entries)) (action_definitions_in bag))
      (λ uid twice. (refl, twice, tt)) actions_complete

  module _ (fit : TypeNamesFit (extension_types extensions))
      (unreserved : (name : PlainName) → Contains (map (λ it. it.0) (declared_common bag)) name → ¬ IsReserved name) where
    -- a common type that stands twice is declared twice
    common_twice : (name : PlainName) → Twice (map (λ it. it.0) (declared_common bag ++ built_ins extensions)) name
        → Twice (map (λ it. it.0) (declared_common bag)) name
    common_twice name twice =
        let commons = map (λ (it : PlainName × Expr). it.0) (declared_common bag) in
        let others = map (λ (it : PlainName × Expr). it.0) (built_ins extensions) in
        let all : map (λ (it : PlainName × Expr). it.0) (declared_common bag ++ built_ins extensions) ≡ commons ++ others =
        map-append (λ (it : PlainName × Expr). it.0) (declared_common bag) (built_ins extensions) in
        elim (Twice-append commons others name (subst (λ names. Twice names name) all twice)) [
          | inl here ↦ here
          | inr (inl there) ↦ absurd (built_ins_once extensions fit name there)
          | inr (inr both) ↦ absurd (unreserved name both.0 (built_in_reserved name both.1))
        ]
      where
        built_in_reserved : (each : PlainName) → Contains (map (λ (it : PlainName × Expr). it.0) (built_ins extensions)) each → IsReserved each
        built_in_reserved each among =
            let entry = Contains-preimage (λ (it : PlainName × Expr). it.0) (built_ins extensions) each among in
            let found = Contains-preimage (λ it. (built_in_name it.0, it.1)) (built_in_types extensions) entry.0 entry.1 in
            let is : built_in_name found.0.0 ≡ each = ap (λ it. it.0) found.2 ∙ entry.2 in
            subst IsReserved is (inr (Contains-cons reserved_word [] reserved_word (inl refl)))

    -- common types that are declared twice are faults, and are found
    commons_complete : (more : List Fault)
        → ((name : PlainName) → Twice (map (λ (it : PlainName × Expr). it.0) (declared_common bag)) name → Contains more (duplicate_common_type name))
        → (fault : Fault) → kind_of fault ≡ kind.duplicate_common_type → IsFault bag extensions fault → IsTold more fault
    commons_complete more has (duplicate_common_type name) is fault = has name (common_twice name fault)
    commons_complete more has _ is fault = absurd cc

    pub tells_common_types : (before after : List Fault)
        → TellsJust (Twice (flat_map (λ it. map duplicate_common_type (common_names_in it)) bag)) before after
        → TellsAlso bag extensions kind.duplicate_common_type before after
    tells_common_types =
        let others = map (λ (it : PlainName × Expr). it.0) (built_ins extensions) in
        tells_repeated kind.duplicate_common_type duplicate_common_type (λ a b same. cc) (map (λ (it : PlainName × Expr). it.0) (declared_common bag))
        (flat_map (λ it. map duplicate_common_type (common_names_in it)) bag)
        (told_in (λ it. common_in (declared_name it) it.body) duplicate_common_type bag)
        (λ name twice.
        let TwiceIn : List PlainName → Type 0 = λ names. Twice names name in (
          refl,
          subst TwiceIn (sym (map-append (λ (it : PlainName × Expr). it.0) (declared_common bag) (built_ins extensions)))
              (Twice-left (map (λ (it : PlainName × Expr). it.0) (declared_common bag)) others name twice),
          tt,
        ))
        commons_complete
