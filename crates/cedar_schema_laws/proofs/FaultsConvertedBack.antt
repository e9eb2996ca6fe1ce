-- The bag of a valid schema that is converted back isn't ill-formed.
use Rattle.std.proofs.Common.{◌≡◌, ◌⊎◌, List, [], Option, map, sym, ◌∙◌, refl, inl, inr, Contains}
use Rattle.std.proofs.lemmas.Bool.{false≢true}
use Rattle.std.proofs.lemmas.List.Elements.{Contains-append_cases}
use Rattle.cedar_ast.proofs.Basics.{Contains-image}
use Rattle.cedar_ast.proofs.Chains.{first_step}
use Rattle.cedar_ast.proofs.Lists.{Contains-preimage}
use Rattle.cedar_schema_laws.proofs.CountsConvertedBack.{actions_once, common_types_once, types_once}
use Rattle.cedar_schema_laws.proofs.EntriesConvertedBack.{declared_action_from, declared_type_from, no_common_type, same_types, same_uids}
use Rattle.cedar_schema_laws.proofs.ExpressionsConvertedBack.{counted_of, placed_of, resolves_again, type_says}
use Rattle.cedar_schema_laws.proofs.KindsConvertedBack.{action_kind_declared, kind_declared, written_in_schema}
use Rattle.cedar_schema_laws.proofs.NamesConvertedBack.{stands_for_itself}
use Rattle.cedar_schema_laws.proofs.ParentsConvertedBack.{parent_lists, same_action_descendants, same_descendants, type_again, upper_action_there}
use Rattle.cedar_schema_laws.proofs.ResolutionLaws.{some_first}
use Rattle.cedar_schema_laws.proofs.SchemasConvertedBack.{external_written}
use Rattle.cedar_schema_laws.specs.Words.{ActionKind, Bag, ClosedAttributes, ConvertedSchemasAreWellFormed, Defined, ElaboratesTo, Entity, EntityBody, EntityTypeKind, Expr, Extensions, Fault, HasAttributes, HasEntityType, HasNoReservedName, HasRecordContexts, HasToResolve, HasUnknownParent, IsActionType, IsAtEntityTypePosition, IsContextOf, IsConvertedBack, IsCounted, IsDeclaredActionKind, IsDeclaredKind, IsDefined, IsEnumerated, IsExternal, IsExternalType, IsFault, IsInOrder, IsKindWritten, IsNoRecord, IsOfKind, IsRecordType, IsUnqualified, IsUnresolved, IsValidSchema, IsWritable, ListsDescendant, MentionsExtension, PlainName, PlainSchema, PlainUid, Reference, RefersToCommon, ResolvesTo, Text, Ty, TypeNamesFit, action_attributes, action_cycle, action_entity_type, action_not_defined, action_shadowing, action_uids, common_type_cycle, context_not_record, declared_common, declared_entities, declared_types, defined_action, defined_actions, defined_names, definitions, duplicate_action, duplicate_common_type, duplicate_entity_type, enumerated, enumerated_below, enumerated_kind, extension_types, external, external_action, external_below_enumerated, full_name, one, open_record, record_of, requests, reserved_name, reserved_word, shape_not_record, standard, standard_kind, type_not_defined, type_shadowing, undeclared_entity_types, unknown_extension_type}
use Rattle.cedar_schema_semantics.proofs.BuiltInLemmas.{one_definition, refers_declared}
use Rattle.cedar_schema_semantics.proofs.DeclarationLemmas.{declares_action}
use Rattle.cedar_schema_semantics.proofs.OccurrenceLemmas.{Contains-entry}
use Rattle.cedar_schema_semantics.proofs.ResolutionLemmas.{HasOneDefinition, IsFirst-same, first_defined, elaborated_once}
use Rattle.cedar_schema_semantics.proofs.TogetherLemmas.{action_definition_declared, declared_definition, definition_or_external}

-- what is written as enumerated is
enumerated_written : (namespace : Option PlainName) (IsAbove : PlainName → Type 0) (kind : EntityTypeKind) (choices : List Text)
    → IsKindWritten namespace IsAbove kind (enumerated choices) → IsEnumerated kind
enumerated_written namespace IsAbove (enumerated_kind ids) choices is = tt
enumerated_written namespace IsAbove _ choices is = absurd is

module _ (defined : Defined) where
  -- the shape of a declared kind is elaborated as a record type
  shape_written : (parents : List Reference) (shape : Expr) (tags : Option Expr) (kind : EntityTypeKind)
      → IsDeclaredKind defined (standard parents shape tags) kind → (ty : Ty) × ElaboratesTo defined shape ty × IsRecordType ty
  shape_written parents shape tags (standard_kind fields openness ty) is = (record_of fields ClosedAttributes, is.0, tt)
  shape_written parents shape tags _ is = absurd is

  -- the context of a declared kind is elaborated as that of the kind
  context_written : (principals resources : List Reference) (context : Expr) (kind : ActionKind)
      → IsDeclaredActionKind defined (requests principals resources context) kind
      → (ty : Ty) × ElaboratesTo defined context ty × IsContextOf kind ty
  context_written principals resources context (defined_action ps rs ty) is = (ty, is.2, refl)
  context_written principals resources context external_action is = absurd is

  -- what is elaborated as a record type isn't elaborated as another
  record_alone : HasOneDefinition defined → (expr : Expr) (ty : Ty) → ElaboratesTo defined expr ty → IsRecordType ty
      → ¬ IsNoRecord defined expr
  record_alone once expr ty written is_record (other, also, none) =
      none (rw (elaborated_once defined once written also) at is_record)

module _ (schema : PlainSchema) (bag : Bag) (extensions : Extensions) (written : IsConvertedBack schema bag) where
  -- no action is declared with attributes
  no_attributes : (namespace : Option PlainName) (id : Text) → ¬ HasAttributes bag namespace id
  no_attributes namespace id (body, among, has) =
      let it = declares_action bag _ body among refl in
      false≢true (sym (declared_action_from schema bag written _ body it).2.attributes ∙ has)

  -- each parent of an action names something
  no_unknown_parent : IsWritable schema → (carried : Text × Option Reference) → ¬ HasUnknownParent bag carried
  no_unknown_parent writable carried (uid, parent, (body, among, has), same, none) =
      let above = ((declared_action_from schema bag written uid body among).2.parents parent).0 has in
      let namespace = (declared_action_from schema bag written uid body among).2.namespace in
      (rw (← above.2) at none) above.0.ty (stands_for_itself namespace above.0.ty)
      ((same_uids schema bag written above.0).1 (upper_action_there schema uid above.0 above.1))

  -- a type that is declared is an entity type of the schema
  declared_there : (name : PlainName) → Contains (declared_types bag) name → HasEntityType schema name
  declared_there name among =
      elim (Contains-append_cases (map (λ it. it.0) (declared_common bag)) (map (λ it. it.0) (declared_entities bag)) name among) [
        | inl common ↦
            absurd (no_common_type schema bag written _
            (Contains-preimage (λ (it : PlainName × Expr). it.0) (declared_common bag) name common).1)
        | inr entity ↦ (same_types schema bag written name).0 entity
      ]

  -- an entity type that is declared is one of the schema
  entity_there : (name : PlainName) (body : EntityBody) → Contains (declared_entities bag) (name, body) → HasEntityType schema name
  entity_there name body among =
      (same_types schema bag written name).0
      (Contains-image (λ (it : PlainName × EntityBody). it.0) (declared_entities bag) (name, body) among)

  -- an entity type that is declared as enumerated is
  enumerated_there : (name : PlainName) (choices : List Text) → Contains (declared_entities bag) (name, enumerated choices)
      → IsOfKind schema name IsEnumerated
  enumerated_there name choices among =
      let from = declared_type_from schema bag written name (enumerated choices) among in
      let entry = from.2 in
      (from.0, from.1, enumerated_written entry.namespace (λ upper. ListsDescendant schema name upper) from.0.kind choices entry.kind)

  -- an entity type that is external in the bag is so in the schema
  external_there : (name : PlainName) → IsExternalType bag name → IsOfKind schema name IsExternal
  external_there name (declared, undefined) =
      let it = Contains-entry (declared_entities bag) name declared in
      let from = declared_type_from schema bag written name it.0 it.1 in
      let entry = from.2 in
      elim (definition_or_external it.0) [
        | inl definition ↦
            absurd (undefined (Contains-image (λ (each : PlainName × EntityBody). each.0) _ (name, it.0)
            (declared_definition bag name it.0 definition it.1)))
        | inr is_external ↦ (
          from.0,
          from.1,
          external_written entry.namespace (λ upper. ListsDescendant schema name upper) from.0.kind is_external.0
              (rw (← is_external.1) entry.kind),
        )
      ]

  -- no common type refers to another, since none is declared
  no_common_step : (name other : PlainName) → ¬ RefersToCommon (definitions bag extensions) name other
  no_common_step name other (definition, reference, body, among, refers, resolves, common) =
      no_common_type schema bag written (name, definition) (refers_declared bag extensions name definition reference among refers)

  -- no name that is declared is reserved
  none_reserved : HasNoReservedName schema → (name : PlainName)
      → Contains (map (λ it. it.0) (declared_entities bag)) name ⊎ Contains (map (λ uid. uid.ty) (action_uids bag)) name
      → ¬ Contains name.path reserved_word
  none_reserved plain name (inl entity) reserved = plain.entity_types name ((same_types schema bag written name).0 entity) reserved
  none_reserved plain name (inr of_action) reserved =
      let uid = Contains-preimage (λ (each : PlainUid). each.ty) (action_uids bag) name of_action in
      plain.actions uid.0 ((same_uids schema bag written uid.0).0 uid.1) (rw uid.2 reserved)

  module _ (writable : IsWritable schema) (valid : IsValidSchema extensions schema) where
    -- no action's type stands where an entity type has to
    no_action_type : (name : PlainName) → IsActionType name → (reference : Reference) → IsAtEntityTypePosition bag reference
        → ¬ ResolvesTo (defined_names bag extensions) reference name
    no_action_type name is_action reference placed resolves =
        let of = placed_of schema bag extensions written valid reference placed in
        let again = type_again schema bag extensions writable written of.namespace of.name of.place of.there in
        let names = defined_names bag extensions in
        let same = IsFirst-same (IsDefined names Entity) (full_name of.namespace of.name).possibilities of.name name again.resolves
        (rw (← of.is) at resolves) in
        valid (action_entity_type name) (rw same at of.there, is_action)

    -- what has to name something does
    none_unresolved : (reference : Reference) → HasToResolve bag reference → ¬ IsUnresolved (defined_names bag extensions) reference
    none_unresolved reference has unresolved =
        let of = resolves_again schema bag extensions written writable valid reference has in
        let names = defined_names bag extensions in
        let first = first_defined names Entity (full_name of.0 of.1).possibilities of.1 of.2.resolves in
        (rw (← of.3) at unresolved) of.1 first.0 first.1

    -- no extension type counts that wasn't handed in
    none_foreign : (name : PlainName) (expr : Expr) → IsCounted bag expr → MentionsExtension expr name.base → IsUnqualified name
        → ¬ ¬ Contains (extension_types extensions) name
    none_foreign name expr counted mentions plain unknown =
        let of = counted_of schema bag extensions written expr counted in
        let stands = (type_says of.namespace of.ty expr of.is).mentions name.base mentions in
        let same : record { base = name.base; path = [] } ≡ name = λ i. record { base = name.base; path = sym plain i } in
        valid (unknown_extension_type name) (of.ty, written_in_schema schema of.namespace of.ty of.place, rw same at stands, unknown)

    module _ (once : HasOneDefinition (definitions bag extensions)) where
      -- each shape is elaborated as a record type
      shapes_are_records : (name : PlainName) (parents : List Reference) (shape : Expr) (tags : Option Expr)
          → Contains (declared_entities bag) (name, standard parents shape tags) → ¬ IsNoRecord (definitions bag extensions) shape
      shapes_are_records name parents shape tags among =
          let from = declared_type_from schema bag written name (standard parents shape tags) among in
          let kind = kind_declared schema bag extensions writable written valid (name, from.0) from.1 _ from.2 in
          let out = shape_written (definitions bag extensions) parents shape tags from.0.kind kind in
          record_alone (definitions bag extensions) once shape out.0 out.1 out.2

      -- so is each context, where those of the schema are records
      contexts_are_records : HasRecordContexts schema → (uid : PlainUid) (principals resources : List Reference) (context : Expr)
          → Contains (defined_actions bag) (uid, requests principals resources context)
          → ¬ IsNoRecord (definitions bag extensions) context
      contexts_are_records are_records uid principals resources context among =
          let definition = action_definition_declared bag uid (requests principals resources context) among in
          let from = declared_action_from schema bag written uid definition.0 definition.1 in
          let kind = action_kind_declared schema bag extensions writable written valid (uid, from.0) from.1 definition.0 from.2 in
          let out = context_written (definitions bag extensions) principals resources context from.0.kind (rw definition.2 at kind) in
          record_alone (definitions bag extensions) once context out.0 out.1 (are_records (uid, from.0) out.0 from.1 out.2)

  module _ (fit : TypeNamesFit (extension_types extensions)) (order : IsInOrder schema) (plain : HasNoReservedName schema)
      (are_records : HasRecordContexts schema) (writable : IsWritable schema) (valid : IsValidSchema extensions schema) where
    -- each common name has one definition
    defined_once : HasOneDefinition (definitions bag extensions)
    defined_once = one_definition bag extensions fit (common_types_once schema bag extensions fit written)

    -- so nothing is at fault
    pub no_fault : (fault : Fault) → ¬ IsFault bag extensions fault
    no_fault (action_attributes ids) (some, ordered, namespace, each) =
        let first = some_first ids some in no_attributes namespace first.0 (each first.0 first.1)
    no_fault open_record (expr, counted, opened) =
        let of = counted_of schema bag extensions written expr counted in (type_says of.namespace of.ty expr of.is).closed opened
    no_fault (undeclared_entity_types names) (some, each) =
        let first = some_first names some in
        let found = each first.0 first.1 in
        no_action_type writable valid first.0 found.0 found.1 found.2 found.3
    no_fault (type_not_defined references) (some, each) =
        let first = some_first references some in
        let found = each first.0 first.1 in none_unresolved writable valid first.0 found.0 found.1
    no_fault (action_not_defined actions) (some, each) =
        let first = some_first actions some in no_unknown_parent writable first.0 (each first.0 first.1)
    no_fault (type_shadowing name qualified) (first, second, shadows) =
        valid (type_shadowing name qualified) (declared_there name first, declared_there qualified second, shadows)
    no_fault (action_shadowing uid qualified) (first, second, shadows) =
        valid (action_shadowing uid qualified)
        ((same_uids schema bag written uid).0 first, (same_uids schema bag written qualified).0 second, shadows)
    no_fault (duplicate_entity_type name) twice = types_once schema bag order written name twice
    no_fault (duplicate_common_type name) twice = common_types_once schema bag extensions fit written name twice
    no_fault (duplicate_action uid) twice = actions_once schema bag order written uid twice
    no_fault (action_cycle uid) descends =
        valid (action_cycle uid) ((same_action_descendants schema bag extensions writable written uid uid).0 descends)
    no_fault (common_type_cycle name) chain =
        let step = first_step (RefersToCommon (definitions bag extensions)) name name chain in no_common_step name step.0 step.1
    no_fault (action_entity_type name) (body, among, is_action) =
        valid (action_entity_type name) (entity_there name body among, is_action)
    no_fault (shape_not_record name) (parents, shape, tags, among, none) =
        shapes_are_records writable valid defined_once name parents shape tags among none
    no_fault (context_not_record uid) (principals, resources, context, among, none) =
        contexts_are_records writable valid defined_once are_records uid principals resources context among none
    no_fault (unknown_extension_type name) (expr, counted, mentions, unqualified, unknown) =
        none_foreign writable valid name expr counted mentions unqualified unknown
    no_fault (reserved_name name) (there, reserved) = none_reserved plain name there reserved
    no_fault (external_below_enumerated lower upper) (choices, is_external, among, descends) =
        valid (external_below_enumerated lower upper) (
          external_there lower is_external,
          enumerated_there upper choices among,
          (same_descendants schema bag extensions writable written lower upper).0 descends,
        )
    no_fault (enumerated_below lower upper) (choices, parents, reference, among, also, parent, resolves) =
        valid (enumerated_below lower upper) (
          enumerated_there lower choices among,
          one (parent_lists schema bag extensions writable written lower upper
              (reference, (external parents, also, parent), resolves)),
        )
    no_fault _ at_fault = at_fault

-- so the bag isn't ill-formed
pub converted_schemas_are_well_formed : ConvertedSchemasAreWellFormed
converted_schemas_are_well_formed schema bag extensions fit order plain are_records writable valid written (fault, at_fault) =
    no_fault schema bag extensions written fit order plain are_records writable valid fault at_fault
