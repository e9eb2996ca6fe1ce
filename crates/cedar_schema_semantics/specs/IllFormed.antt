use Rattle.std.specs.List.Sorted.{IsStrictlySortedBy}
use Rattle.std.specs.Prelude.{◌≡◌, ◌≢◌, ◌⊎◌, true, List, [], ◌++◌, map, Option, Some, Contains}
use Rattle.cedar_ast.specs.Words.{Chain, IsActionType, IsUnqualified, PlainName, PlainUid, Text, Twice, extension_types, reserved_word, text_cmp}
use Rattle.cedar_ast.specs.declared.extension.Extensions.{Extensions}
use Rattle.cedar_schema_ast.specs.Words.{ActionBody, ActionReference, EntityBody, Expr, Reference, action, enumerated, external, requests, standard}
use Rattle.cedar_schema_semantics.specs.Bag.{Bag, declared_common, declared_entities, declared_types, action_uids, built_ins, definitions, defined_names}
use Rattle.cedar_schema_semantics.specs.Counted.{IsCounted, IsAtEntityTypePosition, HasToResolve}
use Rattle.cedar_schema_semantics.specs.Defined.{Defined, IsCommon, names_of}
use Rattle.cedar_schema_semantics.specs.Descent.{IsDescendant, IsDescendantAction}
use Rattle.cedar_schema_semantics.specs.ElaboratesTo.{IsNoRecord}
use Rattle.cedar_schema_semantics.specs.Fault.{Fault, action_attributes, open_record, undeclared_entity_types, type_not_defined, action_not_defined, type_shadowing, action_shadowing, duplicate_entity_type, duplicate_common_type, duplicate_action, action_cycle, common_type_cycle, action_entity_type, shape_not_record, context_not_record, unknown_extension_type, reserved_name, external_below_enumerated, enumerated_below}
use Rattle.cedar_schema_semantics.specs.Mentions.{HasOpenRecord, MentionsExtension, Refers}
use Rattle.cedar_schema_semantics.specs.Names.{ResolvesTo, IsUnresolved, NamesNoAction}
use Rattle.cedar_schema_semantics.specs.Shadowing.{ShadowsType, ShadowsAction}
use Rattle.cedar_schema_semantics.specs.Together.{defined_entities, defined_actions, IsExternalType, IsActionParent}

-- an action of this id is declared with attributes in the namespace
abbrev pub HasAttributes : Bag → Option PlainName → Text → Type 0
HasAttributes bag namespace id =
    (body : ActionBody) × Contains bag
    (record { namespace = namespace; id = id; body = action body })
    × (body.has_attributes ≡ true)

-- an action is declared with a parent of this id and type that names nothing
abbrev pub HasUnknownParent : Bag → Text × Option Reference → Type 0
HasUnknownParent bag carried =
    (uid : PlainUid) × (parent : ActionReference) × IsActionParent bag uid parent
    × (carried ≡ (parent.id, Some parent.ty)) × NamesNoAction (action_uids bag) parent

-- the definition of the one common type refers to the other
abbrev pub RefersToCommon : Defined → PlainName → PlainName → Type 0
RefersToCommon defined name other =
    (definition : Expr) × (reference : Reference) × (body : Expr)
    × Contains defined.common (name, definition) × Refers definition reference
    × ResolvesTo (names_of defined) reference other
    × IsCommon defined reference.kind other body

-- the refusal names a fault of the bag, over the extensions that are handed in
abbrev pub IsFault : Bag → Extensions → Fault → Type 0
-- in one namespace each of these ids, in order, is that of an action with attributes (the Cedar
-- reference on schemas)
IsFault bag extensions (action_attributes ids) =
    (ids ≢ []) × IsStrictlySortedBy text_cmp ids × (namespace : Option PlainName)
    × ((id : Text) → Contains ids id → HasAttributes bag namespace id)
-- a record type that admits further attributes counts (the Cedar reference on schemas)
IsFault bag extensions open_record = (expr : Expr) × IsCounted bag expr × HasOpenRecord expr
-- each of these is an action's type that stands where an entity type has to (the Cedar reference on
-- schemas)
IsFault bag extensions (undeclared_entity_types names) =
    (names ≢ [])
    × ((name : PlainName) → Contains names name
    → IsActionType name × (reference : Reference) × IsAtEntityTypePosition bag reference
    × ResolvesTo (defined_names bag extensions) reference name)
-- each of these has to name something and doesn't (RFC 24)
IsFault bag extensions (type_not_defined references) =
    (references ≢ [])
    × ((reference : Reference) → Contains references reference → HasToResolve bag reference
    × IsUnresolved (defined_names bag extensions) reference)
-- each of these is a parent of an action and names nothing (the Cedar reference on schemas)
IsFault bag extensions (action_not_defined actions) =
    (actions ≢ []) × ((carried : Text × Option Reference) → Contains actions carried
    → HasUnknownParent bag carried)
-- a type is declared in the empty namespace, and one of the same base name in another that isn't
-- reserved (RFC 70)
IsFault bag extensions (type_shadowing plain qualified) =
    Contains (declared_types bag) plain × Contains (declared_types bag) qualified
    × ShadowsType plain qualified
-- an action is declared in the empty namespace, and one of the same id in another (RFC 70)
IsFault bag extensions (action_shadowing plain qualified) =
    Contains (action_uids bag) plain × Contains (action_uids bag) qualified
    × ShadowsAction plain qualified
-- these have two definitions; a common type also if it is built in (the Cedar reference on schemas)
IsFault bag extensions (duplicate_entity_type name) =
    Twice (map (λ it. it.0) (defined_entities bag)) name
IsFault bag extensions (duplicate_common_type name) =
    Twice (map (λ it. it.0) (declared_common bag ++ built_ins extensions)) name
IsFault bag extensions (duplicate_action uid) = Twice (map (λ it. it.0) (defined_actions bag)) uid
-- these are on a cycle (the Cedar reference on schemas)
IsFault bag extensions (action_cycle uid) = IsDescendantAction bag uid uid
IsFault bag extensions (common_type_cycle name) =
    Chain (RefersToCommon (definitions bag extensions)) name name
-- an entity type is declared with the base name of actions' types (the Cedar reference on schemas)
IsFault bag extensions (action_entity_type name) =
    (body : EntityBody) × Contains (declared_entities bag) (name, body)
    × IsActionType name
-- a shape or a context is elaborated as a type that is no record type (the Cedar reference on
-- schemas)
IsFault bag extensions (shape_not_record name) =
    (parents : List Reference) × (shape : Expr) × (tags : Option Expr)
    × Contains (declared_entities bag) (name, standard parents shape tags)
    × IsNoRecord (definitions bag extensions) shape
IsFault bag extensions (context_not_record uid) =
    (principals : List Reference) × (resources : List Reference) × (context : Expr)
    × Contains (defined_actions bag) (uid, requests principals resources context)
    × IsNoRecord (definitions bag extensions) context
-- an extension type counts that wasn't handed in (the Cedar reference on schemas)
IsFault bag extensions (unknown_extension_type name) =
    (expr : Expr) × IsCounted bag expr × MentionsExtension expr name.base × IsUnqualified name
    × ¬ Contains (extension_types extensions) name
-- an entity type or an action is declared in a reserved namespace; of an action the name is that of
-- its type (RFC 52)
IsFault bag extensions (reserved_name name) =
    (Contains (map (λ it. it.0) (declared_entities bag)) name
    ⊎ Contains (map (λ uid. uid.ty) (action_uids bag)) name)
    × Contains name.path reserved_word
-- an external entity type is a descendant of an enumerated one (RFC 53 and RFC 116)
IsFault bag extensions (external_below_enumerated lower upper) =
    (choices : List Text) × IsExternalType bag lower
    × Contains (declared_entities bag) (upper, enumerated choices)
    × IsDescendant bag extensions lower upper
-- an enumerated entity type has a parent, by an external declaration (RFC 53 and RFC 116)
IsFault bag extensions (enumerated_below lower upper) =
    (choices : List Text) × (parents : List Reference) × (reference : Reference)
    × Contains (declared_entities bag) (lower, enumerated choices)
    × Contains (declared_entities bag) (lower, external parents) × Contains parents reference
    × ResolvesTo (defined_names bag extensions) reference upper
-- no other refusal is one of declarations
IsFault bag extensions _ = ⊥

-- the bag is ill-formed: some fault is in it
abbrev pub IsIllFormed : Bag → Extensions → Type 0
IsIllFormed bag extensions = (fault : Fault) × IsFault bag extensions fault
