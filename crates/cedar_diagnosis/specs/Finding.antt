-- What is found in single declarations.
use Rattle.std.specs.Prelude.{◌≡◌, true, List, [], ◌∷◌, Contains, Some}
use Rattle.cedar_ast.specs.Words.{IsActionType, IsReserved, IsUnqualified, PlainName, PlainUid, Text, action_word, extension_types}
use Rattle.cedar_ast.specs.declared.extension.Extensions.{Extensions}
use Rattle.cedar_diagnosis.specs.Mentioned.{HasToResolveIn, MentionsIn, RefersIn}
use Rattle.cedar_diagnosis.specs.Names.{action_uids_in, common_names_in, entity_names_in, type_names_in}
use Rattle.cedar_schema_ast.specs.Words.{ActionBody, ActionReference, Body, Declaration, Reference, action, entity_type, enumerated, external}
use Rattle.cedar_schema_ast.specs.declared.json_schema.reference_type.ReferenceType.{ReferenceType}
use Rattle.cedar_schema_semantics.specs.Words.{Fault, IsEntityTypePosition, IsUnresolved, MayNameCommon, Names, NamesAction, NamesNoAction, ResolvesTo, ShadowsType, action_attributes, action_cycle, action_entity_type, action_not_defined, action_shadowing, alias_name, common_type_cycle, enumerated_below, type_not_defined, type_shadowing, undeclared_entity_types, unknown_extension_type}

-- an extension type of this base name isn't among those that were handed in
abbrev pub IsUnknownExtension : Extensions → Text → Fault → Type 0
IsUnknownExtension extensions word fault =
    (¬ Contains (extension_types extensions) (alias_name word))
    × (unknown_extension_type (alias_name word) ≡ fault)

-- in an expression that counts an extension type stands that isn't among those
abbrev pub FindsUnknownExtension : Extensions → Declaration → Fault → Type 0
FindsUnknownExtension extensions it fault =
    (word : Text) × MentionsIn it.body word × IsUnknownExtension extensions word fault

-- the reference names nothing
abbrev pub IsUndefinedType : Names → Reference → Fault → Type 0
IsUndefinedType names reference fault =
    IsUnresolved names reference × (type_not_defined (reference ∷ []) ≡ fault)

-- a reference that has to name something names nothing
abbrev pub FindsUndefinedType : Names → Declaration → Fault → Type 0
FindsUndefinedType names it fault =
    (reference : Reference) × HasToResolveIn it.body reference
    × IsUndefinedType names reference fault

-- the reference names the type of some actions
abbrev pub IsUndeclaredType : Names → Reference → Fault → Type 0
IsUndeclaredType names reference fault =
    (name : PlainName) × ResolvesTo names reference name × IsActionType name × (¬ IsReserved name)
    × (undeclared_entity_types (name ∷ []) ≡ fault)

-- at the position of an entity type the type of some actions is named
abbrev pub FindsUndeclaredType : Names → Declaration → Fault → Type 0
FindsUndeclaredType names it fault =
    (reference : Reference) × IsEntityTypePosition it.body reference
    × IsUndeclaredType names reference fault

-- an action is declared with attributes
abbrev pub FindsAttributes : Declaration → Fault → Type 0
FindsAttributes it fault =
    (body : ActionBody) × (it.body ≡ action body) × (body.has_attributes ≡ true)
    × (action_attributes (it.id ∷ []) ≡ fault)

-- an entity type is declared with the base name of types of actions
abbrev pub FindsActionType : Declaration → Fault → Type 0
FindsActionType it fault =
    (name : PlainName) × Contains (entity_names_in it) name × IsActionType name
    × (action_entity_type name ≡ fault)

-- a type is declared whose base name is that of one in the empty namespace
abbrev pub FindsShadowedType : List PlainName → Declaration → Fault → Type 0
FindsShadowedType types it fault =
    (name : PlainName) × Contains (type_names_in it) name
    × Contains types (alias_name name.base) × ShadowsType (alias_name name.base) name
    × (type_shadowing (alias_name name.base) name ≡ fault)

-- the uid of an action of this id in the empty namespace
abbrev pub plain_uid : Text → PlainUid
plain_uid id = record { ty = alias_name action_word; eid = id }

-- an action is declared whose id is that of one in the empty namespace
abbrev pub FindsShadowedAction : List PlainUid → Declaration → Fault → Type 0
FindsShadowedAction actions it fault =
    (uid : PlainUid) × Contains (action_uids_in it) uid × Contains actions (plain_uid uid.eid)
    × (¬ IsUnqualified uid.ty) × (action_shadowing (plain_uid uid.eid) uid ≡ fault)

-- the parent of an action names no action
abbrev pub IsUndefinedParent : List PlainUid → ActionReference → Fault → Type 0
IsUndefinedParent actions parent fault =
    NamesNoAction actions parent
    × (action_not_defined ((parent.id, Some parent.ty) ∷ []) ≡ fault)

-- an action is declared with a parent that names none
abbrev pub FindsUndefinedParent : List PlainUid → Declaration → Fault → Type 0
FindsUndefinedParent actions it fault =
    (body : ActionBody) × (it.body ≡ action body) × (parent : ActionReference)
    × Contains body.parents parent × IsUndefinedParent actions parent fault

-- an enumerated entity type is declared
abbrev pub IsEnumeratedIn : Body → Type 0
IsEnumeratedIn (entity_type (enumerated choices)) = Unit {0}
IsEnumeratedIn _ = ⊥

-- an external entity type is declared
abbrev pub IsExternalIn : Body → Type 0
IsExternalIn (entity_type (external parents)) = Unit {0}
IsExternalIn _ = ⊥

-- an enumerated entity type of the name is declared
abbrev pub IsEnumeratedName : Declaration → PlainName → Type 0
IsEnumeratedName it name = IsEnumeratedIn it.body × Contains (entity_names_in it) name

-- the enumerated entity type is declared with a parent, which this reference names
abbrev pub IsBelow : Names → PlainName → Reference → Fault → Type 0
IsBelow names lower reference fault =
    (upper : PlainName) × ResolvesTo names reference upper × (¬ IsReserved upper)
    × (enumerated_below lower upper ≡ fault)

-- an external declaration gives a parent to an entity type that is enumerated elsewhere
abbrev pub FindsEnumeratedBelow : Names → List PlainName → Declaration → Fault → Type 0
FindsEnumeratedBelow names types it fault =
    (lower : PlainName) × IsExternalIn it.body × Contains (entity_names_in it) lower
    × Contains types lower × (reference : Reference) × IsEntityTypePosition it.body reference
    × IsBelow names lower reference fault

-- the common type refers to the other by a reference of the kind
abbrev pub LinksToCommon : Names → PlainName → ReferenceType → PlainName → Fault × Fault → Type 0
LinksToCommon names lower kind upper link =
    MayNameCommon kind × Contains names.common upper
    × ((common_type_cycle lower, common_type_cycle upper) ≡ link)

-- the common type refers to another, which this reference names
abbrev pub RefersAcross : Names → PlainName → Reference → Fault × Fault → Type 0
RefersAcross names lower reference link =
    (upper : PlainName) × ResolvesTo names reference upper
    × LinksToCommon names lower reference.kind upper link

-- a common type is declared that refers to another
abbrev pub LinksCommonType : Names → Declaration → Fault × Fault → Type 0
LinksCommonType names it link =
    (lower : PlainName) × Contains (common_names_in it) lower × (reference : Reference)
    × RefersIn it.body reference × RefersAcross names lower reference link

-- an action is declared with the parent
abbrev pub HasParentIn : Body → ActionReference → Type 0
HasParentIn (action body) parent = Contains body.parents parent
HasParentIn _ parent = ⊥

-- the parent names an action, to which the action is linked
abbrev pub LinksToParent : List PlainUid → PlainUid → ActionReference → Fault × Fault → Type 0
LinksToParent actions lower parent link =
    (upper : PlainUid) × NamesAction actions parent upper
    × ((action_cycle lower, action_cycle upper) ≡ link)

-- an action is declared with a parent
abbrev pub LinksAction : List PlainUid → Declaration → Fault × Fault → Type 0
LinksAction actions it link =
    (lower : PlainUid) × Contains (action_uids_in it) lower × (parent : ActionReference)
    × HasParentIn it.body parent × LinksToParent actions lower parent link
