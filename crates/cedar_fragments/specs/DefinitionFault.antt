use Rattle.std.specs.Prelude.{◌≡◌, ◌↔◌, ◌⊎◌, false, Option, Contains}
use Rattle.cedar_ast.specs.Words.{IsActionType, PlainName, Text, reserved_word}
use Rattle.cedar_ast.specs.declared.extension.Extensions.{Extensions}
use Rattle.cedar_schema_ast.specs.Declaration.{Declaration, Body, common_type, entity_type, action}
use Rattle.cedar_schema_ast.specs.Reference.{name_within, path_within}
use Rattle.cedar_schema_semantics.specs.Words.{Bag, Fault, HasAttributes, IsFault, action_attributes, action_entity_type, declared_name, declared_uid, out_of_memory, reserved_name}

-- a refusal that a definition gives cause for whatever else is declared: actions with attributes,
-- an entity type with the base name of actions' types, or what is declared in a reserved namespace
abbrev pub IsOfDefinition : Fault → Type 0
IsOfDefinition (action_attributes ids) = Unit {0}
IsOfDefinition (action_entity_type name) = Unit {0}
IsOfDefinition (reserved_name name) = Unit {0}
IsOfDefinition _ = ⊥

-- the refusal is such a one, and names a fault of the declarations, whichever extensions are handed
-- in
abbrev pub IsDefinitionFault : Bag → Fault → Type 0
IsDefinitionFault bag fault = IsOfDefinition fault
    × ((extensions : Extensions) → IsFault bag extensions fault)

-- the declarations have no fault of that sort
abbrev pub HasNoDefinitionFault : Bag → Type 0
HasNoDefinitionFault bag = (extensions : Extensions) (fault : Fault) → IsOfDefinition fault
    → ¬ IsFault bag extensions fault

-- where the refusal names actions with attributes, it names just those that are in the namespace
abbrev pub NamesAllWithAttributes : Bag → Option PlainName → Fault → Type 0
NamesAllWithAttributes bag namespace (action_attributes ids) = (id : Text)
    → Contains ids id ↔ HasAttributes bag namespace id
NamesAllWithAttributes bag namespace _ = Unit {0}

-- the refusal names no actions with attributes
abbrev pub NamesNoAttributes : Fault → Type 0
NamesNoAttributes (action_attributes ids) = ⊥
NamesNoAttributes _ = Unit {0}

-- a refusal to name an entity type that is declared in a namespace: memory runs out, the name is
-- that of a type of actions, or it is within a reserved namespace
abbrev pub IsEntityTypeNameFault : Option PlainName → Text → Fault → Type 0
IsEntityTypeNameFault namespace id fault =
    (fault ≡ out_of_memory)
    ⊎ (((fault ≡ action_entity_type (name_within namespace id))
    × IsActionType (name_within namespace id))
    ⊎ ((fault ≡ reserved_name (name_within namespace id))
    × Contains (path_within namespace) reserved_word))

-- what is declared gives no cause for such a refusal: an entity type is no type of actions and not
-- in a reserved namespace, and an action has no attributes and isn't in one
abbrev pub GivesNoCause : Declaration → Body → Type 0
GivesNoCause it (common_type definition) = Unit {0}
GivesNoCause it (entity_type body) =
    (¬ IsActionType (declared_name it)) × ¬ Contains (declared_name it).path reserved_word
GivesNoCause it (action body) =
    (body.has_attributes ≡ false) × ¬ Contains (declared_uid it).ty.path reserved_word

-- the declaration gives no cause for such a refusal
abbrev pub IsSound : Declaration → Type 0
IsSound it = GivesNoCause it it.body
