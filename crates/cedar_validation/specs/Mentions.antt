-- What types may name, and what they name that isn't known.
use Rattle.std.specs.Prelude.{◌≡◌, ◌⊎◌, [], ◌∷◌, Contains, map}
use Rattle.cedar_ast.specs.Words.{PlainName, extension_types, type_name}
use Rattle.cedar_schema_semantics.specs.Words.{Fault, HasEntityType, MentionsEntity, MentionsExtensionType, out_of_memory, undeclared_entity_types, unknown_extension_type}
use Rattle.cedar_type_rules.specs.Ty.{Ty}
use Rattle.cedar_validation.specs.Parts.{plain_parts}
use Rattle.cedar_validation.specs.declared.known.Known.{Known}

-- the entity type is one of the schema, or the type of an action
abbrev pub Knows : Known → PlainName → Type 0
Knows known name = HasEntityType (plain_parts known.parts.now) name
    ⊎ Contains (map type_name known.action_types.now.keys) name

-- the extension type was handed in
abbrev pub KnowsExtension : Known → PlainName → Type 0
KnowsExtension known name = Contains (extension_types known.extensions.now) name

-- what stands in the type is known
abbrev pub IsKnownThroughout : Known → Ty → Type 0
IsKnownThroughout known ty = ((name : PlainName) → MentionsEntity ty name → Knows known name)
    × ((name : PlainName) → MentionsExtensionType ty name → KnowsExtension known name)

-- why the type is refused: memory ran out, or what stands in it isn't known
abbrev pub IsUnknownIn : Known → Ty → Fault → Type 0
IsUnknownIn known ty fault = (fault ≡ out_of_memory)
    ⊎ (((name : PlainName) × (fault ≡ undeclared_entity_types (name ∷ [])) × MentionsEntity ty name
    × ¬ Knows known name)
    ⊎ ((name : PlainName) × (fault ≡ unknown_extension_type name) × MentionsExtensionType ty name
    × ¬ KnowsExtension known name))
