-- The places that are shown for a refusal.
use Rattle.std.specs.Prelude.{◌≡◌, ◌≢◌, ◌⊎◌, true, List, [], ◌∷◌, Option, Some, None, ⊤, string_bytes}
use Rattle.std.specs.declared.alloc.Global.{Global}
use Rattle.std.specs.declared.string.String.{String}
use Rattle.cedar_ast.specs.Words.{PlainName, PlainUid, Text, name_loc, name_of, plain_name, type_loc, type_name, uid_loc, uid_of}
use Rattle.cedar_ast.specs.declared.internal_name.InternalName.{InternalName}
use Rattle.cedar_ast.specs.declared.loc.Loc.{Loc}
use Rattle.cedar_places.specs.Mark.{Mark, Marks, action, common_type, entity_type, extension_type, open_record}
use Rattle.cedar_places.specs.declared.place.Sought.{Sought}
use Rattle.cedar_places.specs.declared.place.Sought.TheVariants as sought
use Rattle.cedar_schema_ast.specs.ConditionalName.{possibility_locs}
use Rattle.cedar_schema_ast.specs.declared.json_schema.conditional_name.ConditionalName.{ConditionalName}
use Rattle.cedar_schema_semantics.specs.declared.schema_error.ContextOrShape.{ContextOrShape}
use Rattle.cedar_schema_semantics.specs.declared.schema_error.ContextOrShape.TheVariants.{EntityTypeShape, ActionContext}
use Rattle.cedar_schema_semantics.specs.declared.schema_error.SchemaError.{SchemaError}
use Rattle.cedar_schema_semantics.specs.declared.schema_error.SchemaError.TheVariants as error
use Rattle.cedar_schema_semantics.specs.declared.schema_error.UnsupportedFeature.{UnsupportedFeature}
use Rattle.cedar_schema_semantics.specs.declared.schema_error.UnsupportedFeature.TheVariants.{ActionAttributes, OpenRecordsAndEntities}

-- the mark is an action of the id that has attributes
abbrev pub IsAttributedAction : Text → Mark → Type 0
IsAttributedAction id (action ty name has_attributes) = (has_attributes ≡ true) × (name ≡ id)
IsAttributedAction id other = ⊥

-- the mark is an open record type
abbrev pub IsOpenRecord : Mark → Type 0
IsOpenRecord open_record = ⊤
IsOpenRecord other = ⊥

-- the mark is a type that names the extension type
abbrev pub IsExtensionType : Text → Mark → Type 0
IsExtensionType name (extension_type it) = it ≡ name
IsExtensionType name other = ⊥

-- the mark is the common type of the name
abbrev pub IsCommonType : PlainName → Mark → Type 0
IsCommonType name (common_type it) = name ≡ it
IsCommonType name other = ⊥

-- the mark is the entity type of the name
abbrev pub IsEntityType : PlainName → Mark → Type 0
IsEntityType name (entity_type it) = name ≡ it
IsEntityType name other = ⊥

-- the mark is a common type or an entity type of the name
abbrev pub IsType : PlainName → Mark → Type 0
IsType name (common_type it) = name ≡ it
IsType name (entity_type it) = name ≡ it
IsType name other = ⊥

-- the mark is the action of the uid
abbrev pub IsAction : PlainUid → Mark → Type 0
IsAction uid (action ty id has_attributes) = (uid.ty ≡ ty) × (uid.eid ≡ id)
IsAction uid other = ⊥

-- what is looked for: what the mark is and, of another declaration, that it isn't where the name
-- was written
abbrev pub IsSought : Sought → Mark → Loc → Type 0
IsSought (sought.AttributedAction id) mark loc = IsAttributedAction id.now mark
IsSought sought.OpenRecord mark loc = IsOpenRecord mark
IsSought (sought.ExtensionType name) mark loc = IsExtensionType name.now mark
IsSought (sought.Type name) mark loc = IsType (name_of name.now) mark
IsSought (sought.OtherCommonType name) mark loc =
    IsCommonType (name_of name.now) mark × (name_loc name.now ≢ Some loc)
IsSought (sought.OtherEntityType ty) mark loc =
    IsEntityType (type_name ty.now) mark × (type_loc ty.now ≢ Some loc)
IsSought (sought.OtherAction uid) mark loc =
    IsAction (uid_of uid.now) mark × (uid_loc uid.now ≢ Some loc)

-- the place is that of the first mark that is so, of those whose places are known; None where there
-- is none
abbrev pub IsFirstPlace : (Mark → Loc → Type 0) → Marks → Option Loc → Type 0
IsFirstPlace IsSo [] place = place ≡ None
IsFirstPlace IsSo ((mark, None) ∷ rest) place = IsFirstPlace IsSo rest place
IsFirstPlace IsSo ((mark, Some loc) ∷ rest) place =
    (IsSo mark loc × (place ≡ Some loc)) ⊎ ((¬ IsSo mark loc) × IsFirstPlace IsSo rest place)

-- the place is that of a declaration which another would shadow: the one that the name has, and
-- else that of the first common type or entity type of the name
abbrev pub IsShadowedPlace : Marks → InternalName → Option Loc → Type 0
IsShadowedPlace table name place =
    (place ≡ name_loc name × (name_loc name ≢ None))
    ⊎ ((name_loc name ≡ None)
    × IsFirstPlace (λ mark loc. IsType (name_of name) mark) table place)

-- the place is that of the first action that has attributes and the first of the ids
abbrev pub IsAttributedPlace : Marks → List (String Global) → Option Loc → Type 0
IsAttributedPlace table [] place = place ≡ None
IsAttributedPlace table (id ∷ rest) place =
    IsFirstPlace (λ mark loc. IsAttributedAction (string_bytes id) mark) table place

-- the place that is shown for an unsupported feature
abbrev pub IsFeaturePlace : Marks → UnsupportedFeature → Option Loc → Type 0
IsFeaturePlace table (ActionAttributes ids) place = IsAttributedPlace table ids.items place
IsFeaturePlace table OpenRecordsAndEntities place =
    IsFirstPlace (λ mark loc. IsOpenRecord mark) table place

-- the first place of some, if there is one
abbrev pub first_loc : List (Option Loc) → Option Loc
first_loc [] = None
first_loc (loc ∷ rest) = loc

-- the place of the name that a reference may stand for first
abbrev pub reference_place : ConditionalName → Option Loc
reference_place name = first_loc (possibility_locs name)

-- the place that is shown for a shape or a context
abbrev pub shape_place : ContextOrShape → Option Loc
shape_place (EntityTypeShape ty) = type_loc ty
shape_place (ActionContext uid) = uid_loc uid

-- the place that is shown for a refusal which names what was written there: the declaration, the
-- reference, a declaration on the cycle, the lower of two entity types
abbrev pub named_place : SchemaError → Option Loc
named_place (error.UndeclaredEntityTypes types) = type_loc types.head
named_place (error.TypeNotDefined it) = reference_place it.undefined_types.head
named_place (error.ActionNotDefined actions) = actions.head.loc
named_place (error.TypeShadowing plain name) = name_loc name
named_place (error.ActionShadowing plain uid) = uid_loc uid
named_place (error.DuplicateEntityType ty) = type_loc ty
named_place (error.DuplicateCommonType name) = name_loc name
named_place (error.DuplicateAction uid) = uid_loc uid
named_place (error.CycleInActionHierarchy uid) = uid_loc uid
named_place (error.CycleInCommonTypeReferences name) = name_loc name
named_place (error.ActionEntityTypeDeclared name) = name_loc name
named_place (error.ContextOrShapeNotRecord it) = shape_place it
named_place (error.ReservedName name) = name_loc name
named_place (error.ExternalWithEnumAncestor lower upper) = type_loc lower
named_place (error.EnumEntityInHierarchy lower upper) = type_loc lower
named_place (error.UndeclaredActionsDescendant uid) = uid_loc uid
named_place (error.InvalidActionType uid) = uid_loc uid
named_place other = None

-- the place that is shown for a refusal, where a table of places is given
abbrev pub IsPlaceOf : Marks → SchemaError → Option Loc → Type 0
IsPlaceOf table (error.UnsupportedFeature it) place = IsFeaturePlace table it place
IsPlaceOf table (error.UnknownExtensionType name) place =
    IsFirstPlace (λ mark loc. IsExtensionType (plain_name name).base mark) table place
IsPlaceOf table other place = place ≡ named_place other

-- the second place that is shown for a refusal, where a table of places is given: of two
-- definitions the first declaration elsewhere, of shadowing the declaration that would be
-- shadowed, of two entity types the upper one
abbrev pub IsSecondPlaceOf : Marks → SchemaError → Option Loc → Type 0
IsSecondPlaceOf table (error.DuplicateEntityType ty) place =
    IsFirstPlace (λ mark loc. IsEntityType (type_name ty) mark × (type_loc ty ≢ Some loc)) table
    place
IsSecondPlaceOf table (error.DuplicateCommonType name) place =
    IsFirstPlace (λ mark loc. IsCommonType (name_of name) mark × (name_loc name ≢ Some loc)) table
    place
IsSecondPlaceOf table (error.DuplicateAction uid) place =
    IsFirstPlace (λ mark loc. IsAction (uid_of uid) mark × (uid_loc uid ≢ Some loc)) table place
IsSecondPlaceOf table (error.TypeShadowing plain name) place = IsShadowedPlace table plain place
IsSecondPlaceOf table (error.ActionShadowing plain uid) place = place ≡ uid_loc plain
IsSecondPlaceOf table (error.ExternalWithEnumAncestor lower upper) place =
    place ≡ type_loc upper
IsSecondPlaceOf table (error.EnumEntityInHierarchy lower upper) place = place ≡ type_loc upper
IsSecondPlaceOf table other place = place ≡ None
