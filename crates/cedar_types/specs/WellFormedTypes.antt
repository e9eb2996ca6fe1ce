use Rattle.std.proofs.Common.{◌≡◌, ◌≢◌, Bool, Some, None, List, [], ◌∷◌, map, refl, sym, subst, string_bytes, Global}
use Rattle.std.proofs.lemmas.Str.{IsUtf8-string_bytes}
use Rattle.std.specs.declared.string.String.{String}
use Rattle.cedar_ast.proofs.Lists.{Contains-preimage}
use Rattle.cedar_ast.proofs.ValueLemmas.{IsName-type_name, IsName-plain_name}
use Rattle.cedar_ast.specs.Words.{IsName, IsText, type_name}
use Rattle.cedar_ast.specs.declared.entity_type.EntityType.{EntityType}
use Rattle.cedar_name_map.specs.ByName.{entry_texts}
use Rattle.cedar_type_rules.specs.Words.{AreNames, AreTexts, AreWellFormed, Fields, IsWellFormed, Ty, field_names, fields_from}
use Rattle.cedar_types.specs.EntityKind.{kind_ty}
use Rattle.cedar_types.specs.EntityLUB.{lub_names, lub_ty}
use Rattle.cedar_types.specs.Layers.{folded_layer, fields_of-rolled, plain_entry, pairs_of, field_names-pairs, IsSortedByName-fields}
use Rattle.cedar_types.specs.Meaning.{ty_of, attribute_of, fields_of, type_step, attribute_step, attributes_step}
use Rattle.cedar_types.specs.declared.attributes.AttributeType.{AttributeType, roll-AttributeType, map-AttributeType, fold-roll-AttributeType}
use Rattle.cedar_types.specs.declared.attributes.Attributes.{Attributes, roll-Attributes, map-Attributes, ind-Attributes}
use Rattle.cedar_types.specs.declared.entity_kind.EntityKind.{EntityKind}
use Rattle.cedar_types.specs.declared.entity_kind.EntityKind.TheVariants as kind
use Rattle.cedar_types.specs.declared.entity_lub.EntityLUB.{EntityLUB}
use Rattle.cedar_types.specs.declared.types.Type.{«Type», roll-Type, map-Type, fold-roll-Type, ind-Type}
use Rattle.cedar_types.specs.declared.types.Type.TheOpen as layer

-- the names of a union aren't reserved
AreNames-lub : (lub : EntityLUB) → AreNames (lub_names lub)
AreNames-lub lub name among =
    let (ty, inside, same) =
    Contains-preimage type_name lub.lub_elements.value.items name among in subst IsName same
    (IsName-type_name ty)

-- the names of some entity types that aren't none aren't none
some_names : (types : List EntityType) → types ≢ [] → map type_name types ≢ []
some_names [] some = absurd (some refl)
some_names (ty ∷ types) some = λ none. cc

-- a union stands for a well-formed type
pub lub_formed : (lub : EntityLUB) → IsWellFormed (lub_ty lub)
lub_formed lub = (
  some_names lub.lub_elements.value.items lub.nonempty,
  lub.sorted,
  AreNames-lub lub,
)

-- a kind of entities stands for a well-formed type
pub kind_formed : (of : EntityKind) → IsWellFormed (kind_ty of)
kind_formed kind.AnyEntity = tt
kind_formed (kind.Entity lub) = lub_formed lub

-- the names of entries are texts
entries_are_texts : (entries : List (String Global × AttributeType))
    → AreTexts (entry_texts entries)
entries_are_texts entries name among =
    let (entry, inside, same) = Contains-preimage (λ each.
    string_bytes each.0) entries name among in
    subst IsText same (IsUtf8-string_bytes entry.0)

-- the names of attributes are texts
pub AreTexts-fields : (all : Attributes) → AreTexts (field_names (fields_of all))
AreTexts-fields all = subst AreTexts (sym (field_names-pairs all))
    (entries_are_texts (pairs_of all))

-- a type that stands for a well-formed one
abbrev Formed : «Type» → Type 0
Formed ty = IsWellFormed (ty_of ty)

-- an attribute whose type does
abbrev AttributeFormed : AttributeType → Type 0
AttributeFormed attribute = IsWellFormed (attribute_of attribute).1

-- attributes whose types do
abbrev AreFormed : Attributes → Type 0
AreFormed all = AreWellFormed (fields_of all)

-- a layer whose parts do
abbrev FormedLayer : Type 0
FormedLayer = layer.Type-F ((t : «Type») × Formed t) ((t : AttributeType) × AttributeFormed t)
    ((t : Attributes) × AreFormed t)

-- the layer without the proofs
abbrev parts : FormedLayer → layer.Type-F «Type» AttributeType Attributes
parts y = map-Type ((t : «Type») × Formed t) ((t : AttributeType) × AttributeFormed t)
    ((t : Attributes) × AreFormed t)
    «Type» AttributeType Attributes (λ e. e.0) (λ e. e.0) (λ e. e.0) y

-- what a layer of well-formed parts stands for is well formed
layer_formed : (y : FormedLayer) → IsWellFormed (folded_layer (parts y))
layer_formed layer.Never = tt
layer_formed (layer.Bool known) = tt
layer_formed layer.Long = tt
layer_formed layer.String = tt
layer_formed (layer.Entity of) = kind_formed of
layer_formed (layer.Set None) = tt
layer_formed (layer.Set (Some element)) = element.value.1
layer_formed (layer.Record attrs openness) =
    (IsSortedByName-fields attrs.0, attrs.1, AreTexts-fields attrs.0)
layer_formed (layer.ExtensionType name) = IsName-plain_name name

type_formed : (x : layer.Type-F «Type» AttributeType Attributes) (y : FormedLayer) → parts y ≡ x
    → Formed (roll-Type x)
type_formed x y is =
    let P : layer.Type-F «Type» AttributeType Attributes
    → Type 0 = λ each. Formed (roll-Type each) in
    subst P is (subst IsWellFormed
    (sym (fold-roll-Type Ty (Bool × Ty) Fields type_step attribute_step attributes_step (parts y)))
    (layer_formed y))

-- an attribute whose type is well formed
abbrev FormedAttribute : Type 0
FormedAttribute = layer.AttributeType-F ((t : «Type») × Formed t)
    ((t : AttributeType) × AttributeFormed t) ((t : Attributes) × AreFormed t)

-- the attribute without the proof
abbrev attribute_parts : FormedAttribute → layer.AttributeType-F «Type» AttributeType Attributes
attribute_parts y = map-AttributeType ((t : «Type») × Formed t)
    ((t : AttributeType) × AttributeFormed t)
    ((t : Attributes) × AreFormed t) «Type» AttributeType Attributes (λ e. e.0) (λ e. e.0) (λ e.
    e.0) y

attribute_formed : (x : layer.AttributeType-F «Type» AttributeType Attributes) (y : FormedAttribute)
    → attribute_parts y ≡ x
    → AttributeFormed (roll-AttributeType x)
attribute_formed x y is =
    let P : layer.AttributeType-F «Type» AttributeType Attributes
    → Type 0 = λ each. AttributeFormed (roll-AttributeType each) in
    let Q : Bool × Ty → Type 0 = λ each. IsWellFormed each.1 in
    subst P is (subst Q
    (sym (fold-roll-AttributeType Ty (Bool × Ty) Fields type_step attribute_step attributes_step
    (attribute_parts y)))
    y.attr_type.value.1)

-- attributes whose types are well formed
abbrev FormedAttributes : Type 0
FormedAttributes = layer.Attributes-F ((t : «Type») × Formed t)
    ((t : AttributeType) × AttributeFormed t) ((t : Attributes) × AreFormed t)

-- the attributes without the proofs
abbrev attributes_parts : FormedAttributes → layer.Attributes-F «Type» AttributeType Attributes
attributes_parts y = map-Attributes ((t : «Type») × Formed t)
    ((t : AttributeType) × AttributeFormed t)
    ((t : Attributes) × AreFormed t) «Type» AttributeType Attributes (λ e. e.0) (λ e. e.0) (λ e.
    e.0) y

entries_formed : (entries : List (String Global × ((t : AttributeType) × AttributeFormed t)))
    → AreWellFormed (fields_from (map plain_entry (map (λ e. (e.0, e.1.0)) entries)))
entries_formed [] = tt
entries_formed (entry ∷ rest) = (entry.1.1, entries_formed rest)

attributes_formed : (x : layer.Attributes-F «Type» AttributeType Attributes) (y : FormedAttributes)
    → attributes_parts y ≡ x
    → AreFormed (roll-Attributes x)
attributes_formed x y is =
    let P : layer.Attributes-F «Type» AttributeType Attributes
    → Type 0 = λ each. AreFormed (roll-Attributes each) in
    subst P is (subst AreWellFormed (sym (fields_of-rolled (attributes_parts y)))
    (entries_formed y.attrs.value.entries.items))

-- each type stands for a well-formed one
pub IsWellFormed-type : (ty : «Type») → IsWellFormed (ty_of ty)
IsWellFormed-type ty =
    ind-Type Formed AttributeFormed AreFormed type_formed attribute_formed attributes_formed ty

-- each attribute's type stands for a well-formed one
pub AreWellFormed-fields : (all : Attributes) → AreWellFormed (fields_of all)
AreWellFormed-fields all =
    ind-Attributes Formed AttributeFormed AreFormed type_formed attribute_formed attributes_formed
    all
