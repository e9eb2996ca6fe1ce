-- Types are equal exactly where they stand for the same plain type.
use Rattle.std.proofs.Common.{◌≡◌, ◌&&◌, Bool, true, false, Some, None, List, [], ◌∷◌, Global, map, refl, ap, sym, ◌∙◌, string_bytes, ℕ, nat_eq, arith}
use Rattle.std.proofs.lemmas.Bool.Decides.{Decides-and, Decides-like}
use Rattle.std.specs.Bool.{Decides}
use Rattle.std.specs.Cmp.Lexicographic.{pointwise}
use Rattle.std.specs.declared.string.String.{String}
use Rattle.cedar_ast.proofs.Names.{name_eq-same}
use Rattle.cedar_ast.proofs.Texts.{text_eq-Decides}
use Rattle.cedar_type_rules.proofs.CompareLemmas.{bool_eq-same}
use Rattle.cedar_types.specs.Words.{AttributeType, Attributes, Fields, Text, Ty, «Type», attribute_of, attribute_step, attributes_step, end, extension_of, field, fields_from, fields_of, fields_of-rolled, fold-roll-Type, fold_out-AttributeType, folded_layer, ind-AttributeType, ind-Attributes, ind-Type, kind_rank, map-AttributeType, map-Attributes, map-Type, never, out-AttributeType, out-Attributes, out-Type, out-roll-Attributes, plain_entry, record_of, roll-AttributeType, roll-Attributes, roll-Type, roll-out-Attributes, roll-out-Type, set_of, truth, ty_of, type_step}
pub use Rattle.cedar_type_rules.proofs.CompareLemmas.{none, open_tag-Decides}
use Rattle.cedar_types.proofs.CompareLemmas.{kind_eq-same}
use Rattle.cedar_types.specs.contracts.attributes.AttributeTypePartialEq.TheImpl as attribute_type_eq
use Rattle.cedar_types.specs.contracts.attributes.AttributesPartialEq.TheImpl as attributes_eq
use Rattle.cedar_types.specs.contracts.types.TypePartialEq.TheImpl as type_eq
use Rattle.cedar_types.specs.declared.entity_kind.EntityKind.TheVariants as kind
use Rattle.cedar_types.specs.declared.types.Type.TheOpen as layer

-- tests of flags decide whether they are the same
pub flags-Decides : (a b : Bool) → Decides (mathlib.Core.Bool.beq a b) (a ≡ b)
flags-Decides true true = (λ _. refl, λ _. refl)
flags-Decides true false = none (λ e. cc)
flags-Decides false true = none (λ e. cc)
flags-Decides false false = (λ _. refl, λ _. refl)

-- a type is told apart by its test
abbrev pub IsTold : «Type» → Type 0
IsTold a = (b : «Type») → Decides ((type_eq.ghosts).eq a b) (ty_of a ≡ ty_of b)

-- an attribute is told apart by its test
abbrev pub IsToldAttribute : AttributeType → Type 0
IsToldAttribute a = (b : AttributeType) → Decides ((attribute_type_eq.ghosts).eq a b) (attribute_of a ≡ attribute_of b)

-- attributes are told apart by their test
abbrev pub AreTold : Attributes → Type 0
AreTold a = (b : Attributes) → Decides ((attributes_eq.ghosts).eq a b) (fields_of a ≡ fields_of b)

-- a layer whose parts are told apart
abbrev Told : Type 0
Told = layer.Type-F ((t : «Type») × IsTold t) ((t : AttributeType) × IsToldAttribute t) ((t : Attributes) × AreTold t)

-- the layer without the proofs
abbrev pub parts : Told → layer.Type-F «Type» AttributeType Attributes
parts y = map-Type ((t : «Type») × IsTold t) ((t : AttributeType) × IsToldAttribute t) ((t : Attributes)
    × AreTold t) «Type» AttributeType Attributes (λ e. e.0) (λ e. e.0) (λ e. e.0) y

-- the kind of a layer, as a number
abbrev pub layer_shape : layer.Type-F «Type» AttributeType Attributes → ℕ
layer_shape layer.Never = 0
layer_shape (layer.Bool known) = 1
layer_shape layer.Long = 2
layer_shape layer.String = 3
layer_shape (layer.Entity of) = 4
layer_shape (layer.Set element) = 5
layer_shape (layer.Record attrs openness) = 6
layer_shape (layer.ExtensionType name) = 7

-- what a layer stands for is of its kind
pub shape-folded_layer : (x : layer.Type-F «Type» AttributeType Attributes) → kind_rank (folded_layer x) ≡ layer_shape x
shape-folded_layer layer.Never = refl
shape-folded_layer (layer.Bool known) = refl
shape-folded_layer layer.Long = refl
shape-folded_layer layer.String = refl
shape-folded_layer (layer.Entity kind.AnyEntity) = refl
shape-folded_layer (layer.Entity (kind.Entity lub)) = refl
shape-folded_layer (layer.Set None) = refl
shape-folded_layer (layer.Set (Some element)) = refl
shape-folded_layer (layer.Record attrs openness) = refl
shape-folded_layer (layer.ExtensionType name) = refl

-- layers that stand for the same are of one kind
same_shape : (x z : layer.Type-F «Type» AttributeType Attributes) → folded_layer x ≡ folded_layer z → layer_shape x ≡ layer_shape z
same_shape x z same = sym (shape-folded_layer x) ∙ (ap kind_rank same ∙ shape-folded_layer z)

-- layers are told apart where their parts are
layers-Decides : (y : Told) (z : layer.Type-F «Type» AttributeType Attributes)
    → Decides (type_eq.Laws.unfolded (roll-Type (parts y)) (roll-Type z)) (folded_layer (parts y) ≡ folded_layer z)
unfolding out-Type denote.Hole.Carrier.out roll-Type denote.Hole.Carrier.roll
layers-Decides layer.Never layer.Never = (λ _. refl, λ _. refl)
layers-Decides (layer.Bool a) (layer.Bool b) = Decides-like _ (ap truth) (λ e. cc) (bool_eq-same a b)
layers-Decides layer.Long layer.Long = (λ _. refl, λ _. refl)
layers-Decides layer.String layer.String = (λ _. refl, λ _. refl)
layers-Decides (layer.Entity a) (layer.Entity b) = kind_eq-same a b
layers-Decides (layer.Set None) (layer.Set None) = (λ _. refl, λ _. refl)
layers-Decides (layer.Set None) (layer.Set (Some b)) = none (λ e. cc)
layers-Decides (layer.Set (Some a)) (layer.Set None) = none (λ e. cc)
layers-Decides (layer.Set (Some a)) (layer.Set (Some b)) = Decides-like _ (ap set_of) (λ e. cc) (a.value.1 b.value)
layers-Decides (layer.Record a s) (layer.Record b t) =
    Decides-like _ (λ both i. record_of (both.0 i) (both.1 i)) (λ e. (cc, cc)) (Decides-and _ _ (a.1 b) (open_tag-Decides s t))
layers-Decides (layer.ExtensionType a) (layer.ExtensionType b) = Decides-like _ (ap extension_of) (λ e. cc) (name_eq-same a b)
layers-Decides y z = none (λ e. omega (arith, same_shape (parts y) z e))

-- a type of one layer whose parts are told apart is
type_told : (x : layer.Type-F «Type» AttributeType Attributes) (y : Told) → parts y ≡ x → IsTold (roll-Type x)
type_told x y is b =
    let z = out-Type b in
    let rolled : Decides ((type_eq.ghosts).eq (roll-Type (parts y)) (roll-Type z)) (folded_layer (parts y) ≡ folded_layer z) =
    (rw (type_eq.Laws.is (roll-Type (parts y)) (roll-Type z)) (layers-Decides y z)) in
    let whole : Decides ((type_eq.ghosts).eq (roll-Type (parts y)) (roll-Type z)) (ty_of (roll-Type (parts y)) ≡ ty_of (roll-Type z)) =
    (let first = fold-roll-Type Ty (Bool × Ty) Fields type_step attribute_step attributes_step (parts y) in
    let second = fold-roll-Type Ty (Bool × Ty) Fields type_step attribute_step attributes_step z in
    Decides-like _ (λ e. first ∙ (e ∙ sym second)) (λ e. sym first ∙ (e ∙ second)) rolled) in
    rw (roll-out-Type b, is) at whole

-- an attribute whose type is told apart
abbrev pub ToldAttribute : Type 0
ToldAttribute = layer.AttributeType-F ((t : «Type») × IsTold t) ((t : AttributeType) × IsToldAttribute t) ((t : Attributes) × AreTold t)

-- the attribute without the proof
abbrev pub attribute_parts : ToldAttribute → layer.AttributeType-F «Type» AttributeType Attributes
attribute_parts y = map-AttributeType ((t : «Type») × IsTold t) ((t : AttributeType) × IsToldAttribute t)
    ((t : Attributes) × AreTold t) «Type» AttributeType Attributes (λ e. e.0) (λ e. e.0) (λ e. e.0) y

-- an attribute stands for its flag and its type
pub attribute_of-parts : (a : AttributeType) → attribute_of a
    ≡ ((out-AttributeType a).is_required, ty_of (out-AttributeType a).attr_type.value)
attribute_of-parts a = fold_out-AttributeType Ty (Bool × Ty) Fields type_step attribute_step attributes_step a

-- an attribute whose type is told apart is
attribute_told : (x : layer.AttributeType-F «Type» AttributeType Attributes) (y : ToldAttribute) → attribute_parts y ≡ x
    → IsToldAttribute (roll-AttributeType x)
attribute_told x y is b =
    let a = roll-AttributeType (attribute_parts y) in
    let parts_told = Decides-and _ _ (y.attr_type.value.1 (out-AttributeType b).attr_type.value)
    (flags-Decides y.is_required (out-AttributeType b).is_required) in
    let Tells : Bool → Type 0 = λ answer. Decides answer (attribute_of a ≡ attribute_of b) in
    let whole : Tells ((attribute_type_eq.ghosts).eq a b) =
    rw (attribute_type_eq.Laws.is a b) (Decides-like _
    (λ both. attribute_of-parts a ∙ ((λ i. (both.1 i, both.0 i)) ∙ sym (attribute_of-parts b)))
    (λ e. let same = sym (attribute_of-parts a) ∙ (e ∙ attribute_of-parts b) in (ap (λ pair. pair.1) same, ap (λ pair. pair.0) same))
    parts_told) in
    rw (← is) whole

-- attributes whose types are told apart
abbrev ToldAttributes : Type 0
ToldAttributes = layer.Attributes-F ((t : «Type») × IsTold t) ((t : AttributeType) × IsToldAttribute t) ((t : Attributes) × AreTold t)

-- the attributes without the proofs
abbrev pub attributes_parts : ToldAttributes → layer.Attributes-F «Type» AttributeType Attributes
attributes_parts y = map-Attributes ((t : «Type») × IsTold t) ((t : AttributeType) × IsToldAttribute t)
    ((t : Attributes) × AreTold t) «Type» AttributeType Attributes (λ e. e.0) (λ e. e.0) (λ e. e.0) y

-- the name of the first attribute
abbrev first_name : Fields → Text
first_name end = []
first_name (field name required ty rest) = name

-- the first attribute
abbrev first_attribute : Fields → Bool × Ty
first_attribute end = (true, never)
first_attribute (field name required ty rest) = (required, ty)

-- the attributes after the first
abbrev rest_fields : Fields → Fields
rest_fields end = end
rest_fields (field name required ty rest) = rest

-- the test of two entries
abbrev same_entry : String Global × AttributeType → String Global × AttributeType → Bool
same_entry p q = pointwise nat_eq (string_bytes p.0) (string_bytes q.0) && (attribute_type_eq.ghosts).eq p.1 q.1

-- entries are equal exactly where they stand for the same attributes
entries-Decides : (xs : List (String Global × ((t : AttributeType) × IsToldAttribute t)))
    (ys : List (String Global × AttributeType)) → Decides (pointwise same_entry (map (λ e. (e.0, e.1.0)) xs) ys)
    (fields_from (map plain_entry (map (λ e. (e.0, e.1.0)) xs)) ≡ fields_from (map plain_entry ys))
entries-Decides [] [] = (λ _. refl, λ _. refl)
entries-Decides [] (y ∷ ys) = none (λ e. cc)
entries-Decides (x ∷ xs) [] = none (λ e. cc)
entries-Decides (x ∷ xs) (y ∷ ys) =
    Decides-like _ (λ all i. field (all.0.0 i) (all.0.1 i).0 (all.0.1 i).1 (all.1 i))
    (λ e. ((ap first_name e, ap first_attribute e), ap rest_fields e))
    (Decides-and _ _ (Decides-and _ _ (text_eq-Decides (string_bytes x.0) (string_bytes y.0)) (x.1.1 y.1)) (entries-Decides xs ys))

-- the test of attributes compares their entries
compares_entries : (x z : layer.Attributes-F «Type» AttributeType Attributes)
    → attributes_eq.Laws.unfolded (roll-Attributes x) (roll-Attributes z) ≡ pointwise same_entry x.attrs.value.entries.items z.attrs.value.entries.items
compares_entries x z i = pointwise same_entry (out-roll-Attributes x i).attrs.value.entries.items (out-roll-Attributes z i).attrs.value.entries.items

-- attributes are equal exactly where their entries stand for the same
rolled-Decides : (y : ToldAttributes) (z : layer.Attributes-F «Type» AttributeType Attributes)
    → Decides (attributes_eq.Laws.unfolded (roll-Attributes (attributes_parts y)) (roll-Attributes z))
    (fields_from (map plain_entry (attributes_parts y).attrs.value.entries.items) ≡ fields_from (map plain_entry z.attrs.value.entries.items))
rolled-Decides y z =
    rw (compares_entries (attributes_parts y) z) (entries-Decides y.attrs.value.entries.items z.attrs.value.entries.items)

-- attributes whose types are told apart are
attributes_told : (x : layer.Attributes-F «Type» AttributeType Attributes) (y : ToldAttributes) → attributes_parts y ≡ x
    → AreTold (roll-Attributes x)
attributes_told x y is b =
    let z = out-Attributes b in
    let a = roll-Attributes (attributes_parts y) in
    let Tells : Bool → Type 0 = λ answer. Decides answer (fields_of a ≡ fields_of (roll-Attributes z)) in
    let first = fields_of-rolled (attributes_parts y) in
    let second = fields_of-rolled z in
    let whole : Tells ((attributes_eq.ghosts).eq a (roll-Attributes z)) =
    rw (attributes_eq.Laws.is a (roll-Attributes z)) (Decides-like _ (λ e. first ∙ (e ∙ sym second)) (λ e. sym first ∙ (e ∙ second)) (rolled-Decides y z)) in
    rw (roll-out-Attributes b, is) at whole

-- types are told apart
pub types-Decides : (a : «Type») → IsTold a
types-Decides a = ind-Type IsTold IsToldAttribute AreTold type_told attribute_told attributes_told a

-- attributes are equal exactly where they stand for the same
pub attributes-Decides : (a : Attributes) → AreTold a
attributes-Decides a = ind-Attributes IsTold IsToldAttribute AreTold type_told attribute_told attributes_told a

-- two attributes are equal exactly where their flags and their types are
pub attribute-Decides : (a : AttributeType) → IsToldAttribute a
attribute-Decides a = ind-AttributeType IsTold IsToldAttribute AreTold type_told attribute_told attributes_told a
