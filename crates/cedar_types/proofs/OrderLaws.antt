-- Types, attributes and their parts are ordered as what they stand for.
use Rattle.std.proofs.Common.{◌≡◌, ◌≢◌, Bool, Some, None, List, [], ◌∷◌, Global, map, refl, sym, ◌∙◌, string_bytes, arith}
use Rattle.std.specs.Cmp.Lexicographic.{slice_cmp}
use Rattle.std.specs.Ordering.{bool_cmp, nat_cmp, ordering_then}
use Rattle.std.specs.declared.cmp.Ordering.{Ordering}
use Rattle.std.specs.declared.string.String.{String}
use Rattle.cedar_ast.proofs.Names.{name_ord-name_cmp}
use Rattle.cedar_type_rules.proofs.CompareLemmas.{ties_from, bool_cmp-is, open_tag_cmp-is}
use Rattle.cedar_types.proofs.CompareLemmas.{kind_cmp-is}
use Rattle.cedar_types.proofs.EqualityLaws.{layer_shape, shape-folded_layer, attribute_of-parts, types-Decides, attributes-Decides, attribute-Decides}
use Rattle.cedar_types.specs.Words.{AttributeType, Attributes, ComparesBy, Fields, Ty, «Type», any_entity, any_set, attribute_cmp, attribute_of, attribute_step, attributes_step, extension_of, fields_cmp, fields_from, fields_of, fields_of-rolled, fold-roll-Type, folded_layer, ind-AttributeType, ind-Attributes, ind-Type, kind_rank, map-AttributeType, map-Attributes, map-Type, out-AttributeType, out-Attributes, out-Type, out-roll-Attributes, plain_entry, record_of, roll-AttributeType, roll-Attributes, roll-Type, roll-out-Attributes, roll-out-Type, set_of, text_cmp, truth, ty_cmp, ty_of, type_step, union_of}
use Rattle.cedar_types.specs.contracts.attributes.AttributeTypeHash.TheImpl as attribute_type_hash
use Rattle.cedar_types.specs.contracts.attributes.AttributeTypeOrd.TheImpl as attribute_type_ord
use Rattle.cedar_types.specs.contracts.attributes.AttributeTypePartialEq.TheImpl as attribute_type_eq
use Rattle.cedar_types.specs.contracts.attributes.AttributesHash.TheImpl as attributes_hash
use Rattle.cedar_types.specs.contracts.attributes.AttributesOrd.TheImpl as attributes_ord
use Rattle.cedar_types.specs.contracts.attributes.AttributesPartialEq.TheImpl as attributes_eq
use Rattle.cedar_types.specs.contracts.types.TypeHash.TheImpl as type_hash
use Rattle.cedar_types.specs.contracts.types.TypeOrd.TheImpl as type_ord
use Rattle.cedar_types.specs.contracts.types.TypePartialEq.TheImpl as type_eq
use Rattle.cedar_types.specs.declared.types.Type.TheOpen as layer

-- a type is ordered as what it stands for
abbrev pub IsPlaced : «Type» → Type 0
IsPlaced a = (b : «Type») → (type_ord.ghosts).cmp a b ≡ ty_cmp (ty_of a) (ty_of b)

-- an attribute is ordered as what it stands for
abbrev pub IsPlacedAttribute : AttributeType → Type 0
IsPlacedAttribute a = (b : AttributeType) → (attribute_type_ord.ghosts).cmp a b ≡ attribute_cmp (attribute_of a) (attribute_of b)

-- attributes are ordered as what they stand for
abbrev pub ArePlaced : Attributes → Type 0
ArePlaced a = (b : Attributes) → (attributes_ord.ghosts).cmp a b ≡ fields_cmp (fields_of a) (fields_of b)

-- a layer whose parts are ordered as what they stand for
abbrev Placed : Type 0
Placed = layer.Type-F ((t : «Type») × IsPlaced t) ((t : AttributeType) × IsPlacedAttribute t) ((t : Attributes) × ArePlaced t)

-- the layer without the proofs
abbrev parts : Placed → layer.Type-F «Type» AttributeType Attributes
parts y = map-Type ((t : «Type») × IsPlaced t) ((t : AttributeType) × IsPlacedAttribute t) ((t : Attributes)
    × ArePlaced t) «Type» AttributeType Attributes (λ e. e.0) (λ e. e.0) (λ e. e.0) y

-- types of two kinds are ordered by their kinds
ty_cmp-apart : (a b : Ty) → kind_rank a ≢ kind_rank b → ty_cmp a b ≡ nat_cmp (kind_rank a) (kind_rank b)
ty_cmp-apart (truth a) (truth b) apart = absurd (apart refl)
ty_cmp-apart any_entity (union_of b) apart = absurd (apart refl)
ty_cmp-apart (union_of a) any_entity apart = absurd (apart refl)
ty_cmp-apart (union_of a) (union_of b) apart = absurd (apart refl)
ty_cmp-apart any_set (set_of b) apart = absurd (apart refl)
ty_cmp-apart (set_of a) any_set apart = absurd (apart refl)
ty_cmp-apart (set_of a) (set_of b) apart = absurd (apart refl)
ty_cmp-apart (record_of a s) (record_of b t) apart = absurd (apart refl)
ty_cmp-apart (extension_of a) (extension_of b) apart = absurd (apart refl)
ty_cmp-apart a b apart = refl

-- layers of two kinds are ordered by their kinds
folded-apart : (x z : layer.Type-F «Type» AttributeType Attributes) → layer_shape x ≢ layer_shape z
    → nat_cmp (layer_shape x) (layer_shape z) ≡ ty_cmp (folded_layer x) (folded_layer z)
folded-apart x z apart =
    (λ i. nat_cmp (sym (shape-folded_layer x) i) (sym (shape-folded_layer z) i))
    ∙ sym (ty_cmp-apart (folded_layer x) (folded_layer z) (λ e. apart (sym (shape-folded_layer x) ∙ (e ∙ shape-folded_layer z))))

-- layers are ordered as what they stand for where their parts are
layers-placed : (y : Placed) (z : layer.Type-F «Type» AttributeType Attributes)
    → type_ord.Laws.unfolded (roll-Type (parts y)) (roll-Type z) ≡ ty_cmp (folded_layer (parts y)) (folded_layer z)
unfolding out-Type denote.Hole.Carrier.out roll-Type denote.Hole.Carrier.roll
layers-placed layer.Never layer.Never = refl
layers-placed (layer.Bool a) (layer.Bool b) = bool_cmp-is a b
layers-placed layer.Long layer.Long = refl
layers-placed layer.String layer.String = refl
layers-placed (layer.Entity a) (layer.Entity b) = kind_cmp-is a b
layers-placed (layer.Set None) (layer.Set None) = refl
layers-placed (layer.Set None) (layer.Set (Some b)) = refl
layers-placed (layer.Set (Some a)) (layer.Set None) = refl
layers-placed (layer.Set (Some a)) (layer.Set (Some b)) = a.value.1 b.value
layers-placed (layer.Record a s) (layer.Record b t) = λ i. ordering_then (a.1 b i) (open_tag_cmp-is s t i)
layers-placed (layer.ExtensionType a) (layer.ExtensionType b) = name_ord-name_cmp a b
layers-placed y z = folded-apart (parts y) z (λ e. omega (arith, e))

-- a type of one layer whose parts are ordered as what they stand for is
type_placed : (x : layer.Type-F «Type» AttributeType Attributes) (y : Placed) → parts y ≡ x → IsPlaced (roll-Type x)
type_placed x y is b =
    let z = out-Type b in
    let first = fold-roll-Type Ty (Bool × Ty) Fields type_step attribute_step attributes_step (parts y) in
    let second = fold-roll-Type Ty (Bool × Ty) Fields type_step attribute_step attributes_step z in
    let whole : (type_ord.ghosts).cmp (roll-Type (parts y)) (roll-Type z) ≡ ty_cmp (ty_of (roll-Type (parts y))) (ty_of (roll-Type z)) =
    type_ord.Laws.is (roll-Type (parts y)) (roll-Type z) ∙ (layers-placed y z ∙ (λ i. ty_cmp (sym first i) (sym second i))) in
    rw (roll-out-Type b, is) at whole

-- an attribute whose type is ordered as what it stands for
abbrev PlacedAttribute : Type 0
PlacedAttribute = layer.AttributeType-F ((t : «Type») × IsPlaced t) ((t : AttributeType) × IsPlacedAttribute t)
    ((t : Attributes) × ArePlaced t)

-- the attribute without the proof
abbrev attribute_parts : PlacedAttribute → layer.AttributeType-F «Type» AttributeType Attributes
attribute_parts y = map-AttributeType ((t : «Type») × IsPlaced t) ((t : AttributeType) × IsPlacedAttribute t)
    ((t : Attributes) × ArePlaced t) «Type» AttributeType Attributes (λ e. e.0) (λ e. e.0) (λ e. e.0) y

-- an attribute whose type is ordered as what it stands for is
attribute_placed : (x : layer.AttributeType-F «Type» AttributeType Attributes) (y : PlacedAttribute)
    → attribute_parts y ≡ x → IsPlacedAttribute (roll-AttributeType x)
attribute_placed x y is b =
    let a = roll-AttributeType (attribute_parts y) in
    let other = out-AttributeType b in
    let whole : (attribute_type_ord.ghosts).cmp a b ≡ attribute_cmp (attribute_of a) (attribute_of b) =
    attribute_type_ord.Laws.is a b
    ∙ ((λ i. ordering_then (y.attr_type.value.1 other.attr_type.value i) (bool_cmp y.is_required other.is_required))
    ∙ (λ i. attribute_cmp (sym (attribute_of-parts a) i) (sym (attribute_of-parts b) i))) in
    rw (← is) whole

-- attributes whose types are ordered as what they stand for
abbrev PlacedAttributes : Type 0
PlacedAttributes = layer.Attributes-F ((t : «Type») × IsPlaced t) ((t : AttributeType) × IsPlacedAttribute t)
    ((t : Attributes) × ArePlaced t)

-- the attributes without the proofs
abbrev attributes_parts : PlacedAttributes → layer.Attributes-F «Type» AttributeType Attributes
attributes_parts y = map-Attributes ((t : «Type») × IsPlaced t) ((t : AttributeType) × IsPlacedAttribute t)
    ((t : Attributes) × ArePlaced t) «Type» AttributeType Attributes (λ e. e.0) (λ e. e.0) (λ e. e.0) y

-- the order of two entries
abbrev entry_cmp : String Global × AttributeType → String Global × AttributeType → Ordering
entry_cmp p q = ordering_then (text_cmp (string_bytes p.0) (string_bytes q.0)) ((attribute_type_ord.ghosts).cmp p.1 q.1)

-- entries are ordered as the attributes that they stand for
entries-placed : (xs : List (String Global × ((t : AttributeType) × IsPlacedAttribute t)))
    (ys : List (String Global × AttributeType)) → slice_cmp entry_cmp (map (λ e. (e.0, e.1.0)) xs) ys
    ≡ fields_cmp (fields_from (map plain_entry (map (λ e. (e.0, e.1.0)) xs))) (fields_from (map plain_entry ys))
entries-placed [] [] = refl
entries-placed [] (y ∷ ys) = refl
entries-placed (x ∷ xs) [] = refl
entries-placed (x ∷ xs) (y ∷ ys) = λ i.
    ordering_then (ordering_then (text_cmp (string_bytes x.0) (string_bytes y.0)) (x.1.1 y.1 i)) (entries-placed xs ys i)

-- the order of attributes compares their entries
compares_entries : (x z : layer.Attributes-F «Type» AttributeType Attributes)
    → attributes_ord.Laws.unfolded (roll-Attributes x) (roll-Attributes z) ≡ slice_cmp entry_cmp x.attrs.value.entries.items z.attrs.value.entries.items
compares_entries x z i = slice_cmp entry_cmp (out-roll-Attributes x i).attrs.value.entries.items (out-roll-Attributes z i).attrs.value.entries.items

-- attributes whose types are ordered as what they stand for are
attributes_placed : (x : layer.Attributes-F «Type» AttributeType Attributes) (y : PlacedAttributes)
    → attributes_parts y ≡ x → ArePlaced (roll-Attributes x)
attributes_placed x y is b =
    let z = out-Attributes b in
    let a = roll-Attributes (attributes_parts y) in
    let whole : (attributes_ord.ghosts).cmp a (roll-Attributes z) ≡ fields_cmp (fields_of a) (fields_of (roll-Attributes z)) =
    attributes_ord.Laws.is a (roll-Attributes z) ∙ (compares_entries (attributes_parts y) z
    ∙ (entries-placed y.attrs.value.entries.items z.attrs.value.entries.items
    ∙ (λ i. fields_cmp (sym (fields_of-rolled (attributes_parts y)) i) (sym (fields_of-rolled z) i)))) in
    rw (roll-out-Attributes b, is) at whole

-- comparisons of types agree
pub types_compare : ComparesBy ty_of ty_cmp (type_eq.ghosts).eq (type_ord.ghosts).cmp (type_hash.ghosts).hash_input
types_compare = record {
  equality = types-Decides;
  order = λ a. ind-Type IsPlaced IsPlacedAttribute ArePlaced type_placed attribute_placed attributes_placed a;
  total = type_ord.Laws.total-law;
  ties = ties_from ty_of (type_eq.ghosts).eq (type_ord.ghosts).cmp types-Decides type_ord.Laws.matches_eq-law;
  hash = λ a b e. type_hash.Laws.respects_eq-law a b ((types-Decides a b).1 e);
}

-- comparisons of attributes agree
pub attributes_compare : ComparesBy fields_of fields_cmp (attributes_eq.ghosts).eq (attributes_ord.ghosts).cmp
    (attributes_hash.ghosts).hash_input
attributes_compare = record {
  equality = attributes-Decides;
  order = λ a. ind-Attributes IsPlaced IsPlacedAttribute ArePlaced type_placed attribute_placed attributes_placed a;
  total = attributes_ord.Laws.total-law;
  ties = ties_from fields_of (attributes_eq.ghosts).eq (attributes_ord.ghosts).cmp attributes-Decides attributes_ord.Laws.matches_eq-law;
  hash = λ a b e. attributes_hash.Laws.respects_eq-law a b ((attributes-Decides a b).1 e);
}

-- comparisons of one attribute agree
pub attribute_compare : ComparesBy attribute_of attribute_cmp (attribute_type_eq.ghosts).eq
    (attribute_type_ord.ghosts).cmp (attribute_type_hash.ghosts).hash_input
attribute_compare = record {
  equality = attribute-Decides;
  order = λ a. ind-AttributeType IsPlaced IsPlacedAttribute ArePlaced type_placed attribute_placed attributes_placed a;
  total = attribute_type_ord.Laws.total-law;
  ties = ties_from attribute_of (attribute_type_eq.ghosts).eq
      (attribute_type_ord.ghosts).cmp attribute-Decides attribute_type_ord.Laws.matches_eq-law;
  hash = λ a b e. attribute_type_hash.Laws.respects_eq-law a b ((attribute-Decides a b).1 e);
}
