use Rattle.std.proofs.Common.{◌≡◌, refl, ℕ, sym, ap, ◌∙◌}
use Rattle.std.proofs.lemmas.Option.{same_Some}
use Rattle.std.specs.Hash.{le_bytes}
use Rattle.std.specs.Prelude.{slice_get, Some, List, Bool}
use Rattle.cedar_types.proofs.EqualityLaws.{layer_shape, shape-folded_layer}
use Rattle.cedar_types.proofs.theorems.types_feed_their_variant.Goals as goal
use Rattle.cedar_types.specs.Words.{AttributeType, Attributes, FeedsVariantFirst, Fields, Ty, «Type», attribute_step, attributes_step, fold-roll-Type, kind_rank, out-Type, roll-Type, roll-out-Type, ty_of, type_step}
use Rattle.cedar_types.specs.contracts.types.TypeHash.TheImpl as type_hash
use Rattle.cedar_types.specs.declared.types.Type.TheOpen as layer

-- the number of a layer's variant, as it is fed
abbrev fed : layer.Type-F «Type» AttributeType Attributes → List ℕ
fed y = le_bytes 8 (layer_shape y)

-- a layer feeds the number of its variant first
layer_feeds : (y : layer.Type-F «Type» AttributeType Attributes)
    → slice_get (type_hash.Laws.unfolded (roll-Type y) (roll-Type y)) 0 ≡ Some (fed y)
unfolding out-Type denote.Hole.Carrier.out roll-Type denote.Hole.Carrier.roll
layer_feeds layer.Never = refl
layer_feeds (layer.Bool known) = refl
layer_feeds layer.Long = refl
layer_feeds layer.String = refl
layer_feeds (layer.Entity kind) = refl
layer_feeds (layer.Set element) = refl
layer_feeds (layer.Record attrs openness) = refl
layer_feeds (layer.ExtensionType name) = refl

-- what is fed of a variant begins with its number
begins : (y : layer.Type-F «Type» AttributeType Attributes) → slice_get (fed y) 0 ≡ Some (layer_shape y)
unfolding le_bytes
begins layer.Never = refl
begins (layer.Bool known) = refl
begins layer.Long = refl
begins layer.String = refl
begins (layer.Entity kind) = refl
begins (layer.Set element) = refl
begins (layer.Record attrs openness) = refl
begins (layer.ExtensionType name) = refl

-- a type feeds the number of its variant first
type_feeds : (x : «Type») → slice_get ((type_hash.ghosts).hash_input x) 0 ≡ Some (fed (out-Type x))
type_feeds x =
    let y = out-Type x in
    rw (roll-out-Type x) at (ap (λ writes. slice_get writes 0) (type_hash.Laws.is (roll-Type y) (roll-Type y)) ∙ layer_feeds y)

-- the kind of the type is the variant of its layer
kind_of : (x : «Type») → kind_rank (ty_of x) ≡ layer_shape (out-Type x)
kind_of x =
    let y = out-Type x in
    rw (roll-out-Type x) at (ap kind_rank (fold-roll-Type Ty (Bool × Ty) Fields type_step attribute_step attributes_step y) ∙ shape-folded_layer y)

-- types that feed the same first are of the same variant
types_feed : FeedsVariantFirst (λ (ty : «Type»). kind_rank (ty_of ty)) (type_hash.ghosts).hash_input
types_feed a b same =
    let bytes : fed (out-Type a) ≡ fed (out-Type b) = same_Some _ _ (sym (type_feeds a) ∙ (same ∙ type_feeds b)) in
    let numbers : Some (layer_shape (out-Type a)) ≡ Some (layer_shape (out-Type b)) =
    sym (begins (out-Type a)) ∙ (ap (λ it. slice_get it 0) bytes ∙ begins (out-Type b)) in
    kind_of a ∙ (same_Some _ _ numbers ∙ sym (kind_of b))

pub returns : goal.returns
returns c = types_feed
