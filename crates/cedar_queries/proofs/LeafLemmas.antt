-- Leaves of types that are added, and types that are gone over.
use Rattle.std.proofs.Common.{◌≡◌, ◌+◌, ◌<◌, List, [], ◌∷◌, ◌++◌, ap, sym, ◌∙◌, refl, arith}
use Rattle.std.proofs.lemmas.List.{append-nil, append_assoc, map-append}
use Rattle.std.specs.Borrow.{Bor}
use Rattle.std.specs.List.{flat_map}
use Rattle.std.specs.Option.{option_to_list}
use Rattle.cedar_queries.specs.Words.{Fields, IsLeaf, Ty, ValidatorActionId, ValidatorEntityType, action_of, end, entity_type_of, field, field_types, inner_types, kind_context, kind_fields, kind_tags, leaves, leaves_of, leaves_of_fields, part_count, parts, parts_of_fields, record_of, set_of, shown_types, ty_of}
use Rattle.cedar_types.specs.declared.types.Type.{«Type»}

-- the types of the attributes and tags of an entity type
abbrev pub types_of : ValidatorEntityType → List Ty
types_of ty = field_types (kind_fields (entity_type_of ty).kind) ++ option_to_list (kind_tags (entity_type_of ty).kind)

-- those of some entity types
abbrev pub types_of_each : List ValidatorEntityType → List Ty
types_of_each types = flat_map types_of types

-- the types of the contexts of some actions
abbrev pub contexts_of_each : List ValidatorActionId → List Ty
contexts_of_each actions = flat_map (λ it. option_to_list (kind_context (action_of it).kind)) actions

-- the leaves of some types and of others after them
pub leaves_of-append : (xs ys : List Ty) → leaves_of (xs ++ ys) ≡ leaves_of xs ++ leaves_of ys
leaves_of-append [] ys = refl
leaves_of-append (x ∷ xs) ys = ap (λ rest. leaves x ++ rest) (leaves_of-append xs ys) ∙ sym (append_assoc (leaves x) (leaves_of xs) (leaves_of ys))

-- of how many types some types and others after them are made
pub part_count-append : (xs ys : List Ty) → part_count (xs ++ ys) ≡ part_count xs + part_count ys
part_count-append [] ys = omega arith
part_count-append (x ∷ xs) ys = ap (λ rest. parts x + rest) (part_count-append xs ys) ∙ omega arith

-- the leaves of the types of some attributes are those of the attributes
pub leaves_of-fields : (fields : Fields) → leaves_of (field_types fields) ≡ leaves_of_fields fields
leaves_of-fields end = refl
leaves_of-fields (field name required ty rest) = ap (λ others. leaves ty ++ others) (leaves_of-fields rest)

-- the types of some attributes are made of as many as the attributes are
pub part_count-fields : (fields : Fields) → part_count (field_types fields) ≡ parts_of_fields fields
part_count-fields end = refl
part_count-fields (field name required ty rest) = ap (λ others. parts ty + others) (part_count-fields rest)

-- a type that isn't a leaf has the leaves of the types right inside it
pub leaves-inside : (ty : Ty) → ¬ IsLeaf ty → leaves ty ≡ leaves_of (inner_types ty)
leaves-inside (set_of ty) parted = sym (append-nil (leaves ty))
leaves-inside (record_of fields openness) parted = sym (leaves_of-fields fields)
leaves-inside _ parted = absurd (parted tt)

-- a type that isn't a leaf is made of one type more than those right inside it
pub parts-inside : (ty : Ty) → ¬ IsLeaf ty → parts ty ≡ 1 + part_count (inner_types ty)
parts-inside (set_of ty) parted = omega arith
parts-inside (record_of fields openness) parted = ap (λ others. 1 + others) (sym (part_count-fields fields))
parts-inside _ parted = absurd (parted tt)

-- the only leaf of a leaf is itself
pub leaves-of_leaf : (ty : Ty) → IsLeaf ty → leaves ty ≡ ty ∷ []
leaves-of_leaf (set_of ty) leaf = absurd leaf
leaves-of_leaf (record_of fields openness) leaf = absurd leaf
leaves-of_leaf _ leaf = refl

-- a type is made of at least itself
pub parts-some : (ty : Ty) → 0 < parts ty
parts-some (set_of ty) = omega arith
parts-some _ = omega arith

-- one more type that is borrowed
pub shown-push : (all before : List (Bor «Type»)) (one : Bor «Type») → all ≡ before ++ one ∷ []
    → shown_types all ≡ shown_types before ++ ty_of one.now ∷ []
shown-push all before one is = ap shown_types is ∙ map-append (λ ty. ty_of ty.now) before (one ∷ [])

module _ (all before after : List (Bor «Type»)) (one : Bor «Type») (is : all ≡ before ++ one ∷ []) where
  -- a type that isn't a leaf, which was the last, is replaced by the types right inside it: no leaf
  -- is lost
  pub leaves-opened : ¬ IsLeaf (ty_of one.now) → shown_types after ≡ shown_types before ++ inner_types (ty_of one.now)
      → leaves_of (shown_types after) ≡ leaves_of (shown_types all)
  leaves-opened parted made =
      ap leaves_of made ∙ leaves_of-append (shown_types before) (inner_types (ty_of one.now))
      ∙ ap (λ others. leaves_of (shown_types before) ++ others) (sym (leaves-inside (ty_of one.now) parted) ∙ sym (append-nil _))
      ∙ sym (leaves_of-append (shown_types before) (ty_of one.now ∷ []))
      ∙ sym (ap leaves_of (shown-push all before one is))

  -- and there is one type less
  pub parts-opened : ¬ IsLeaf (ty_of one.now) → shown_types after ≡ shown_types before ++ inner_types (ty_of one.now)
      → part_count (shown_types all) ≡ 1 + part_count (shown_types after)
  parts-opened parted made =
      let whole : part_count (shown_types all) ≡ part_count (shown_types before) + (parts (ty_of one.now) + 0) =
      ap part_count (shown-push all before one is) ∙ part_count-append (shown_types before) (ty_of one.now ∷ []) in
      let left : part_count (shown_types after) ≡ part_count (shown_types before) + part_count (inner_types (ty_of one.now)) =
      ap part_count made ∙ part_count-append (shown_types before) (inner_types (ty_of one.now)) in
      let inside = parts-inside (ty_of one.now) parted in
      omega (arith, whole, left, inside)

  -- a leaf, which was the last, is taken: the others are left
  pub leaves-taken : IsLeaf (ty_of one.now) → shown_types after ≡ shown_types before
      → leaves_of (shown_types all) ≡ leaves_of (shown_types after) ++ ty_of one.now ∷ []
  leaves-taken leaf made =
      ap leaves_of (shown-push all before one is) ∙ leaves_of-append (shown_types before) (ty_of one.now ∷ [])
      ∙ ap (λ others. leaves_of (shown_types before) ++ others) (append-nil (leaves (ty_of one.now)) ∙ leaves-of_leaf (ty_of one.now) leaf)
      ∙ ap (λ types. leaves_of types ++ ty_of one.now ∷ []) (sym made)

  -- and there are fewer types
  pub parts-taken : shown_types after ≡ shown_types before → part_count (shown_types after) < part_count (shown_types all)
  parts-taken made =
      let whole : part_count (shown_types all) ≡ part_count (shown_types before) + (parts (ty_of one.now) + 0) =
      ap part_count (shown-push all before one is) ∙ part_count-append (shown_types before) (ty_of one.now ∷ []) in
      let left : part_count (shown_types after) ≡ part_count (shown_types before) = ap part_count made in
      let some = parts-some (ty_of one.now) in
      omega (arith, whole, left, some)

  -- there were some
  pub parts-last : 0 < part_count (shown_types all)
  parts-last =
      let whole : part_count (shown_types all) ≡ part_count (shown_types before) + (parts (ty_of one.now) + 0) =
      ap part_count (shown-push all before one is) ∙ part_count-append (shown_types before) (ty_of one.now ∷ []) in
      let some = parts-some (ty_of one.now) in
      omega (arith, whole, some)
