-- Steps of the walk that gives attributes the core types of their types.
use Rattle.std.proofs.Common.{◌≡◌, ◌∙◌, sym, ap, Bool, List, [], ◌∷◌, ◌++◌, map, Some, string_bytes, Global, append_assoc}
use Rattle.std.proofs.lemmas.List.{map-append, append-nil}
use Rattle.std.proofs.lemmas.Simd.{map-map}
use Rattle.std.specs.BTreeMap.{insert_entry}
use Rattle.std.specs.List.{AllByRecursion}
use Rattle.std.specs.Map.{keys_of}
use Rattle.std.specs.String.{string_cmp}
use Rattle.std.specs.declared.cmp.Ordering.TheVariants.{Greater}
use Rattle.std.specs.declared.string.String.{String}
use Rattle.cedar_ast.proofs.Ordered.{above_front, insert_entry-end}
use Rattle.cedar_ast.proofs.Texts.{text_cmp-total}
use Rattle.cedar_ast.proofs.TreeLemmas.{core_attribute_of-parts}
use Rattle.cedar_type_rules.proofs.CoreSteps.{IsCored, cored-fields, cored-more, cored-names, fault-middle}
use Rattle.cedar_types.proofs.EqualityLaws.{attribute_of-parts}
use Rattle.cedar_types.specs.Words.{AreSortedByName, AttributeType, CoreAttributeType, CoreTy, CoreTypeFault, HoldsPairwise, IsCoreFault, IsFieldsFault, Text, Ty, attribute_of, core_attribute_of, core_fields, core_fields_from, core_of, core_ty_of, entry_texts, fields_from, out-AttributeType, plain_attributes, plain_entry, text_cmp, ty_of}

-- what an entry of a core record type stands for
abbrev pub core_entry : String Global × CoreAttributeType → Text × (Bool × CoreTy)
core_entry entry = (string_bytes entry.0, core_attribute_of entry.1)

-- some attributes are done, and have in turn the core types that are made
pub record CoredSoFar (all left : List (String Global × AttributeType)) (made : List (String Global × CoreAttributeType)) : Type 0 where
  pub done : List (String Global × AttributeType)
  pub split : all ≡ done ++ left
  pub turn : HoldsPairwise IsCored (map plain_entry done) (map core_entry made)

-- a key is above others whose texts its text is above
above-keys : (name : Text) (key : String Global) (made : List (String Global × CoreAttributeType)) → string_bytes key ≡ name
    → AllByRecursion (λ other. text_cmp name other ≡ Greater) (map (λ entry. string_bytes entry.0) made)
    → AllByRecursion (λ other. string_cmp key other ≡ Greater) (keys_of made)
above-keys name key [] same all = tt
above-keys name key (first ∷ rest) same all = (rw same all.0, above-keys name key rest same all.1)

module _ (all : List (String Global × AttributeType)) (item : String Global × AttributeType)
    (rest : List (String Global × AttributeType)) (made : List (String Global × CoreAttributeType))
    (so_far : CoredSoFar all (item ∷ rest) made) where
  -- a fault of the type of the next is one of all
  pub cored-fault : (given : CoreTypeFault) → IsCoreFault (ty_of (out-AttributeType item.1).attr_type.value) given
      → IsFieldsFault (fields_from (plain_attributes all)) given
  cored-fault given stands =
      let at : IsCoreFault (attribute_of item.1).1 given =
      rw (ap (λ both. both.1) (attribute_of-parts item.1)) stands in
      rw (ap plain_attributes so_far.split ∙ map-append plain_entry so_far.done (item ∷ rest)) (fault-middle (map plain_entry so_far.done) (plain_entry item) (map plain_entry rest) given at)

  -- the names that are done are those that are made
  done_names : entry_texts so_far.done ≡ map (λ entry. string_bytes entry.0) made
  done_names =
      sym (map-map (λ (entry : Text × (Bool × Ty)). entry.0) plain_entry so_far.done)
      ∙ (cored-names (map plain_entry so_far.done) (map core_entry made) so_far.turn
      ∙ map-map (λ (entry : Text × (Bool × CoreTy)). entry.0) core_entry made)

  -- the next name is above all that are made
  next-above : AreSortedByName all → (key : String Global) → string_bytes key ≡ string_bytes item.0
      → AllByRecursion (λ other. string_cmp key other ≡ Greater) (keys_of made)
  next-above up key same =
      let text : String Global × AttributeType → Text = λ entry. string_bytes entry.0 in
      let sorted =
      rw (ap entry_texts so_far.split ∙ map-append text so_far.done (item ∷ rest)) at up in
      above-keys (string_bytes item.0) key made same
      (rw done_names at (above_front text_cmp-total (entry_texts so_far.done) (string_bytes item.0) (entry_texts rest) sorted))

  -- one more is done, and goes to the end of the map
  pub cored-next : AreSortedByName all → (key : String Global) (attribute : CoreAttributeType) → string_bytes key ≡ string_bytes item.0
      → attribute.required ≡ (out-AttributeType item.1).is_required
      → core_of (ty_of (out-AttributeType item.1).attr_type.value) ≡ Some (core_ty_of attribute.attr_type)
      → CoredSoFar all rest (insert_entry string_cmp made key attribute)
  cored-next up key attribute same flag core =
      let own = attribute_of-parts item.1 in
      let other = core_attribute_of-parts attribute in
      let one : IsCored (plain_entry item) (core_entry (key, attribute)) = (
        sym same,
        ap (λ both. both.0) own ∙ (sym flag ∙ ap (λ both. both.0) (sym other)),
        ap (λ both. core_of both.1) own ∙ (core ∙ ap (λ both. Some both.1) (sym other)),
      ) in
      rw (insert_entry-end string_cmp made key attribute (next-above up key same)) (record {
        done = so_far.done ++ item ∷ [];
        split = so_far.split ∙ sym (append_assoc so_far.done (item ∷ []) rest);
        turn =
            rw (map-append plain_entry so_far.done (item ∷ []), map-append core_entry made ((key, attribute) ∷ [])) (cored-more (map plain_entry so_far.done) (map core_entry made) (plain_entry item) (core_entry (key, attribute)) so_far.turn one);
      })

-- at last all are done
pub cored-last : (all : List (String Global × AttributeType)) (made : List (String Global × CoreAttributeType))
    → CoredSoFar all [] made → core_fields (fields_from (plain_attributes all)) ≡ Some (core_fields_from (map core_entry made))
cored-last all made so_far =
    ap (λ items. core_fields (fields_from (plain_attributes items))) (so_far.split ∙ append-nil so_far.done)
    ∙ cored-fields (map plain_entry so_far.done) (map core_entry made) so_far.turn
