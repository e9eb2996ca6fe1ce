-- Copies of types, by their parts, and of the attributes of a record type one after another.
use Rattle.std.proofs.Common.{◌≡◌, Option, List, [], ◌∷◌, ◌++◌, map, ap, sym, subst, ◌∙◌, refl, append_assoc, string_bytes, rules}
use Rattle.std.proofs.lemmas.List.{append-nil, map-append}
use Rattle.std.proofs.lemmas.List.Folds.{flat_map-map}
use Rattle.std.specs.BTreeMap.{insert_entry}
use Rattle.std.specs.List.{AllByRecursion, flat_map}
use Rattle.std.specs.List.Sorted.{IsStrictlySortedBy}
use Rattle.std.specs.Map.{keys_of}
use Rattle.std.specs.String.{string_cmp, string_cmp_total}
use Rattle.std.specs.declared.alloc.Global.{Global}
use Rattle.std.specs.declared.boxed.Box.{Box}
use Rattle.std.specs.declared.cmp.Ordering.TheVariants.{Greater}
use Rattle.std.specs.declared.string.String.{String}
use Rattle.cedar_ast.proofs.Ordered.{above_front, insert_entry-end}
use Rattle.cedar_schema_ast.proofs.ExprLemmas.{flag_and_expr-parts, record_type_expr-entries, record_type_expr-made}
use Rattle.cedar_schema_ast.proofs.VariantLemmas.{type-Plain, variant-Set}
use Rattle.cedar_schema_ast.specs.Words.{HoldsPairwise, IsAttributeCopy, IsRecordCopy, IsTypeCopy, IsVariantCopy, Loc, Locs, Plain, RecordType, Set, «Type», TypeOfAttribute, TypeVariant, attribute_locs, attribute_locs_step, flag_and_expr, fold-roll-RecordType, fold_out-RecordType, fold_out-TypeOfAttribute, members_from, out-RecordType, out-TypeOfAttribute, record_expr, record_locs, record_locs_step, roll-RecordType, set_expr, text_cmp, the_lemmas, type_locs, type_locs_step, variant_locs, variant_locs_step}
use Rattle.cedar_schema_ast.specs.declared.json_schema.type_of.Type.TheOpen as layer

-- a record type that is made of attributes
abbrev pub Made : Type 0 → Type 0
Made N = layer.RecordType-F N («Type» N) (TypeVariant N) (RecordType N) (TypeOfAttribute N)

-- attributes by name
abbrev pub Entries : Type 0 → Type 0
Entries N = List (String Global × TypeOfAttribute N)

module _ (N : Type 0) (locs : N → Locs) where
  -- the locations in a set type are those in the type of the elements
  locs-Set : (element : Box («Type» N) Global) → variant_locs N locs (Set element) ≡ type_locs N locs element.value
  locs-Set element = search (rules, the_lemmas)

  -- a type variant has its own location first
  locs-Plain : (ty : TypeVariant N) (loc : Option Loc) → type_locs N locs (Plain ty loc) ≡ loc ∷ variant_locs N locs ty
  locs-Plain ty loc = search (rules, the_lemmas)

  -- the locations in some attributes
  abbrev entry_locs : Entries N → Locs
  entry_locs entries = flat_map (λ entry. attribute_locs N locs entry.1) entries

  -- the locations in a record type are those in its attributes
  locs-entries : (it : RecordType N) → record_locs N locs it ≡ entry_locs (out-RecordType N it).attributes.entries
  locs-entries it =
      fold_out-RecordType N Locs Locs Locs Locs (type_locs_step N locs) (variant_locs_step N locs) (record_locs_step N locs)
      (attribute_locs_step N locs) it
      ∙ flat_map-map (λ entry. entry.1) (λ entry. (entry.0, attribute_locs N locs entry.1)) (out-RecordType N it).attributes.entries

  -- and so are those in one that is made of them
  locs-made : (it : Made N) → record_locs N locs (roll-RecordType N it) ≡ entry_locs it.attributes.entries
  locs-made it =
      fold-roll-RecordType N Locs Locs Locs Locs (type_locs_step N locs) (variant_locs_step N locs) (record_locs_step N locs)
      (attribute_locs_step N locs) it
      ∙ flat_map-map (λ entry. entry.1) (λ entry. (entry.0, attribute_locs N locs entry.1)) it.attributes.entries

  -- an attribute has its own location first
  locs-attribute : (it : TypeOfAttribute N)
      → attribute_locs N locs it ≡ (out-TypeOfAttribute N it).loc ∷ type_locs N locs (out-TypeOfAttribute N it).ty
  locs-attribute it =
      fold_out-TypeOfAttribute N Locs Locs Locs Locs (type_locs_step N locs) (variant_locs_step N locs) (record_locs_step N locs)
      (attribute_locs_step N locs) it

module _ (N : Type 0) (alike : N → N → Type 0) where
  -- a set type of copied elements is a copy
  pub copied_set : (element copy : Box («Type» N) Global) → IsTypeCopy N alike element.value copy.value
      → IsVariantCopy N alike (Set element) (Set copy)
  copied_set element copy same = (
    λ refer fair. variant-Set N refer copy ∙ (ap set_expr (same.0 refer fair) ∙ sym (variant-Set N refer element)),
    λ locs fair. locs-Set N locs copy ∙ (same.1 locs fair ∙ sym (locs-Set N locs element)),
  )

  -- a variant that is a copy at the same location is a copy
  pub copied_plain : (ty copy : TypeVariant N) (loc : Option Loc) → IsVariantCopy N alike ty copy
      → IsTypeCopy N alike (Plain ty loc) (Plain copy loc)
  copied_plain ty copy loc same = (
    λ refer fair. type-Plain N refer copy loc ∙ (same.0 refer fair ∙ sym (type-Plain N refer ty loc)),
    λ locs fair. locs-Plain N locs copy loc ∙ (ap (λ others. loc ∷ others) (same.1 locs fair) ∙ sym (locs-Plain N locs ty loc)),
  )

  -- an attribute with the same flag and location, and a copy of the type, is a copy
  pub copied_attribute : (it copy : TypeOfAttribute N) → (out-TypeOfAttribute N copy).required ≡ (out-TypeOfAttribute N it).required
      → (out-TypeOfAttribute N copy).loc ≡ (out-TypeOfAttribute N it).loc
      → IsTypeCopy N alike (out-TypeOfAttribute N it).ty (out-TypeOfAttribute N copy).ty → IsAttributeCopy N alike it copy
  copied_attribute it copy required loc same = (
    λ refer fair. flag_and_expr-parts N refer copy
        ∙ ((λ i. (required i, same.0 refer fair i)) ∙ sym (flag_and_expr-parts N refer it)),
    λ locs fair. locs-attribute N locs copy ∙ ((λ i. loc i ∷ same.1 locs fair i) ∙ sym (locs-attribute N locs it)),
  )

  -- an attribute is copied with its name
  abbrev pub IsEntryCopy : String Global × TypeOfAttribute N → String Global × TypeOfAttribute N → Type 0
  IsEntryCopy entry copy = (string_bytes copy.0 ≡ string_bytes entry.0) × IsAttributeCopy N alike entry.1 copy.1

  -- some attributes are copied, and others are left
  pub record CopiedSoFar (all made left : Entries N) : Type 0 where
    pub done : Entries N
    pub split : all ≡ done ++ left
    pub turn : HoldsPairwise IsEntryCopy done made

  -- at first none is copied
  pub copied_none : (all made left : Entries N) → all ≡ left → made ≡ [] → CopiedSoFar all made left
  copied_none all made left same nothing =
      record { done = []; split = same; turn = subst (HoldsPairwise IsEntryCopy []) (sym nothing) tt }

  -- one more is copied with those that are
  turn_more : (done made : Entries N) (entry copy : String Global × TypeOfAttribute N) → HoldsPairwise IsEntryCopy done made
      → IsEntryCopy entry copy → HoldsPairwise IsEntryCopy (done ++ entry ∷ []) (made ++ copy ∷ [])
  turn_more [] [] entry copy turn one = (one, tt)
  turn_more (first ∷ done) (other ∷ made) entry copy turn one = (turn.0, turn_more done made entry copy turn.1 one)
  turn_more _ _ entry copy turn one = absurd turn

  -- the copy of a name that is above others is above their copies
  above_copies : (done made : Entries N) (key copy : String Global) → string_bytes copy ≡ string_bytes key → HoldsPairwise IsEntryCopy done made
      → AllByRecursion (λ other. string_cmp key other ≡ Greater) (keys_of done)
      → AllByRecursion (λ other. string_cmp copy other ≡ Greater) (keys_of made)
  above_copies [] [] key copy same turn above = tt
  above_copies (first ∷ done) (other ∷ made) key copy same turn above = (
    (λ i. text_cmp (same i) (turn.0.0 i)) ∙ above.0,
    above_copies done made key copy same turn.1 above.1,
  )
  above_copies _ _ key copy same turn above = absurd turn

  -- one more is copied, and goes to the end
  pub copied_more : (all made after left rest : Entries N) (key name : String Global) (attribute copy : TypeOfAttribute N)
      → IsStrictlySortedBy string_cmp (keys_of all) → left ≡ (key, attribute) ∷ rest → string_bytes name ≡ string_bytes key
      → IsAttributeCopy N alike attribute copy → after ≡ insert_entry string_cmp made name copy → CopiedSoFar all made left
      → CopiedSoFar all after rest
  copied_more all made after left rest key name attribute copy ordered is same one inserted so_far =
      let split : all ≡ so_far.done ++ (key, attribute) ∷ rest = so_far.split ∙ ap (λ others. so_far.done ++ others) is in
      let sorted : IsStrictlySortedBy string_cmp (keys_of so_far.done ++ key ∷ keys_of rest) =
      subst (IsStrictlySortedBy string_cmp) (ap keys_of split ∙ map-append (λ entry. entry.0) so_far.done ((key, attribute) ∷ rest)) ordered in
      let above = above_copies so_far.done made key name same so_far.turn
      (above_front string_cmp_total (keys_of so_far.done) key (keys_of rest) sorted) in
      let behind : made ++ (name, copy) ∷ [] ≡ after = sym (inserted ∙ insert_entry-end string_cmp made name copy above) in
      record {
        done = so_far.done ++ (key, attribute) ∷ [];
        split = split ∙ sym (append_assoc so_far.done ((key, attribute) ∷ []) rest);
        turn = subst (HoldsPairwise IsEntryCopy (so_far.done ++ (key, attribute) ∷ [])) behind
            (turn_more so_far.done made (key, attribute) (name, copy) so_far.turn (same, one));
      }

  -- where none is left, all are copied
  copied_entries : (all made left : Entries N) → left ≡ [] → CopiedSoFar all made left → HoldsPairwise IsEntryCopy all made
  copied_entries all made left nothing so_far =
      let P : Entries N → Type 0 = λ entries. HoldsPairwise IsEntryCopy entries made in
      subst P (sym (so_far.split ∙ (ap (λ others. so_far.done ++ others) nothing ∙ append-nil so_far.done))) so_far.turn

  -- copied attributes show pairwise the same, and have the same locations
  same_shown : {X : Type 0} (shown : String Global × TypeOfAttribute N → X)
      → ((entry copy : String Global × TypeOfAttribute N) → IsEntryCopy entry copy → shown copy ≡ shown entry)
      → (all made : Entries N) → HoldsPairwise IsEntryCopy all made → map shown made ≡ map shown all
  same_shown shown same [] [] turn = refl
  same_shown shown same (entry ∷ all) (copy ∷ made) turn = λ i. same entry copy turn.0 i ∷ same_shown shown same all made turn.1 i
  same_shown shown same _ _ turn = absurd turn

  same_locs : (locs : N → Locs) → ((entry copy : String Global × TypeOfAttribute N) → IsEntryCopy entry copy
      → attribute_locs N locs copy.1 ≡ attribute_locs N locs entry.1)
      → (all made : Entries N) → HoldsPairwise IsEntryCopy all made → entry_locs N locs made ≡ entry_locs N locs all
  same_locs locs same [] [] turn = refl
  same_locs locs same (entry ∷ all) (copy ∷ made) turn = λ i. same entry copy turn.0 i ++ same_locs locs same all made turn.1 i
  same_locs locs same _ _ turn = absurd turn

  -- a record type whose attributes are all copied is a copy
  pub copied_record : (written : RecordType N) (it : Made N) (left : Entries N)
      → it.additional_attributes ≡ (out-RecordType N written).additional_attributes → left ≡ []
      → CopiedSoFar (out-RecordType N written).attributes.entries it.attributes.entries left
      → IsRecordCopy N alike written (roll-RecordType N it)
  copied_record written it left additional nothing so_far =
      let all = (out-RecordType N written).attributes.entries in
      let made = it.attributes.entries in
      let turn = copied_entries all made left nothing so_far in (
        λ refer fair. record_type_expr-made N refer it
            ∙ ((λ i. record_expr (members_from (same_shown (λ entry. (string_bytes entry.0, flag_and_expr N refer entry.1))
            (λ entry copy one j. (one.0 j, one.1.0 refer fair j)) all made turn i)) (additional i))
            ∙ sym (record_type_expr-entries N refer written)),
        λ locs fair. locs-made N locs it
            ∙ (same_locs locs (λ entry copy one. one.1.1 locs fair) all made turn ∙ sym (locs-entries N locs written)),
      )
