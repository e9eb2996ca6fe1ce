-- Locations that stay where names come to be resolved.
use Rattle.std.proofs.Common.{◌≡◌, Option, List, [], ◌∷◌, ◌++◌, ap, sym, ◌∙◌, refl, rules}
use Rattle.std.proofs.lemmas.List.Folds.{flat_map-map}
use Rattle.std.specs.List.{flat_map}
use Rattle.std.specs.declared.alloc.Global.{Global}
use Rattle.std.specs.declared.boxed.Box.{Box}
use Rattle.std.specs.declared.string.String.{String}
use Rattle.cedar_fragments.specs.Words.{Boolean, CommonTypeRef, EntityOrCommon, Extension, HoldsPairwise, InternalName, Loc, Locs, Long, Plain, Record, RecordType, Set, «Type», TypeOfAttribute, TypeVariant, UnreservedId, attribute_locs, attribute_locs_step, fold-roll-RecordType, fold_out-RecordType, fold_out-TypeOfAttribute, no_locs, out-RecordType, out-TypeOfAttribute, record_locs, record_locs_step, roll-RecordType, the_lemmas, type_locs, type_locs_step, variant_locs, variant_locs_step}
use Rattle.cedar_name_resolution.proofs.Pairwise.{SameKey}
use Rattle.cedar_schema_ast.specs.declared.json_schema.type_of.Type.TheOpen as layer
use Rattle.cedar_schema_ast.specs.declared.json_schema.type_of.TypeVariant.{String as text, Entity}

-- in some names no locations are looked at
pub none_in_names : {N : Type 0} (names : List N) → flat_map no_locs names ≡ []
none_in_names [] = refl
none_in_names (name ∷ names) = none_in_names names

-- what is kept behind names is kept behind others
pub kept_beside_names : {M N : Type 0} (made others : List M) (names more : List N) {kept locs : Locs} → kept ≡ locs
    → flat_map no_locs made ++ flat_map no_locs others ++ kept ≡ flat_map no_locs names ++ flat_map no_locs more ++ locs
kept_beside_names made others names more same =
    λ i. (none_in_names made ∙ sym (none_in_names names)) i ++ (none_in_names others ∙ sym (none_in_names more)) i ++ same i

module _ {N : Type 0} where
  -- a type keeps its locations
  abbrev pub KeepsType : «Type» N → «Type» InternalName → Type 0
  KeepsType ty made = type_locs InternalName no_locs made ≡ type_locs N no_locs ty

  -- a type variant does
  abbrev pub KeepsVariant : TypeVariant N → TypeVariant InternalName → Type 0
  KeepsVariant ty made = variant_locs InternalName no_locs made ≡ variant_locs N no_locs ty

  -- an attribute does
  abbrev pub KeepsAttribute : TypeOfAttribute N → TypeOfAttribute InternalName → Type 0
  KeepsAttribute it made = attribute_locs InternalName no_locs made ≡ attribute_locs N no_locs it

  -- a type variant keeps them at its location
  pub keeps_plain : (ty : TypeVariant N) (made : TypeVariant InternalName) (loc : Option Loc) → KeepsVariant ty made
      → KeepsType (Plain ty loc) (Plain made loc)
  keeps_plain ty made loc kept =
      let here : type_locs InternalName no_locs (Plain made loc) ≡ loc ∷ variant_locs InternalName no_locs made = search (rules, the_lemmas) in
      let there : type_locs N no_locs (Plain ty loc) ≡ loc ∷ variant_locs N no_locs ty = search (rules, the_lemmas) in
      here ∙ (ap (λ others. loc ∷ others) kept ∙ sym there)

  -- a reference to a common type has its own location alone
  pub keeps_common : (name : N) (made : InternalName) (loc : Option Loc) → KeepsType (CommonTypeRef name loc) (CommonTypeRef made loc)
  keeps_common name made loc =
      let here : type_locs InternalName no_locs (CommonTypeRef made loc) ≡ loc ∷ [] = search (rules, the_lemmas) in
      let there : type_locs N no_locs (CommonTypeRef name loc) ≡ loc ∷ [] = search (rules, the_lemmas) in
      here ∙ sym there

  -- a set type keeps those of its elements
  pub keeps_set : (element : Box («Type» N) Global) (made : Box («Type» InternalName) Global)
      → KeepsType element.value made.value → KeepsVariant (Set element) (Set made)
  keeps_set element made kept =
      let here : variant_locs InternalName no_locs (Set made) ≡ type_locs InternalName no_locs made.value = search (rules, the_lemmas) in
      let there : variant_locs N no_locs (Set element) ≡ type_locs N no_locs element.value = search (rules, the_lemmas) in
      here ∙ (kept ∙ sym there)

  -- the variant of a record type keeps those of the record type
  pub keeps_record : (it : RecordType N) (made : RecordType InternalName)
      → record_locs InternalName no_locs made ≡ record_locs N no_locs it → KeepsVariant (Record it) (Record made)
  keeps_record it made kept =
      let here : variant_locs InternalName no_locs (Record made) ≡ record_locs InternalName no_locs made = search (rules, the_lemmas) in
      let there : variant_locs N no_locs (Record it) ≡ record_locs N no_locs it = search (rules, the_lemmas) in
      here ∙ (kept ∙ sym there)

  -- where neither has locations, they are kept
  keeps_none : (ty : TypeVariant N) (made : TypeVariant InternalName) → variant_locs InternalName no_locs made ≡ []
      → variant_locs N no_locs ty ≡ [] → KeepsVariant ty made
  keeps_none ty made here there = here ∙ sym there

  -- so it is with names
  pub keeps_entity : (name : N) (made : InternalName) → KeepsVariant (Entity name) (Entity made)
  keeps_entity name made = keeps_none (Entity name) (Entity made) (search (rules, the_lemmas)) (search (rules, the_lemmas))

  pub keeps_either : (name : N) (made : InternalName) → KeepsVariant (EntityOrCommon name) (EntityOrCommon made)
  keeps_either name made = keeps_none (EntityOrCommon name) (EntityOrCommon made) (search (rules, the_lemmas)) (search (rules, the_lemmas))

module _ (N : Type 0) where
  -- with texts, whole numbers and truth values
  pub keeps_text : KeepsVariant {N = N} text text
  keeps_text = keeps_none text text (search (rules, the_lemmas)) (search (rules, the_lemmas))

  pub keeps_long : KeepsVariant {N = N} Long Long
  keeps_long = keeps_none Long Long (search (rules, the_lemmas)) (search (rules, the_lemmas))

  pub keeps_truth : KeepsVariant {N = N} Boolean Boolean
  keeps_truth = keeps_none Boolean Boolean (search (rules, the_lemmas)) (search (rules, the_lemmas))

  -- and with extension types
  pub keeps_extension : (name : UnreservedId) → KeepsVariant {N = N} (Extension name) (Extension name)
  keeps_extension name = keeps_none (Extension name) (Extension name) (search (rules, the_lemmas)) (search (rules, the_lemmas))

-- the locations in some attributes
abbrev attributes_locs : (N : Type 0) → List (String Global × TypeOfAttribute N) → Locs
attributes_locs N entries = flat_map (λ entry. attribute_locs N no_locs entry.1) entries

module _ {N : Type 0} where
  -- an attribute keeps them where its type does, at its location
  pub keeps_attribute : (it : TypeOfAttribute N) (made : TypeOfAttribute InternalName)
      → (out-TypeOfAttribute InternalName made).loc ≡ (out-TypeOfAttribute N it).loc
      → KeepsType (out-TypeOfAttribute N it).ty (out-TypeOfAttribute InternalName made).ty → KeepsAttribute it made
  keeps_attribute it made loc kept =
      fold_out-TypeOfAttribute InternalName Locs Locs Locs Locs (type_locs_step InternalName no_locs) (variant_locs_step InternalName no_locs)
      (record_locs_step InternalName no_locs) (attribute_locs_step InternalName no_locs) made
      ∙ ((λ i. loc i ∷ kept i)
      ∙ sym (fold_out-TypeOfAttribute N Locs Locs Locs Locs (type_locs_step N no_locs)
      (variant_locs_step N no_locs) (record_locs_step N no_locs) (attribute_locs_step N no_locs) it))

  -- attributes keep them in turn
  keep_pairwise : (all : List (String Global × TypeOfAttribute N)) (made : List (String Global × TypeOfAttribute InternalName))
      → HoldsPairwise (SameKey KeepsAttribute) all made → attributes_locs InternalName made ≡ attributes_locs N all
  keep_pairwise [] [] turn = refl
  keep_pairwise (entry ∷ all) (other ∷ made) turn = λ i. turn.0.1 i ++ keep_pairwise all made turn.1 i
  keep_pairwise _ _ turn = absurd turn

  -- a record type that is made of such attributes keeps them
  pub keep_attributes : (written : RecordType N)
      (it : layer.RecordType-F InternalName («Type» InternalName) (TypeVariant InternalName) (RecordType InternalName) (TypeOfAttribute InternalName))
      → HoldsPairwise (SameKey KeepsAttribute) (out-RecordType N written).attributes.entries it.attributes.entries
      → record_locs InternalName no_locs (roll-RecordType InternalName it) ≡ record_locs N no_locs written
  keep_attributes written it turn =
      let all = (out-RecordType N written).attributes.entries in
      fold-roll-RecordType InternalName Locs Locs Locs Locs (type_locs_step InternalName no_locs) (variant_locs_step InternalName no_locs)
      (record_locs_step InternalName no_locs) (attribute_locs_step InternalName no_locs) it
      ∙ (flat_map-map (λ entry. entry.1) (λ entry. (entry.0, attribute_locs InternalName no_locs entry.1)) it.attributes.entries
      ∙ (keep_pairwise all it.attributes.entries turn
      ∙ sym (fold_out-RecordType N Locs Locs Locs Locs (type_locs_step N no_locs) (variant_locs_step N no_locs)
      (record_locs_step N no_locs) (attribute_locs_step N no_locs) written
      ∙ flat_map-map (λ entry. entry.1) (λ entry. (entry.0, attribute_locs N no_locs entry.1)) all)))
