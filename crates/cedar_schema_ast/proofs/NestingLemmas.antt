-- How deep types are nested, by their parts.
use Rattle.std.proofs.Common.{◌≡◌, ◌↔◌, ◌≤◌, ◌+◌, ℕ, max, List, [], ◌∷◌, map, Option, ap, sym, subst, ◌∙◌, arith, rules}
use Rattle.std.proofs.lemmas.Simd.{map-map}
use Rattle.std.specs.declared.alloc.Global.{Global}
use Rattle.std.specs.declared.boxed.Box.{Box}
use Rattle.std.specs.declared.string.String.{String}
use Rattle.cedar_schema_ast.specs.Words.{CommonTypeRef, Loc, Plain, Record, RecordType, Set, «Type», TypeOfAttribute, TypeVariant, attribute_nesting, attribute_nesting_step, fold_out-RecordType, fold_out-TypeOfAttribute, greatest, out-RecordType, out-TypeOfAttribute, record_nesting, record_nesting_step, the_lemmas, type_nesting, type_nesting_step, variant_nesting, variant_nesting_step}

module _ (N : Type 0) where
  -- a type variant is as deep as itself, wherever it was written
  pub nesting-Plain : (ty : TypeVariant N) (loc : Option Loc) → type_nesting N (Plain ty loc) ≡ variant_nesting N ty
  nesting-Plain ty loc = search (rules, the_lemmas)

  -- a set is one level more than the type of its elements
  pub nesting-Set : (element : Box («Type» N) Global) → variant_nesting N (Set element) ≡ 1 + type_nesting N element.value
  nesting-Set element = search (rules, the_lemmas)

  -- a record is one level more than its attributes
  pub nesting-Record : (it : RecordType N) → variant_nesting N (Record it) ≡ 1 + record_nesting N it
  nesting-Record it = search (rules, the_lemmas)

  -- attributes by name
  abbrev Entries : Type 0
  Entries = List (String Global × TypeOfAttribute N)

  -- how deep the deepest of some attributes is
  abbrev pub entries_nesting : Entries → ℕ
  entries_nesting entries = greatest (map (λ entry. attribute_nesting N entry.1) entries)

  -- a record type is as deep as the deepest of its attributes
  pub nesting-entries : (it : RecordType N) → record_nesting N it ≡ entries_nesting (out-RecordType N it).attributes.entries
  nesting-entries it =
      fold_out-RecordType N ℕ ℕ ℕ ℕ (type_nesting_step N) (variant_nesting_step N) (record_nesting_step N)
      (attribute_nesting_step N) it
      ∙ ap greatest (map-map _ _ _)

  -- an attribute is as deep as its type
  pub nesting-attribute : (it : TypeOfAttribute N) → attribute_nesting N it ≡ type_nesting N (out-TypeOfAttribute N it).ty
  nesting-attribute it =
      fold_out-TypeOfAttribute N ℕ ℕ ℕ ℕ (type_nesting_step N) (variant_nesting_step N) (record_nesting_step N)
      (attribute_nesting_step N) it

  -- a record type is within some levels exactly where what is left of its attributes is
  abbrev pub WithinByRest : RecordType N → ℕ → Entries → Type 0
  WithinByRest it levels left = (record_nesting N it ≤ levels) ↔ (entries_nesting left ≤ levels)

  -- before the first attribute all of them decide
  pub within_all : (it : RecordType N) (levels : ℕ) (left : Entries) → (out-RecordType N it).attributes.entries ≡ left → WithinByRest it levels left
  within_all it levels left is =
      let same : record_nesting N it ≡ entries_nesting left = nesting-entries it ∙ ap entries_nesting is in
      (λ le. subst (λ n. n ≤ levels) same le, λ le. subst (λ n. n ≤ levels) (sym same) le)

  -- the attributes from one on are as deep as it or as the others
  deeper : (name : String Global) (attribute : TypeOfAttribute N) (left rest : Entries) → left ≡ (name, attribute) ∷ rest
      → entries_nesting left ≡ max (type_nesting N (out-TypeOfAttribute N attribute).ty) (entries_nesting rest)
  deeper name attribute left rest is =
      ap entries_nesting is ∙ ap (λ n. max n (entries_nesting rest)) (nesting-attribute attribute)

  -- after an attribute that is within, the others decide
  pub within_rest : (it : RecordType N) (levels : ℕ) (name : String Global) (attribute : TypeOfAttribute N) (left rest : Entries)
      → left ≡ (name, attribute) ∷ rest → type_nesting N (out-TypeOfAttribute N attribute).ty ≤ levels
      → WithinByRest it levels left → WithinByRest it levels rest
  within_rest it levels name attribute left rest is within decided =
      let deep = deeper name attribute left rest is in (
        λ le. omega (arith, decided.0 le, deep),
        λ le. decided.1 (omega (arith, le, within, deep)),
      )

  -- where an attribute isn't within, the record isn't
  pub not_within : (it : RecordType N) (levels : ℕ) (name : String Global) (attribute : TypeOfAttribute N) (left rest : Entries)
      → left ≡ (name, attribute) ∷ rest → ¬ (type_nesting N (out-TypeOfAttribute N attribute).ty ≤ levels)
      → WithinByRest it levels left → ¬ (record_nesting N it ≤ levels)
  not_within it levels name attribute left rest is without decided le =
      without (omega (arith, decided.0 le, deeper name attribute left rest is))

  -- where none is left, the record is
  pub within_none : (it : RecordType N) (levels : ℕ) (left : Entries) → left ≡ [] → WithinByRest it levels left → record_nesting N it ≤ levels
  within_none it levels left nothing decided = decided.1 (omega (arith, ap entries_nesting nothing))
