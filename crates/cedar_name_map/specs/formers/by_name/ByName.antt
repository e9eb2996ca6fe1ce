-- How `ByName` holds its values, so that a type may be recursive through it.
use mathlib.Core.Path.{◌≡◌, refl, sym, ap, subst, ◌∙◌}
use mathlib.Core.List.{List, [], ◌∷◌, map}
use mathlib.Core.Former.{Former, Count, Row, this, const, pair, list, list_count, list_put, via, such, children}
use Prim.Native.Nat.{ℕ, max}
use denote.RattleType.{RattleType}
use denote.HoleLaws.{Alike}
use denote.HolePlaces.{Recodes, struct_places, struct_Codes, laid, stays}
use denote.Hole.Carrier.{listed}
use denote.Param.Nested.{deepest}
use denote.Param.Weighed.{Weighed, most, none_max, List-puts, w_pair, w_const}
use denote.Struct.Tuple.{Tuple, tuple_type}
use Rattle.std.specs.Cmp.Derive.Mapped.{pointwise-map, lex_map, slice_partial_cmp-map, items_map}
use Rattle.std.specs.Cmp.Lexicographic.{pointwise, slice_cmp, slice_partial_cmp}
use Rattle.std.specs.Hash.{HashWrites, slice}
use Rattle.std.specs.List.Sorted.{IsStrictlySortedBy}
use Rattle.std.specs.Prelude.{Bool, Option, string_bytes}
use Rattle.std.specs.contracts.alloc.Global as heap
use Rattle.std.specs.contracts.impls.GlobalAllocator.TheImpl.{ghosts}
use Rattle.std.specs.contracts.string.String as string
use Rattle.std.specs.declared.alloc.Global.{Global}
use Rattle.std.specs.declared.cmp.Ordering.{Ordering}
use Rattle.std.specs.declared.string.String.{String}
use Rattle.std.specs.formers.vec.Vec as vec
use Rattle.cedar_ast.specs.Text.{text_cmp}
use Rattle.cedar_name_map.specs.ByName.{entry_texts, AreSortedByName, AreSortedByName-prop}
use Rattle.cedar_name_map.specs.contracts.by_name.ByName as C
use Rattle.cedar_name_map.specs.declared.by_name.ByName.{ByName}

-- a name beside what g holds
abbrev entry : Former {0} → Former {0}
entry g = pair (const (String Global)) g

-- a pair whose value is seen by h
abbrev seen : {X Y : Type 0} → (X → Y) → String Global × X → String Global × Y
seen h one = (one.0, h one.1)

-- seeing the values leaves the names
pub texts-seen : {X Y : Type 0} (h : X → Y) (entries : List (String Global × X))
    → entry_texts (map (seen h) entries) ≡ entry_texts entries
texts-seen h [] = refl
texts-seen h (first ∷ rest) = ap (λ texts. string_bytes first.0 ∷ texts) (texts-seen h rest)

-- pairs that are sorted without duplicates do whatever is seen in their values
pub AreSortedByName-seen : {X Y : Type 0} (h : X → Y) (entries : List (String Global × X))
    → AreSortedByName entries
    → AreSortedByName (map (seen h) entries)
AreSortedByName-seen h entries = subst (IsStrictlySortedBy text_cmp) (sym (texts-seen h entries))

-- and where what is seen is sorted, so do they
pub AreSortedByName-unseen : {X Y : Type 0} (h : X → Y) (entries : List (String Global × X))
    → AreSortedByName (map (seen h) entries)
    → AreSortedByName entries
AreSortedByName-unseen h entries = subst (IsStrictlySortedBy text_cmp) (texts-seen h entries)

-- a vector of pairs
abbrev pairs_of : Former {0} → Former {0}
pairs_of g = vec.the_former (entry g) Global

-- a vector of pairs whose names are sorted without duplicates
abbrev ascending_pairs : Former {0} → Former {0}
ascending_pairs g =
    such (pairs_of g) (λ X held. AreSortedByName held.items) (λ held. AreSortedByName held.items)
    (λ X held. AreSortedByName-prop held.items) (λ held. AreSortedByName-prop held.items)
    (λ X held. AreSortedByName-seen (g.shape X) held.items) (λ X held.
    AreSortedByName-unseen (g.shape X) held.items)

-- a `ByName` is such a vector
abbrev pub the_former : Former {0} → Former {0}
the_former g =
    via (ascending_pairs g) (λ X. ByName (g.Of X)) (λ X all. (all.entries, all.sorted_by_name))
    (λ X both. record { entries = both.0; sorted_by_name = both.1 }) (λ X all. refl) (λ X both.
    refl)

-- a name adds nothing to the measure of a pair
most-values : {Y : Type 0} (measure : Y → ℕ) (entries : List (String Global × Y))
    → most (λ one. max 0 (measure one.1)) entries ≡ most (λ one. measure one.1) entries
most-values measure [] = refl
most-values measure (first ∷ rest) =
    λ i. max (sym (none_max (measure first.1)) i) (most-values measure rest i)

-- the measure of pairs is the largest of their values'
pub entries-measured : {g : Former {0}} (w : Weighed g) (X : Type 0) (measure : X → ℕ)
    (entries : List (String Global × g.Of X)) (n : Count) (t : Row X n)
    → deepest measure (list_count (entry g) (map ((entry g).shape X) entries) n)
    (list_put (entry g) X entries n t)
    ≡ max (most (λ one. w.weight X measure one.1) entries) (deepest measure n t)
entries-measured w X measure entries n t =
    List-puts (w_pair (w_const (String Global)) w) X measure entries n t
    ∙ ap (λ a. max a (deepest measure n t)) (most-values (w.weight X measure) entries)

-- the measure of a `ByName` is the largest of its values'
abbrev pub the_weighed : {g : Former {0}} → Weighed g → Weighed (the_former g)
the_weighed w = record {
  weight = λ X measure all. most (λ one. w.weight X measure one.1) all.entries.items;
  puts = λ X measure all. entries-measured w X measure all.entries.items;
}

-- the values, without their names
abbrev pub the_items : (X : Type 0) → ByName X → List X
the_items X all = map (λ one. one.1) all.entries.items

-- the values of pairs are what they hold
pub entries-listed : (X : Type 0) (entries : List (String Global × X))
    → listed _ (children (list (entry this)) X entries) ≡ map (λ one. one.1) entries
entries-listed X [] = refl
entries-listed X (first ∷ rest) = ap (λ values. first.1 ∷ values) (entries-listed X rest)

-- the values of a `ByName` are what it holds
pub the_items_listed : (X : Type 0) (all : ByName X)
    → listed _ (children (the_former this) X all) ≡ the_items X all
the_items_listed X all = entries-listed X all.entries.items

-- the row of names
abbrev text : RattleType
text = string.the_row heap.the_row ghosts

-- two rows, and a function between their values
module _ (R S : RattleType) (h : R.Denot → S.Denot) where
  -- a `ByName` whose values are seen by h
  abbrev over_h : ByName R.Denot → ByName S.Denot
  over_h = (the_former this).map R.Denot S.Denot h

  -- a pair is laid out alike
  entry_places : Alike R S h → Alike (Tuple (text ∷ R ∷ [])) (Tuple (text ∷ S ∷ [])) (seen h)
  entry_places alike = struct_places (tuple_type (text ∷ R ∷ [])) (tuple_type (text ∷ S ∷ []))
      ((λ name. name), (h, tt))
      (seen h) (λ d. refl) refl (stays text, (laid _ _ _ alike, tt))

  -- a `ByName` is laid out alike, and owns and lends the same
  pub the_places : Alike R S h → Alike (C.the_row R) (C.the_row S) over_h
  the_places alike = struct_places (C.the_type R) (C.the_type S) (vec.mapped (seen h), tt) over_h
      (λ d. refl) refl (
        laid _ _ _ (vec.the_places heap.the_row ghosts (Tuple (text ∷ R ∷ []))
            (Tuple (text ∷ S ∷ [])) (seen h) (entry_places alike)),
        tt,
      )

  -- and its code is the same
  pub the_codes_placed : Recodes R S h → Recodes (C.the_row R) (C.the_row S) over_h
  the_codes_placed recodes = struct_Codes (C.the_type R) (C.the_type S)
      (vec.mapped (seen h), tt) over_h (λ d. refl) (
        vec.the_codes_placed heap.the_row ghosts (Tuple (text ∷ R ∷ [])) (Tuple (text ∷ S ∷ []))
            (seen h)
            (struct_Codes (tuple_type (text ∷ R ∷ [])) (tuple_type (text ∷ S ∷ []))
            ((λ name. name), (h, tt)) (seen h) (λ d. refl)
            ((λ name. refl), (recodes, tt))),
        tt,
      )

module _ {X Y : Type 0} (h : X → Y) where
  -- a test of pairs, on what is seen of them
  pub eq-seen : (test : String Global × Y → String Global × Y → Bool)
      (as' bs : List (String Global × X))
      → pointwise test (map (seen h) as') (map (seen h) bs)
      ≡ pointwise (λ p q. test (seen h p) (seen h q)) as' bs
  eq-seen = pointwise-map (seen h)

  -- an order of pairs, on what is seen of them
  pub cmp-seen : (order : String Global × Y → String Global × Y → Ordering)
      (as' bs : List (String Global × X))
      → slice_cmp order (map (seen h) as') (map (seen h) bs)
      ≡ slice_cmp (λ p q. order (seen h p) (seen h q)) as' bs
  cmp-seen = lex_map (seen h)

  -- a partial order of pairs, on what is seen of them
  pub partial_cmp-seen : (order : String Global × Y → String Global × Y → Option Ordering)
      (as' bs : List (String Global × X))
      → slice_partial_cmp order (map (seen h) as') (map (seen h) bs)
      ≡ slice_partial_cmp (λ p q. order (seen h p) (seen h q)) as' bs
  partial_cmp-seen = slice_partial_cmp-map (seen h)

  -- what is fed to a hash of pairs, on what is seen of them
  pub hash-seen : (fed : String Global × Y → HashWrites) (entries : List (String Global × X))
      → slice fed (map (seen h) entries) ≡ slice (λ one. fed (seen h one)) entries
  hash-seen = items_map (seen h)

-- comparisons and hashes of a `ByName` are those of what is seen of its values
pub ruleset naturals = (eq-seen, cmp-seen, partial_cmp-seen, hash-seen)
