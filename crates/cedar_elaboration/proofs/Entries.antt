-- Maps and sets by what their keys stand for.
use Rattle.std.proofs.Common.{◌≡◌, ◌⊎◌, ◌↔◌, Bool, true, false, cond, List, [], ◌∷◌, map, Some, None, ap, sym, ◌∙◌, refl, inl, inr, Contains, arith}
use Rattle.std.proofs.lemmas.Bool.{false≢true}
use Rattle.std.proofs.lemmas.Map.Made.{is_some-lookup}
use Rattle.std.proofs.lemmas.Simd.{map-map}
use Rattle.std.specs.BTreeMap.{is_at, insert_entry}
use Rattle.std.specs.Bool.{Decides}
use Rattle.std.specs.Cmp.{Equal-is}
use Rattle.std.specs.List.{list_any}
use Rattle.std.specs.Map.{keys_of, lookup}
use Rattle.std.specs.Option.{is_some, unwrap_or}
use Rattle.std.specs.Ordering.{is_eq, match_ordering}
use Rattle.std.specs.declared.cmp.Ordering.{Ordering}
use Rattle.std.specs.declared.cmp.Ordering.TheVariants.{Less, Equal, Greater}
use Rattle.cedar_ast.proofs.Lists.{Contains-cons, Contains-cons_cases, list_any-Contains}

-- entries as their keys and values are seen
abbrev pub seen : {K V P W : Type 0} → (K → P) → (V → W) → List (K × V) → List (P × W)
seen f g entries = map (λ entry. (f entry.0, g entry.1)) entries

-- the names under which entries are seen
pub seen_names : {K V P W : Type 0} (f : K → P) (g : V → W) (entries : List (K × V))
    → map (λ it. it.0) (seen f g entries) ≡ map f (keys_of entries)
seen_names f g entries = map-map _ _ entries ∙ sym (map-map _ _ entries)

-- keys that tie exactly where they stand for the same
module _ {K P : Type 0} (R : K → K → Ordering) (f : K → P) (tie : (a b : K) → (R a b ≡ Equal) ↔ (f a ≡ f b)) where
  -- a look-up finds a key exactly where one stands for the same
  pub found-Decides : (keys : List K) (key : K) → Decides (list_any (is_at (R key)) keys) (Contains (map f keys) (f key))
  found-Decides keys key =
      list_any-Contains f (f key) (is_at (R key))
      (λ other. (
        λ e. sym ((tie key other).0 ((Equal-is (R key other)).0 e)),
        λ same. ap is_eq ((tie key other).1 (sym same)),
      )) keys

  module _ {V W : Type 0} (g : V → W) where
    -- what a look-up finds stands under what the key stands for
    pub looked_up : (entries : List (K × V)) (key : K) (value : V) → Some value ≡ lookup (is_at (R key)) entries
        → Contains (seen f g entries) (f key, g value)
    looked_up [] key value found = cc
    looked_up (entry ∷ entries) key value found = by_test (is_at (R key) entry.0) refl (looked_up entries key value) found
      where
        by_test : (test : Bool) → is_at (R key) entry.0 ≡ test
            → (Some value ≡ lookup (is_at (R key)) entries → Contains (seen f g entries) (f key, g value))
            → Some value ≡ cond test (Some entry.1) (lookup (is_at (R key)) entries)
            → Contains (seen f g (entry ∷ entries)) (f key, g value)
        by_test true is rest here =
            let name : f entry.0 ≡ f key = sym ((tie key entry.0).0 ((Equal-is (R key entry.0)).0 is)) in
            let same : g entry.1 ≡ g value = ap g (sym (ap (λ each. unwrap_or each value) here)) in
            Contains-cons (f entry.0, g entry.1) (seen f g entries) (f key, g value) (inl (λ i. (name i, same i)))
        by_test false is rest later = Contains-cons (f entry.0, g entry.1) (seen f g entries) (f key, g value) (inr (rest later))

    -- where a look-up finds nothing, nothing stands under what the key stands for
    pub not_found : (entries : List (K × V)) (key : K) → None ≡ lookup (is_at (R key)) entries
        → ¬ Contains (map (λ it. it.0) (seen f g entries)) (f key)
    not_found entries key nothing among =
        let found : list_any (is_at (R key)) (keys_of entries) ≡ true =
        (found-Decides (keys_of entries) key).1 (rw (seen_names f g entries) at among) in
        false≢true (ap is_some nothing ∙ (is_some-lookup (is_at (R key)) entries ∙ found))

    -- what stands in a map after an insertion is new or stood there
    pub inserted_cases : (entries : List (K × V)) (key : K) (value : V) (item : P × W)
        → Contains (seen f g (insert_entry R entries key value)) item
        → Contains (seen f g entries) item ⊎ ((f key, g value) ≡ item)
    inserted_cases [] key value item among = elim (Contains-cons_cases (f key, g value) [] item among) [ inl same ↦ inr same | inr none ↦ inl none ]
    inserted_cases (entry ∷ entries) key value item among =
        placed (R key entry.0) refl among (inserted_cases entries key value item)
      where
        placed : (answer : Ordering) → R key entry.0 ≡ answer
            → Contains (seen f g (match_ordering answer ((key, value) ∷ entry ∷ entries) ((entry.0, value) ∷ entries)
            (entry ∷ insert_entry R entries key value))) item
            → (Contains (seen f g (insert_entry R entries key value)) item
            → Contains (seen f g entries) item ⊎ ((f key, g value) ≡ item))
            → Contains (seen f g (entry ∷ entries)) item ⊎ ((f key, g value) ≡ item)
        placed Less is there later = elim (Contains-cons_cases (f key, g value) (seen f g (entry ∷ entries)) item there) [
          | inl same ↦ inr same
          | inr others ↦ inl others
        ]
        placed Equal is there later =
            let same_name : f key ≡ f entry.0 = (tie key entry.0).0 is in
            elim (Contains-cons_cases (f entry.0, g value) (seen f g entries) item there) [
              | inl same ↦ inr ((λ i. (same_name i, g value)) ∙ same)
              | inr others ↦ inl (Contains-cons (f entry.0, g entry.1) (seen f g entries) item (inr others))
            ]
        placed Greater is there later =
            elim (Contains-cons_cases (f entry.0, g entry.1) (seen f g (insert_entry R entries key value)) item there) [
              | inl same ↦ inl (Contains-cons (f entry.0, g entry.1) (seen f g entries) item (inl same))
              | inr others ↦ elim (later others) [
                | inl old ↦ inl (Contains-cons (f entry.0, g entry.1) (seen f g entries) item (inr old))
                | inr new ↦ inr new
              ]
            ]

    -- the names after an insertion are those before it and the new one
    pub inserted_names : (entries : List (K × V)) (key : K) (value : V) (name : P)
        → Contains (map f (keys_of entries)) name ⊎ (f key ≡ name)
        → Contains (map f (keys_of (insert_entry R entries key value))) name
    inserted_names [] key value name among =
        elim among [ inl none ↦ absurd (omega (arith, none.1)) | inr same ↦ Contains-cons (f key) [] name (inl same) ]
    inserted_names (entry ∷ entries) key value name among =
        placed (R key entry.0) refl (inserted_names entries key value name)
      where
        placed : (answer : Ordering) → R key entry.0 ≡ answer
            → (Contains (map f (keys_of entries)) name ⊎ (f key ≡ name)
            → Contains (map f (keys_of (insert_entry R entries key value))) name)
            → Contains (map f (keys_of (match_ordering answer ((key, value) ∷ entry ∷ entries) ((entry.0, value) ∷ entries)
            (entry ∷ insert_entry R entries key value)))) name
        placed Less is later =
            Contains-cons (f key) (map f (keys_of (entry ∷ entries))) name (elim among [ inl old ↦ inr old | inr same ↦ inl same ])
        placed Equal is later = elim among [
          | inl old ↦ old
          | inr same ↦ Contains-cons (f entry.0) (map f (keys_of entries)) name (inl (sym ((tie key entry.0).0 is) ∙ same))
        ]
        placed Greater is later =
            Contains-cons (f entry.0) (map f (keys_of (insert_entry R entries key value))) name
            (elim among [
              | inl old ↦ elim (Contains-cons_cases (f entry.0) (map f (keys_of entries)) name old) [
                | inl here ↦ inl here
                | inr there ↦ inr (later (inl there))
              ]
              | inr same ↦ inr (later (inr same))
            ])

    -- a map has a key exactly where something stands under what the key stands for
    pub found_name : (entries : List (K × V)) (key : K) (found : Bool) → found ≡ is_some (lookup (is_at (R key)) entries)
        → Decides found (Contains (map (λ it. it.0) (seen f g entries)) (f key))
    found_name entries key found is =
        rw (seen_names f g entries, is, is_some-lookup (is_at (R key)) entries) (found-Decides (keys_of entries) key)
