-- Items by their indices, and names that get indices one after another.
use Rattle.std.proofs.Common.{◌≡◌, ◌⊎◌, ◌+◌, ◌<◌, ℕ, zero, suc, List, [], ◌∷◌, ◌++◌, map, length, take, drop, get_or, Some, Option, ap, sym, subst, ◌∙◌, refl, inl, inr, Contains, arith}
use Rattle.std.proofs.Math.ListN.{length-map}
use Rattle.std.proofs.Math.Seq.{drop-cons}
use Rattle.std.proofs.lemmas.List.{length-take-le, map-append, take-append-drop, take_more}
use Rattle.std.proofs.lemmas.List.Elements.{Contains-append_cases}
use Rattle.std.proofs.lemmas.Option.{slice_get-get_or, slice_get-map}
use Rattle.std.specs.BTreeMap.{insert_entry}
use Rattle.std.specs.Option.{option_map}
use Rattle.std.specs.Prelude.{slice_get}
use Rattle.cedar_ast.proofs.Basics.{Contains-single}
use Rattle.cedar_ast.proofs.Lists.{Contains-cons, Contains-cons_cases}
use Rattle.cedar_ast.proofs.Names.{internal_name_ord-Equal}
use Rattle.cedar_ast.specs.contracts.internal_name.InternalNameOrd.TheImpl as order
use Rattle.cedar_elaboration.proofs.Entries.{inserted_cases, inserted_names, seen, seen_names}
use Rattle.cedar_elaboration.specs.Words.{AreIndices, InternalName, PlainName, Reference, ReferenceType, Twice, «Type», Written, item_names, name_of, written_common, written_expr}
use Rattle.cedar_schema_semantics.proofs.OccurrenceLemmas.{Twice-append, Twice-both}

-- an item stays at its place as others come after
pub slice_get-front : {X : Type 0} (xs ys : List X) (i : ℕ) (x : X) → slice_get xs i ≡ Some x → slice_get (xs ++ ys) i ≡ Some x
slice_get-front [] ys i x is = cc
slice_get-front (y ∷ xs) ys zero x is = is
slice_get-front (y ∷ xs) ys (suc i) x is = slice_get-front xs ys i x is

-- the next item stands at the index after all before it
pub slice_get-next : {X : Type 0} (xs ys : List X) (x : X) → slice_get (xs ++ x ∷ ys) (length xs) ≡ Some x
slice_get-next [] ys x = refl
slice_get-next (y ∷ xs) ys x = slice_get-next xs ys x

-- what stands in a list stands at an index of it
pub index_of : {X : Type 0} (xs : List X) (x : X) → Contains xs x → (i : ℕ) × (slice_get xs i ≡ Some x)
index_of [] x among = absurd (omega (arith, among.1))
index_of (y ∷ xs) x among = elim (Contains-cons_cases y xs x among) [
  | inl here ↦ (zero, ap Some here)
  | inr later ↦ let it = index_of xs x later in (suc it.0, it.1)
]

-- what stands at an index of a list stands in it
pub Contains-at : {X : Type 0} (xs : List X) (i : ℕ) (x : X) → slice_get xs i ≡ Some x → Contains xs x
Contains-at [] i x is = cc
Contains-at (y ∷ xs) zero x is = let same : y ≡ x = cc in Contains-cons y xs x (inl same)
Contains-at (y ∷ xs) (suc i) x is = Contains-cons y xs x (inr (Contains-at xs i x is))

-- where no item stands twice, each has one index
pub index_once : {X : Type 0} (xs : List X) → ((x : X) → ¬ Twice xs x) → (i j : ℕ) (x : X) → slice_get xs i ≡ Some x
    → slice_get xs j ≡ Some x → i ≡ j
index_once [] once i j x is is' = cc
index_once (y ∷ xs) once zero zero x is is' = refl
index_once (y ∷ xs) once zero (suc j) x is is' =
    let same : y ≡ x = cc in absurd (once x (inl (same, Contains-at xs j x is')))
index_once (y ∷ xs) once (suc i) zero x is is' =
    let same : y ≡ x = cc in absurd (once x (inl (same, Contains-at xs i x is)))
index_once (y ∷ xs) once (suc i) (suc j) x is is' = ap suc (index_once xs (λ z twice. once z (inr twice)) i j x is is')

-- a list around one of its items
pub split_at : {X : Type 0} (xs : List X) (i : ℕ) (x : X) → i < length xs → x ≡ get_or xs i x
    → xs ≡ take i xs ++ x ∷ drop (suc i) xs
split_at xs i x within is =
    sym (take-append-drop i xs) ∙ ap (λ rest. take i xs ++ rest)
    (drop-cons xs i x within ∙ ap (λ it. it ∷ drop (suc i) xs) (sym is))

-- each of some names has its place, and none stands twice
pub record NumberedSoFar (names : List PlainName) (indices : List (PlainName × ℕ)) : Type 0 where
  pub numbered : AreIndices names indices
  pub once : (name : PlainName) → ¬ Twice names name

-- the names under which indices stand
abbrev pub indices_seen : List (InternalName × ℕ) → List (PlainName × ℕ)
indices_seen entries = seen name_of (λ item_index. item_index) entries

-- at first there are no names and no indices
pub NumberedSoFar-none : (entries : List (InternalName × ℕ)) → entries ≡ [] → NumberedSoFar [] (indices_seen entries)
NumberedSoFar-none entries nothing =
    rw nothing (record {
      numbered = record {
        each = λ name among. absurd (omega (arith, among.1));
        sound = λ name item_index among. absurd (omega (arith, among.1));
      };
      once = λ name twice. twice;
    })

-- one more name gets the next index
pub NumberedSoFar-more : (names : List PlainName) (entries : List (InternalName × ℕ)) (key : InternalName) (name : PlainName)
    (item_index : ℕ) → name_of key ≡ name → item_index ≡ length names → (¬ Contains (map (λ it. it.0) (indices_seen entries)) name)
    → NumberedSoFar names (indices_seen entries)
    → NumberedSoFar (names ++ name ∷ []) (indices_seen (insert_entry ((order.ghosts).cmp) entries key item_index))
NumberedSoFar-more names entries key name item_index same next absent so_far =
    let cmp = (order.ghosts).cmp in
    let more : List (PlainName × ℕ) = indices_seen (insert_entry cmp entries key item_index) in
    let there : (each : PlainName) → Contains (map (λ it. it.0) (indices_seen entries)) each ⊎ (name_of key ≡ each)
    → Contains (map (λ it. it.0) more) each =
    λ each among. rw (seen_names name_of (λ it. it) (insert_entry cmp entries key item_index))
    (inserted_names cmp name_of internal_name_ord-Equal (λ it. it) entries key item_index each
    (elim among [ inl old ↦ inl (rw (seen_names name_of (λ it. it) entries) at old) | inr new ↦ inr new ])) in
    record {
      numbered = record {
        each = λ each among. elim (Contains-append_cases names (name ∷ []) each among) [
          | inl old ↦ there each (inl (so_far.numbered.each each old))
          | inr new ↦ there each (inr (same ∙ Contains-single name each new))
        ];
        sound = λ each at among. elim (inserted_cases cmp name_of internal_name_ord-Equal (λ it. it) entries key item_index (each, at) among) [
          | inl old ↦ slice_get-front names (name ∷ []) at each (so_far.numbered.sound each at old)
          | inr new ↦
              let StandsAt : ℕ → Type 0 = λ k. slice_get (names ++ name ∷ []) k ≡ Some each in
              let it : name ≡ each = sym same ∙ ap (λ pair. pair.0) new in
              subst StandsAt (sym next ∙ ap (λ pair. pair.1) new) (slice_get-next names [] name ∙ ap Some it)
        ];
      };
      once = λ each twice. elim (Twice-append names (name ∷ []) each twice) [
        | inl old ↦ so_far.once each old
        | inr (inl (inl none)) ↦ omega (arith, none.1.1)
        | inr (inl (inr none)) ↦ none
        | inr (inr both) ↦ absent (so_far.numbered.each name (rw (Contains-single name each both.1) both.0))
      ];
    }

-- a name that has an index stands twice if it comes again
pub repeated_name : (front rest : List PlainName) (name : PlainName) (indices : List (PlainName × ℕ)) → NumberedSoFar front indices
    → Contains (map (λ it. it.0) indices) name → Twice (front ++ name ∷ rest) name
repeated_name front rest name indices so_far among =
    let at = index_of_name indices name among in
    Twice-both front (name ∷ rest) name
    (Contains-at front at.0 name (so_far.numbered.sound name at.0 at.1)) (Contains-cons name rest name (inl refl))
  where
    index_of_name : (entries : List (PlainName × ℕ)) (each : PlainName) → Contains (map (λ it. it.0) entries) each
        → (at : ℕ) × Contains entries (each, at)
    index_of_name [] each none = absurd (omega (arith, none.1))
    index_of_name (entry ∷ entries) each there = elim (Contains-cons_cases entry.0 (map (λ it. it.0) entries) each there) [
      | inl here ↦ (entry.1, Contains-cons entry entries (each, entry.1) (inl (λ i. (here i, entry.1))))
      | inr later ↦ let it = index_of_name entries each later in (it.0, Contains-cons entry entries (each, it.0) (inr it.1))
    ]

-- declared common types over names of some form, where it is given what a name refers to in a
-- namespace at a place of each kind
module _ (N : Type 0) (refer : Option PlainName → ReferenceType → N → Reference) where
  -- the declared common types up to an index, and the one at it
  pub items_more : (declared : List (InternalName × Written («Type» N))) (item_index : ℕ) (item : InternalName × Written («Type» N))
      → item_index < length declared → item ≡ get_or declared item_index item
      → written_common N refer (take (item_index + 1) declared)
      ≡ written_common N refer (take item_index declared) ++ (name_of item.0, written_expr N refer item.1) ∷ []
  items_more declared item_index item within is =
      ap (written_common N refer) (take_more declared item_index item within ∙ ap (λ it. take item_index declared ++ it ∷ []) (sym is))
      ∙ map-append (λ it. (name_of it.0, written_expr N refer it.1)) (take item_index declared) (item ∷ [])

  -- their names, and how many there are before it
  pub names_more : (declared : List (InternalName × Written («Type» N))) (item_index : ℕ) (item : InternalName × Written («Type» N))
      → item_index < length declared → item ≡ get_or declared item_index item
      → (item_names (written_common N refer (take (item_index + 1) declared))
      ≡ item_names (written_common N refer (take item_index declared)) ++ name_of item.0 ∷ [])
      × (item_index ≡ length (item_names (written_common N refer (take item_index declared))))
  names_more declared item_index item within is = (
    ap item_names (items_more declared item_index item within is)
        ∙ map-append (λ it. it.0) (written_common N refer (take item_index declared)) ((name_of item.0, written_expr N refer item.1) ∷ []),
    sym (length-map (written_common N refer (take item_index declared)) (λ it. it.0)
        ∙ (length-map (take item_index declared) (λ it. (name_of it.0, written_expr N refer it.1))
        ∙ length-take-le item_index declared (omega (arith, within)))),
  )

  -- the names of declared common types, around that of one of them
  pub names_split : (declared : List (InternalName × Written («Type» N))) (item_index : ℕ) (item : InternalName × Written («Type» N))
      → item_index < length declared → item ≡ get_or declared item_index item
      → item_names (written_common N refer declared)
      ≡ item_names (written_common N refer (take item_index declared))
      ++ name_of item.0 ∷ item_names (written_common N refer (drop (suc item_index) declared))
  names_split declared item_index item within is =
      ap (λ all. item_names (written_common N refer all)) (split_at declared item_index item within is)
      ∙ (ap item_names (map-append (λ it. (name_of it.0, written_expr N refer it.1)) (take item_index declared) (item ∷ drop (suc item_index) declared))
      ∙ map-append (λ it. it.0) (written_common N refer (take item_index declared)) (written_common N refer (item ∷ drop (suc item_index) declared)))

  -- a declared common type at an index, as plain data
  pub item_at_index : (declared : List (InternalName × Written («Type» N))) (item_index : ℕ) (item : InternalName × Written («Type» N))
      → item_index < length declared → item ≡ get_or declared item_index item
      → slice_get (written_common N refer declared) item_index ≡ Some (name_of item.0, written_expr N refer item.1)
  item_at_index declared item_index item within is =
      slice_get-map (λ it. (name_of it.0, written_expr N refer it.1)) declared item_index
      ∙ ap (option_map (λ it. (name_of it.0, written_expr N refer it.1))) (slice_get-get_or declared item_index item within ∙ ap Some (sym is))
