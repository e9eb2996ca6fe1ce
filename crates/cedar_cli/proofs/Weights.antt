-- What the tokens of documents weigh, in whatever order their members stand.
use Rattle.std.proofs.Common.{◌≡◌, ◌+◌, ◌<◌, ◌≤◌, ℕ, zero, suc, refl, sym, ap, ◌∙◌, List, [], ◌∷◌, ◌++◌, drop, length, map, get_or, add-one, arith, drop-cons}
use Rattle.std.proofs.lemmas.List.{drop_all, get_or_default}
use Rattle.std.proofs.lemmas.List.Sorted.{sum_by-IsPermutation}
use Rattle.std.proofs.lemmas.List.Sums.{sum_by-append, sum_by-cons}
use Rattle.std.specs.Borrow.{Bor}
use Rattle.std.specs.List.{All, sum_by}
use Rattle.std.specs.List.Sorted.{IsPermutation}
use Rattle.cedar_cli.specs.SameTokens.{SameTokens}
use Rattle.json.specs.Token.{Token, begin_array, begin_object, end_array, end_object, key}
use Rattle.json.specs.Tree.{HasNumbers, ItemsHaveNumbers, MembersHaveNumbers, items_tokens, json_tokens, members_tokens}
use Rattle.json.specs.Value.{items_view, members_view, value_view}
use Rattle.json.specs.declared.value.Value.{Value}

-- what mapped elements weigh
sum_by-map : {X Y : Type 0} (f : X → Y) (weight : Y → ℕ) (xs : List X) → sum_by weight (map f xs) ≡ sum_by (λ x. weight (f x)) xs
sum_by-map f weight [] = refl
sum_by-map f weight (x ∷ xs) =
    let mapped = sum_by-cons weight (f x) (map f xs) in
    let own = sum_by-cons (λ y. weight (f y)) x xs in
    let rest = sum_by-map f weight xs in
    mapped ∙ omega (arith, rest, own)

-- what one element more weighs
sum_by-push : {X : Type 0} (weight : X → ℕ) (xs : List X) (x : X) → sum_by weight (xs ++ x ∷ []) ≡ sum_by weight xs + weight x
sum_by-push weight xs x =
    let split = sum_by-append weight xs (x ∷ []) in
    let one = sum_by-cons weight x [] in
    let none : sum_by weight [] ≡ 0 = refl in
    omega (arith, split, one, none)

-- what is left to be weighed is nothing at the end
pub all_weighed : {X : Type 0} (weight : X → ℕ) (passed start : ℕ) (xs ys : List X) (i : ℕ) → length xs ≤ i → xs ≡ ys
    → passed + sum_by weight (drop i xs) ≡ start + sum_by weight xs → passed ≡ start + sum_by weight ys
all_weighed weight passed start xs ys i over same known =
    let rest : sum_by weight (drop i xs) ≡ 0 = ap (sum_by weight) (drop_all i xs over) in
    let whole = ap (sum_by weight) same in
    omega (arith, known, rest, whole)

module _ {A : Type 0} where
  -- what an item weighs
  abbrev pub item_weight : (Token → ℕ) → Value A → ℕ
  item_weight weight item = sum_by weight (json_tokens (value_view item))

  -- what a member weighs, with its key
  abbrev pub member_weight : (Token → ℕ) → Bor (List ℕ) × Value A → ℕ
  member_weight weight m = weight (key m.0.now) + sum_by weight (json_tokens (value_view m.1))

  -- the tokens of items weigh what the items do, and the closing bracket
  pub items_weigh : (weight : Token → ℕ) (items : List (Value A))
      → sum_by weight (items_tokens (items_view items)) ≡ sum_by (item_weight weight) items + weight end_array
  items_weigh weight [] = refl
  items_weigh weight (item ∷ items) =
      let own = json_tokens (value_view item) in
      let split = sum_by-append weight own (items_tokens (items_view items)) in
      let one = sum_by-cons (item_weight weight) item items in
      let rest = items_weigh weight items in
      split ∙ omega (arith, rest, one)

  -- the tokens of members weigh what the members do, and the closing bracket
  pub members_weigh : (weight : Token → ℕ) (ms : List (Bor (List ℕ) × Value A))
      → sum_by weight (members_tokens (members_view ms)) ≡ sum_by (member_weight weight) ms + weight end_object
  members_weigh weight [] = refl
  members_weigh weight (m ∷ ms) =
      let own = json_tokens (value_view m.1) in
      let tail = members_tokens (members_view ms) in
      let first = sum_by-cons weight (key m.0.now) (own ++ tail) in
      let split = sum_by-append weight own tail in
      let one = sum_by-cons (member_weight weight) m ms in
      let rest = members_weigh weight ms in
      first ∙ omega (arith, split, rest, one)

  -- each item has numbers where all have
  pub item_has : (items : List (Value A)) → ItemsHaveNumbers (items_view items) → (i : ℕ) (d : Value A) → i < length items → HasNumbers (value_view (get_or items i d))
  item_has [] have i d within = absurd (omega arith)
  item_has (item ∷ items) have zero d within = have.0
  item_has (item ∷ items) have (suc i) d within = item_has items have.1 i d (omega arith)

  -- what the writing of a member asks for: its value has numbers, and less tokens than all members
  abbrev pub IsReady : ℕ → Bor (List ℕ) × Value A → Type 0
  IsReady most m = HasNumbers (value_view m.1) × (length (json_tokens (value_view m.1)) < most)

  -- each member has numbers where all have
  pub member_has : (ms : List (Bor (List ℕ) × Value A)) → MembersHaveNumbers (members_view ms) → (i : ℕ) (d : Bor (List ℕ) × Value A) → i < length ms → HasNumbers (value_view (get_or ms i d).1)
  member_has [] have i d within = absurd (omega arith)
  member_has (m ∷ ms) have zero d within = have.0
  member_has (m ∷ ms) have (suc i) d within = member_has ms have.1 i d (omega arith)

  -- what the member at a place weighs, where it is given which index a place has
  abbrev pub place_weight : {P : Type 0} → (P → ℕ) → (Token → ℕ) → List (Bor (List ℕ) × Value A) → P → ℕ
  place_weight at weight [] place = 0
  place_weight at weight (m ∷ ms) place = member_weight weight (get_or (m ∷ ms) (at place) m)

  -- in whatever order the places of members stand, all weigh what the members do
  pub places_weigh : {P : Type 0} (at : P → ℕ) (weight : Token → ℕ) (ms : List (Bor (List ℕ) × Value A)) (places : List P)
      → ((d : Bor (List ℕ) × Value A) → IsPermutation ms (map (λ place. get_or ms (at place) d) places)) → All (λ place. at place < length ms) places
      → sum_by (place_weight at weight ms) places ≡ sum_by (member_weight weight) ms
  places_weigh at weight [] [] moved within = refl
  places_weigh at weight [] (place ∷ places) moved within = absurd (omega (arith, within 0 place (omega arith)))
  places_weigh at weight (m ∷ ms) places moved within =
      sym (sum_by-map (λ place. get_or (m ∷ ms) (at place) m) (member_weight weight) places)
      ∙ sum_by-IsPermutation (member_weight weight) (m ∷ ms) (map (λ place. get_or (m ∷ ms) (at place) m) places) (moved m)

  -- a member that was written, key and value, weighs what its place does
  pub member_more : {P : Type 0} (at : P → ℕ) (weight : Token → ℕ) (ms : List (Bor (List ℕ) × Value A)) (places : List P) (k : ℕ) (none : P)
      (m : Bor (List ℕ) × Value A) (before keyed after : List Token) (whole : ℕ)
      → k < length places → at (get_or places k none) < length ms → m ≡ get_or ms (at (get_or places k none)) m
      → keyed ≡ before ++ key m.0.now ∷ [] → SameTokens after (keyed ++ json_tokens (value_view m.1))
      → sum_by weight before + sum_by (place_weight at weight ms) (drop k places) ≡ whole
      → sum_by weight after + sum_by (place_weight at weight ms) (drop (k + 1) places) ≡ whole
  member_more at weight [] places k none m before keyed after whole here within is keys writes known = absurd (omega arith)
  member_more at weight (first ∷ ms) places k none m before keyed after whole here within is keys writes known =
      let place = get_or places k none in
      let left = ap (sum_by (place_weight at weight (first ∷ ms))) (drop-cons places k none here) in
      let one = sum_by-cons (place_weight at weight (first ∷ ms)) place (drop (suc k) places) in
      let own : place_weight at weight (first ∷ ms) place ≡ member_weight weight m =
      ap (member_weight weight) (get_or_default (first ∷ ms) (at place) first m within ∙ sym is) in
      let split = writes weight ∙ sum_by-append weight keyed (json_tokens (value_view m.1)) in
      let keyed_weight = ap (sum_by weight) keys ∙ sum_by-push weight before (key m.0.now) in
      rw (add-one k) (omega (arith, left, one, own, split, keyed_weight, known))

  -- what is written of items: the opening bracket, what they weigh, and the closing bracket
  pub items_written : (old opened passed new : List Token) (items : List (Value A)) → opened ≡ old ++ begin_array ∷ [] → new ≡ passed ++ end_array ∷ []
      → ((weight : Token → ℕ) → sum_by weight passed ≡ sum_by weight opened + sum_by (item_weight weight) items)
      → SameTokens new (old ++ begin_array ∷ items_tokens (items_view items))
  items_written old opened passed new items opens closes all weight =
      let whole = sum_by-append weight old (begin_array ∷ items_tokens (items_view items)) in
      let first = sum_by-cons weight begin_array (items_tokens (items_view items)) in
      let inner = items_weigh weight items in
      let before = ap (sum_by weight) opens ∙ sum_by-push weight old begin_array in
      let after = ap (sum_by weight) closes ∙ sum_by-push weight passed end_array in
      let middle = all weight in
      omega (arith, whole, first, inner, before, after, middle)

  -- what is written of members: the opening bracket, what they weigh in any order, and the closing
  -- bracket
  pub members_written : {P : Type 0} (at : P → ℕ) (old opened passed new : List Token) (ms : List (Bor (List ℕ) × Value A)) (places : List P)
      → ((d : Bor (List ℕ) × Value A) → IsPermutation ms (map (λ place. get_or ms (at place) d) places)) → All (λ place. at place < length ms) places
      → opened ≡ old ++ begin_object ∷ [] → new ≡ passed ++ end_object ∷ []
      → ((weight : Token → ℕ) → sum_by weight passed ≡ sum_by weight opened + sum_by (place_weight at weight ms) places)
      → SameTokens new (old ++ begin_object ∷ members_tokens (members_view ms))
  members_written at old opened passed new ms places moved within opens closes all weight =
      let whole = sum_by-append weight old (begin_object ∷ members_tokens (members_view ms)) in
      let first = sum_by-cons weight begin_object (members_tokens (members_view ms)) in
      let inner = members_weigh weight ms in
      let ordered = places_weigh at weight ms places moved within in
      let before = ap (sum_by weight) opens ∙ sum_by-push weight old begin_object in
      let after = ap (sum_by weight) closes ∙ sum_by-push weight passed end_object in
      let middle = all weight in
      omega (arith, whole, first, inner, ordered, before, after, middle)
