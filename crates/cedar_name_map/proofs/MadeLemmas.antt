-- What a reversal, a stable sort and a removal of repeats leave of pairs of a name and a value.
use Rattle.std.proofs.Common.{◌≡◌, Bool, true, false, refl, sym, ap, ◌∙◌, List, [], ◌∷◌, ◌++◌, string_bytes, Option, None, Some, if◌then◌else◌, cond, not, ◌&&◌, reverse}
use Rattle.std.proofs.lemmas.Grind.{reverse_onto}
use Rattle.std.proofs.lemmas.List.Kept.{IsStrictlySortedBy-dedup}
use Rattle.std.proofs.lemmas.Map.Entries.{lookup-filter-keys, place_from_lookup}
use Rattle.std.proofs.lemmas.Map.Text.{is_eq-slice_cmp}
use Rattle.std.specs.Cmp.{on_total, tied_itself}
use Rattle.std.specs.Cmp.Lexicographic.{bytes_decides, texts_ties}
use Rattle.std.specs.List.{dedup, dedup_from}
use Rattle.std.specs.List.Sorted.{IsSorted, IsStableBy, ties}
use Rattle.std.specs.Map.{lookup}
use Rattle.std.specs.Option.{option_or}
use Rattle.std.specs.Ordering.{is_lt, is_eq}
use Rattle.std.specs.Str.{bytes_eq}
use Rattle.std.specs.String.{string_eq}
use Rattle.std.specs.declared.alloc.Global.{Global}
use Rattle.std.specs.declared.cmp.Ordering.{Ordering}
use Rattle.std.specs.declared.cmp.Ordering.TheVariants.{Equal}
use Rattle.std.specs.declared.string.String.{String}
use Rattle.cedar_ast.proofs.Ordered.{IsStrictlySortedBy-map}
use Rattle.cedar_ast.proofs.Texts.{text_cmp-total}
use Rattle.cedar_name_map.specs.Words.{AreSortedByName, Text, last_named, text_cmp, value_at, with_texts}

-- one of two, in both spellings
cond-if : {A : Type 0} (b : Bool) (x y : A) → cond b x y ≡ (if b then x else y)
cond-if true x y = refl
cond-if false x y = refl

-- a key that is found has the name
found_named : (name : Text) (key : String Global) → is_eq (text_cmp name (string_bytes key)) ≡ true → name ≡ string_bytes key
found_named name key is =
    (bytes_decides name (string_bytes key)).0 (sym (is_eq-slice_cmp name (string_bytes key)) ∙ is)

-- keys of one name tie
tied : (name : Text) (one other : String Global) → name ≡ string_bytes one → name ≡ string_bytes other
    → (not (is_lt (text_cmp (string_bytes one) (string_bytes other)))
    && not (is_lt (text_cmp (string_bytes other) (string_bytes one)))) ≡ true
tied name one other first second =
    let equal : text_cmp name name ≡ Equal = tied_itself text_cmp-total name in
    (λ i. not (is_lt (text_cmp (sym first i) (sym second i))) && not (is_lt (text_cmp (sym second i) (sym first i))))
    ∙ ap (λ o. not (is_lt o) && not (is_lt o)) equal

module _ {V : Type 0} where
  -- the order of two pairs by their names alone
  abbrev pub texts_cmp : String Global × V → String Global × V → Ordering
  texts_cmp p q = text_cmp (string_bytes p.0) (string_bytes q.0)

  -- whether two pairs have one name
  abbrev pub same_text : String Global × V → String Global × V → Bool
  same_text p q = string_eq p.0 q.0

  -- whether a pair's name is below another's
  abbrev pub text_below : String Global × V → String Global × V → Bool
  text_below p q = is_lt (texts_cmp p q)

  -- the value of a name in one pair and others
  pub value_at-cons : (name : Text) (x : String Global × V) (rest : List (String Global × V)) → value_at name (x ∷ rest)
      ≡ (if bytes_eq name (string_bytes x.0) then Some x.1 else value_at name rest)
  value_at-cons name x rest =
      rw (is_eq-slice_cmp name (string_bytes x.0)) (cond-if (bytes_eq name (string_bytes x.0)) (Some x.1) (value_at name rest))

  -- sorted pairs without repeats are sorted
  pub AreSortedByName-distinct : (xs : List (String Global × V)) → IsSorted texts_cmp xs → AreSortedByName (dedup same_text xs)
  AreSortedByName-distinct xs sorted =
      IsStrictlySortedBy-map texts_cmp text_cmp (λ pair. string_bytes pair.0) (λ a b. refl) (dedup same_text xs)
      (IsStrictlySortedBy-dedup (on_total (λ pair. string_bytes pair.0) text_cmp-total)
      (λ p q. texts_ties (string_bytes p.0) (string_bytes q.0)) xs sorted)

  -- where a pair of the same name goes, what is found stays
  dropped : (same b c : Bool) (v w : V) (rest kept others : Option V) → (same ≡ true → c ≡ b) → kept ≡ cond b (Some v) rest
      → others ≡ cond c (Some w) rest → cond same kept (cond b (Some v) others) ≡ cond b (Some v) (cond c (Some w) rest)
  dropped true true c v w rest kept others alike one two = one
  dropped true false c v w rest kept others alike one two = one ∙ ap (λ d. cond d (Some w) rest) (sym (alike refl))
  dropped false b c v w rest kept others alike one two = ap (cond b (Some v)) two

  lookup-cond : (test : String Global → Bool) (b : Bool) (xs ys : List (String Global × V))
      → lookup test (cond b xs ys) ≡ cond b (lookup test xs) (lookup test ys)
  lookup-cond test true xs ys = refl
  lookup-cond test false xs ys = refl

  lookup-dedup_from : (test : String Global → Bool) → ((k x : String Global) → string_eq x k ≡ true → test x ≡ test k)
      → (k : String Global × V) (xs : List (String Global × V)) → lookup test (dedup_from same_text k xs) ≡ lookup test (k ∷ xs)
  lookup-dedup_from test alike k [] = refl
  lookup-dedup_from test alike k (x ∷ xs) =
      lookup-cond test (same_text x k) (dedup_from same_text k xs) (k ∷ dedup_from same_text x xs)
      ∙ dropped (same_text x k) (test k.0) (test x.0) k.1 x.1 (lookup test xs) _ _ (alike k.0 x.0)
      (lookup-dedup_from test alike k xs) (lookup-dedup_from test alike x xs)

  -- without repeats the value of each name is what it was
  pub value_at-distinct : (name : Text) (xs : List (String Global × V)) → value_at name (dedup same_text xs) ≡ value_at name xs
  value_at-distinct name [] = refl
  value_at-distinct name (x ∷ xs) =
      lookup-dedup_from _ (λ k y same. ap (λ bytes. is_eq (text_cmp name bytes))
      ((bytes_decides (string_bytes y) (string_bytes k)).0 same)) x xs

  -- the pairs of one name, in their order, tell the name's value
  by_ties : (name : Text) (xs ys : List (String Global × V)) → IsStableBy text_below xs ys → (key : String Global) (value : V)
      → is_eq (text_cmp name (string_bytes key)) ≡ true → value_at name ys ≡ value_at name xs
  by_ties name xs ys stable key value passes =
      let ties_with = λ (other : String Global). ties text_below (key, value) (other, value) in
      let kept = λ (pairs : List (String Global × V)).
      lookup-filter-keys _ ties_with true
      (λ other is. tied name key other (found_named name key passes) (found_named name other is)) pairs in
      sym (kept ys) ∙ (ap (value_at name) (stable (key, value)) ∙ kept xs)

  stays : (name : Text) (xs ys : List (String Global × V)) → IsStableBy text_below xs ys → (o p : Option V)
      → value_at name ys ≡ o → value_at name xs ≡ p → value_at name ys ≡ value_at name xs
  stays name xs ys stable None None is was = is ∙ sym was
  stays name xs ys stable (Some v) p is was =
      let place = place_from_lookup _ ys v is in by_ties name xs ys stable place.1 v place.3
  stays name xs ys stable None (Some v) is was =
      let place = place_from_lookup _ xs v was in by_ties name xs ys stable place.1 v place.3

  -- a stable sort leaves the value of each name
  pub value_at-sorted : (name : Text) (xs ys : List (String Global × V)) → IsStableBy text_below xs ys → value_at name ys ≡ value_at name xs
  value_at-sorted name xs ys stable = stays name xs ys stable _ _ refl refl

  -- the first that is found, or else one of others
  or_others : (b : Bool) (v : V) (m n : Option V) → cond b (Some v) (option_or m n) ≡ option_or (cond b (Some v) m) n
  or_others true v m n = refl
  or_others false v m n = refl

  value_at-append : (name : Text) (xs ys : List (String Global × V))
      → value_at name (xs ++ ys) ≡ option_or (value_at name xs) (value_at name ys)
  value_at-append name [] ys = refl
  value_at-append name (x ∷ xs) ys =
      ap (cond (is_eq (text_cmp name (string_bytes x.0))) (Some x.1)) (value_at-append name xs ys)
      ∙ or_others (is_eq (text_cmp name (string_bytes x.0))) x.1 (value_at name xs) (value_at name ys)

  -- from behind, the first value of a name is the last
  pub value_at-reverse : (name : Text) (xs : List (String Global × V)) → value_at name (reverse xs) ≡ last_named name (with_texts xs)
  value_at-reverse name [] = refl
  value_at-reverse name (x ∷ xs) =
      ap (value_at name) (reverse_onto xs x [])
      ∙ (value_at-append name (reverse xs) (x ∷ [])
      ∙ (ap (λ found. option_or found (value_at name (x ∷ []))) (value_at-reverse name xs)
      ∙ ap (option_or (last_named name (with_texts xs))) (value_at-cons name x [])))
