-- The keys of entries whose values pass a test, one entry after another, and their order.
use Rattle.std.proofs.Common.{◌≡◌, ◌≤◌, Bool, true, false, cond, List, [], ◌∷◌, length, map, ap, refl, arith, inl, inr, ◌∙◌, Contains}
use Rattle.std.specs.List.{AllByRecursion, filter}
use Rattle.std.specs.List.Sorted.{IsStrictlySortedBy}
use Rattle.std.specs.declared.cmp.Ordering.{Ordering}
use Rattle.std.specs.declared.cmp.Ordering.TheVariants.{Less}
use Rattle.cedar_ast.proofs.Lists.{Contains-cons, Contains-cons_cases}
use Rattle.cedar_queries.specs.Selected.{entries_where, keys_where, values_where}

-- the keys of entries in another form are the keys in that form
pub keys_where-map : {K V L W : Type 0} (f : K → L) (g : V → W) (test : W → Bool) (entries : List (K × V))
    → map f (keys_where (λ value. test (g value)) entries) ≡ keys_where test (map (λ entry. (f entry.0, g entry.1)) entries)
keys_where-map f g test [] = refl
keys_where-map {K} {V} {L} {W} f g test (entry ∷ rest) =
    let others = keys_where-map f g test rest in
    let first : List (K × V) = filter (λ it. test (g it.1)) rest in
    let last : List (L × W) = filter (λ it. test it.1) (map (λ it. (f it.0, g it.1)) rest) in
    elim (test (g entry.1)) as
    (λ b. map f (map (λ it. it.0) (cond b (entry ∷ first) first)) ≡ map (λ it. it.0) (cond b ((f entry.0, g entry.1) ∷ last) last))
    [ true ↦ ap (λ keys. f entry.0 ∷ keys) others | false ↦ others ]

module _ {K V : Type 0} (cmp : K → K → Ordering) (test : V → Bool) where
  -- what is below the keys of all entries is below those of entries that pass a test
  below_kept : (key : K) (entries : List (K × V)) → AllByRecursion (λ other. cmp key other ≡ Less) (map (λ it. it.0) entries)
      → AllByRecursion (λ other. cmp key other ≡ Less) (keys_where test entries)
  below_kept key [] below = tt
  below_kept key (entry ∷ rest) below =
      let others = below_kept key rest below.1 in
      let kept : List (K × V) = filter (λ it. test it.1) rest in
      elim (test entry.1) as (λ b. AllByRecursion (λ other. cmp key other ≡ Less) (map (λ it. it.0) (cond b (entry ∷ kept) kept)))
      [ true ↦ (below.0, others) | false ↦ others ]

  -- the keys of entries that pass a test are sorted where those of all entries do
  pub keys_where-ascend : (entries : List (K × V)) → IsStrictlySortedBy cmp (map (λ it. it.0) entries)
      → IsStrictlySortedBy cmp (keys_where test entries)
  unfolding IsStrictlySortedBy
  keys_where-ascend [] ascend = tt
  keys_where-ascend (entry ∷ rest) ascend =
      let others = keys_where-ascend rest ascend.1 in
      let kept : List (K × V) = filter (λ it. test it.1) rest in
      elim (test entry.1) as (λ b. IsStrictlySortedBy cmp (map (λ it. it.0) (cond b (entry ∷ kept) kept)))
      [ true ↦ (below_kept entry.0 rest ascend.0, others) | false ↦ others ]

-- no more items of a list pass a test than there are
pub few_kept : {A : Type 0} (p : A → Bool) (items : List A) → length (filter p items) ≤ length items
few_kept p [] = omega arith
few_kept p (item ∷ rest) =
    let others = few_kept p rest in
    elim (p item) as (λ b. length (cond b (item ∷ filter p rest) (filter p rest)) ≤ length (item ∷ rest))
    [ true ↦ omega (arith, others) | false ↦ omega (arith, others) ]

-- the values of entries that pass a test are those values that pass
pub entries_where-values : {K V : Type 0} (test : V → Bool) (entries : List (K × V))
    → map (λ entry. entry.1) (entries_where test entries) ≡ values_where test entries
entries_where-values test [] = refl
entries_where-values {K} {V} test (entry ∷ rest) =
    let others = entries_where-values test rest in
    let first : List (K × V) = entries_where test rest in
    let last : List V = values_where test rest in
    elim (test entry.1) as (λ b. map (λ it. it.1) (cond b (entry ∷ first) first) ≡ cond b (entry.1 ∷ last) last)
    [ true ↦ ap (λ values. entry.1 ∷ values) others | false ↦ others ]

-- an item of a list that passes a test is kept
pub Contains-kept : {A : Type 0} (p : A → Bool) (items : List A) (item : A) → Contains items item → p item ≡ true
    → Contains (filter p items) item
Contains-kept p [] item among passes = absurd (omega (arith, among.1))
Contains-kept {A} p (first ∷ rest) item among passes = elim (Contains-cons_cases first rest item among) [
  | inl same ↦
      let here : p first ≡ true = ap p same ∙ passes in
      rw here (Contains-cons first (filter p rest) item (inl same))
  | inr later ↦
      let kept = Contains-kept p rest item later passes in
      elim (p first) as (λ b. Contains (cond b (first ∷ filter p rest) (filter p rest)) item)
      [ true ↦ Contains-cons first (filter p rest) item (inr kept) | false ↦ kept ]
]
