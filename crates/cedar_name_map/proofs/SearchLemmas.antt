-- A search by halving among pairs whose names are sorted without duplicates, and what a place tells
-- of a name.
use Rattle.std.proofs.Common.{◌≡◌, ◌≢◌, ◌↔◌, ◌<◌, ◌≤◌, ◌+◌, ◌-◌, ◌*◌, ◌/◌, ◌^◌, ℕ, zero, suc, true, false, refl, sym, ap, subst, ◌∙◌, List, [], ◌∷◌, length, string_bytes, get_or, arith, None, Some, if◌then◌else◌, inl, inr}
use Rattle.std.proofs.lemmas.Bool.{cases_lt, false_from_ne_true}
use Rattle.std.proofs.lemmas.List.{get_or_default}
use Rattle.std.specs.Cmp.Lexicographic.{bytes_decides, nat_list_eq_equiv}
use Rattle.std.specs.List.Sorted.{IsStrictlySortedBy}
use Rattle.std.specs.Ordering.{ordering_reverse}
use Rattle.std.specs.Str.{bytes_eq}
use Rattle.std.specs.declared.alloc.Global.{Global}
use Rattle.std.specs.declared.cmp.Ordering.TheVariants.{Less, Equal, Greater}
use Rattle.std.specs.declared.string.String.{String}
use Rattle.cedar_ast.proofs.Texts.{text_cmp-total, text_cmp-Equal}
use Rattle.cedar_name_map.proofs.MadeLemmas.{value_at-cons}
use Rattle.cedar_name_map.proofs.RisingLemmas.{AllBelow, turned, of_seen_at, seen_at-rises, missed_at}
use Rattle.cedar_name_map.specs.Words.{AreSortedByName, Text, text_cmp, value_at}

-- a text above another isn't the other
pub above-apart : (name other : Text) → text_cmp other name ≡ Less → bytes_eq name other ≡ false
above-apart name other less =
    false_from_ne_true (bytes_eq name other) (λ is.
    let same : other ≡ name = sym ((bytes_decides name other).0 is) in
    let tied : text_cmp other name ≡ Equal = (text_cmp-Equal other name).1 same in cc)

-- a text that is the other
pub same-found : (name other : Text) → other ≡ name → bytes_eq name other ≡ true
same-found name other same = ap (bytes_eq name) same ∙ nat_list_eq_equiv.refl name

-- the name of a pair
abbrev pub text_of : {V : Type 0} → String Global × V → Text
text_of pair = string_bytes pair.0

module _ {V : Type 0} where
  -- the name at a place
  abbrev pub text_at : List (String Global × V) → ℕ → String Global × V → Text
  text_at all i d = string_bytes (get_or all i d).0

  -- a name at a place has the value there
  pub value_at-place : (all : List (String Global × V)) → AreSortedByName all → (name : Text) (i : ℕ) (d : String Global × V)
      → i < length all → text_at all i d ≡ name → value_at name all ≡ Some (get_or all i d).1
  unfolding IsStrictlySortedBy
  value_at-place [] up name i d within is = absurd (omega arith)
  value_at-place (x ∷ xs) up name zero d within is =
      value_at-cons name x xs ∙ ap (λ b. if b then Some x.1 else value_at name xs) (same-found name (string_bytes x.0) is)
  value_at-place (x ∷ xs) up name (suc i) d within is =
      let P : Text → Type 0 = λ other. text_cmp (string_bytes x.0) other ≡ Less in
      let below : P name = subst P is (of_seen_at text_of text_cmp P xs up.0 i d (omega arith)) in
      value_at-cons name x xs
      ∙ (ap (λ b. if b then Some x.1 else value_at name xs) (above-apart name (string_bytes x.0) below)
      ∙ value_at-place xs up.1 name i d (omega arith) is)

  -- a name that stands at no place has no value
  pub value_at-nowhere : (all : List (String Global × V)) (name : Text)
      → ((i : ℕ) (d : String Global × V) → i < length all → bytes_eq name (text_at all i d) ≡ false) → value_at name all ≡ None
  value_at-nowhere [] name nowhere = refl
  value_at-nowhere (x ∷ xs) name nowhere =
      value_at-cons name x xs
      ∙ (ap (λ b. if b then Some x.1 else value_at name xs) (nowhere 0 x (omega arith))
      ∙ value_at-nowhere xs name (λ i d within. nowhere (suc i) d (omega arith)))

  -- a name ties with the one at a place exactly where it stands there
  pub stands_where_tied : (all : List (String Global × V)) (name : Text) (i : ℕ) (x : String Global × V) → i < length all
      → (text_cmp (text_at all i x) name ≡ Equal) ↔ ((i < length all) × ((d : String Global × V) → text_at all i d ≡ name))
  stands_where_tied all name i x within =
      let ties = text_cmp-Equal (text_at all i x) name in
      (λ equal. (within, λ d. ap text_of (get_or_default all i d x within) ∙ ties.0 equal), λ there. ties.1 (there.1 x))

-- halving a range leaves less than half of it
pub halved : (n p : ℕ) → n < 2 * p → n / 2 < p
halved n p below = omega (arith, below)

-- a range that isn't empty and is below a power of two is below twice the one before
pub power_before : (n left : ℕ) → 0 < n → n < 2 ^ left → (before : ℕ) × (left ≡ suc before) × (n < 2 * 2 ^ before)
power_before n zero some below = absurd (omega (arith, some, below))
power_before n (suc before) some below = (before, refl, omega (arith, below))

-- what a search by halving knows: the names before the range are below, those after it are above,
-- and for each power of two above the length there are comparisons left as long as the range is
-- below what is left of it
pub record Halves {V : Type 0} (all : List (String Global × V)) (name : Text) (low high compared : ℕ) : Type 0 where
  pub ordered : low ≤ high
  pub within : high ≤ length all
  pub before : (i : ℕ) (d : String Global × V) → i < low → text_cmp (text_at all i d) name ≡ Less
  pub after : (i : ℕ) (d : String Global × V) → high ≤ i → i < length all → text_cmp (text_at all i d) name ≡ Greater
  pub small : length all < 2 ^ 64
  pub counted : (k : ℕ) → length all < 2 ^ k → (left : ℕ) × (compared + left ≤ k) × (high - low < 2 ^ left)

-- one more comparison leaves one less, and the range is below what is left
counted_more : (length' low high low' high' compared : ℕ) → low < high → high' - low' ≤ (high - low) / 2
    → ((k : ℕ) → length' < 2 ^ k → (left : ℕ) × (compared + left ≤ k) × (high - low < 2 ^ left)) → (k : ℕ) → length' < 2 ^ k
    → (left : ℕ) × (compared + 1 + left ≤ k) × (high' - low' < 2 ^ left)
counted_more length' low high low' high' compared some smaller counted k small =
    let (left, most, range) = counted k small in
    let (before, is, half) = power_before (high - low) left (omega (arith, some)) range in
    let fewer = halved (high - low) (2 ^ before) half in
    (before, omega (arith, is, most), omega (arith, smaller, fewer))

module _ {V : Type 0} (all : List (String Global × V)) (name : Text) (up : AreSortedByName all) where
  -- the name at a place is there whatever stands for none
  placed : (i : ℕ) (x d : String Global × V) → i < length all → text_at all i d ≡ text_at all i x
  placed i x d within = ap (λ pair. string_bytes pair.0) (get_or_default all i d x within)

  -- where the middle one is below, the search goes on above it
  pub Halves-above : (low high compared middle : ℕ) (x : String Global × V) → Halves all name low high compared → low < high
      → middle ≡ low + (high - low) / 2 → text_cmp (text_at all middle x) name ≡ Less
      → Halves all name (middle + 1) high (compared + 1)
  Halves-above low high compared middle x known some is below = record {
    ordered = omega (arith, some, is);
    within = known.within;
    before = λ i d lower.
        let here : middle < length all = omega (arith, some, is, known.within) in
        let P : Text → Type 0 = λ text. text_cmp text name ≡ Less in
        let at_middle : P (text_at all middle d) = subst P (sym (placed middle x d here)) below in
        elim (cases_lt i middle) [ inl low ↦ text_cmp-total.trans (text_at all i d) (text_at all middle d) name (seen_at-rises text_of text_cmp all up i middle d low here) at_middle | inr high ↦ let same : middle ≡ i = omega (arith, lower, high) in subst (λ n. P (text_at all n d)) same at_middle ];
    after = known.after;
    small = known.small;
    counted = counted_more (length all) low high (middle + 1) high compared some (omega (arith, some, is)) known.counted;
  }

  -- where the middle one is above, the search goes on below it
  pub Halves-below : (low high compared middle : ℕ) (x : String Global × V) → Halves all name low high compared → low < high
      → middle ≡ low + (high - low) / 2 → text_cmp (text_at all middle x) name ≡ Greater
      → Halves all name low middle (compared + 1)
  Halves-below low high compared middle x known some is above = record {
    ordered = omega (arith, some, is);
    within = omega (arith, some, is, known.within);
    before = known.before;
    after = λ i d higher within.
        let here : middle < length all = omega (arith, some, is, known.within) in
        let P : Text → Type 0 = λ text. text_cmp text name ≡ Greater in
        let at_middle : P (text_at all middle d) = subst P (sym (placed middle x d here)) above in
        elim (cases_lt middle i) [
          | inl low ↦ let rises = seen_at-rises text_of text_cmp all up middle i d low within in
              let below = text_cmp-total.trans name (text_at all middle d) (text_at all i d)
              (turned text_cmp text_cmp-total (text_at all middle d) name at_middle) rises in
              text_cmp-total.antisymm (text_at all i d) name ∙ ap ordering_reverse below
          | inr high ↦ let same : middle ≡ i = omega (arith, higher, high) in subst (λ n. P (text_at all n d)) same at_middle
        ];
    small = known.small;
    counted = counted_more (length all) low high low middle compared some (omega (arith, some, is)) known.counted;
  }

  -- where the middle one is the name, its value is found
  pub Halves-found : (middle : ℕ) (x : String Global × V) → middle < length all → text_cmp (text_at all middle x) name ≡ Equal → (d : String Global × V) → Some (get_or all middle d).1 ≡ value_at name all
  Halves-found middle x within equal d =
      sym (value_at-place all up name middle d within (placed middle x d within ∙ (text_cmp-Equal (text_at all middle x) name).0 equal))

  -- where nothing is left, the name has no value
  pub Halves-none : (low high compared : ℕ) → Halves all name low high compared → high ≤ low → None ≡ value_at name all
  Halves-none low high compared known empty =
      sym (value_at-nowhere all name (λ i d within.
      let differs : ¬ (bytes_eq name (text_at all i d) ≡ true) = λ same.
      let equal : text_cmp (text_at all i d) name ≡ Equal =
      (text_cmp-Equal (text_at all i d) name).1 (sym ((bytes_decides name (text_at all i d)).0 same)) in
      elim (cases_lt i low) [ inl low' ↦ let less = known.before i d low' in absurd cc | inr high' ↦ let greater = known.after i d (omega (arith, empty, high')) within in absurd cc ] in
      false_from_ne_true (bytes_eq name (text_at all i d)) differs))

-- a name that isn't at the place where the names before it are below, and that one isn't, has no
-- value
pub value_at-missed : {V : Type 0} (own : List (String Global × V)) → AreSortedByName own → (name : Text) (place : ℕ)
    → AllBelow text_of text_cmp own place name
    → ((d : String Global × V) → place < length own → text_cmp (text_at own place d) name ≢ Less)
    → ¬ ((place < length own) × ((d : String Global × V) → text_at own place d ≡ name)) → value_at name own ≡ None
value_at-missed own up name place below stays missed =
    value_at-nowhere own name (λ i d within. false_from_ne_true (bytes_eq name (text_at own i d)) (λ e.
    missed_at text_of text_cmp text_cmp-total own up name place below stays missed i d within
    (sym ((bytes_decides name (text_at own i d)).0 e))))
