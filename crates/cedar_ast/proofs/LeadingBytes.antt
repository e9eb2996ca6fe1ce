-- The leading bytes of texts order as the texts do.
use Rattle.std.proofs.Common.{◌≡◌, inl, inr, Bool, true, false, cond, String, subst, ℕ, zero, suc, ◌+◌, ◌*◌, ◌/◌, ◌%◌, ◌<◌, ◌≤◌, ◌++◌, List, [], ◌∷◌, length, get_or, string_bytes, arith, refl, ap, sym, ◌∙◌}
use Rattle.std.proofs.Math.Dec.{ltb}
use Rattle.std.proofs.lemmas.Bool.{cases_lt, ltb-true, and_parts}
use lib.Utf8.{encode, encodes, next, scalar, scalars, scalar_cases}
use Rattle.std.proofs.lemmas.Str.{IsUtf8-string_bytes}
use Rattle.std.specs.Char.{IsScalar}
use Rattle.std.specs.Cmp.{IsTotalOrder}
use Rattle.std.specs.Cmp.{ranks}
use Rattle.std.specs.Cmp.Lexicographic.{slice_cmp}
use Rattle.std.specs.List.{AllByRecursion}
use Rattle.std.specs.Ordering.{ordering_reverse}
use Rattle.std.specs.Ordering.{MatchOrdering, nat_cmp, ordering_then}
use Rattle.std.specs.Slice.Scan.{big_endian}
use Rattle.std.specs.declared.cmp.Ordering.{Ordering}
use Rattle.std.specs.declared.cmp.Ordering.TheVariants.{Less, Equal, Greater}
use Rattle.cedar_ast.specs.LeadingBytes.{beginning, ending, leading_bytes, name_leading}
use Rattle.cedar_ast.specs.Text.{Text, text_cmp}

-- the numbers of a list are bytes
abbrev pub AreBytes : List ℕ → Type 0
AreBytes = AllByRecursion (λ byte. byte < 256)

-- what begins with a smaller number spells a smaller one
rises : (n a b : ℕ) (xs ys : Text) → AreBytes xs → a < b → big_endian a (beginning n xs) < big_endian b (beginning n ys)
rises zero a b xs ys h l = l
rises (suc n) a b [] [] h l = rises n (a * 256 + 0) (b * 256 + 0) [] [] h (omega arith)
rises (suc n) a b [] (y ∷ ys) h l = rises n (a * 256 + 0) (b * 256 + y) [] ys h (omega arith)
rises (suc n) a b (x ∷ xs) [] h l =
    let small : x < 256 = h.0 in
    rises n (a * 256 + x) (b * 256 + 0) xs [] h.1 (omega arith)
rises (suc n) a b (x ∷ xs) (y ∷ ys) h l =
    let small : x < 256 = h.0 in
    rises n (a * 256 + x) (b * 256 + y) xs ys h.1 (omega arith)

-- the order of two texts by their first bytes, and by what follows where these are the same
by_first : (x y : ℕ) (rest answer : Ordering) → (x < y → Less ≡ answer) → (x ≡ y → rest ≡ answer) → (y < x → Greater ≡ answer)
    → ordering_then (nat_cmp x y) rest ≡ answer
by_first x y rest answer less same more = by (nat_cmp x y) refl (ranks x y)
  where
    by : (r : Ordering) → nat_cmp x y ≡ r → MatchOrdering r (x < y) (x ≡ y) (y < x) → ordering_then (nat_cmp x y) rest ≡ answer
    by Less e l = ap (λ first. ordering_then first rest) e ∙ less l
    by Equal e l = ap (λ first. ordering_then first rest) e ∙ same l
    by Greater e l = ap (λ first. ordering_then first rest) e ∙ more l

-- no text is less than the empty one
none_below_empty : (xs : Text) → text_cmp xs [] ≡ Less → ⊥
none_below_empty [] e = cc
none_below_empty (x ∷ xs) e = cc

-- texts order as their leading bytes, where these differ
pub leading_bytes-Less : (n a : ℕ) (xs ys : Text) → AreBytes xs → AreBytes ys
    → big_endian a (beginning n xs) < big_endian a (beginning n ys) → text_cmp xs ys ≡ Less
leading_bytes-Less (suc n) a [] (y ∷ ys) h k l = refl
leading_bytes-Less (suc n) a (x ∷ xs) [] h k l = elim (cases_lt 0 x) [
  | inl some ↦ absurd (omega (arith, rises n (a * 256 + 0) (a * 256 + x) [] xs tt (omega arith)))
  | inr none ↦
      let zero_first : x ≡ 0 = omega arith in
      absurd (none_below_empty xs (leading_bytes-Less n (a * 256 + 0) xs [] h.1 tt (rw zero_first at l)))
]
leading_bytes-Less (suc n) a (x ∷ xs) (y ∷ ys) h k l =
    by_first x y (text_cmp xs ys) Less
    (λ _. refl)
    (λ same. leading_bytes-Less n (a * 256 + x) xs ys h.1 k.1
    (subst (λ b. big_endian (a * 256 + x) (beginning n xs) < big_endian (a * 256 + b) (beginning n ys)) (sym same) l))
    (λ over. absurd (omega (arith, rises n (a * 256 + y) (a * 256 + x) ys xs k.1 (omega (arith, over)))))
leading_bytes-Less _ a _ _ h k l = absurd (omega arith)

-- of two texts with the same leading bytes one is less that is whole in these, and shorter
pub leading_bytes-shorter : (n a : ℕ) (xs ys : Text) → AreBytes xs → AreBytes ys
    → big_endian a (beginning n xs) ≡ big_endian a (beginning n ys) → length xs ≤ n → length xs < length ys
    → text_cmp xs ys ≡ Less
leading_bytes-shorter n a [] (y ∷ ys) h k e fits less = refl
leading_bytes-shorter (suc n) a (x ∷ xs) (y ∷ ys) h k e fits less =
    by_first x y (text_cmp xs ys) Less
    (λ _. refl)
    (λ same. leading_bytes-shorter n (a * 256 + x) xs ys h.1 k.1
    (subst (λ b. big_endian (a * 256 + x) (beginning n xs) ≡ big_endian (a * 256 + b) (beginning n ys)) (sym same) e)
    (omega arith) (omega arith))
    (λ over. absurd (omega (arith, rises n (a * 256 + y) (a * 256 + x) ys xs k.1 (omega (arith, over)))))
leading_bytes-shorter _ a _ _ h k e fits less = absurd (omega arith)

-- texts with the same leading bytes that are whole in these, and as long, are the same
pub leading_bytes-whole : (n a : ℕ) (xs ys : Text) → AreBytes xs → AreBytes ys
    → big_endian a (beginning n xs) ≡ big_endian a (beginning n ys) → length xs ≤ n → length xs ≡ length ys
    → text_cmp xs ys ≡ Equal
leading_bytes-whole n a [] [] h k e fits same = refl
leading_bytes-whole (suc n) a (x ∷ xs) (y ∷ ys) h k e fits same =
    by_first x y (text_cmp xs ys) Equal
    (λ under. absurd (omega (arith, rises n (a * 256 + x) (a * 256 + y) xs ys h.1 (omega (arith, under)))))
    (λ alike. leading_bytes-whole n (a * 256 + x) xs ys h.1 k.1
    (subst (λ b. big_endian (a * 256 + x) (beginning n xs) ≡ big_endian (a * 256 + b) (beginning n ys)) (sym alike) e)
    (omega arith) (omega arith))
    (λ over. absurd (omega (arith, rises n (a * 256 + y) (a * 256 + x) ys xs k.1 (omega (arith, over)))))
leading_bytes-whole _ a _ _ h k e fits same = absurd (omega arith)

-- what orders by base name and then by path
abbrev pub by_parts : {X : Type 0} → (X → X → Ordering) → Text → List X → Text → List X → Ordering
by_parts R a path b other = ordering_then (text_cmp a b) (slice_cmp R path other)

module _ {X : Type 0} (R : X → X → Ordering) (a b : Text) (h : AreBytes a) (k : AreBytes b) where
  -- a shorter base name with the same leading bytes goes before
  shorter_first : (path other : List X) → leading_bytes 7 a ≡ leading_bytes 7 b → length a ≤ 7 → length a < length b
      → by_parts R a path b other ≡ Less
  shorter_first path other e fits less = ap (λ first. ordering_then first (slice_cmp R path other)) (leading_bytes-shorter 7 0 a b h k e fits less)

  -- and of the same short base names the paths decide
  same_base : (path other : List X) → leading_bytes 7 a ≡ leading_bytes 7 b → length a ≤ 7 → length a ≡ length b
      → by_parts R a path b other ≡ slice_cmp R path other
  same_base path other e fits same = ap (λ first. ordering_then first (slice_cmp R path other)) (leading_bytes-whole 7 0 a b h k e fits same)

  -- where only the ends of two names differ
  by_ends : (path other : List X) → leading_bytes 7 a ≡ leading_bytes 7 b → ending (length a) path < ending (length b) other
      → by_parts R a path b other ≡ Less
  by_ends [] [] e l = shorter_first [] [] e (omega arith) (omega arith)
  by_ends [] (q ∷ qs) e l = elim (cases_lt (length a) (length b)) [
    | inl less ↦ shorter_first [] (q ∷ qs) e (omega arith) less
    | inr more ↦ same_base [] (q ∷ qs) e (omega arith) (omega arith)
  ]
  by_ends (p ∷ ps) [] e l = shorter_first (p ∷ ps) [] e (omega arith) (omega arith)
  by_ends (p ∷ ps) (q ∷ qs) e l = shorter_first (p ∷ ps) (q ∷ qs) e (omega arith) (omega arith)

  -- a name ends by a number of at most 16
  ending_fits : (path : List X) (bytes : ℕ) → ending bytes path ≤ 16
  ending_fits [] bytes = omega arith
  ending_fits (p ∷ ps) bytes = omega arith

  -- names order as what they begin with, where that differs
  pub name_leading-Less : (path other : List X) → name_leading a path < name_leading b other → by_parts R a path b other ≡ Less
  name_leading-Less path other l = by (nat_cmp x y) (ranks x y)
    where
      x : ℕ
      x = leading_bytes 7 a

      y : ℕ
      y = leading_bytes 7 b

      by : (r : Ordering) → MatchOrdering r (leading_bytes 7 a < leading_bytes 7 b) (leading_bytes 7 a ≡ leading_bytes 7 b)
          (leading_bytes 7 b < leading_bytes 7 a) → by_parts R a path b other ≡ Less
      by Less less = ap (λ first. ordering_then first (slice_cmp R path other)) (leading_bytes-Less 7 0 a b h k less)
      by Equal same = by_ends path other same (omega (arith, ending_fits path (length a), ending_fits other (length b)))
      by Greater more = absurd (omega (arith, ending_fits path (length a), ending_fits other (length b)))

  -- names that begin with the same, which tells all of them, are the same
  pub name_leading-Equal : (path other : List X) → name_leading a path ≡ name_leading b other → name_leading a path % 256 < 16
      → name_leading a path % 2 ≡ 0 → by_parts R a path b other ≡ Equal
  name_leading-Equal path other e short even = by path other same ends (omega (arith, ending_fits path (length a))) (omega (arith, ending_fits path (length a)))
    where
      same : leading_bytes 7 a ≡ leading_bytes 7 b
      same = omega (arith, ending_fits path (length a), ending_fits other (length b))

      ends : ending (length a) path ≡ ending (length b) other
      ends = omega (arith, ending_fits path (length a), ending_fits other (length b))

      by : (path other : List X) → leading_bytes 7 a ≡ leading_bytes 7 b → ending (length a) path ≡ ending (length b) other
          → ending (length a) path < 16 → ending (length a) path % 2 ≡ 0 → by_parts R a path b other ≡ Equal
      by [] [] same ends short even = same_base [] [] same (omega arith) (omega arith)
      by _ _ same ends short even = absurd (omega arith)

-- the bytes of a character are bytes
encode-AreBytes : (c : ℕ) → IsScalar c → AreBytes (encode c)
unfolding encode
encode-AreBytes c is_scalar = by (ltb c 128) (ltb c 2048) (ltb c 65536) refl refl refl
  where
    below : c < 1114112
    below = elim (scalar_cases c is_scalar) [ inl low ↦ omega arith | inr high ↦ high.1 ]

    by : (x y z : Bool) → ltb c 128 ≡ x → ltb c 2048 ≡ y → ltb c 65536 ≡ z
        → AreBytes (cond x (c ∷ []) (cond y ((192 + c / 64) ∷ next c ∷ []) (cond z ((224 + c / 4096) ∷ next (c / 64) ∷ next c ∷ [])
        ((240 + c / 262144) ∷ next (c / 4096) ∷ next (c / 64) ∷ next c ∷ []))))
    by true y z e f g = (omega (arith, ltb-true c 128 e), tt)
    by false true z e f g = (omega (arith, ltb-true c 2048 f), (omega arith, tt))
    by false false true e f g = (omega (arith, ltb-true c 65536 g), (omega arith, (omega arith, tt)))
    by false false false e f g = (omega (arith, below), (omega arith, (omega arith, (omega arith, tt))))

-- and those of two texts one after the other
append-AreBytes : (xs ys : Text) → AreBytes xs → AreBytes ys → AreBytes (xs ++ ys)
append-AreBytes [] ys h k = k
append-AreBytes (x ∷ xs) ys h k = (h.0, append-AreBytes xs ys h.1 k)

-- and those of characters in a row
encodes-AreBytes : (cs : List ℕ) → scalars cs ≡ true → AreBytes (encodes cs)
encodes-AreBytes [] e = tt
encodes-AreBytes (c ∷ cs) e =
    let both = and_parts (scalar c) (scalars cs) e in
    append-AreBytes (encode c) (encodes cs) (encode-AreBytes c both.0) (encodes-AreBytes cs both.1)

-- the bytes of a text are bytes
pub string_bytes-AreBytes : {Z : Type 0} (text : String Z) → AreBytes (string_bytes text)
string_bytes-AreBytes text =
    let spelt = IsUtf8-string_bytes text in
    subst AreBytes spelt.1.1 (encodes-AreBytes spelt.0 spelt.1.0)

-- what a number orders in one direction, it orders in both
pub by_number : {X : Type 0} {R : X → X → Ordering} → IsTotalOrder R → (a b : X) (m n : ℕ) → (m < n → R a b ≡ Less) → (n < m → R b a ≡ Less)
    → (m ≡ n → ⊥) → R a b ≡ nat_cmp m n
by_number {R = R} total a b m n up down apart = by (nat_cmp m n) (ranks m n)
  where
    by : (r : Ordering) → MatchOrdering r (m < n) (m ≡ n) (n < m) → R a b ≡ r
    by Less less = up less
    by Equal same = absurd (apart same)
    by Greater more = total.antisymm a b ∙ ap ordering_reverse (down more)

-- the leading bytes of a text, read one by one
pub leading_bytes-read : (text : Text) → leading_bytes 7 text
    ≡ big_endian 0 (get_or text 0 0 ∷ get_or text 1 0 ∷ get_or text 2 0 ∷ get_or text 3 0 ∷ get_or text 4 0 ∷ get_or text 5 0 ∷ get_or text 6 0 ∷ [])
leading_bytes-read [] = refl
leading_bytes-read (a ∷ []) = refl
leading_bytes-read (a ∷ b ∷ []) = refl
leading_bytes-read (a ∷ b ∷ c ∷ []) = refl
leading_bytes-read (a ∷ b ∷ c ∷ d ∷ []) = refl
leading_bytes-read (a ∷ b ∷ c ∷ d ∷ e ∷ []) = refl
leading_bytes-read (a ∷ b ∷ c ∷ d ∷ e ∷ f ∷ []) = refl
leading_bytes-read (a ∷ b ∷ c ∷ d ∷ e ∷ f ∷ g ∷ text) = refl

-- eight of them are seven and one more
pub leading_bytes-eighth : (text : Text) → leading_bytes 7 text * 256 + get_or text 7 0 ≡ leading_bytes 8 text
leading_bytes-eighth [] = refl
leading_bytes-eighth (a ∷ []) = omega arith
leading_bytes-eighth (a ∷ b ∷ []) = omega arith
leading_bytes-eighth (a ∷ b ∷ c ∷ []) = omega arith
leading_bytes-eighth (a ∷ b ∷ c ∷ d ∷ []) = omega arith
leading_bytes-eighth (a ∷ b ∷ c ∷ d ∷ e ∷ []) = omega arith
leading_bytes-eighth (a ∷ b ∷ c ∷ d ∷ e ∷ f ∷ []) = omega arith
leading_bytes-eighth (a ∷ b ∷ c ∷ d ∷ e ∷ f ∷ g ∷ []) = omega arith
leading_bytes-eighth (a ∷ b ∷ c ∷ d ∷ e ∷ f ∷ g ∷ h ∷ text) = refl
