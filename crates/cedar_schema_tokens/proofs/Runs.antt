-- Runs of bytes, and where a text may be cut.
use Rattle.std.proofs.Common.{◌≡◌, ℕ, zero, suc, map, ◌+◌, ◌-◌, ◌<◌, ◌≤◌, Bool, true, false, ◌&&◌, List, [], ◌∷◌, ◌++◌, length, get_or, drop, slice_index, IsUtf8, refl, sym, ap, ◌∙◌, subst, inl, inr, ◌⊎◌, arith, add-one, eqb-true}
use Rattle.std.proofs.lemmas.Bool.{and_parts, cases_Bool, cases_lt}
use Rattle.std.proofs.lemmas.Bool.Decides.{nat_tests}
use Rattle.std.proofs.lemmas.List.{take-append-drop, get_or_past, map-append}
use Rattle.std.proofs.lemmas.List.Sums.{prefix_len-le-length, prefix_len_passes, prefix_len_stops}
use Rattle.std.proofs.lemmas.Str.{IsCharBoundary-start, IsCharBoundary-end, IsCharBoundary-before_ascii, IsCharBoundary-after_ascii, IsCharBoundary-at_seam, IsUtf8-past_char, chars_past_char, chars-nil, length-encode}
use Rattle.std.specs.Prelude.{if◌then◌else◌, ◌==◌}
use Rattle.std.specs.Char.{is_ascii_hexdigit, is_whitespace, encode_utf8, len_utf8}
use Rattle.std.specs.List.{prefix_len, list_all}
use Rattle.std.specs.Str.{IsCharBoundary, encode_utf8_all}
use Rattle.cedar_schema_tokens.specs.declared.steps.Class.{Class}
use Rattle.cedar_schema_tokens.specs.declared.steps.Class.TheVariants.{Word, Plain, Line, Hex}
use Rattle.cedar_schema_tokens.specs.Class.{class_test}
use Rattle.cedar_schema_tokens.specs.Lexical.{is_word, is_plain, is_line, first, first_char, split_while}

-- ---- choices

pub chosen : {A : Type 0} (b : Bool) (x y z : A) → (if b then x else y) ≡ z → ((b ≡ true) × (x ≡ z)) ⊎ ((b ≡ false) × (y ≡ z))
chosen true x y z e = inl (refl, e)
chosen false x y z e = inr (refl, e)

pub other_byte : (x k : ℕ) → (x ≡ k → ⊥) → (x == k) ≡ false
other_byte x k other = grind (arith, nat_tests)

-- ---- runs

pub split_passes : (p : ℕ → Bool) (x : ℕ) (xs : List ℕ) → p x ≡ true → split_while p (x ∷ xs) ≡ (x ∷ (split_while p xs).0, (split_while p xs).1)
split_passes p x xs passes = let n = prefix_len p xs in let next : 1 + n ≡ suc n = omega arith in rw (passes, next)

pub split_stops : (p : ℕ → Bool) (x : ℕ) (xs : List ℕ) → p x ≡ false → split_while p (x ∷ xs) ≡ ([], x ∷ xs)
split_stops p x xs stops = rw stops

pub run_all : (p : ℕ → Bool) (xs : List ℕ) → list_all p (split_while p xs).0 ≡ true
run_all p [] = refl
run_all p (x ∷ xs) = elim (cases_Bool (p x)) [
  | inl passes ↦ ap (λ q. list_all p q.0) (split_passes p x xs passes) ∙ ap (λ b. b && list_all p (split_while p xs).0) passes ∙ run_all p xs
  | inr stops ↦ ap (λ q. list_all p q.0) (split_stops p x xs stops)
]

pub run_parts : (p : ℕ → Bool) (xs : List ℕ) → xs ≡ (split_while p xs).0 ++ (split_while p xs).1
run_parts p xs = sym (take-append-drop (prefix_len p xs) xs)

-- the bytes are none, or begin with one that doesn't pass
abbrev pub Ends : (ℕ → Bool) → List ℕ → Type 0
Ends p [] = Unit {0}
Ends p (b ∷ bs) = p b ≡ false

pub run_ends : (p : ℕ → Bool) (xs : List ℕ) → Ends p (split_while p xs).1
run_ends p [] = tt
run_ends p (x ∷ xs) = elim (cases_Bool (p x)) [
  | inl passes ↦ subst (λ (q : List ℕ × List ℕ). Ends p q.1) (sym (split_passes p x xs passes)) (run_ends p xs)
  | inr stops ↦ subst (λ (q : List ℕ × List ℕ). Ends p q.1) (sym (split_stops p x xs stops)) stops
]

-- a run is found again in front of what ends it
pub run_again : (p : ℕ → Bool) (run rest : List ℕ) → list_all p run ≡ true → Ends p rest → split_while p (run ++ rest) ≡ (run, rest)
run_again p [] [] all stop = refl
run_again p [] (c ∷ rest) all stop = split_stops p c rest stop
run_again p (c ∷ run) rest all stop =
    let q = and_parts (p c) (list_all p run) all in
    split_passes p c (run ++ rest) q.0 ∙ ap (λ z. (c ∷ z.0, z.1)) (run_again p run rest q.1 stop)

-- ---- the front

pub begins_with : (all : List ℕ) (b : ℕ) → first all ≡ b → 0 < b → all ≡ b ∷ drop 1 all
begins_with [] b e some = absurd (omega arith)
begins_with (c ∷ cs) b e some = ap (λ x. x ∷ cs) e

pub begins_as : (all : List ℕ) (b : ℕ) → first all == b ≡ true → 0 < b → all ≡ b ∷ drop 1 all
begins_as all b e some = begins_with all b (eqb-true _ _ e) some

pub begins_with_two : (all : List ℕ) (a b : ℕ) → first all ≡ a → slice_index all 1 ≡ b → 0 < a → 0 < b → all ≡ a ∷ b ∷ drop 2 all
begins_with_two [] a b e f some more = absurd (omega arith)
begins_with_two (x ∷ []) a b e f some more = absurd (omega arith)
begins_with_two (x ∷ y ∷ ys) a b e f some more = ap (λ u. u ∷ y ∷ ys) e ∙ ap (λ u. a ∷ u ∷ ys) f

-- ---- where a text may be cut

-- a byte that is not 0 was read inside the text
pub within_from_byte : (xs : List ℕ) (i : ℕ) → 0 < get_or xs i 0 → i < length xs
within_from_byte xs i h = elim (cases_lt i (length xs)) [ inl within ↦ within | inr past ↦ absurd (omega (arith, get_or_past xs i 0 past)) ]

after_ascii_run : (p : ℕ → Bool) (bs : List ℕ) (n : ℕ) → prefix_len p bs ≡ n → IsUtf8 bs → ((c : ℕ) → p c ≡ true → c < 128) → IsCharBoundary bs n
after_ascii_run p bs zero e utf8 ascii = IsCharBoundary-start bs utf8
after_ascii_run p bs (suc k) e utf8 ascii =
    rw (← add-one) (IsCharBoundary-after_ascii bs k utf8 (omega (arith, prefix_len-le-length p bs)) (ascii _ (prefix_len_passes p bs k 0 (omega arith))))

-- a run of ASCII bytes ends where a character does
ascii_run : (p : ℕ → Bool) (bs : List ℕ) → IsUtf8 bs → ((c : ℕ) → p c ≡ true → c < 128) → IsCharBoundary bs (prefix_len p bs)
ascii_run p bs = after_ascii_run p bs _ refl

-- and so does a run that only an ASCII byte stops
wide_run : (p : ℕ → Bool) (bs : List ℕ) → ((c : ℕ) → p c ≡ false → c < 128) → IsCharBoundary bs (prefix_len p bs)
wide_run p bs ascii =
    elim (cases_lt (prefix_len p bs) (length bs)) [
      | inl within ↦ IsCharBoundary-before_ascii bs _ within (ascii _ (prefix_len_stops p bs 0 within))
      | inr past ↦ subst (IsCharBoundary bs) (omega (arith, prefix_len-le-length p bs)) (IsCharBoundary-end bs)
    ]

-- a run of any class ends where a character does
pub IsCharBoundary-run : (class : Class) (bs : List ℕ) → IsUtf8 bs → IsCharBoundary bs (prefix_len (class_test class) bs)
IsCharBoundary-run Word bs utf8 = ascii_run is_word bs utf8 (λ c e. grind (arith, nat_tests))
IsCharBoundary-run Plain bs utf8 = wide_run is_plain bs (λ c e. grind (arith, nat_tests))
IsCharBoundary-run Line bs utf8 = wide_run is_line bs (λ c e. grind (arith, nat_tests))
IsCharBoundary-run Hex bs utf8 = ascii_run is_ascii_hexdigit bs utf8 (λ c e. grind (arith, nat_tests))

first_char_is : (bs rest : List ℕ) (c : ℕ) → IsUtf8 bs → bs ≡ encode_utf8 c ++ rest → first_char bs ≡ c
first_char_is bs rest c utf8 e = ap (λ cs. slice_index cs 0) (chars_past_char bs rest c utf8 e)

past_first : (bs cs : List ℕ) → IsUtf8 bs → encode_utf8_all cs ≡ bs → is_whitespace (first_char bs) ≡ true → IsCharBoundary bs (len_utf8 (first_char bs))
past_first bs [] utf8 e white =
    let none : is_whitespace (first_char []) ≡ false = ap (λ cs. is_whitespace (slice_index cs 0)) chars-nil in
    let some : is_whitespace (first_char []) ≡ true = ap (λ us. is_whitespace (first_char us)) e ∙ white in
    absurd (let never : true ≡ false = sym some ∙ none in cc)
past_first bs (c ∷ cs) utf8 e white =
    let parts : bs ≡ encode_utf8 c ++ encode_utf8_all cs = sym e in
    let seam = IsCharBoundary-at_seam bs (encode_utf8 c) (encode_utf8_all cs) parts (IsUtf8-past_char bs (encode_utf8_all cs) c utf8 parts) in
    let P : ℕ → Type 0 = λ n. IsCharBoundary bs n in
    subst P (length-encode c ∙ ap len_utf8 (sym (first_char_is bs (encode_utf8_all cs) c utf8 parts))) seam

-- white space at the front ends where a character does
pub IsCharBoundary-blank : (bs : List ℕ) → IsUtf8 bs → is_whitespace (first_char bs) ≡ true → IsCharBoundary bs (len_utf8 (first_char bs))
IsCharBoundary-blank bs utf8 white = past_first bs utf8.0 utf8 utf8.1.1 white

-- ---- turns of loops

pub one_more : {X : Type 0} {x : X} (f : ℕ → X) (n at : ℕ) → at < n → x ≡ f (n - at) → x ≡ f (suc (n - (at + 1)))
one_more f n at below e = let turn : n - at ≡ suc (n - (at + 1)) = omega arith in e ∙ ap f turn

pub no_more : {X : Type 0} {x : X} (f : ℕ → X) (n at : ℕ) → n ≤ at → x ≡ f (n - at) → x ≡ f 0
no_more f n at done e = let none : n - at ≡ 0 = omega arith in e ∙ ap f none

pub pushed : {A B : Type 0} (f : A → B) (xs ys : List A) (x : A) → ys ≡ xs ++ x ∷ [] → map f ys ≡ map f xs ++ f x ∷ []
pushed f xs ys x e = ap (map f) e ∙ map-append f xs (x ∷ [])
