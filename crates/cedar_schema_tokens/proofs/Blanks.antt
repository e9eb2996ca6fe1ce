-- White space at the front of some bytes, and white space and comments there.
use Rattle.std.proofs.Common.{◌≡◌, ◌≢◌, ℕ, zero, suc, ◌-◌, ◌+◌, ◌<◌, ◌≤◌, ◌==◌, ◌&&◌, Bool, true, false, not, List, [], ◌∷◌, ◌++◌, length, drop, slice_index, inl, inr, refl, sym, ap, ◌∙◌, arith, eqb-true}
use Rattle.std.proofs.lemmas.Bool.{cases_Bool}
use Rattle.std.proofs.lemmas.Bool.Decides.{nat_tests}
use Rattle.std.proofs.lemmas.Str.{chars-nil}
use Rattle.std.specs.Char.{is_whitespace, len_utf8}
use Rattle.std.specs.List.{prefix_len}
use Rattle.std.specs.Prelude.{if◌then◌else◌}
use Rattle.std.specs.Str.{chars, chars_after, continuation_len, lead_bits}
use Rattle.cedar_schema_tokens.specs.Lexical.{after_gap, blank_len, first, first_char, gap_from, gap_len, is_line}
use Rattle.cedar_schema_tokens.specs.Spelled.{after_blanks, begins_comment, blanks_from}
use Rattle.cedar_schema_tokens.proofs.Gaps.{gap_none_left, gap_turn_goes, gap_turn_stops}
use Rattle.cedar_schema_tokens.proofs.Skipping as skipping

-- ---- the character at the front

-- the first character of a text is its first byte, where that is ASCII
pub first_ascii : (b : ℕ) (all : List ℕ) → b < 128 → first_char (b ∷ all) ≡ b
unfolding chars
first_ascii b all below =
    let alone : continuation_len b ≡ 0 = grind (arith, nat_tests) in
    let whole : lead_bits b ≡ b = grind (arith, nat_tests) in
    ap (λ n. slice_index (chars_after n (lead_bits b) all) 0) alone ∙ (ap (λ c. slice_index (chars_after 0 c all) 0) whole ∙ here all)
  where
    here : (rest : List ℕ) → slice_index (chars_after 0 b rest) 0 ≡ b
    here [] = refl
    here (x ∷ rest) = refl

blank_nothing : blank_len [] ≡ 0
blank_nothing = ap (λ cs. let c = slice_index cs 0 in if is_whitespace c then len_utf8 c else 0) chars-nil

gap_nothing : gap_len [] ≡ 0
gap_nothing = blank_nothing

-- an ASCII character that is no white space
pub blank_none : (b : ℕ) (all : List ℕ) → b < 128 → is_whitespace b ≡ false → blank_len (b ∷ all) ≡ 0
blank_none b all below other =
    ap (λ c. if is_whitespace c then len_utf8 c else 0) (first_ascii b all below) ∙ ap (λ t. if t then len_utf8 b else 0) other

-- ---- white space

blank_turn_stops : (n : ℕ) (all : List ℕ) → blank_len all ≡ 0 → blanks_from (suc n) all ≡ all
unfolding blanks_from
blank_turn_stops n all none =
    let test : (blank_len all == 0) ≡ true = ap (λ k. k == 0) none in
    ap (λ b. if b then all else blanks_from n (drop (blank_len all) all)) test

other_than_zero : (k : ℕ) → (k ≡ 0 → ⊥) → (k == 0) ≡ false
other_than_zero k some = grind (arith, nat_tests)

blank_turn_goes : (n k : ℕ) (all : List ℕ) → blank_len all ≡ k → (k ≡ 0 → ⊥) → blanks_from (suc n) all ≡ blanks_from n (drop k all)
unfolding blanks_from
blank_turn_goes n k all is some =
    let test : (blank_len all == 0) ≡ false = ap (λ m. m == 0) is ∙ other_than_zero k some in
    ap (λ b. if b then all else blanks_from n (drop (blank_len all) all)) test ∙ ap (λ m. blanks_from n (drop m all)) is

blank_none_left : (all : List ℕ) → blanks_from 0 all ≡ all
unfolding blanks_from
blank_none_left all = refl

pub turn_stops : (n : ℕ) (all : List ℕ) → blank_len all ≡ 0 → blanks_from (suc n) all ≡ all
turn_stops = blank_turn_stops

pub turn_goes : (n k : ℕ) (all : List ℕ) → blank_len all ≡ k → (k ≡ 0 → ⊥) → blanks_from (suc n) all ≡ blanks_from n (drop k all)
turn_goes = blank_turn_goes

pub none_left : (all : List ℕ) → blanks_from 0 all ≡ all
none_left = blank_none_left

pub blanks_stay : (n : ℕ) (all : List ℕ) → blank_len all ≡ 0 → blanks_from n all ≡ all
blanks_stay = skipping.stay blank_len blanks_from blank_nothing blank_none_left blank_turn_stops blank_turn_goes

pub blanks_on : (k : ℕ) (all : List ℕ) → blank_len all ≡ k → (k ≡ 0 → ⊥) → after_blanks all ≡ after_blanks (drop k all)
blanks_on = skipping.on blank_len blanks_from blank_nothing blank_none_left blank_turn_stops blank_turn_goes

pub blanks_end : (all : List ℕ) → blank_len (after_blanks all) ≡ 0
blanks_end all = skipping.ends blank_len blanks_from blank_nothing blank_none_left blank_turn_stops blank_turn_goes (length all) all (omega arith)

pub blanks_shorter : (all : List ℕ) → length (after_blanks all) ≤ length all
blanks_shorter all = skipping.shorter blank_len blanks_from blank_nothing blank_none_left blank_turn_stops blank_turn_goes (length all) all

pub blanks_nothing : after_blanks [] ≡ []
blanks_nothing = blank_none_left []

-- a blank or a line feed at the front is passed over
pub blank_behind : (b : ℕ) (all : List ℕ) → b < 128 → is_whitespace b ≡ true → after_blanks (b ∷ all) ≡ after_blanks all
blank_behind b all below white =
    let one : len_utf8 b ≡ 1 = grind (arith, nat_tests) in
    let is : blank_len (b ∷ all) ≡ 1 =
    ap (λ c. if is_whitespace c then len_utf8 c else 0) (first_ascii b all below) ∙ (ap (λ t. if t then len_utf8 b else 0) white ∙ one) in
    blanks_on 1 (b ∷ all) is (λ e. omega (arith, e))

-- ---- white space and comments

gap_of_comment : (all : List ℕ) → begins_comment all ≡ true → gap_len all ≡ prefix_len is_line all
gap_of_comment all is = ap (λ t. if t then prefix_len is_line all else blank_len all) is

gap_of_blank : (all : List ℕ) → begins_comment all ≡ false → gap_len all ≡ blank_len all
gap_of_blank all is = ap (λ t. if t then prefix_len is_line all else blank_len all) is

-- no white space begins with a slash
comment_no_blank : (all : List ℕ) → begins_comment all ≡ true → blank_len all ≡ 0
comment_no_blank [] is = blank_nothing
comment_no_blank (x ∷ xs) is =
    let slash : x ≡ 47 = grind (arith, nat_tests) in
    ap (λ b. blank_len (b ∷ xs)) slash ∙ blank_none 47 xs (omega arith) refl

gap_on : (k : ℕ) (all : List ℕ) → gap_len all ≡ k → (k ≡ 0 → ⊥) → after_gap all ≡ after_gap (drop k all)
gap_on = skipping.on gap_len gap_from gap_nothing gap_none_left gap_turn_stops gap_turn_goes

blank_is_gap : (all : List ℕ) → (blank_len all ≡ 0 → ⊥) → gap_len all ≡ blank_len all
blank_is_gap all some = elim (cases_Bool (begins_comment all)) [
  | inl comment ↦ absurd (some (comment_no_blank all comment))
  | inr other ↦ gap_of_blank all other
]

gap_behind : (n : ℕ) (all : List ℕ) → after_gap all ≡ after_gap (blanks_from n all)
gap_behind zero all = ap after_gap (sym (blank_none_left all))
gap_behind (suc n) all = elim (skipping.zero_or (blank_len all)) [
  | inl none ↦ ap after_gap (sym (blank_turn_stops n all none))
  | inr some ↦
      let k = blank_len all in
      gap_on k all (blank_is_gap all some) some ∙ gap_behind n (drop k all) ∙ ap after_gap (sym (blank_turn_goes n k all refl some))
]

-- what stands behind white space and comments stands behind them where the white space is gone
pub gap_behind_blanks : (all : List ℕ) → after_gap all ≡ after_gap (after_blanks all)
gap_behind_blanks all = gap_behind (length all) all

-- a comment is passed over
pub gap_behind_comment : (all : List ℕ) → begins_comment all ≡ true → after_gap all ≡ after_gap (drop (prefix_len is_line all) all)
gap_behind_comment [] is = absurd cc
gap_behind_comment (x ∷ xs) is =
    let line : is_line x ≡ true = grind (arith, nat_tests) in
    let some : prefix_len is_line (x ∷ xs) ≡ 0 → ⊥ = λ e. omega (arith, e, ap (λ t. if t then 1 + prefix_len is_line xs else 0) line) in
    gap_on (prefix_len is_line (x ∷ xs)) (x ∷ xs) (gap_of_comment (x ∷ xs) is) some

-- what begins with neither stays
pub gap_stays : (all : List ℕ) → begins_comment all ≡ false → blank_len all ≡ 0 → after_gap all ≡ all
gap_stays all other none =
    skipping.stay gap_len gap_from gap_nothing gap_none_left gap_turn_stops gap_turn_goes (length all) all (gap_of_blank all other ∙ none)
