-- How an id is read as it stands in quotes, character by character.
use Rattle.std.proofs.Common.{◌≡◌, ◌≢◌, ◌<◌, ◌≤◌, ◌+◌, ◌-◌, ◌*◌, ℕ, suc, zero, Bool, true, false, List, [], ◌∷◌, ◌++◌, ◌&&◌, ◌||◌, ◌==◌, Option, Some, None, codes, length, take, drop, get_or, refl, sym, ap, ◌∙◌, subst, arith, cond, nat_le, nat_eq, ◌⊎◌, inl, inr, append-nil, not, nat_lt, map, map-id}
use Rattle.std.proofs.Math.Bool.{and-false}
use Rattle.std.proofs.Math.ListN.{length-append, length-take}
use Rattle.std.proofs.Math.Nat.{eq-or-lt_of_le}
use Rattle.std.proofs.Math.Seq.{take-append_seam}
use Rattle.std.proofs.Math.Utf8.{encodes, encode, scalars, scalar}
use Rattle.std.proofs.lemmas.Bool.{false≢true, cases_order, eqb-true, leb-true, lt-leb, ltb-true, ne_eqb}
use Rattle.std.proofs.lemmas.List.{append_assoc, flat_map_more, take_all, take_more, take-append-drop}
use Rattle.std.proofs.lemmas.Option.{option_and_then_some}
use Rattle.std.proofs.lemmas.Str.{encodes-append, encodes_same, cons_from_encodes, chars-encodes, chars_from_encodes, encodes-chars, length-encode, scalars-chars}
use Rattle.std.specs.Char.{is_control, len_utf8}
use Rattle.std.specs.Cmp.Lexicographic.{pointwise}
use Rattle.std.specs.Fmt.{digits}
use Rattle.std.specs.Int.{is_in_range}
use Rattle.std.specs.List.{cons_option, flat_map}
use Rattle.std.specs.Option.{option_and_then}
use Rattle.std.specs.Str.{IsUtf8, chars}
use Rattle.cedar_ast.proofs.NameReading.{both_true, either}
use Rattle.cedar_ast.proofs.Texts.{text_eq-Decides}
use Rattle.cedar_ast.proofs.TextsOfNames.{cons_head, cons_rest}
use Rattle.cedar_ast.specs.Words.{Backslash, Begins, Closed, Code, Escape, IsQuoted, Open, StopsAt, Text, Unicode, Whole, after_backslash, begins_code, code_digit, escape_then, escaped, escaped_text, first_digit, is_coded, last_whole, second_digit}

-- what is read of a quoted id after more characters
abbrev pub run : Option Escape → List ℕ → Option Escape
run None chars = None
run (Some escape) [] = Some escape
run (Some escape) (c ∷ chars) = run (escape_then escape c) chars

-- two lists in turn are read in turn
pub run-append : (escape : Option Escape) (chars more : List ℕ) → run escape (chars ++ more) ≡ run (run escape chars) more
run-append None chars more = refl
run-append (Some escape) [] more = refl
run-append (Some escape) (c ∷ chars) more = run-append (escape_then escape c) chars more

-- the characters with which a character of an id is printed
abbrev pub spelled : ℕ → List ℕ
spelled c =
    cond (c == 0) (92 ∷ 48 ∷ []) (cond (c == 9) (92 ∷ 116 ∷ []) (cond (c == 10) (92 ∷ 110 ∷ [])
    (cond (c == 13) (92 ∷ 114 ∷ []) (cond (c == 34) (92 ∷ 34 ∷ []) (cond (c == 92) (92 ∷ 92 ∷ [])
    (cond (is_control c) (92 ∷ 117 ∷ 123 ∷ (digits 16 false c ++ 125 ∷ [])) (c ∷ [])))))))

-- a test that each number below one passes
abbrev pub every : ℕ → (ℕ → Bool) → Bool
every zero test = true
every (suc n) test = every n test && test n

-- what is less than the next is less or the same
less_or_last : (c n : ℕ) → c < suc n → (c < n) ⊎ (c ≡ n)
less_or_last c n below = elim (eq-or-lt_of_le (omega (arith, below))) [ inl same ↦ inr same | inr less ↦ inl less ]

-- each number below it passes
pub every-at : (n : ℕ) (test : ℕ → Bool) → every n test ≡ true → (c : ℕ) → c < n → test c ≡ true
every-at zero test all c below = absurd (omega (arith, below))
every-at (suc n) test all c below = elim (less_or_last c n below) [
  | inl less ↦ every-at n test (both_true (every n test) (test n) all).0 c less
  | inr last ↦ rw last (both_true (every n test) (test n) all).1
]

-- texts of characters are the same, as a test
abbrev pub alike : List ℕ → List ℕ → Bool
alike a b = pointwise nat_eq a b

-- one test passes where another does
abbrev implies : Bool → Bool → Bool
implies a b = not a || b

-- and then it passes
implied : (a b : Bool) → implies a b ≡ true → a ≡ true → b ≡ true
implied true b e is = e
implied false b e is = absurd (false≢true is)

-- the state is that a character is read
abbrev is_whole : ℕ → Option Escape → Bool
is_whole c (Some (Whole (Some last))) = last == c
is_whole c _ = false

-- and then it is that state
whole-read : (c : ℕ) (escape : Option Escape) → is_whole c escape ≡ true → escape ≡ Some (Whole (Some c))
whole-read c (Some (Whole (Some last))) e = ap (λ k. Some (Whole (Some k))) (eqb-true last c e)
whole-read _ _ e = absurd (false≢true e)

-- each character below 160 is read from how it is printed
abbrev reads_back : Option ℕ → ℕ → Bool
reads_back last c = is_whole c (run (Some (Whole last)) (spelled c))

table_read : (last : Option ℕ) → every 160 (reads_back last) ≡ true
unfolding digits
table_read last = refl

-- and is printed by the same bytes
abbrev has_same_bytes : ℕ → Bool
has_same_bytes c = alike (encodes (spelled c)) (escaped c)

table_bytes : every 160 has_same_bytes ≡ true
unfolding digits encode
table_bytes = refl

-- those that need no escape stand for themselves
abbrev is_plain : ℕ → Bool
is_plain c = not (c == 92) && (not (c == 34) && not (is_control c))

abbrev is_plain_spelled : ℕ → Bool
is_plain_spelled c = implies (is_plain c) (alike (spelled c) (c ∷ []))

table_plain : every 160 is_plain_spelled ≡ true
unfolding digits
table_plain = refl

-- those that are printed by their number
abbrev is_code_spelled : ℕ → Bool
is_code_spelled c = implies (is_coded c) (alike (92 ∷ 117 ∷ 123 ∷ (digits 16 false c ++ 125 ∷ [])) (spelled c))

table_coded : every 160 is_code_spelled ≡ true
unfolding digits
table_coded = refl

-- a test of the digit, where there is one
abbrev digit_fits : (ℕ → Bool) → Option ℕ → Bool
digit_fits test None = true
digit_fits test (Some digit) = test digit

-- a first digit begins the number of one
abbrev first_digit_fits : ℕ → ℕ → Bool
first_digit_fits c digit = implies (begins_code digit) (((is_coded digit || (digit == 9)) && nat_lt digit 160) && alike (digits 16 false digit) (c ∷ []))

abbrev first_fits : ℕ → Bool
first_fits c = digit_fits (first_digit_fits c) (code_digit c)

table_first : every 128 first_fits ≡ true
unfolding digits
table_first = refl

-- a second digit ends the number of one
abbrev second_digit_fits : ℕ → ℕ → ℕ → Bool
second_digit_fits c code digit =
    implies ((is_coded code || (code == 9)) && is_control (code * 16 + digit))
    ((is_coded (code * 16 + digit) && nat_lt (code * 16 + digit) 160) && alike (digits 16 false (code * 16 + digit)) (digits 16 false code ++ c ∷ []))

abbrev second_fits : ℕ → ℕ → Bool
second_fits c code = digit_fits (second_digit_fits c code) (code_digit c)

table_second : every 128 (λ c. every 16 (second_fits c)) ≡ true
unfolding digits
table_second = refl

-- the characters with which an id is printed
abbrev pub all_spelled : List ℕ → List ℕ
all_spelled es = flat_map spelled es

-- what is read of an id in quotes: whole characters, and the beginning of one more
abbrev pub HasEscape : Escape → List ℕ → List ℕ → Type 0
HasEscape (Whole last) es chars = chars ≡ all_spelled es
HasEscape Backslash es chars = chars ≡ all_spelled es ++ 92 ∷ []
HasEscape Unicode es chars = chars ≡ all_spelled es ++ 92 ∷ 117 ∷ []
HasEscape Open es chars = chars ≡ all_spelled es ++ 92 ∷ 117 ∷ 123 ∷ []
HasEscape (Code code) es chars =
    ((is_coded code || (code == 9)) ≡ true) × (code < 160) × (chars ≡ all_spelled es ++ 92 ∷ 117 ∷ 123 ∷ digits 16 false code)
HasEscape Closed es chars = chars ≡ all_spelled es ++ 34 ∷ []

-- a test that fails chooses the other
pub cond_false : {X : Type 0} (test : Bool) (first other : X) → test ≡ false → cond test first other ≡ other
cond_false test first other e = ap (λ it. cond it first other) e

-- a number is below another or not
pub below_or_not : (c n : ℕ) → (c < n) ⊎ (n ≤ c)
below_or_not c n =
    elim (cases_order c n) [
      | inl same ↦ inr (omega (arith, same))
      | inr rest ↦ elim rest [ inl less ↦ inl less | inr more ↦ inr (omega (arith, more)) ]
    ]

-- a character from 160 on is no other one
pub other : (c k : ℕ) → 160 ≤ c → k < 160 → (c == k) ≡ false
other c k large small = ne_eqb c k (λ e. absurd (omega (arith, large, small, e)))

-- and no control
pub no_control : (c : ℕ) → 160 ≤ c → is_control c ≡ false
no_control c large =
    ap (λ low. (nat_le 0 c && low) || (nat_le 127 c && nat_le c 159)) (lt-leb c 31 (omega (arith, large)))
    ∙ ap (λ test. test || (nat_le 127 c && nat_le c 159)) (and-false (nat_le 0 c))
    ∙ ap (λ low. nat_le 127 c && low) (lt-leb c 159 (omega (arith, large))) ∙ and-false (nat_le 127 c)

-- it is printed as it is
pub spelled-wide : (c : ℕ) → 160 ≤ c → spelled c ≡ c ∷ []
spelled-wide c large =
    cond_false (c == 0) _ _ (other c 0 large (omega arith)) ∙ cond_false (c == 9) _ _ (other c 9 large (omega arith))
    ∙ cond_false (c == 10) _ _ (other c 10 large (omega arith)) ∙ cond_false (c == 13) _ _ (other c 13 large (omega arith))
    ∙ cond_false (c == 34) _ _ (other c 34 large (omega arith)) ∙ cond_false (c == 92) _ _ (other c 92 large (omega arith))
    ∙ cond_false (is_control c) _ _ (no_control c large)

-- by the same bytes
escaped-wide : (c : ℕ) → 160 ≤ c → escaped c ≡ encode c
escaped-wide c large =
    cond_false (c == 0) _ _ (other c 0 large (omega arith)) ∙ cond_false (c == 9) _ _ (other c 9 large (omega arith))
    ∙ cond_false (c == 10) _ _ (other c 10 large (omega arith)) ∙ cond_false (c == 13) _ _ (other c 13 large (omega arith))
    ∙ cond_false (c == 34) _ _ (other c 34 large (omega arith)) ∙ cond_false (c == 92) _ _ (other c 92 large (omega arith))
    ∙ cond_false (is_control c) _ _ (no_control c large)

-- the bytes of what a character is printed with
encodes-spelled : (c : ℕ) → encodes (spelled c) ≡ escaped c
encodes-spelled c = elim (below_or_not c 160) [
  | inl small ↦ (text_eq-Decides (encodes (spelled c)) (escaped c)).0 (every-at 160 has_same_bytes table_bytes c small)
  | inr large ↦ ap encodes (spelled-wide c large) ∙ append-nil (encode c) ∙ sym (escaped-wide c large)
]

-- and of what an id is printed with
pub encodes-all_spelled : (es : List ℕ) → encodes (all_spelled es) ≡ flat_map escaped es
encodes-all_spelled [] = refl
encodes-all_spelled (c ∷ es) =
    encodes-append (spelled c) (all_spelled es) ∙ ap (λ front. front ++ encodes (all_spelled es)) (encodes-spelled c)
    ∙ ap (λ rest. escaped c ++ rest) (encodes-all_spelled es)

-- a character that needs no escape is printed as it is
spelled-plain : (c : ℕ) → is_plain c ≡ true → spelled c ≡ c ∷ []
spelled-plain c plain = elim (below_or_not c 160) [
  | inl small ↦
      (text_eq-Decides (spelled c) (c ∷ [])).0
      (implied (is_plain c) (alike (spelled c) (c ∷ [])) (every-at 160 is_plain_spelled table_plain c small) plain)
  | inr large ↦ spelled-wide c large
]

-- a character is read from how it is printed
pub run-spelled : (last : Option ℕ) (c : ℕ) → run (Some (Whole last)) (spelled c) ≡ Some (Whole (Some c))
run-spelled last c = elim (below_or_not c 160) [
  | inl small ↦ whole-read c (run (Some (Whole last)) (spelled c)) (every-at 160 (reads_back last) (table_read last) c small)
  | inr large ↦
      ap (run (Some (Whole last))) (spelled-wide c large)
      ∙ ap (λ escape. run escape []) (cond_false (c == 92) _ _ (other c 92 large (omega arith))
      ∙ cond_false (c == 34) _ _ (other c 34 large (omega arith)) ∙ cond_false (is_control c) _ _ (no_control c large))
]

-- and so is an id, with the quote that ends it
pub run-all_spelled : (last : Option ℕ) (es : List ℕ) → run (Some (Whole last)) (all_spelled es ++ 34 ∷ []) ≡ Some Closed
run-all_spelled last [] = refl
run-all_spelled last (c ∷ es) =
    ap (run (Some (Whole last))) (append_assoc (spelled c) (all_spelled es) (34 ∷ []))
    ∙ run-append (Some (Whole last)) (spelled c) (all_spelled es ++ 34 ∷ [])
    ∙ ap (λ escape. run escape (all_spelled es ++ 34 ∷ [])) (run-spelled last c) ∙ run-all_spelled (Some c) es

-- a test that chooses gives what it chose
chosen : {A : Type 0} (test : Bool) (first other : Option A) (a : A) → cond test first other ≡ Some a
    → ((test ≡ true) × (first ≡ Some a)) ⊎ ((test ≡ false) × (other ≡ Some a))
chosen true first other a e = inl (refl, e)
chosen false first other a e = inr (refl, e)

-- options of what is read are equal where these are
same_escape : (a b : Escape) → Some a ≡ Some b → a ≡ b
same_escape a b e = cc

-- what is read with a character that ends one of the id
whole-step : (es chars front : List ℕ) (c d : ℕ) → chars ≡ all_spelled es ++ front → front ++ c ∷ [] ≡ spelled d
    → chars ++ c ∷ [] ≡ all_spelled (es ++ d ∷ [])
whole-step es chars front c d is ends =
    ap (λ all. all ++ c ∷ []) is ∙ append_assoc (all_spelled es) front (c ∷ []) ∙ ap (λ rest. all_spelled es ++ rest) ends
    ∙ flat_map_more spelled [] es d

-- and with one that ends none
more-step : (es chars front back : List ℕ) (c : ℕ) → chars ≡ all_spelled es ++ front → front ++ c ∷ [] ≡ back
    → chars ++ c ∷ [] ≡ all_spelled (es ++ []) ++ back
more-step es chars front back c is goes =
    ap (λ all. all ++ c ∷ []) is ∙ append_assoc (all_spelled es) front (c ∷ []) ∙ ap (λ rest. all_spelled es ++ rest) goes
    ∙ ap (λ whole. all_spelled whole ++ back) (sym (append-nil es))

-- what is read with one character more
abbrev Then : List ℕ → List ℕ → ℕ → Escape → Type 0
Then es chars c next = HasEscape next (es ++ cons_option (last_whole next) []) (chars ++ c ∷ [])

-- the digits are of ASCII
digit-ascii : (c digit : ℕ) → code_digit c ≡ Some digit → c < 128
digit-ascii c digit e = elim (chosen (is_in_range 48 57 c) (Some (c - 48)) (cond (is_in_range 97 102 c) (Some (c - 87)) None) digit e) [
  | inl is ↦ let most = leb-true c 57 (both_true (nat_le 48 c) (nat_le c 57) is.0).1 in omega (arith, most)
  | inr rest ↦
      elim (chosen (is_in_range 97 102 c) (Some (c - 87)) None digit rest.1) [
        | inl is ↦ let most = leb-true c 102 (both_true (nat_le 97 c) (nat_le c 102) is.0).1 in omega (arith, most)
        | inr none ↦ absurd cc
      ]
]

-- a whole character, or what begins one, after a backslash
step-backslash : (es chars : List ℕ) (c : ℕ) (next : Escape) → chars ≡ all_spelled es ++ 92 ∷ [] → after_backslash c ≡ Some next
    → Then es chars c next
step-backslash es chars c next is e =
    elim (chosen (c == 48) _ _ next e) [
      | inl got ↦ letter 48 0 got refl
      | inr rest ↦
          let e = rest.1 in
          elim (chosen (c == 116) _ _ next e) [
            | inl got ↦ letter 116 9 got refl
            | inr rest ↦
                let e = rest.1 in
                elim (chosen (c == 110) _ _ next e) [
                  | inl got ↦ letter 110 10 got refl
                  | inr rest ↦
                      let e = rest.1 in
                      elim (chosen (c == 114) _ _ next e) [
                        | inl got ↦ letter 114 13 got refl
                        | inr rest ↦
                            let e = rest.1 in
                            elim (chosen (c == 34) _ _ next e) [
                              | inl got ↦ letter 34 34 got refl
                              | inr rest ↦
                                  let e = rest.1 in
                                  elim (chosen (c == 92) _ _ next e) [
                                    | inl got ↦ letter 92 92 got refl
                                    | inr rest ↦
                                        let e = rest.1 in
                                        elim (chosen (c == 117) _ _ next e) [
                                          | inl got ↦
                                              rw (← (same_escape Unicode next got.1)) (more-step es chars (92 ∷ []) (92 ∷ 117 ∷ []) c is (ap (λ k. 92 ∷ k ∷ []) (eqb-true c 117 got.0)))
                                          | inr none ↦ absurd cc
                                        ]
                                  ]
                            ]
                      ]
                ]
          ]
    ]
  where
    letter : (sign d : ℕ) → ((c == sign) ≡ true) × (Some (Whole (Some d)) ≡ Some next) → 92 ∷ sign ∷ [] ≡ spelled d → Then es chars c next
    letter sign d got spells =
        rw (← (same_escape (Whole (Some d)) next got.1)) (whole-step es chars (92 ∷ []) c d is (ap (λ k. 92 ∷ k ∷ []) (eqb-true c sign got.0) ∙ spells))

-- a first digit after `{`
step-first : (es chars : List ℕ) (c : ℕ) (next : Escape) → chars ≡ all_spelled es ++ 92 ∷ 117 ∷ 123 ∷ []
    → option_and_then first_digit (code_digit c) ≡ Some next → Then es chars c next
step-first es chars c next is e = option_and_then_some first_digit (code_digit c) next e (λ digit found goes.
    let test : first_digit_fits c digit ≡ true =
    rw found at (every-at 128 first_fits table_first c (digit-ascii c digit found)) in
    elim (chosen (begins_code digit) _ _ next goes) [
      | inl got ↦
          let fits = both_true _ _ (implied (begins_code digit) _ test got.0) in
          let range = both_true _ _ fits.0 in
          rw (← (same_escape (Code digit) next got.1)) (
            range.0,
            ltb-true digit 160 range.1,
            more-step es chars (92 ∷ 117 ∷ 123 ∷ []) (92 ∷ 117 ∷ 123 ∷ digits 16 false digit) c is
                (ap (λ rest. 92 ∷ 117 ∷ 123 ∷ rest) (sym ((text_eq-Decides (digits 16 false digit) (c ∷ [])).0 fits.1))),
          )
      | inr none ↦ absurd cc
    ])

-- a second digit after a first
step-second : (es chars : List ℕ) (c code : ℕ) (next : Escape) → ((is_coded code || (code == 9)) ≡ true)
    → chars ≡ all_spelled es ++ 92 ∷ 117 ∷ 123 ∷ digits 16 false code
    → option_and_then (second_digit code) (code_digit c) ≡ Some next → Then es chars c next
step-second es chars c code next valid is e = option_and_then_some (second_digit code) (code_digit c) next e (λ digit found goes.
    elim (chosen (nat_lt code 16 && is_control (code * 16 + digit)) _ _ next goes) [
      | inl got ↦
          let halves = both_true (nat_lt code 16) (is_control (code * 16 + digit)) got.0 in
          let test : second_digit_fits c code digit ≡ true =
          rw found at (every-at 16 (second_fits c) (every-at 128 (λ c. every 16 (second_fits c)) table_second c (digit-ascii c digit found)) code (ltb-true code 16 halves.0)) in
          let fits = both_true _ _ (implied _ _ test (ap (λ it. it && is_control (code * 16 + digit)) valid ∙ halves.1)) in
          let range = both_true _ _ fits.0 in
          rw (← (same_escape (Code (code * 16 + digit)) next got.1)) (
            ap (λ it. it || (code * 16 + digit == 9)) range.0,
            ltb-true (code * 16 + digit) 160 range.1,
            more-step es chars (92 ∷ 117 ∷ 123 ∷ digits 16 false code) (92 ∷ 117 ∷ 123 ∷ digits 16 false (code * 16 + digit)) c is
                (ap (λ rest. 92 ∷ 117 ∷ 123 ∷ rest)
                (sym ((text_eq-Decides (digits 16 false (code * 16 + digit)) (digits 16 false code ++ c ∷ [])).0 fits.1))),
          )
      | inr none ↦ absurd cc
    ])

-- what is read goes on with a character that may stand there
pub step : (escape : Escape) (es chars : List ℕ) (c : ℕ) (next : Escape) → HasEscape escape es chars → escape_then escape c ≡ Some next
    → Then es chars c next
step (Whole last) es chars c next is e =
    elim (chosen (c == 92) _ _ next e) [
      | inl got ↦
          rw (← (same_escape Backslash next got.1)) (more-step es chars [] (92 ∷ []) c flat (ap (λ k. k ∷ []) (eqb-true c 92 got.0)))
      | inr rest ↦
          elim (chosen (c == 34) _ _ next rest.1) [
            | inl got ↦
                rw (← (same_escape Closed next got.1)) (more-step es chars [] (34 ∷ []) c flat (ap (λ k. k ∷ []) (eqb-true c 34 got.0)))
            | inr last ↦
                elim (chosen (is_control c) _ _ next last.1) [
                  | inl none ↦ absurd cc
                  | inr got ↦
                      rw (← (same_escape (Whole (Some c)) next got.1)) (whole-step es chars [] c c flat (sym (spelled-plain c (plain rest.0 last.0 got.0))))
                ]
          ]
    ]
  where
    flat : chars ≡ all_spelled es ++ []
    flat = is ∙ sym (append-nil (all_spelled es))

    plain : (c == 92) ≡ false → (c == 34) ≡ false → is_control c ≡ false → is_plain c ≡ true
    plain a b d = ap (λ it. not it && (not (c == 34) && not (is_control c))) a ∙ ap (λ it. not it && not (is_control c)) b ∙ ap not d
step Backslash es chars c next is e = step-backslash es chars c next is e
step Unicode es chars c next is e =
    elim (chosen (c == 123) _ _ next e) [
      | inl got ↦
          rw (← (same_escape Open next got.1)) (more-step es chars (92 ∷ 117 ∷ []) (92 ∷ 117 ∷ 123 ∷ []) c is (ap (λ k. 92 ∷ 117 ∷ k ∷ []) (eqb-true c 123 got.0)))
      | inr none ↦ absurd cc
    ]
step Open es chars c next is e = step-first es chars c next is e
step (Code code) es chars c next (valid, small, is) e =
    elim (chosen (c == 125) _ _ next e) [
      | inl ends ↦
          elim (chosen (is_coded code) _ _ next ends.1) [
            | inl got ↦
                rw (← (same_escape (Whole (Some code)) next got.1)) (whole-step es chars (92 ∷ 117 ∷ 123 ∷ digits 16 false code) c code is
                (ap (λ k. 92 ∷ 117 ∷ 123 ∷ (digits 16 false code ++ k ∷ [])) (eqb-true c 125 ends.0)
                ∙ (text_eq-Decides (92 ∷ 117 ∷ 123 ∷ (digits 16 false code ++ 125 ∷ [])) (spelled code)).0
                (implied (is_coded code) _ (every-at 160 is_code_spelled table_coded code small) got.0)))
            | inr none ↦ absurd cc
          ]
      | inr rest ↦ step-second es chars c code next valid is rest.1
    ]
step Closed es chars c next is e = absurd cc

-- U+0001 as it is printed
one_spelled : 92 ∷ 117 ∷ 123 ∷ 49 ∷ 125 ∷ [] ≡ spelled 1
unfolding digits
one_spelled = refl

-- U+0090 as it is printed
nine_spelled : 92 ∷ 117 ∷ 123 ∷ (digits 16 false 9 ++ 48 ∷ 125 ∷ []) ≡ spelled 144
unfolding digits
nine_spelled = refl

-- a number below 160 is that of a character
small_scalar : (c : ℕ) → c < 160 → scalar c ≡ true
small_scalar c small = every-at 160 scalar table_scalar c small
  where
    table_scalar : every 160 scalar ≡ true
    table_scalar = refl

-- characters in turn that have numbers have them
scalars-more : (es : List ℕ) (d : ℕ) → scalars es ≡ true → scalar d ≡ true → scalars (es ++ d ∷ []) ≡ true
scalars-more [] d all is = ap (λ it. it && true) is
scalars-more (c ∷ es) d all is =
    let halves = both_true (scalar c) (scalars es) all in
    ap (λ it. it && scalars (es ++ d ∷ [])) halves.0 ∙ scalars-more es d halves.1 is

-- characters that go on to the whole of an id in quotes
abbrev GoesOn : List ℕ → Type 0
GoesOn chars = (rest : List ℕ) × (es : List ℕ) × (scalars es ≡ true) × (chars ++ rest ≡ all_spelled es ++ 34 ∷ [])

-- what begins a character goes on with its end and the quote
finish : (es chars front back : List ℕ) (d : ℕ) → scalars es ≡ true → scalar d ≡ true → chars ≡ all_spelled es ++ front
    → front ++ back ≡ spelled d → GoesOn chars
finish es chars front back d all is begun ends = (
  back ++ 34 ∷ [],
  es ++ d ∷ [],
  scalars-more es d all is,
  sym (append_assoc chars back (34 ∷ []))
      ∙ ap (λ whole. whole ++ 34 ∷ []) (ap (λ whole. whole ++ back) begun ∙ append_assoc (all_spelled es) front back
      ∙ ap (λ rest. all_spelled es ++ rest) ends ∙ flat_map_more spelled [] es d),
)

-- what is read of an id in quotes goes on to the whole of one
goes_on : (escape : Escape) (es chars : List ℕ) → scalars es ≡ true → HasEscape escape es chars → GoesOn chars
goes_on (Whole last) es chars all is = (34 ∷ [], es, all, ap (λ whole. whole ++ 34 ∷ []) is)
goes_on Backslash es chars all is = finish es chars (92 ∷ []) (48 ∷ []) 0 all refl is refl
goes_on Unicode es chars all is = finish es chars (92 ∷ 117 ∷ []) (123 ∷ 49 ∷ 125 ∷ []) 1 all refl is (one_spelled)
goes_on Open es chars all is = finish es chars (92 ∷ 117 ∷ 123 ∷ []) (49 ∷ 125 ∷ []) 1 all refl is (one_spelled)
goes_on (Code code) es chars all (valid, small, is) = elim (either (is_coded code) (code == 9) valid) [
  | inl coded ↦
      finish es chars (92 ∷ 117 ∷ 123 ∷ digits 16 false code) (125 ∷ []) code all (small_scalar code small) is
      ((text_eq-Decides (92 ∷ 117 ∷ 123 ∷ (digits 16 false code ++ 125 ∷ [])) (spelled code)).0
      (implied (is_coded code) _ (every-at 160 is_code_spelled table_coded code small) coded))
  | inr nine ↦
      finish es chars (92 ∷ 117 ∷ 123 ∷ digits 16 false code) (48 ∷ 125 ∷ []) 144 all refl is
      (ap (λ k. 92 ∷ 117 ∷ 123 ∷ (digits 16 false k ++ 48 ∷ 125 ∷ [])) (eqb-true code 9 nine) ∙ nine_spelled)
]
goes_on Closed es chars all is = ([], es, all, append-nil chars ∙ is)

-- the bytes of an id's characters in quotes are a quoted id
pub quoted : (es : List ℕ) → scalars es ≡ true → escaped_text (encodes es) ++ codes "\"" ≡ encodes (all_spelled es ++ 34 ∷ [])
unfolding encode
quoted es all =
    ap (λ chars. flat_map escaped chars ++ codes "\"") (chars-encodes es all)
    ∙ ap (λ front. front ++ codes "\"") (sym (encodes-all_spelled es)) ∙ sym (encodes-append (all_spelled es) (34 ∷ []))

-- and a quoted id has such characters
unquoted : (text : Text) → IsQuoted text → (es : List ℕ) × (encodes (all_spelled es ++ 34 ∷ []) ≡ text)
unquoted text (eid, utf8, is) = (
  chars eid,
  sym (quoted (chars eid) (scalars-chars eid utf8)) ∙ ap (λ bytes. escaped_text bytes ++ codes "\"") (encodes-chars eid utf8) ∙ is,
)

-- characters whose bytes begin with those of others begin with these
pub begins_with : (ys zs : List ℕ) (rest : Text) → encodes zs ≡ encodes ys ++ rest → (ds : List ℕ) × (zs ≡ ys ++ ds) × (encodes ds ≡ rest)
begins_with [] zs rest e = (zs, refl, e)
begins_with (y ∷ ys) zs rest e =
    let first = cons_from_encodes zs (encodes ys ++ rest) y (e ∙ append_assoc (encode y) (encodes ys) rest) in
    let later = begins_with ys first.0 rest first.2 in
    (later.0, first.1 ∙ ap (λ more. y ∷ more) later.1, later.2)

-- where nothing is read of some characters, no quoted id begins with them
dead : (ys : List ℕ) (rest : Text) → run (Some (Whole None)) ys ≡ None → ¬ IsQuoted (encodes ys ++ rest)
dead ys rest none is =
    let known = unquoted (encodes ys ++ rest) is in
    let front = begins_with ys (all_spelled known.0 ++ 34 ∷ []) rest known.1 in
    let whole : run (Some (Whole None)) (all_spelled known.0 ++ 34 ∷ []) ≡ None =
    ap (run (Some (Whole None))) front.1 ∙ run-append (Some (Whole None)) ys front.0 ∙ ap (λ escape. run escape front.0) none in
    let closed = run-all_spelled None known.0 in
    absurd cc

-- what is read after some characters: the state, the bytes of the id so far, and how many bytes are
-- read
pub record HasReadId (escape : Escape) (id : Text) (at : ℕ) (ys : List ℕ) : Type 0 where
  pub runs : run (Some (Whole None)) ys ≡ Some escape
  pub es : List ℕ
  pub bytes : encodes es ≡ id
  pub read : HasEscape escape es ys
  pub count : at ≡ length (encodes ys)

-- how many bytes one character more makes
longer_count : (ys : List ℕ) (c at : ℕ) → at ≡ length (encodes ys) → at + len_utf8 c ≡ length (encodes (ys ++ c ∷ []))
longer_count ys c at count =
    let all = length-append (encodes ys) (encodes (c ∷ [])) in
    let one = length-append (encode c) [] in
    let bytes = length-encode c in
    let sum = ap length (encodes-append ys (c ∷ [])) in
    omega (arith, count, all, one, bytes, sum)

-- the state after one character more
runs_more : (escape : Escape) (ys : List ℕ) (c : ℕ) (next : Escape) → run (Some (Whole None)) ys ≡ Some escape
    → escape_then escape c ≡ Some next → run (Some (Whole None)) (ys ++ c ∷ []) ≡ Some next
runs_more escape ys c next runs goes =
    run-append (Some (Whole None)) ys (c ∷ []) ∙ ap (λ it. run it (c ∷ [])) runs ∙ ap (λ it. run it []) goes

-- a character that ends one of the id is read
pub HasReadId-whole : (escape : Escape) (id : Text) (at : ℕ) (ys : List ℕ) (c : ℕ) (next : Escape) (d : ℕ) → HasReadId escape id at ys
    → escape_then escape c ≡ Some next → last_whole next ≡ Some d → HasReadId next (id ++ encode d) (at + len_utf8 c) (ys ++ c ∷ [])
HasReadId-whole escape id at ys c next d before goes last = record {
  runs = runs_more escape ys c next before.runs goes;
  es = before.es ++ d ∷ [];
  bytes = encodes-append before.es (d ∷ []) ∙ ap (λ front. front ++ (encode d ++ [])) before.bytes ∙ ap (λ rest. id ++ rest) (append-nil (encode d));
  read = rw last at (step escape before.es ys c next before.read goes);
  count = longer_count ys c at before.count;
}

-- a character that ends none is read
pub HasReadId-more : (escape : Escape) (id : Text) (at : ℕ) (ys : List ℕ) (c : ℕ) (next : Escape) → HasReadId escape id at ys
    → escape_then escape c ≡ Some next → last_whole next ≡ None → HasReadId next id (at + len_utf8 c) (ys ++ c ∷ [])
HasReadId-more escape id at ys c next before goes last = record {
  runs = runs_more escape ys c next before.runs goes;
  es = before.es;
  bytes = before.bytes;
  read = rw (last, append-nil before.es) at (step escape before.es ys c next before.read goes);
  count = longer_count ys c at before.count;
}

-- the same is read under other names
pub HasReadId-like : {escape : Escape} {id other : Text} {at after : ℕ} {ys : List ℕ} → id ≡ other → at ≡ after → HasReadId escape id at ys
    → HasReadId escape other after ys
HasReadId-like {escape = escape} {ys = ys} ids places has = subst (λ X. X) (λ i. HasReadId escape (ids i) (places i) ys) has

-- the text is its characters: those that are read, the next one and others
pub characters : (text : Text) (ys : List ℕ) (c : ℕ) → IsUtf8 text → ys ≡ take (length ys) (chars text) → length ys < length (chars text)
    → c ≡ get_or (chars text) (length ys) c → (zs : List ℕ) × (chars text ≡ ys ++ c ∷ zs)
characters text ys c utf8 front below here =
    let all = chars text in
    let n = length ys in (
      drop (n + 1) all,
      sym (take-append-drop (n + 1) all)
          ∙ ap (λ first. first ++ drop (n + 1) all) (take_more all n c below ∙ ap (λ last. take n all ++ last ∷ []) (sym here)
          ∙ ap (λ first. first ++ c ∷ []) (sym front)) ∙ append_assoc ys (c ∷ []) (drop (n + 1) all),
    )

-- the characters that came so far, and the next
pub characters_by : (text : Text) (ys : List ℕ) (c : ℕ) → IsUtf8 text → map (λ y. y) ys ≡ take (length ys) (chars text)
    → (length ys < length (chars text)) × (c ≡ get_or (chars text) (length ys) c) → (zs : List ℕ) × (chars text ≡ ys ++ c ∷ zs)
characters_by text ys c utf8 front turn = characters text ys c utf8 (sym (map-id ys) ∙ front) turn.0 turn.1

-- the bytes of what is read and of the next character stand in the text
pub counted_within : (text : Text) (ys zs : List ℕ) (c at : ℕ) → IsUtf8 text → chars text ≡ ys ++ c ∷ zs → at ≡ length (encodes ys)
    → at + len_utf8 c ≤ length text
counted_within text ys zs c at utf8 is count =
    let sum = ap length (encodes-append ys (c ∷ zs)) in
    let all = length-append (encodes ys) (encodes (c ∷ zs)) in
    let rest = length-append (encode c) (encodes zs) in
    let bytes = length-encode c in
    let whole = ap length (sym (encodes-chars text utf8) ∙ ap encodes is) in
    omega (arith, count, sum, all, rest, bytes, whole)

-- characters that stand before others have numbers as these do
scalars-front : (ys more : List ℕ) → scalars (ys ++ more) ≡ true → scalars ys ≡ true
scalars-front [] more all = refl
scalars-front (y ∷ ys) more all =
    let halves = both_true (scalar y) (scalars (ys ++ more)) all in
    ap (λ it. it && scalars ys) halves.0 ∙ scalars-front ys more halves.1

-- and so do those that stand after others
scalars-rest : (ys more : List ℕ) → scalars (ys ++ more) ≡ true → scalars more ≡ true
scalars-rest [] more all = all
scalars-rest (y ∷ ys) more all = scalars-rest ys more (both_true (scalar y) (scalars (ys ++ more)) all).1

-- what stands after a text in a text is one
pub utf8_rest : (front rest : Text) → IsUtf8 front → IsUtf8 (front ++ rest) → IsUtf8 rest
utf8_rest front rest (ys, (_, front-bytes)) (zs, (all, bytes)) =
    let later = begins_with ys zs rest (bytes ∙ ap (λ first. first ++ rest) (sym front-bytes)) in
    (later.0, (scalars-rest ys later.0 (rw later.1 at all), later.2))

-- what is read begins a quoted id
begins_id : (escape : Escape) (id : Text) (at : ℕ) (ys : List ℕ) → IsUtf8 id → HasReadId escape id at ys → Begins IsQuoted (encodes ys)
begins_id escape id at ys utf8 has =
    let all : scalars has.es ≡ true =
    rw (chars_from_encodes has.es id utf8 has.bytes) (scalars-chars id utf8) in
    let on = goes_on escape has.es ys all has.read in (
      encodes on.0,
      (
        encodes on.1,
        (on.1, (on.2, refl)),
        quoted on.1 on.2 ∙ ap encodes (sym on.3) ∙ encodes-append ys on.0,
      ),
    )

-- what begins with as many characters and has more bytes begins with the next one too
further : (ys ds : List ℕ) (c : ℕ) (zs ts : List ℕ) → ys ++ c ∷ zs ≡ ds ++ ts → length (encodes ys) < length (encodes ds)
    → (more : List ℕ) × (ds ≡ ys ++ c ∷ more)
further [] (d ∷ ds) c zs ts same less = (ds, ap (λ first. first ∷ ds) (sym (cons_head same)))
further (y ∷ ys) (d ∷ ds) c zs ts same less =
    let first : y ≡ d = cons_head same in
    let one = length-append (encode y) (encodes ys) in
    let other = length-append (encode d) (encodes ds) in
    let bytes = ap (λ it. length (encode it)) first in
    let later = further ys ds c zs ts (cons_rest same) (omega (arith, less, one, other, bytes)) in
    (later.0, ap (λ it. it ∷ ds) (sym first) ∙ ap (λ rest. y ∷ rest) later.1)
further _ _ c zs ts same less = absurd (omega (arith, less))

-- where no id goes on with a character, the text stops there
pub stops_at_char : (text : Text) (escape : Escape) (id : Text) (at : ℕ) (ys zs : List ℕ) (c : ℕ) → IsUtf8 text → IsUtf8 id
    → chars text ≡ ys ++ c ∷ zs → HasReadId escape id at ys → escape_then escape c ≡ None → StopsAt IsQuoted text at
stops_at_char text escape id at ys zs c utf8 id-utf8 is has none =
    let none_read : run (Some (Whole None)) (ys ++ c ∷ []) ≡ None =
    run-append (Some (Whole None)) ys (c ∷ []) ∙ ap (λ it. run it (c ∷ [])) has.runs ∙ ap (λ it. run it []) none in
    let whole : text ≡ encodes ys ++ encodes (c ∷ zs) = sym (encodes-chars text utf8) ∙ ap encodes is ∙ encodes-append ys (c ∷ zs) in
    let front : take at text ≡ encodes ys =
    ap (λ n. take n text) has.count ∙ ap (take (length (encodes ys))) whole ∙ take-append_seam (encodes ys) (encodes (c ∷ zs)) in
    record {
      other = λ named. dead (ys ++ c ∷ []) (encodes zs) none_read (rw (whole ∙ sym (ap (λ first. first ++ encodes zs) (encodes-append ys (c ∷ []) ∙ ap (λ one. encodes ys ++ one) (append-nil (encode c)))
          ∙ append_assoc (encodes ys) (encode c) (encodes zs))) at named);
      beginning = record {
        within = (let all = counted_within text ys zs c at utf8 is has.count in omega (arith, all));
        whole = rw front (ys, (scalars-front ys (c ∷ zs) (rw is at (scalars-chars text utf8)), refl));
        begins = rw front (begins_id escape id at ys id-utf8 has);
        longest = λ longer more inside (ds, (ds-scalar, ds-bytes)) (rest, begun).
            let split : encodes (ys ++ c ∷ zs) ≡ encodes ds ++ drop longer text =
            encodes-append ys (c ∷ zs) ∙ sym whole ∙ sym (take-append-drop longer text)
            ∙ ap (λ first. first ++ drop longer text) (sym ds-bytes) in
            let within = begins_with ds (ys ++ c ∷ zs) (drop longer text) split in
            let bytes = ap length ds-bytes in
            let count = has.count in
            let long = length-take longer text in
            let on = further ys ds c zs within.0 within.1 (omega (arith, more, inside, bytes, count, long)) in
            let parts : take longer text ++ rest ≡ encodes (ys ++ c ∷ []) ++ (encodes on.0 ++ rest) =
            ap (λ first. first ++ rest) (sym ds-bytes ∙ ap encodes (on.1 ∙ sym (append_assoc ys (c ∷ []) on.0))
            ∙ encodes-append (ys ++ c ∷ []) on.0) ∙ append_assoc (encodes (ys ++ c ∷ [])) (encodes on.0) rest in
            dead (ys ++ c ∷ []) (encodes on.0 ++ rest) none_read (rw parts at begun);
      };
    }

-- a text that is read to its end but for the quote stops there
pub stops_at_id_end : (text : Text) (escape : Escape) (id : Text) (at : ℕ) → IsUtf8 text → IsUtf8 id → HasReadId escape id at (chars text)
    → escape ≢ Closed → StopsAt IsQuoted text (length text)
stops_at_id_end text escape id at utf8 id-utf8 has unfinished =
    let all : take (length text) text ≡ text = take_all (length text) text (omega arith) in
    record {
      other = λ named.
          let known = unquoted text named in
          let same : all_spelled known.0 ++ 34 ∷ [] ≡ chars text = encodes_same _ _ (known.1 ∙ sym (encodes-chars text utf8)) in
          unfinished (same_escape escape Closed (sym has.runs ∙ ap (run (Some (Whole None))) (sym same) ∙ run-all_spelled None known.0));
      beginning = record {
        within = omega arith;
        whole = rw all utf8;
        begins = rw (encodes-chars text utf8 ∙ sym all) at (begins_id escape id at (chars text) id-utf8 has);
        longest = λ longer more inside _. absurd (omega (arith, more, inside));
      };
    }

-- a text that is read to the quote is the id as it stands in quotes
pub closed_id : (text : Text) (id : Text) (at : ℕ) → IsUtf8 text → IsUtf8 id → HasReadId Closed id at (chars text)
    → escaped_text id ++ codes "\"" ≡ text
closed_id text id at utf8 id-utf8 has =
    let all : scalars has.es ≡ true =
    rw (chars_from_encodes has.es id id-utf8 has.bytes) (scalars-chars id id-utf8) in
    ap (λ bytes. escaped_text bytes ++ codes "\"") (sym has.bytes) ∙ quoted has.es all ∙ ap encodes (sym has.read) ∙ encodes-chars text utf8
