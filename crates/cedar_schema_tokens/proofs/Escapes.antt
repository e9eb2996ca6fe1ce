-- Escapes: what is read is written so, and what is written so is read.
use Rattle.std.proofs.Common.{◌≡◌, ℕ, zero, suc, ◌+◌, ◌*◌, ◌<◌, ◌≤◌, Bool, true, false, not, ◌&&◌, List, [], ◌∷◌, ◌++◌, length, get_or, drop, slice_index, Option, Some, None, refl, sym, ap, ◌∙◌, subst, inl, inr, arith, eqb-true, length-append}
use Rattle.std.proofs.lemmas.Bool.{and_parts, cases_Bool}
use Rattle.std.proofs.lemmas.Bool.Decides.{nat_tests}
use Rattle.std.proofs.lemmas.List.{drop_more}
use Rattle.std.specs.Prelude.{if◌then◌else◌, ◌==◌, nat_lt, nat_le}
use Rattle.std.specs.Char.{is_ascii_hexdigit, digit_value, IsScalar}
use Rattle.std.specs.List.{list_all}
use lib.Utf8.{scalar}
use Rattle.cedar_schema_tokens.specs.Lexical.{first, split_while, simple, hex_from, char_of, byte_escape, with_rest, code_escape, escape}
use Rattle.cedar_schema_tokens.specs.Written.{IsEscape}
use Rattle.cedar_schema_tokens.proofs.Runs.{chosen, run_all, run_parts, run_again, begins_as, begins_with_two}

abbrev Found : Type 0
Found = Option (ℕ × List ℕ)

abbrev given : ℕ → List ℕ → Found
given c rest = Some (c, rest)

abbrev char_or : Found → ℕ
char_or (Some p) = p.0
char_or None = 0

abbrev rest_or : Found → List ℕ
rest_or (Some p) = p.1
rest_or None = []

same_found : (c d : ℕ) (ts us : List ℕ) → given c ts ≡ given d us → (c ≡ d) × (ts ≡ us)
same_found c d ts us e = (ap char_or e, ap rest_or e)

with_rest_some : (o : Option ℕ) (ts rest : List ℕ) (c : ℕ) → with_rest ts o ≡ Some (c, rest) → (o ≡ Some c) × (ts ≡ rest)
with_rest_some (Some d) ts rest c e = let s = same_found d c ts rest e in (ap Some s.0, s.1)
with_rest_some None ts rest c e = absurd (cc)

not_false : (b : Bool) → not b ≡ false → b ≡ true
not_false true e = refl
not_false false e = absurd (cc)

simple_some : (b c : ℕ) → simple b ≡ Some c → 0 < b
simple_some zero c e = absurd (cc)
simple_some (suc b) c e = omega arith

hex_some : (b : ℕ) → is_ascii_hexdigit b ≡ true → 0 < b
hex_some zero e = absurd (cc)
hex_some (suc b) e = omega arith

hex_two : (a b : ℕ) → 16 * (16 * 0 + a) + b ≡ 16 * a + b
hex_two a b = omega arith

lt_from : (a b : ℕ) → nat_lt a b ≡ true → a < b
lt_from a b e = grind (arith, nat_tests)

lt_to : (a b : ℕ) → a < b → nat_lt a b ≡ true
lt_to a b h = grind (arith, nat_tests)

le_from : (a b : ℕ) → nat_le a b ≡ true → a ≤ b
le_from a b e = grind (arith, nat_tests)

le_to : (a b : ℕ) → a ≤ b → nat_le a b ≡ true
le_to a b h = grind (arith, nat_tests)

-- ---- numbers

pub hex_more : (ds : List ℕ) (v : ℕ) → v ≤ hex_from v ds
hex_more [] v = omega arith
hex_more (d ∷ ds) v = let w = 16 * v + digit_value d in omega (arith, hex_more ds w)

pub hex_turn : (digits : List ℕ) (i v d : ℕ) → i < length digits → d ≡ digit_value (get_or digits i 0)
    → hex_from v (drop i digits) ≡ hex_from (16 * v + d) (drop (i + 1) digits)
hex_turn digits i v d within is = rw (drop_more digits i 0 within, is)

pub no_scalar : (c : ℕ) → 0x10_FFFF < c → scalar c ≡ false
no_scalar c h = grind (arith, nat_tests)

pub char_of_none : (ds : List ℕ) → scalar (hex_from 0 ds) ≡ false → char_of ds ≡ None
char_of_none ds e = ap (λ b. if b then Some (hex_from 0 ds) else None) e

pub char_of_some : (ds : List ℕ) → scalar (hex_from 0 ds) ≡ true → char_of ds ≡ Some (hex_from 0 ds)
char_of_some ds e = ap (λ b. if b then Some (hex_from 0 ds) else None) e

char_of_is : (ds : List ℕ) (c : ℕ) → char_of ds ≡ Some c → (c ≡ hex_from 0 ds) × IsScalar c
char_of_is ds c e = elim (chosen (scalar (hex_from 0 ds)) _ _ _ e) [
  | inl p ↦ let same : hex_from 0 ds ≡ c = (let q = p.1 in cc) in (sym same, ap scalar (sym same) ∙ p.0)
  | inr q ↦ absurd (let never = q.1 in cc)
]

-- ---- what is read

byte_takes : (all rest : List ℕ) (c : ℕ) → byte_escape all ≡ Some (c, rest)
    → (d : ℕ) × (e : ℕ) × (list_all is_ascii_hexdigit (d ∷ e ∷ []) ≡ true) × (c ≡ hex_from 0 (d ∷ e ∷ [])) × (c < 128) × (all ≡ d ∷ e ∷ rest)
byte_takes all rest c read =
    let d = slice_index all 0 in
    let e = slice_index all 1 in
    let code = 16 * digit_value d + digit_value e in
    elim (chosen (is_ascii_hexdigit d && is_ascii_hexdigit e && nat_lt code 128) _ _ _ read) [
      | inl p ↦
          let b = and_parts _ _ p.0 in
          let h = and_parts _ _ b.0 in
          let s = same_found code c (drop 2 all) rest p.1 in
          let hexes : list_all is_ascii_hexdigit (d ∷ e ∷ []) ≡ true = ap (λ x. x && (is_ascii_hexdigit e && true)) h.0 ∙ ap (λ x. x && true) h.1 in
          let low : c < 128 = (let P : ℕ → Type 0 = λ n. n < 128 in subst P s.0 (lt_from code 128 b.1)) in
          let whole : all ≡ d ∷ e ∷ rest = begins_with_two all d e refl refl (hex_some d h.0) (hex_some e h.1) ∙ ap (λ us. d ∷ e ∷ us) s.1 in
          (d, e, hexes, sym s.0 ∙ sym (hex_two (digit_value d) (digit_value e)), low, whole)
      | inr q ↦ absurd (let never = q.1 in cc)
    ]

code_takes : (all rest : List ℕ) (c : ℕ) → code_escape all ≡ Some (c, rest)
    → (ds : List ℕ) × (list_all is_ascii_hexdigit ds ≡ true) × (0 < length ds) × (length ds ≤ 6) × (c ≡ hex_from 0 ds) × IsScalar c × (all ≡ ds ++ 125 ∷ rest)
code_takes all rest c read =
    let ds = (split_while is_ascii_hexdigit all).0 in
    let back = (split_while is_ascii_hexdigit all).1 in
    elim (chosen ((nat_lt 0 (length ds) && nat_le (length ds) 6) && first back == 125) _ _ _ read) [
      | inl p ↦
          let b = and_parts _ _ p.0 in
          let n = and_parts _ _ b.0 in
          let w = with_rest_some (char_of ds) (drop 1 back) rest c p.1 in
          let is = char_of_is ds c w.0 in
          let closes : back ≡ 125 ∷ rest = begins_as back 125 b.1 (omega arith) ∙ ap (λ us. 125 ∷ us) w.1 in
          (ds, run_all is_ascii_hexdigit all, lt_from 0 (length ds) n.0, le_from (length ds) 6 n.1, is.0, is.1, run_parts is_ascii_hexdigit all ∙ ap (λ us. ds ++ us) closes)
      | inr q ↦ absurd (let never = q.1 in cc)
    ]

second : (all next : List ℕ) (b : ℕ) → all ≡ 92 ∷ next → slice_index all 1 ≡ b → first next ≡ b
second all next b e f = sym (ap (λ us. slice_index us 1) e) ∙ f

-- the rest of an escape that begins with a letter
letter_takes : (all rest : List ℕ) (c : ℕ) → first all ≡ 92
    → (if slice_index all 1 == 120 then byte_escape (drop 2 all)
    else (if slice_index all 1 == 117 then (if slice_index all 2 == 123 then code_escape (drop 3 all) else None)
    else with_rest (drop 2 all) (simple (slice_index all 1)))) ≡ Some (c, rest)
    → IsEscape c all rest
letter_takes all rest c begins read =
    elim (chosen (slice_index all 1 == 120) _ _ _ read) [
      | inl p ↦
          let b = byte_takes (drop 2 all) rest c p.1 in
          let whole = begins_with_two all 92 120 begins (eqb-true _ _ p.0) (omega arith) (omega arith) in
          inr (inl (b.0, b.1, b.2, b.3, b.4, whole ∙ ap (λ us. 92 ∷ 120 ∷ us) b.5))
      | inr q ↦ elim (chosen (slice_index all 1 == 117) _ _ _ q.1) [
        | inl p ↦ elim (chosen (slice_index all 2 == 123) _ _ _ p.1) [
          | inl r ↦
              let b = code_takes (drop 3 all) rest c r.1 in
              let whole = begins_with_two all 92 117 begins (eqb-true _ _ p.0) (omega arith) (omega arith) in
              inr (inr (b.0, b.1, b.2, b.3, b.4, b.5, whole ∙ ap (λ us. 92 ∷ 117 ∷ us) (third all r.0) ∙ ap (λ us. 92 ∷ 117 ∷ 123 ∷ us) b.6))
          | inr r ↦ absurd (let never = r.1 in cc)
        ]
        | inr r ↦
            let w = with_rest_some (simple (slice_index all 1)) (drop 2 all) rest c r.1 in
            let whole = begins_with_two all 92 (slice_index all 1) begins refl (omega arith) (simple_some _ c w.0) in
            inl (slice_index all 1, w.0, whole ∙ ap (λ us. 92 ∷ slice_index all 1 ∷ us) w.1)
      ]
    ]
  where
    third : (xs : List ℕ) → slice_index xs 2 == 123 ≡ true → drop 2 xs ≡ 123 ∷ drop 3 xs
    third [] e = absurd (cc)
    third (x ∷ []) e = absurd (cc)
    third (x ∷ y ∷ []) e = absurd (cc)
    third (x ∷ y ∷ z ∷ zs) e = ap (λ u. u ∷ zs) (eqb-true _ _ e)

pub escape_takes : (all rest : List ℕ) (c : ℕ) → escape all ≡ Some (c, rest) → IsEscape c all rest
escape_takes all rest c read =
    elim (chosen (not (first all == 92)) _ _ _ read) [
      | inl p ↦ absurd (let never = p.1 in cc)
      | inr q ↦ letter_takes all rest c (eqb-true _ _ (not_false _ q.0)) q.1
    ]

-- ---- what is written

simple_again : (letter c : ℕ) (rest : List ℕ) → simple letter ≡ Some c → escape (92 ∷ letter ∷ rest) ≡ Some (c, rest)
simple_again letter c rest is =
    elim (cases_Bool (letter == 120)) [
      | inl x ↦ absurd (let never : simple 120 ≡ Some c = ap simple (sym (eqb-true _ _ x)) ∙ is in cc)
      | inr x ↦ elim (cases_Bool (letter == 117)) [
        | inl u ↦ absurd (let never : simple 117 ≡ Some c = ap simple (sym (eqb-true _ _ u)) ∙ is in cc)
        | inr u ↦
            ap (λ b. if b then byte_escape rest else (if letter == 117 then (if slice_index rest 0 == 123 then code_escape (drop 1 rest) else None) else with_rest rest (simple letter))) x
            ∙ ap (λ b. if b then (if slice_index rest 0 == 123 then code_escape (drop 1 rest) else None) else with_rest rest (simple letter)) u
            ∙ ap (with_rest rest) is
      ]
    ]

byte_again : (d e c : ℕ) (rest : List ℕ) → list_all is_ascii_hexdigit (d ∷ e ∷ []) ≡ true → c ≡ hex_from 0 (d ∷ e ∷ []) → c < 128 → byte_escape (d ∷ e ∷ rest) ≡ Some (c, rest)
byte_again d e c rest hexes is low =
    let h = and_parts _ _ hexes in
    let k = and_parts _ _ h.1 in
    let code = 16 * digit_value d + digit_value e in
    let same : c ≡ code = is ∙ hex_two (digit_value d) (digit_value e) in
    let below : nat_lt code 128 ≡ true = ap (λ n. nat_lt n 128) (sym same) ∙ lt_to c 128 low in
    ap (λ b. if b && is_ascii_hexdigit e && nat_lt code 128 then Some (code, rest) else None) h.0
    ∙ ap (λ b. if b && nat_lt code 128 then Some (code, rest) else None) k.0
    ∙ ap (λ b. if b then Some (code, rest) else None) below ∙ ap (λ n. given n rest) (sym same)

code_again : (ds rest : List ℕ) (c : ℕ) → list_all is_ascii_hexdigit ds ≡ true → 0 < length ds → length ds ≤ 6 → c ≡ hex_from 0 ds → IsScalar c
    → code_escape (ds ++ 125 ∷ rest) ≡ Some (c, rest)
code_again ds rest c hexes some few is scalar_c =
    let by : List ℕ × List ℕ → Found = λ parts.
    if (nat_lt 0 (length parts.0) && nat_le (length parts.0) 6) && first parts.1 == 125 then with_rest (drop 1 parts.1) (char_of parts.0) else None in
    let one : scalar (hex_from 0 ds) ≡ true = ap scalar (sym is) ∙ scalar_c in
    ap by (run_again is_ascii_hexdigit ds (125 ∷ rest) hexes refl)
    ∙ ap (λ b. if (b && nat_le (length ds) 6) && true then with_rest rest (char_of ds) else None) (lt_to 0 (length ds) some)
    ∙ ap (λ b. if b && true then with_rest rest (char_of ds) else None) (le_to (length ds) 6 few)
    ∙ ap (with_rest rest) (char_of_some ds one) ∙ ap (λ n. given n rest) (sym is)

pub escape_again : (c : ℕ) (all rest : List ℕ) → IsEscape c all rest → escape all ≡ Some (c, rest)
escape_again c all rest (inl h) = ap escape h.2 ∙ simple_again h.0 c rest h.1
escape_again c all rest (inr (inl h)) = ap escape h.5 ∙ byte_again h.0 h.1 c rest h.2 h.3 h.4
escape_again c all rest (inr (inr h)) = ap escape h.6 ∙ code_again h.0 rest c h.1 h.2 h.3 h.4 h.5

pub escape_begins : (c : ℕ) (all rest : List ℕ) → IsEscape c all rest → (next : List ℕ) × (all ≡ 92 ∷ next)
escape_begins c all rest (inl h) = (_, h.2)
escape_begins c all rest (inr (inl h)) = (_, h.5)
escape_begins c all rest (inr (inr h)) = (_, h.6)

pub escape_shorter : (c : ℕ) (all rest : List ℕ) → IsEscape c all rest → length rest < length all
escape_shorter c all rest (inl h) = omega (arith, ap length h.2)
escape_shorter c all rest (inr (inl h)) = omega (arith, ap length h.5)
escape_shorter c all rest (inr (inr h)) = omega (arith, ap length h.6, length-append h.0 (125 ∷ rest))
