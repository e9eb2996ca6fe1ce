-- Quoted texts, whose escapes are read as what they were written for.
use Rattle.std.proofs.Common.{◌≡◌, ℕ, ◌+◌, ◌/◌, ◌<◌, ◌≤◌, Bool, true, false, ◌&&◌, ◌==◌, List, [], ◌∷◌, ◌++◌, length, Some, cond, refl, sym, ap, subst, ◌∙◌, inl, inr, arith, append-nil, append_assoc, eqb-true, IsUtf8}
use Rattle.std.proofs.lemmas.Bool.{and_parts, cases_Bool, cases_lt}
use Rattle.std.proofs.lemmas.Bool.Decides.{nat_tests}
use Rattle.std.proofs.lemmas.Str.{encode_ascii, encodes-chars, scalars-chars}
use Rattle.std.proofs.Math.Utf8.{encode, encodes, next, scalar, scalars}
use Rattle.std.specs.Char.{encode_utf8, is_ascii_hexdigit, is_control}
use Rattle.std.specs.Fmt.{digits}
use Rattle.std.specs.List.{flat_map, list_all}
use Rattle.std.specs.Prelude.{nat_le, nat_lt}
use Rattle.std.specs.Str.{chars}
use Rattle.cedar_ast.proofs.EscapeReading.{below_or_not, cond_false, encodes-all_spelled, every, every-at, spelled-wide}
use Rattle.cedar_ast.specs.Words.{Text, escaped, escaped_text, quoted_text}
use Rattle.cedar_schema_tokens.specs.Lexical.{hex_from, is_plain, simple}
use Rattle.cedar_schema_tokens.specs.Token.{text}
use Rattle.cedar_schema_tokens.specs.Written.{ArePieces, IsEscape, IsWritten, Piece, plain}
use Rattle.cedar_schema_tokens.specs.Written.{escaped as escape_of}

-- bytes that stand for themselves, before other pieces
plain_more : (run : List ℕ) (ps : List Piece) (more next rest : List ℕ) → list_all is_plain run ≡ true → ArePieces ps more next rest
    → (qs : List Piece) × ArePieces qs (run ++ more) (run ++ next) rest
plain_more [] ps more next rest all are = (ps, are)
plain_more (b ∷ run) ps more next rest all are =
    let parts = and_parts (is_plain b) (list_all is_plain run) all in
    let behind = plain_more run ps more next rest parts.1 are in
    (plain b ∷ behind.0, (run ++ more, run ++ next, parts.0, refl, refl, behind.1))

wide_plain : (b : ℕ) → 128 ≤ b → is_plain b ≡ true
wide_plain b wide = grind (arith, nat_tests)

all_cond : (test : Bool) (xs ys : List ℕ) → list_all is_plain xs ≡ true → list_all is_plain ys ≡ true → list_all is_plain (cond test xs ys) ≡ true
all_cond true xs ys one other = one
all_cond false xs ys one other = other

two_plain : (a b : Bool) → a ≡ true → b ≡ true → a && b ≡ true
two_plain a b one other = ap (λ it. it && b) one ∙ other

-- the bytes of a character beyond ASCII stand for themselves
encode_plain : (c : ℕ) → 128 ≤ c → list_all is_plain (encode c) ≡ true
unfolding encode
encode_plain c wide =
    let low = next c in
    let mid = next (c / 64) in
    let high = next (c / 4096) in
    let behind : (b : ℕ) → 128 ≤ b → list_all is_plain (b ∷ low ∷ []) ≡ true =
    λ b above. two_plain (is_plain b) _ (wide_plain b above) (two_plain (is_plain low) true (wide_plain low (omega arith)) refl) in
    let farther : (b : ℕ) → 128 ≤ b → list_all is_plain (b ∷ mid ∷ low ∷ []) ≡ true =
    λ b above. two_plain (is_plain b) _ (wide_plain b above) (behind mid (omega arith)) in
    all_cond (nat_lt c 128) (c ∷ []) _ (two_plain (is_plain c) true (wide_plain c wide) refl)
    (all_cond (nat_lt c 2048) ((192 + c / 64) ∷ low ∷ []) _ (behind (192 + c / 64) (omega arith))
    (all_cond (nat_lt c 65536) ((224 + c / 4096) ∷ mid ∷ low ∷ []) _ (farther (224 + c / 4096) (omega arith))
    (two_plain (is_plain (240 + c / 262144)) _ (wide_plain (240 + c / 262144) (omega arith)) (farther high (omega arith)))))

escaped-wide : (c : ℕ) → 160 ≤ c → escaped c ≡ encode c
escaped-wide c wide =
    sym (append-nil (escaped c)) ∙ (sym (encodes-all_spelled (c ∷ []))
    ∙ (ap (λ (cs : List ℕ). encodes (cs ++ [])) (spelled-wide c wide) ∙ append-nil (encode c)))

-- the digits of a character below 160 spell it
abbrev spells_itself : ℕ → Bool
spells_itself c =
    let ds = digits 16 false c in
    list_all is_ascii_hexdigit ds && ((nat_lt 0 (length ds) && nat_le (length ds) 6) && (hex_from 0 ds == c))

all_spell : every 160 spells_itself ≡ true
unfolding digits
all_spell = refl

-- a character is read from what it is written as, before other pieces
abbrev IsReadAt : ℕ → Type 0
IsReadAt c =
    (ps : List Piece) (more next rest : List ℕ) → ArePieces ps more next rest
    → (qs : List Piece) × ArePieces qs (encode_utf8 c ++ more) (escaped c ++ next) rest

-- by its own bytes
as_itself : (c : ℕ) → escaped c ≡ encode c → list_all is_plain (encode c) ≡ true → IsReadAt c
as_itself c same all ps more next rest are =
    let here = plain_more (encode c) ps more next rest all are in
    (here.0, subst (λ (text : List ℕ). ArePieces here.0 (encode c ++ more) (text ++ next) rest) (sym same) here.1)

-- by an escape
as_escape : (c : ℕ) → ((next : List ℕ) → IsEscape c (escaped c ++ next) next) → IsReadAt c
as_escape c escapes ps more next rest are = (escape_of c ∷ ps, (more, next, escapes next, refl, are))

as_letter : (letter c : ℕ) → simple letter ≡ Some c → escaped c ≡ 92 ∷ letter ∷ [] → IsReadAt c
as_letter letter c is same =
    as_escape c (λ next. inl (letter, is, ap (λ (text : List ℕ). text ++ next) same))

below : (a b : ℕ) → nat_lt a b ≡ true → a < b
below a b is = grind (arith, nat_tests)

at_most : (a b : ℕ) → nat_le a b ≡ true → a ≤ b
at_most a b is = grind (arith, nat_tests)

as_code : (c : ℕ) → scalar c ≡ true → c < 160 → escaped c ≡ 92 ∷ 117 ∷ 123 ∷ (digits 16 false c ++ 125 ∷ []) → IsReadAt c
as_code c scalar_value small same =
    let ds = digits 16 false c in
    let parts = and_parts _ _ (every-at 160 spells_itself all_spell c small) in
    let rest = and_parts _ _ parts.1 in
    let many = and_parts _ _ rest.0 in
    let some = below _ _ many.0 in
    let few = at_most _ _ many.1 in
    as_escape c (λ next. inr (inr (
      ds,
      parts.0,
      some,
      few,
      sym (eqb-true _ _ rest.1),
      scalar_value,
      ap (λ (text : List ℕ). text ++ next) same ∙ ap (λ (text : List ℕ). 92 ∷ 117 ∷ 123 ∷ text) (append_assoc ds (125 ∷ []) next),
    )))

-- an ASCII character that is no quote, no backslash and no carriage return stands for itself
ascii_plain : (c : ℕ) → c < 128 → (c == 13) ≡ false → (c == 34) ≡ false → (c == 92) ≡ false → list_all is_plain (encode c) ≡ true
ascii_plain c ascii return quote backslash =
    let passes : is_plain c ≡ true = grind (arith, nat_tests) in
    ap (list_all is_plain) (encode_ascii c ascii) ∙ two_plain (is_plain c) true passes refl

encoded_plain : (c : ℕ) → (c == 13) ≡ false → (c == 34) ≡ false → (c == 92) ≡ false → list_all is_plain (encode c) ≡ true
encoded_plain c return quote backslash =
    elim (cases_lt c 128) [ inl ascii ↦ ascii_plain c ascii return quote backslash | inr wide ↦ encode_plain c wide ]

as_number : (c k : ℕ) → (c == k) ≡ true → IsReadAt k → IsReadAt c
as_number c k is = subst IsReadAt (sym (eqb-true c k is))

small_read : (c : ℕ) → scalar c ≡ true → c < 160 → IsReadAt c
small_read c scalar_value small = elim (cases_Bool (c == 0)) [
  | inl is ↦ as_number c 0 is (as_letter 48 0 refl refl)
  | inr a ↦ elim (cases_Bool (c == 9)) [
    | inl is ↦ as_number c 9 is (as_letter 116 9 refl refl)
    | inr b ↦ elim (cases_Bool (c == 10)) [
      | inl is ↦ as_number c 10 is (as_letter 110 10 refl refl)
      | inr d ↦ elim (cases_Bool (c == 13)) [
        | inl is ↦ as_number c 13 is (as_letter 114 13 refl refl)
        | inr e ↦ elim (cases_Bool (c == 34)) [
          | inl is ↦ as_number c 34 is (as_letter 34 34 refl refl)
          | inr f ↦ elim (cases_Bool (c == 92)) [
            | inl is ↦ as_number c 92 is (as_letter 92 92 refl refl)
            | inr g ↦
                let named : escaped c ≡ cond (is_control c) (92 ∷ 117 ∷ 123 ∷ (digits 16 false c ++ 125 ∷ [])) (encode c) =
                cond_false (c == 0) _ _ a ∙ (cond_false (c == 9) _ _ b ∙ (cond_false (c == 10) _ _ d
                ∙ (cond_false (c == 13) _ _ e ∙ (cond_false (c == 34) _ _ f ∙ cond_false (c == 92) _ _ g)))) in
                elim (cases_Bool (is_control c)) [
                  | inl control ↦ as_code c scalar_value small (named ∙ ap (λ test. cond test (92 ∷ 117 ∷ 123 ∷ (digits 16 false c ++ 125 ∷ [])) (encode c)) control)
                  | inr other ↦
                      as_itself c (named ∙ cond_false (is_control c) _ _ other) (encoded_plain c e f g)
                ]
          ]
        ]
      ]
    ]
  ]
]

is_read_at : (c : ℕ) → scalar c ≡ true → IsReadAt c
is_read_at c scalar_value = elim (below_or_not c 160) [
  | inr wide ↦ as_itself c (escaped-wide c wide) (encode_plain c (omega (arith, wide)))
  | inl small ↦ small_read c scalar_value small
]

-- and so are characters one after another
all_read : (cs : List ℕ) → scalars cs ≡ true → (rest : List ℕ) → (ps : List Piece) × ArePieces ps (encodes cs) (flat_map escaped cs ++ rest) rest
all_read [] all rest = ([], (refl, refl))
all_read (c ∷ cs) all rest =
    let parts = and_parts (scalar c) (scalars cs) all in
    let behind = all_read cs parts.1 rest in
    let here = is_read_at c parts.0 behind.0 (encodes cs) (flat_map escaped cs ++ rest) rest behind.1 in
    (here.0, subst (λ (text : List ℕ). ArePieces here.0 (encode c ++ encodes cs) text rest) (sym (append_assoc (escaped c) (flat_map escaped cs) rest)) here.1)

-- a text is read from how it is written in quotes
pub is_quoted : (s : Text) → IsUtf8 s → (next : List ℕ) → IsWritten (text s) (quoted_text s ++ next) next
is_quoted s utf8 next =
    let all = all_read (chars s) (scalars-chars s utf8) (34 ∷ next) in
    let same : quoted_text s ++ next ≡ 34 ∷ (escaped_text s ++ 34 ∷ next) = ap (λ (more : List ℕ). 34 ∷ more) (append_assoc (escaped_text s) (34 ∷ []) next) in (
      all.0,
      escaped_text s ++ 34 ∷ next,
      same,
      subst (λ (bytes : List ℕ). ArePieces all.0 bytes (escaped_text s ++ 34 ∷ next) (34 ∷ next)) (encodes-chars s utf8) all.1,
    )
