-- Single tokens: what is read is written so, what is written so is read, and where reading stops.
use Rattle.std.proofs.Common.{◌≡◌, ◌≢◌, ℕ, suc, ◌-◌, ◌<◌, ◌≤◌, true, false, ◌&&◌, ◌==◌, List, [], ◌∷◌, ◌++◌, length, drop, slice_index, Option, Some, None, Ok, Err, ◌⊎◌, inl, inr, refl, sym, ap, ◌∙◌, subst, arith, eqb-true, length-append}
use Rattle.std.proofs.lemmas.Bool.{and_parts}
use Rattle.std.proofs.lemmas.Bool.Decides.{nat_tests}
use Rattle.std.specs.Prelude.{if◌then◌else◌}
use Rattle.std.specs.List.{list_all}
use Rattle.cedar_schema_tokens.specs.declared.fault.Stop.{Stop}
use Rattle.cedar_schema_tokens.specs.declared.fault.Stop.TheVariants.{At}
use Rattle.cedar_schema_tokens.specs.declared.fault.Wrong.TheVariants as wrong
use Rattle.cedar_schema_tokens.specs.declared.token.Symbol.{Symbol}
use Rattle.cedar_schema_tokens.specs.declared.token.Symbol.TheVariants as sign
use Rattle.cedar_schema_tokens.specs.Token.{Lexeme, ident, text, symbol}
use Rattle.cedar_schema_tokens.specs.Lexical.{Outcome, and_then, first, split_while, is_start, is_word, symbol_of, one_symbol, quoted, bad_character, other_lexeme, lexeme_at}
use Rattle.cedar_schema_tokens.specs.Written.{spelling, is_id, ArePieces, IsWritten}
use Rattle.cedar_schema_tokens.specs.Refused.{NoToken, IsBegunText, IsStop}
use Rattle.cedar_schema_tokens.proofs.Runs.{chosen, other_byte, split_passes, run_all, run_parts, Ends, run_ends, run_again, begins_with, begins_as, begins_with_two}
use Rattle.cedar_schema_tokens.proofs.Quoted.{given, Tells, quoted_tells, quoted_again, pieces_shorter}

-- ---- outcomes

abbrev value_or : {A : Type 0} → A → Outcome A → A
value_or x (Ok p) = p.0
value_or x (Err d) = x

abbrev rest_of : {A : Type 0} → Outcome A → List ℕ
rest_of (Ok p) = p.1
rest_of (Err d) = []

pub same_pair : {A : Type 0} (x y : A) (ts us : List ℕ) → given x ts ≡ given y us → (x ≡ y) × (ts ≡ us)
same_pair x y ts us e = (ap (value_or x) e, ap rest_of e)

bind_ok : {A B : Type 0} (o : Outcome A) (f : A → List ℕ → Outcome B) (y : B) (rest : List ℕ) → and_then o f ≡ Ok (y, rest)
    → (x : A) × (mid : List ℕ) × (o ≡ Ok (x, mid)) × (f x mid ≡ Ok (y, rest))
bind_ok (Ok p) f y rest e = (p.0, p.1, refl, e)
bind_ok (Err d) f y rest e = absurd (cc)

-- ---- ids

start_is_word : (b : ℕ) → is_start b ≡ true → is_word b ≡ true
start_is_word b e = grind (arith, nat_tests)

first_ends : (xs : List ℕ) → Ends is_word xs → is_word (first xs) ≡ false
first_ends [] h = refl
first_ends (x ∷ xs) h = h

ends_first : (xs : List ℕ) → is_word (first xs) ≡ false → Ends is_word xs
ends_first [] h = tt
ends_first (x ∷ xs) h = h

id_of_run : (all : List ℕ) → is_start (first all) ≡ true → is_id (split_while is_word all).0 ≡ true
id_of_run [] e = absurd (cc)
id_of_run (b ∷ bs) e =
    ap (λ q. is_id q.0) (split_passes is_word b bs (start_is_word b e)) ∙ ap (λ a. a && list_all is_word (split_while is_word bs).0) e ∙ run_all is_word bs

id_starts : (w rest : List ℕ) → is_id w ≡ true → (is_start (first (w ++ rest)) ≡ true) × (list_all is_word w ≡ true)
id_starts [] rest e = absurd (cc)
id_starts (b ∷ bs) rest e =
    let p = and_parts (is_start b) (list_all is_word bs) e in
    (p.0, ap (λ a. a && list_all is_word bs) (start_is_word b p.0) ∙ p.1)

-- ---- symbols

abbrev Spelled : ℕ → Symbol → Type 0
Spelled b m = (spelling m ≡ b ∷ []) × (0 < b)

-- one row of the table of symbols, and the rows behind it
row : (b k : ℕ) (m n : Symbol) (o : Option Symbol) → (if b == suc k then Some m else o) ≡ Some n → spelling m ≡ suc k ∷ [] → (o ≡ Some n → Spelled b n) → Spelled b n
row b k m n o e spelled behind =
    elim (chosen (b == suc k) (Some m) o (Some n) e) [
      | inl p ↦
          let is = eqb-true b (suc k) p.0 in
          let same : m ≡ n = (let q = p.1 in cc) in
          (ap spelling (sym same) ∙ spelled ∙ ap (λ x. x ∷ []) (sym is), omega arith)
      | inr q ↦ behind q.1
    ]

symbol_spelled : (b : ℕ) (n : Symbol) → symbol_of b ≡ Some n → Spelled b n
symbol_spelled b n e =
    row b 57 sign.Colon n _ e refl (λ e. row b 43 sign.Comma n _ e refl (λ e. row b 58 sign.Semicolon n _ e refl (λ e. row b 62 sign.Question n _ e refl (λ e.
    row b 60 sign.Equals n _ e refl (λ e. row b 59 sign.Less n _ e refl (λ e. row b 61 sign.Greater n _ e refl (λ e. row b 90 sign.OpenBracket n _ e refl (λ e.
    row b 92 sign.CloseBracket n _ e refl (λ e. row b 122 sign.OpenBrace n _ e refl (λ e. row b 124 sign.CloseBrace n _ e refl (λ e.
    row b 39 sign.OpenParenthesis n _ e refl (λ e. row b 40 sign.CloseParenthesis n _ e refl (λ e. row b 63 sign.At n _ e refl (λ e. absurd (cc)))))))))))))))

no_two : (xs : List ℕ) → first xs == 58 && slice_index xs 1 == 58 ≡ false → first xs ≡ 58 → first (drop 1 xs) ≡ 58 → ⊥
no_two [] e f g = absurd (omega arith)
no_two (x ∷ xs) e f g = grind (arith, nat_tests)

symbol_takes : (all rest : List ℕ) (t : Lexeme) (o : Option Symbol) → symbol_of (first all) ≡ o → first all == 58 && slice_index all 1 == 58 ≡ false → one_symbol all o ≡ Ok (t, rest)
    → IsWritten t all rest
symbol_takes all rest t None is single e = absurd (cc)
symbol_takes all rest t (Some m) is single e =
    let s = same_pair (symbol m) t (drop 1 all) rest e in
    let spelled = symbol_spelled (first all) m is in
    let P : Lexeme → Type 0 = λ x. IsWritten x all rest in
    let Q : List ℕ → Type 0 = λ us. IsWritten (symbol m) all us in
    subst P s.0 (subst Q s.1 (
      begins_with all (first all) refl spelled.1 ∙ ap (λ w. w ++ drop 1 all) (sym spelled.0),
      λ colon. (λ next. no_two all single (ap first (sym spelled.0) ∙ ap (λ k. first (spelling k)) colon) next),
    ))

-- ---- tokens

text_told : (all : List ℕ) → first all == 34 ≡ true → (o : Outcome (List ℕ)) → quoted all ≡ o → Tells (length all) [] (drop 1 all) o
unfolding quoted
text_told all opens o e =
    let begins = begins_as all 34 opens (omega arith) in
    let P : Outcome (List ℕ) → Type 0 = Tells (length all) [] (drop 1 all) in
    subst P e (quoted_tells (length all) (length all) [] (drop 1 all) (omega (arith, ap length begins)))

pub lexeme_takes : (all rest : List ℕ) (t : Lexeme) → lexeme_at all ≡ Ok (t, rest) → IsWritten t all rest
unfolding lexeme_at
lexeme_takes all rest t e =
    let back = split_while is_word all in
    let P : Lexeme → Type 0 = λ x. IsWritten x all rest in
    elim (chosen (is_start (first all)) _ _ _ e) [
      | inl p ↦
          let s = same_pair (ident back.0) t back.1 rest p.1 in
          let Q : List ℕ → Type 0 = λ us. IsWritten (ident back.0) all us in
          subst P s.0 (subst Q s.1 (id_of_run all p.0, run_parts is_word all, first_ends back.1 (run_ends is_word all)))
      | inr r ↦ elim (chosen (first all == 34) _ _ _ r.1) [
        | inl p ↦
            let s = bind_ok (quoted all) _ t rest p.1 in
            let q = text_told all p.0 (Ok (s.0, s.1)) s.2 in
            let same = same_pair (text s.0) t s.1 rest s.3 in
            let Q : List ℕ → Type 0 = λ us. IsWritten (text s.0) all us in
            let R : List ℕ → Type 0 = λ us. ArePieces q.1 us (drop 1 all) (34 ∷ s.1) in
            subst P same.0 (subst Q same.1 (q.1, drop 1 all, begins_as all 34 p.0 (omega arith), subst R (sym q.2) q.3))
        | inr q ↦ elim (chosen (first all == 58 && slice_index all 1 == 58) _ _ _ q.1) [
          | inl p ↦
              let both = and_parts _ _ p.0 in
              let two = begins_with_two all 58 58 (eqb-true _ _ both.0) (eqb-true _ _ both.1) (omega arith) (omega arith) in
              let s = same_pair (symbol sign.PathSeparator) t (drop 2 all) rest p.1 in
              let Q : List ℕ → Type 0 = λ us. IsWritten (symbol sign.PathSeparator) all us in
              subst P s.0 (subst Q s.1 (two, (λ same. absurd (cc))))
          | inr p ↦ symbol_takes all rest t (symbol_of (first all)) refl p.0 p.1
        ]
      ]
    ]

abbrev by_symbol : Symbol → List ℕ → Type 0
by_symbol m rest = lexeme_at (spelling m ++ rest) ≡ Ok (symbol m, rest)

symbol_again : (m : Symbol) (rest : List ℕ) → (m ≡ sign.Colon → first rest ≢ 58) → by_symbol m rest
unfolding lexeme_at
symbol_again sign.PathSeparator rest h = refl
symbol_again sign.Colon rest h = ap (λ b. if b then given (symbol sign.PathSeparator) (drop 1 rest) else given (symbol sign.Colon) rest) (other_byte (first rest) 58 (h refl))
symbol_again sign.Comma rest h = refl
symbol_again sign.Semicolon rest h = refl
symbol_again sign.Question rest h = refl
symbol_again sign.Equals rest h = refl
symbol_again sign.Less rest h = refl
symbol_again sign.Greater rest h = refl
symbol_again sign.OpenBracket rest h = refl
symbol_again sign.CloseBracket rest h = refl
symbol_again sign.OpenBrace rest h = refl
symbol_again sign.CloseBrace rest h = refl
symbol_again sign.OpenParenthesis rest h = refl
symbol_again sign.CloseParenthesis rest h = refl
symbol_again sign.At rest h = refl

pub lexeme_again : (t : Lexeme) (all rest : List ℕ) → IsWritten t all rest → lexeme_at all ≡ Ok (t, rest)
unfolding lexeme_at quoted
lexeme_again (ident w) all rest h =
    let starts = id_starts w rest h.0 in
    ap lexeme_at h.1 ∙ ap (λ b. if b then given (ident (split_while is_word (w ++ rest)).0) (split_while is_word (w ++ rest)).1 else other_lexeme (w ++ rest)) starts.0
    ∙ ap (λ q. given (ident q.0) q.1) (run_again is_word w rest starts.1 (ends_first rest h.2))
lexeme_again (text s) all rest h =
    let inner = h.1 in
    let n = length (34 ∷ inner) in
    ap lexeme_at h.2 ∙ ap (λ o. and_then o (λ x us. given (text x) us)) (quoted_again h.0 n n [] s inner rest h.3 (omega arith))
lexeme_again (symbol m) all rest h = ap lexeme_at h.0 ∙ symbol_again m rest h.1

-- ---- where reading stops

bind_stops : {A B : Type 0} (o : Outcome A) (f : A → List ℕ → Outcome B) (stop : Stop) → ((x : A) (mid : List ℕ) → f x mid ≡ Err stop → ⊥) → and_then o f ≡ Err stop → o ≡ Err stop
bind_stops (Ok p) f stop never e = absurd (never p.0 p.1 e)
bind_stops (Err d) f stop never e = cc

text_stops : (all : List ℕ) (stop : Stop) → all ≡ 34 ∷ drop 1 all → Tells (length all) [] (drop 1 all) (Err stop) → IsStop stop all
text_stops all stop begins h =
    let P : Stop → Type 0 = λ s. IsStop s all in
    let begun : IsBegunText all h.2 = (h.1, h.0, drop 1 all, begins, h.3) in
    elim h.4 [
      | inl p ↦ subst P (sym p.1) (h.2, begun, p.0, refl, refl)
      | inr p ↦ subst P (sym p.2) (h.2, p.0, begun, p.1, refl, refl)
    ]

not_34 : (x : ℕ) → x == 34 ≡ false → x ≢ 34
not_34 x e is = grind (arith, nat_tests)

no_token : (all : List ℕ) (stop : Stop) → all ≢ [] → first all == 34 ≡ false → lexeme_at all ≡ Err stop → NoToken all
no_token all stop some unclosed e = (some, not_34 (first all) unclosed, λ t rest h. (let again = lexeme_again t all rest h in absurd (cc)))

symbol_stops : (all : List ℕ) (stop : Stop) (o : Option Symbol) → NoToken all → one_symbol all o ≡ Err stop → IsStop stop all
symbol_stops all stop (Some m) none e = absurd (cc)
symbol_stops all stop None none e =
    let same : bad_character all ≡ stop = cc in
    let P : Stop → Type 0 = λ s. IsStop s all in
    subst P same (none, refl, refl)

pub lexeme_stops : (all : List ℕ) (stop : Stop) → all ≢ [] → lexeme_at all ≡ Err stop → IsStop stop all
unfolding lexeme_at
lexeme_stops all stop some e =
    elim (chosen (is_start (first all)) _ _ _ e) [
      | inl p ↦ absurd (let never = p.1 in cc)
      | inr r ↦ elim (chosen (first all == 34) _ _ _ r.1) [
        | inl p ↦
            let q = bind_stops (quoted all) (λ s rest. given (text s) rest) stop (λ x mid never. absurd (cc)) p.1 in
            text_stops all stop (begins_as all 34 p.0 (omega arith)) (text_told all p.0 (Err stop) q)
        | inr q ↦ elim (chosen (first all == 58 && slice_index all 1 == 58) _ _ _ q.1) [
          | inl p ↦ absurd (let never = p.1 in cc)
          | inr p ↦ symbol_stops all stop (symbol_of (first all)) (no_token all stop some q.0 e) p.1
        ]
      ]
    ]

-- ---- lengths

pub id_some : (w : List ℕ) → is_id w ≡ true → 0 < length w
id_some [] e = absurd (cc)
id_some (b ∷ bs) e = omega arith

pub symbol_some : (m : Symbol) → 0 < length (spelling m)
symbol_some sign.PathSeparator = omega arith
symbol_some sign.Colon = omega arith
symbol_some sign.Comma = omega arith
symbol_some sign.Semicolon = omega arith
symbol_some sign.Question = omega arith
symbol_some sign.Equals = omega arith
symbol_some sign.Less = omega arith
symbol_some sign.Greater = omega arith
symbol_some sign.OpenBracket = omega arith
symbol_some sign.CloseBracket = omega arith
symbol_some sign.OpenBrace = omega arith
symbol_some sign.CloseBrace = omega arith
symbol_some sign.OpenParenthesis = omega arith
symbol_some sign.CloseParenthesis = omega arith
symbol_some sign.At = omega arith

pub written_shorter : (t : Lexeme) (all rest : List ℕ) → IsWritten t all rest → length rest < length all
written_shorter (ident w) all rest h = omega (arith, ap length h.1, length-append w rest, id_some w h.0)
written_shorter (text s) all rest h = omega (arith, ap length h.2, pieces_shorter h.0 s h.1 (34 ∷ rest) h.3)
written_shorter (symbol m) all rest h = omega (arith, ap length h.0, length-append (spelling m) rest, symbol_some m)
