-- Tokens and comments as they are spelled.
use Rattle.std.proofs.Common.{◌≡◌, ◌≢◌, ℕ, zero, suc, ◌+◌, ◌-◌, ◌<◌, ◌≤◌, ◌==◌, ◌&&◌, Bool, true, false, List, [], ◌∷◌, ◌++◌, length, map, Ok, Err, ◌⊎◌, inl, inr, refl, sym, ap, subst, ◌∙◌, arith, append-nil, append_assoc, length-append, eqb-true, drop, take, IsUtf8}
use Rattle.std.proofs.Math.Seq.{take-append_seam}
use Rattle.std.proofs.lemmas.Bool.{and_parts, cases_Bool}
use Rattle.std.proofs.lemmas.Bool.Decides.{nat_tests}
use Rattle.std.proofs.lemmas.Str.{IsCharBoundary-at_seam}
use Rattle.std.specs.List.{list_all, prefix_len}
use Rattle.std.specs.Prelude.{slice_index}
use Rattle.std.specs.Str.{IsCharBoundary}
use Rattle.cedar_schema_tokens.proofs.Blanks.{blanks_end, blanks_nothing, blanks_shorter, gap_behind_blanks, gap_behind_comment, gap_stays}
use Rattle.cedar_schema_tokens.proofs.Runs.{begins_with_two, run_again, run_all, run_ends, run_parts, split_passes}
use Rattle.cedar_schema_tokens.proofs.Runs.{Ends as EndsRun}
use Rattle.cedar_schema_tokens.proofs.Single.{id_some, lexeme_again, lexeme_takes, same_pair, symbol_some, written_shorter}
use Rattle.cedar_schema_tokens.proofs.Gaps.{gap_none_left}
use Rattle.cedar_schema_tokens.specs.Lexical.{after_gap, bad_character, blank_len, first, is_line, lexeme_at, split_while}
use Rattle.cedar_schema_tokens.specs.Spelled.{AreLexemesOf, AreSpelled, Ends, HasNone, IsLexemeOf, IsFront, IsSpelling, Spelled, after_blanks, begins_comment, kind_of}
use Rattle.cedar_schema_tokens.specs.Token.{Lexeme, Token, ident, symbol, text}
use Rattle.cedar_schema_tokens.specs.Written.{ArePieces, AreTokens, Begin, IsEscape, IsWritten, Piece, escaped, plain}
use Rattle.cedar_schema_tokens.specs.declared.fault.Stop.{Stop}
use Rattle.cedar_schema_tokens.specs.declared.spelled.SpelledKind.{SpelledKind}
use Rattle.cedar_schema_tokens.specs.declared.spelled.SpelledKind.TheVariants as kind

-- ---- what stands at the front

escape_alone : (c : ℕ) (all next own rest : List ℕ) → IsEscape c all next → next ≡ own ++ rest
    → (bytes : List ℕ) × (all ≡ bytes ++ rest) × IsEscape c bytes own
escape_alone c all next own rest (inl simple) same =
    (92 ∷ simple.0 ∷ own, simple.2 ∙ ap (λ us. 92 ∷ simple.0 ∷ us) same, inl (simple.0, simple.1, refl))
escape_alone c all next own rest (inr (inl h)) same = (
  92 ∷ 120 ∷ h.0 ∷ h.1 ∷ own,
  h.5 ∙ ap (λ us. 92 ∷ 120 ∷ h.0 ∷ h.1 ∷ us) same,
  inr (inl (h.0, h.1, h.2, h.3, h.4, refl)),
)
escape_alone c all next own rest (inr (inr h)) same = (
  92 ∷ 117 ∷ 123 ∷ (h.0 ++ 125 ∷ own),
  h.6 ∙ ap (λ us. 92 ∷ 117 ∷ 123 ∷ (h.0 ++ 125 ∷ us)) same ∙ ap (λ us. 92 ∷ 117 ∷ 123 ∷ us) (sym (append_assoc h.0 (125 ∷ own) rest)),
  inr (inr (h.0, h.1, h.2, h.3, h.4, h.5, refl)),
)

-- the parts of a quoted text and its closing quote, without what stands behind
quoted_alone : (ps : List Piece) (meant all rest : List ℕ) → ArePieces ps meant all (34 ∷ rest)
    → (bytes : List ℕ) × (all ≡ bytes ++ rest) × ArePieces ps meant bytes (34 ∷ [])
quoted_alone [] meant all rest h = (34 ∷ [], h.1, (h.0, refl))
quoted_alone (plain b ∷ ps) meant all rest h =
    let more = quoted_alone ps h.0 h.1 rest h.5 in
    (b ∷ more.0, h.4 ∙ ap (λ us. b ∷ us) more.1, (h.0, more.0, h.2, h.3, refl, more.2))
quoted_alone (escaped c ∷ ps) meant all rest h =
    let more = quoted_alone ps h.0 h.1 rest h.4 in
    let own = escape_alone c all h.1 more.0 rest h.2 more.1 in
    (own.0, own.1, (h.0, more.0, own.2, h.3, more.2))

written_alone : (t : Lexeme) (all rest : List ℕ) → IsWritten t all rest
    → (bytes : List ℕ) × (all ≡ bytes ++ rest) × IsSpelling (kind_of t) bytes × Ends (kind_of t) rest
written_alone (ident w) all rest h = (w, h.1, h.0, h.2)
written_alone (text s) all rest h =
    let own = quoted_alone h.0 s h.1 rest h.3 in
    (34 ∷ own.0, h.2 ∙ ap (λ us. 34 ∷ us) own.1, (h.0, s, own.0, refl, own.2), tt)
written_alone (symbol m) all rest h = (_, h.0, refl, h.1)

-- a token stands there
pub token_front : (all rest : List ℕ) (t : Lexeme) → begins_comment all ≡ false → lexeme_at all ≡ Ok (t, rest) → IsFront all (kind_of t) rest
token_front all rest t other e =
    let own = written_alone t all rest (lexeme_takes all rest t e) in
    (own.0, own.1, own.2, own.3, inr (other, t, refl, e))

line_ends : (rest : List ℕ) → EndsRun is_line rest → Ends kind.Comment rest
line_ends [] h = inl refl
line_ends (x ∷ rest) h = inr h

-- a comment stands there
pub comment_front : (all : List ℕ) → begins_comment all ≡ true → IsFront all kind.Comment (split_while is_line all).1
comment_front all is =
    let both = and_parts _ _ is in
    let begins = begins_with_two all 47 47 (eqb-true _ _ both.0) (eqb-true _ _ both.1) (omega arith) (omega arith) in
    let behind = drop 2 all in
    let run = split_passes is_line 47 (47 ∷ behind) refl ∙ ap (λ q. (47 ∷ q.0, q.1)) (split_passes is_line 47 behind refl) in
    let same : (split_while is_line all).0 ≡ 47 ∷ 47 ∷ (split_while is_line behind).0 = ap (λ us. (split_while is_line us).0) begins ∙ ap (λ q. q.0) run in
    ((split_while is_line all).0, run_parts is_line all, (_, same, run_all is_line all), line_ends _ (run_ends is_line all), inl (is, refl, refl))

-- ---- lengths, and where a text may be cut

spelling_some : (it : SpelledKind) (bytes : List ℕ) → IsSpelling it bytes → 0 < length bytes
spelling_some kind.Comment bytes h = omega (arith, ap length h.1)
spelling_some kind.Id bytes h = id_some bytes h
spelling_some kind.Text bytes h = omega (arith, ap length h.3)
spelling_some (kind.Symbol m) bytes h = omega (arith, ap length h, symbol_some m)

pub front_shorter : (all rest : List ℕ) (it : SpelledKind) → IsFront all it rest → length rest < length all
front_shorter all rest it h = omega (arith, ap length h.1, length-append h.0 rest, spelling_some it h.0 h.2)

front_length : (all rest : List ℕ) (it : SpelledKind) (h : IsFront all it rest) → length h.0 ≡ length all - length rest
front_length all rest it h = omega (arith, ap length h.1, length-append h.0 rest)

pub front_cut : (all rest : List ℕ) (it : SpelledKind) → IsFront all it rest → IsUtf8 rest → IsCharBoundary all (length all - length rest)
front_cut all rest it h utf8 =
    subst (IsCharBoundary all) (front_length all rest it h) (IsCharBoundary-at_seam all h.0 rest h.1 utf8)

-- what is cut off spells what stands at the front
pub front_taken : (all rest : List ℕ) (it : SpelledKind) (h : IsFront all it rest) → take (length all - length rest) all ≡ h.0
front_taken all rest it h =
    ap (λ n. take n all) (sym (front_length all rest it h)) ∙ ap (take (length h.0)) h.1 ∙ take-append_seam h.0 rest

-- ---- all of a text

-- what is spelled behind some of what a text spells goes on with that
abbrev pub Leads : List Spelled → List ℕ → List ℕ → Type 0
Leads some all rest = (more : List Spelled) → AreSpelled more rest → AreSpelled (some ++ more) all

pub leads_none : (all : List ℕ) → Leads [] all all
leads_none all more are = are

pub leads_on : (some others : List Spelled) (all behind front rest : List ℕ) (it : Spelled)
    → Leads some all behind → front ≡ after_blanks behind → (h : IsFront front it.kind rest) → it.text ≡ h.0
    → others ≡ some ++ it ∷ [] → Leads others all rest
leads_on some others all behind front rest it leads is h same e more are =
    let here : AreSpelled (it ∷ more) behind = (
      rest,
      sym is ∙ h.1 ∙ ap (λ us. us ++ rest) (sym same),
      subst (IsSpelling it.kind) (sym same) h.2,
      h.3,
      are,
    ) in
    subst (λ ps. AreSpelled ps all) (sym (ap (λ ps. ps ++ more) e ∙ append_assoc some (it ∷ []) more)) (leads (it ∷ more) here)

pub leads_all : (some : List Spelled) (all rest : List ℕ) → Leads some all rest → after_blanks rest ≡ [] → AreSpelled some all
leads_all some all rest leads none = subst (λ ps. AreSpelled ps all) (append-nil some) (leads [] none)

-- ---- the tokens among them

-- the tokens of what is left of a text
abbrev pub Left : List Lexeme → List ℕ → Type 0
Left [] all = after_gap all ≡ []
Left (t ∷ ts) all = (next : List ℕ) × IsWritten t (after_gap all) next × Left ts next

left_of : (source total : ℕ) (ts : List Token) (all rest : List ℕ) → Begin source total ts all rest → after_gap rest ≡ []
    → Left (map (λ t. t.lexeme) ts) all
left_of source total [] all rest same none = ap after_gap same ∙ none
left_of source total (t ∷ ts) all rest h none = (h.0, h.1, left_of source total ts h.0 rest h.3 none)

left_alike : (ts : List Lexeme) (all other : List ℕ) → after_gap all ≡ after_gap other → Left ts all → Left ts other
left_alike [] all other same none = sym same ∙ none
left_alike (t ∷ ts) all other same left = (left.0, subst (λ us. IsWritten t us left.0) same left.1, left.2)

-- where the text has tokens, what is left of it has some
abbrev pub KeepsTokens : List ℕ → List ℕ → Type 0
KeepsTokens all rest = (source : ℕ) (ts : List Token) → AreTokens source all ts → (left : List Lexeme) × Left left rest

pub keeps_all : (all : List ℕ) → KeepsTokens all all
keeps_all all source ts are = (_, left_of source (length all) ts all are.0 are.1 are.2)

behind_token : (front rest : List ℕ) (t : Lexeme) (left : List Lexeme) → lexeme_at front ≡ Ok (t, rest) → front ≢ [] → after_gap front ≡ front
    → Left left front → (others : List Lexeme) × Left others rest
behind_token front rest t [] e some stays none = absurd (some (sym stays ∙ none))
behind_token front rest t (u ∷ us) e some stays left =
    let again = lexeme_again u front left.0 (subst (λ vs. IsWritten u vs left.0) stays left.1) in
    (us, subst (Left us) (sym (same_pair t u rest left.0 (sym e ∙ again)).1) left.2)

stops_nowhere : (front : List ℕ) (stop : Stop) (left : List Lexeme) → lexeme_at front ≡ Err stop → front ≢ [] → after_gap front ≡ front
    → Left left front → ⊥
stops_nowhere front stop [] e some stays none = some (sym stays ∙ none)
stops_nowhere front stop (u ∷ us) e some stays left =
    let again = lexeme_again u front left.0 (subst (λ vs. IsWritten u vs left.0) stays left.1) in absurd cc

front_stays : (behind front : List ℕ) → front ≡ after_blanks behind → begins_comment front ≡ false → after_gap front ≡ front
front_stays behind front is other = gap_stays front other (ap blank_len is ∙ blanks_end behind)

front_left : (behind front : List ℕ) → front ≡ after_blanks behind → (ts : List Lexeme) → Left ts behind → Left ts front
front_left behind front is ts = left_alike ts behind front (gap_behind_blanks behind ∙ ap after_gap (sym is))

pub keeps_on : (all behind front rest : List ℕ) (it : SpelledKind) → KeepsTokens all behind → front ≡ after_blanks behind → front ≢ []
    → IsFront front it rest → KeepsTokens all rest
keeps_on all behind front rest it keeps is some h source ts are =
    let left = keeps source ts are in
    let here = front_left behind front is left.0 left.1 in
    elim h.4 [
      | inl comment ↦
          (left.0, left_alike left.0 front rest (gap_behind_comment front comment.0 ∙ ap after_gap (sym comment.2)) here)
      | inr token ↦ behind_token front rest token.1 left.0 token.3 some (front_stays behind front is token.0) here
    ]

pub stops_not : (all behind front : List ℕ) (stop : Stop) → KeepsTokens all behind → front ≡ after_blanks behind → front ≢ []
    → begins_comment front ≡ false → lexeme_at front ≡ Err stop → HasNone all
stops_not all behind front stop keeps is some other e source ts are =
    let left = keeps source ts are in
    stops_nowhere front stop left.0 e some (front_stays behind front is other) (front_left behind front is left.0 left.1)

-- ---- what is spelled and what is read

pieces_before : (ps : List Piece) (meant all own rest : List ℕ) → ArePieces ps meant all own → ArePieces ps meant (all ++ rest) (own ++ rest)
pieces_before [] meant all own rest h = (h.0, ap (λ us. us ++ rest) h.1)
pieces_before (plain b ∷ ps) meant all own rest h =
    (h.0, h.1 ++ rest, h.2, h.3, ap (λ us. us ++ rest) h.4, pieces_before ps h.0 h.1 own rest h.5)
pieces_before (escaped c ∷ ps) meant all own rest h =
    (h.0, h.1 ++ rest, escape_before c all h.1 rest h.2, h.3, pieces_before ps h.0 h.1 own rest h.4)
  where
    escape_before : (c : ℕ) (all next rest : List ℕ) → IsEscape c all next → IsEscape c (all ++ rest) (next ++ rest)
    escape_before c all next rest (inl h) = inl (h.0, h.1, ap (λ us. us ++ rest) h.2)
    escape_before c all next rest (inr (inl h)) = inr (inl (h.0, h.1, h.2, h.3, h.4, ap (λ us. us ++ rest) h.5))
    escape_before c all next rest (inr (inr h)) =
        inr (inr (h.0, h.1, h.2, h.3, h.4, h.5, ap (λ us. us ++ rest) h.6 ∙ ap (λ us. 92 ∷ 117 ∷ 123 ∷ us) (append_assoc h.0 (125 ∷ next) rest)))

-- what is spelled is a comment, or a token, also where it stands before what it ends at
spelled_token : (it : SpelledKind) (bytes rest : List ℕ) → IsSpelling it bytes → Ends it rest
    → (it ≡ kind.Comment) ⊎ ((t : Lexeme) × (it ≡ kind_of t) × IsWritten t bytes [] × IsWritten t (bytes ++ rest) rest)
spelled_token kind.Comment bytes rest is ends = inl refl
spelled_token kind.Id bytes rest is ends = inr (ident bytes, refl, (is, sym (append-nil bytes), refl), (is, refl, ends))
spelled_token kind.Text bytes rest is ends = inr (
  text is.1,
  refl,
  (is.0, is.2, is.3, is.4),
  (is.0, is.2 ++ rest, ap (λ us. us ++ rest) is.3, pieces_before is.0 is.1 is.2 (34 ∷ []) rest is.4),
)
spelled_token (kind.Symbol m) bytes rest is ends = inr (
  symbol m,
  refl,
  (is ∙ sym (append-nil _), λ colon same. absurd (omega (arith, same))),
  (ap (λ us. us ++ rest) is, ends),
)

slash_begins : (bytes rest : List ℕ) → IsSpelling kind.Comment bytes → begins_comment (bytes ++ rest) ≡ true
slash_begins bytes rest is = ap (λ us. begins_comment (us ++ rest)) is.1

comment_line : (bytes rest : List ℕ) → IsSpelling kind.Comment bytes → Ends kind.Comment rest → drop (prefix_len is_line (bytes ++ rest)) (bytes ++ rest) ≡ rest
comment_line bytes rest is ends = ap (λ q. q.1) (run_again is_line bytes rest is.2 (ends_run rest ends))
  where
    ends_run : (rest : List ℕ) → Ends kind.Comment rest → EndsRun is_line rest
    ends_run [] ends = tt
    ends_run (x ∷ rest) (inl none) = absurd cc
    ends_run (x ∷ rest) (inr stops) = stops

slash_is_none : (rest : List ℕ) → lexeme_at (47 ∷ 47 ∷ rest) ≡ Err (bad_character (47 ∷ 47 ∷ rest))
unfolding lexeme_at
slash_is_none rest = refl

-- no token begins as a comment does
token_stays : (front rest : List ℕ) (t : Lexeme) → IsWritten t front rest → blank_len front ≡ 0 → after_gap front ≡ front
token_stays front rest t is none = elim (cases_Bool (begins_comment front)) [
  | inl comment ↦
      let both = and_parts _ _ comment in
      let begins = begins_with_two front 47 47 (eqb-true _ _ both.0) (eqb-true _ _ both.1) (omega arith) (omega arith) in
      let stops = ap lexeme_at begins ∙ slash_is_none (drop 2 front) in
      let again = lexeme_again t front rest is in
      absurd cc
  | inr other ↦ gap_stays front other none
]

-- the first of the tokens that are left is the one that is written there
first_is : (ts : List Token) (t : Lexeme) (front rest : List ℕ) → after_gap front ≡ front → IsWritten t front rest
    → Left (map (λ t. t.lexeme) ts) front
    → (u : Token) × (others : List Token) × (ts ≡ u ∷ others) × (u.lexeme ≡ t) × Left (map (λ t. t.lexeme) others) rest
first_is [] t front rest stays is none = absurd (omega (arith, written_shorter t front rest is, ap length (sym stays ∙ none)))
first_is (u ∷ us) t front rest stays is left =
    let there = lexeme_again u.lexeme front left.0 (subst (λ vs. IsWritten u.lexeme vs left.0) stays left.1) in
    let both = same_pair u.lexeme t left.0 rest (sym there ∙ lexeme_again t front rest is) in
    (u, us, refl, both.0, subst (Left (map (λ t. t.lexeme) us)) both.1 left.2)

lexemes_of : (spelled : List Spelled) (ts : List Token) (all : List ℕ) → AreSpelled spelled all → Left (map (λ t. t.lexeme) ts) all
    → AreLexemesOf spelled ts
lexemes_of [] [] all are left = refl
lexemes_of [] (t ∷ ts) all are left =
    let none : after_gap all ≡ [] = gap_behind_blanks all ∙ ap after_gap are ∙ gap_none_left [] in
    absurd (omega (arith, written_shorter t.lexeme (after_gap all) left.0 left.1, ap length none))
lexemes_of (it ∷ more) ts all are left =
    let rest = are.0 in
    let front : Left (map (λ t. t.lexeme) ts) (it.text ++ rest) = left_alike (map (λ t. t.lexeme) ts) all (it.text ++ rest) (gap_behind_blanks all ∙ ap after_gap are.1) left in
    elim (spelled_token it.kind it.text rest are.2 are.3) [
      | inl comment ↦
          let is : IsSpelling kind.Comment it.text = subst (λ k. IsSpelling k it.text) comment are.2 in
          let ends : Ends kind.Comment rest = subst (λ k. Ends k rest) comment are.3 in
          let gone = gap_behind_comment (it.text ++ rest) (slash_begins it.text rest is) ∙ ap after_gap (comment_line it.text rest is ends) in
          inl (comment, lexemes_of more ts rest are.4 (left_alike (map (λ t. t.lexeme) ts) (it.text ++ rest) rest gone front))
      | inr token ↦
          let stays = token_stays (it.text ++ rest) rest token.0 token.3 (ap blank_len (sym are.1) ∙ blanks_end all) in
          let here = first_is ts token.0 (it.text ++ rest) rest stays token.3 front in
          inr (
            here.0,
            here.1,
            here.2,
            (token.1 ∙ ap kind_of (sym here.3), subst (λ t. IsWritten t it.text []) (sym here.3) token.2),
            lexemes_of more here.1 rest are.4 here.4,
          )
    ]

pub spelled_is_read : (source : ℕ) (all : List ℕ) (spelled : List Spelled) (ts : List Token) → AreSpelled spelled all → AreTokens source all ts
    → AreLexemesOf spelled ts
spelled_is_read source all spelled ts are tokens =
    lexemes_of spelled ts all are (left_of source (length all) ts all tokens.0 tokens.1 tokens.2)
