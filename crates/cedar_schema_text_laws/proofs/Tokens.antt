-- Pieces as the tokens that they spell, whatever stands behind them.
use Rattle.std.proofs.Common.{◌≡◌, ℕ, zero, suc, ◌<◌, Bool, true, false, ◌&&◌, ◌==◌, not, List, [], ◌∷◌, ◌++◌, length, refl, sym, ap, subst, ◌∙◌, arith, append-nil, append_assoc, IsUtf8}
use Rattle.std.proofs.lemmas.Bool.{and_parts}
use Rattle.std.proofs.lemmas.Bool.Decides.{nat_tests}
use Rattle.std.proofs.lemmas.Grind.{flat_map-append}
use Rattle.std.specs.Char.{is_whitespace, len_utf8}
use Rattle.std.specs.List.{list_all, prefix_len}
use Rattle.std.specs.Prelude.{if◌then◌else◌, nat_lt, slice_index, codes}
use Rattle.cedar_ast.specs.Words.{Text, quoted_text}
use Rattle.cedar_schema_grammar.specs.Grammar.{Form, token, mark, nothing, ◌then◌}
use Rattle.cedar_schema_grammar.specs.Grammar.{word as word_form}
use Rattle.cedar_schema_text_writer.specs.Pieces.{Piece, blank, indent, line, quoted, sign, spelled, text_of, word}
use Rattle.cedar_schema_text_laws.proofs.QuotedTexts.{is_quoted}
use Rattle.cedar_schema_tokens.proofs.Blanks.{first_ascii}
use Rattle.cedar_schema_tokens.proofs.Gaps.{gap_none_left, gap_turn_goes, gap_turn_stops}
use Rattle.cedar_schema_tokens.specs.Lexical.{after_gap, blank_len, first, first_char, gap_from, gap_len, is_line, is_start, is_word, place}
use Rattle.cedar_schema_tokens.specs.Token.{Lexeme, Token, ident, symbol, text}
use Rattle.cedar_schema_tokens.specs.Written.{AreTokens, Begin, IsWritten, is_id, spelling}
use Rattle.cedar_schema_tokens.specs.declared.token.Symbol.{Symbol}
use Rattle.cedar_schema_tokens.specs.declared.token.Symbol.TheVariants as mark_of

-- ---- white space

longer : (b : ℕ) (all : List ℕ) → length (b ∷ all) ≡ suc (length all)
longer b all = omega arith

-- a blank or a line end is white space
gap_behind : (b : ℕ) (all : List ℕ) → gap_len (b ∷ all) ≡ 1 → after_gap (b ∷ all) ≡ after_gap all
gap_behind b all one =
    ap (λ n. gap_from n (b ∷ all)) (longer b all) ∙ gap_turn_goes (length all) 1 (b ∷ all) one (λ e. omega (arith, e))

pub blank_behind : (all : List ℕ) → after_gap (32 ∷ all) ≡ after_gap all
blank_behind all = gap_behind 32 all (ap (λ c. if is_whitespace c then len_utf8 c else 0) (first_ascii 32 all (omega arith)))

line_behind : (all : List ℕ) → after_gap (10 ∷ all) ≡ after_gap all
line_behind all = gap_behind 10 all (ap (λ c. if is_whitespace c then len_utf8 c else 0) (first_ascii 10 all (omega arith)))

indent_behind : (level : ℕ) (all : List ℕ) → after_gap (indent level ++ all) ≡ after_gap all
indent_behind zero all = refl
indent_behind (suc level) all =
    blank_behind (32 ∷ (indent level ++ all)) ∙ (blank_behind (indent level ++ all) ∙ indent_behind level all)

-- the byte begins a token
abbrev begins_token : ℕ → Bool
begins_token b = nat_lt b 128 && (not (b == 47) && not (is_whitespace b))

-- such a byte is no white space
no_gap : (b : ℕ) (all : List ℕ) → begins_token b ≡ true → after_gap (b ∷ all) ≡ b ∷ all
no_gap b all begins =
    let below : b < 128 = grind (arith, nat_tests) in
    let other : (b == 47) ≡ false = grind (arith, nat_tests) in
    let blank : is_whitespace b ≡ false = grind (arith, nat_tests) in
    let none : gap_len (b ∷ all) ≡ 0 =
    ap (λ t. if t && slice_index (b ∷ all) 1 == 47 then prefix_len is_line (b ∷ all) else blank_len (b ∷ all)) other
    ∙ (ap (λ c. if is_whitespace c then len_utf8 c else 0) (first_ascii b all below) ∙ ap (λ t. if t then len_utf8 b else 0) blank) in
    ap (λ n. gap_from n (b ∷ all)) (longer b all) ∙ gap_turn_stops (length all) (b ∷ all) none

start_begins : (b : ℕ) → is_start b ≡ true → begins_token b ≡ true
start_begins b e = grind (arith, nat_tests)

-- ---- what is left of a text

-- the bytes begin with none that an identifier goes on with
abbrev pub Open : List ℕ → Type 0
Open all = is_word (first all) ≡ false

-- pieces after which an identifier ends
abbrev pub Opens : List Piece → Type 0
Opens pieces = (all : List ℕ) → Open all → Open (text_of pieces ++ all)

pub Opens-none : Opens []
Opens-none all ended = ended

module _ (source total : ℕ) where
  -- the tokens of what is left of a text of so many bytes, to its end
  abbrev pub Left : List Token → List ℕ → Type 0
  Left [] all = after_gap all ≡ []
  Left (t ∷ ts) all =
      (next : List ℕ) × IsWritten t.lexeme (after_gap all) next
      × (t.loc ≡ place source total (length (after_gap all)) (length next)) × Left ts next

  left_begin : (ts : List Token) (all : List ℕ) → Left ts all
      → (rest : List ℕ) × Begin source total ts all rest × (after_gap rest ≡ [])
  left_begin [] all none = (all, refl, none)
  left_begin (t ∷ ts) all left =
      let more = left_begin ts left.0 left.3 in (more.0, (left.0, left.1, left.2, more.1), more.2)

  -- only what stands behind white space counts
  left_alike : (ts : List Token) (all other : List ℕ) → after_gap all ≡ after_gap other → Left ts all → Left ts other
  left_alike [] all other same none = sym same ∙ none
  left_alike (t ∷ ts) all other same left = (
    left.0,
    subst (λ (front : List ℕ). IsWritten t.lexeme front left.0) same left.1,
    left.2 ∙ ap (λ (front : List ℕ). place source total (length front) (length left.0)) same,
    left.3,
  )

  -- the token at the front of some bytes
  abbrev token_before : Lexeme → List ℕ → List ℕ → Token
  token_before lexeme all next = record { lexeme = lexeme; loc = place source total (length all) (length next) }

  -- a token stands before others, where no white space does
  left_more : (lexeme : Lexeme) (all next : List ℕ) (ts : List Token) → after_gap all ≡ all → IsWritten lexeme all next → Left ts next
      → Left (token_before lexeme all next ∷ ts) all
  left_more lexeme all next ts none is left = (
    next,
    subst (λ (front : List ℕ). IsWritten lexeme front next) (sym none) is,
    ap (λ (front : List ℕ). place source total (length front) (length next)) (sym none),
    left,
  )

  -- the pieces spell tokens of the form, whatever stands behind them
  abbrev pub Says : List Piece → Form → Type 0
  Says pieces form =
      (all : List ℕ) (rest : List Token) → Open all → Left rest all
      → (ts : List Token) × Left ts (text_of pieces ++ all) × form ts rest

  pub says_nothing : Says [] nothing
  says_nothing all rest ended left = (rest, left, refl)

  -- what they say, in other words
  pub says_so : (pieces : List Piece) (form other : Form) → ((ts rest : List Token) → form ts rest → other ts rest) → Says pieces form → Says pieces other
  says_so pieces form other so says all rest ended left =
      let here = says all rest ended left in (here.0, here.1, so here.0 rest here.2)

  pub says_blank : (pieces : List Piece) (form : Form) → Says pieces form → Says (blank ∷ pieces) form
  says_blank pieces form says all rest ended left =
      let here = says all rest ended left in
      let text = text_of pieces ++ all in
      (here.0, left_alike here.0 text (32 ∷ text) (sym (blank_behind text)) here.1, here.2)

  pub says_line : (level : ℕ) (pieces : List Piece) (form : Form) → Says pieces form → Says (line level ∷ pieces) form
  says_line level pieces form says all rest ended left =
      let here = says all rest ended left in
      let text = text_of pieces ++ all in
      let before = 10 ∷ (indent level ++ text) in
      let same : before ≡ text_of (line level ∷ pieces) ++ all = ap (λ (more : List ℕ). 10 ∷ more) (sym (append_assoc (indent level) (text_of pieces) all)) in
      let gap : after_gap text ≡ after_gap before = sym (line_behind (indent level ++ text) ∙ indent_behind level text) in
      (here.0, subst (Left here.0) same (left_alike here.0 text before gap here.1), here.2)

  pub says_word : (w : Text) (pieces : List Piece) (form : Form) → is_id w ≡ true → Opens pieces → Says pieces form
      → Says (word w ∷ pieces) (word_form w then form)
  says_word w pieces form identifier opens says all rest ended left =
      let here = says all rest ended left in
      let next = text_of pieces ++ all in
      let same : w ++ next ≡ text_of (word w ∷ pieces) ++ all = sym (append_assoc w (text_of pieces) all) in
      let t = token_before (ident w) (w ++ next) next in (
        t ∷ here.0,
        subst (Left (t ∷ here.0)) same
            (left_more (ident w) (w ++ next) next here.0 (begins w identifier) (identifier, refl, opens all ended) here.1),
        (here.0, (t.loc, refl), here.2),
      )
    where
      begins : (v : Text) → is_id v ≡ true → after_gap (v ++ (text_of pieces ++ all)) ≡ v ++ (text_of pieces ++ all)
      begins [] is = absurd (cc)
      begins (b ∷ bs) is =
          no_gap b (bs ++ (text_of pieces ++ all)) (start_begins b (and_parts (is_start b) (list_all is_word bs) is).0)

  pub says_quoted : (s : Text) (pieces : List Piece) (form : Form) → IsUtf8 s → Says pieces form
      → Says (quoted s ∷ pieces) (token (text s) then form)
  says_quoted s pieces form utf8 says all rest ended left =
      let here = says all rest ended left in
      let next = text_of pieces ++ all in
      let front = quoted_text s ++ next in
      let same : front ≡ text_of (quoted s ∷ pieces) ++ all = sym (append_assoc (quoted_text s) (text_of pieces) all) in
      let t = token_before (text s) front next in (
        t ∷ here.0,
        subst (Left (t ∷ here.0)) same (left_more (text s) front next here.0 (no_gap 34 _ refl) (is_quoted s utf8 next) here.1),
        (here.0, (t.loc, refl), here.2),
      )

  -- a sign other than a colon
  sign_here : (m : Symbol) (pieces : List Piece) (form : Form)
      → ((all : List ℕ) → after_gap (spelling m ++ all) ≡ spelling m ++ all) → (m ≡ mark_of.Colon → ⊥) → Says pieces form
      → Says (sign (spelling m) ∷ pieces) (mark m then form)
  sign_here m pieces form begins other says all rest ended left =
      let here = says all rest ended left in
      let next = text_of pieces ++ all in
      let same : spelling m ++ next ≡ text_of (sign (spelling m) ∷ pieces) ++ all = sym (append_assoc (spelling m) (text_of pieces) all) in
      let t = token_before (symbol m) (spelling m ++ next) next in (
        t ∷ here.0,
        subst (Left (t ∷ here.0)) same
            (left_more (symbol m) (spelling m ++ next) next here.0 (begins next) (refl, λ is. absurd (other is)) here.1),
        (here.0, (t.loc, refl), here.2),
      )

  -- a colon behind which a blank stands
  pub says_colon : (pieces : List Piece) (form : Form) → Says pieces form → Says (sign (codes ":") ∷ blank ∷ pieces) (mark mark_of.Colon then form)
  says_colon pieces form says all rest ended left =
      let here = says_blank pieces form says all rest ended left in
      let next = 32 ∷ (text_of pieces ++ all) in
      let t = token_before (symbol mark_of.Colon) (58 ∷ next) next in
      let other : first next ≡ 58 → ⊥ = λ e. omega (arith, e) in (
        t ∷ here.0,
        left_more (symbol mark_of.Colon) (58 ∷ next) next here.0 (no_gap 58 next refl) (refl, λ is. other) here.1,
        (here.0, (t.loc, refl), here.2),
      )

  pub says_path_separator : (pieces : List Piece) (form : Form) → Says pieces form → Says (sign (codes "::") ∷ pieces) (mark mark_of.PathSeparator then form)
  says_path_separator pieces form = sign_here mark_of.PathSeparator pieces form (λ all. no_gap 58 (58 ∷ all) refl) (λ is. cc)

  pub says_comma : (pieces : List Piece) (form : Form) → Says pieces form → Says (sign (codes ",") ∷ pieces) (mark mark_of.Comma then form)
  says_comma pieces form = sign_here mark_of.Comma pieces form (λ all. no_gap 44 all refl) (λ is. cc)

  pub says_semicolon : (pieces : List Piece) (form : Form) → Says pieces form → Says (sign (codes ";") ∷ pieces) (mark mark_of.Semicolon then form)
  says_semicolon pieces form = sign_here mark_of.Semicolon pieces form (λ all. no_gap 59 all refl) (λ is. cc)

  pub says_question : (pieces : List Piece) (form : Form) → Says pieces form → Says (sign (codes "?") ∷ pieces) (mark mark_of.Question then form)
  says_question pieces form = sign_here mark_of.Question pieces form (λ all. no_gap 63 all refl) (λ is. cc)

  pub says_equals : (pieces : List Piece) (form : Form) → Says pieces form → Says (sign (codes "=") ∷ pieces) (mark mark_of.Equals then form)
  says_equals pieces form = sign_here mark_of.Equals pieces form (λ all. no_gap 61 all refl) (λ is. cc)

  pub says_less : (pieces : List Piece) (form : Form) → Says pieces form → Says (sign (codes "<") ∷ pieces) (mark mark_of.Less then form)
  says_less pieces form = sign_here mark_of.Less pieces form (λ all. no_gap 60 all refl) (λ is. cc)

  pub says_greater : (pieces : List Piece) (form : Form) → Says pieces form → Says (sign (codes ">") ∷ pieces) (mark mark_of.Greater then form)
  says_greater pieces form = sign_here mark_of.Greater pieces form (λ all. no_gap 62 all refl) (λ is. cc)

  pub says_open_bracket : (pieces : List Piece) (form : Form) → Says pieces form → Says (sign (codes "[") ∷ pieces) (mark mark_of.OpenBracket then form)
  says_open_bracket pieces form = sign_here mark_of.OpenBracket pieces form (λ all. no_gap 91 all refl) (λ is. cc)

  pub says_close_bracket : (pieces : List Piece) (form : Form) → Says pieces form → Says (sign (codes "]") ∷ pieces) (mark mark_of.CloseBracket then form)
  says_close_bracket pieces form = sign_here mark_of.CloseBracket pieces form (λ all. no_gap 93 all refl) (λ is. cc)

  pub says_open_brace : (pieces : List Piece) (form : Form) → Says pieces form → Says (sign (codes "{") ∷ pieces) (mark mark_of.OpenBrace then form)
  says_open_brace pieces form = sign_here mark_of.OpenBrace pieces form (λ all. no_gap 123 all refl) (λ is. cc)

  pub says_close_brace : (pieces : List Piece) (form : Form) → Says pieces form → Says (sign (codes "}") ∷ pieces) (mark mark_of.CloseBrace then form)
  says_close_brace pieces form = sign_here mark_of.CloseBrace pieces form (λ all. no_gap 125 all refl) (λ is. cc)

  -- pieces behind others
  pub says_then : (pieces others : List Piece) (form other : Form) → Says pieces form → Opens others → Says others other
      → Says (pieces ++ others) (form then other)
  says_then pieces others form other says opens more all rest ended left =
      let behind = more all rest ended left in
      let here = says (text_of others ++ all) behind.0 (opens all ended) behind.1 in
      let same : text_of pieces ++ (text_of others ++ all) ≡ text_of (pieces ++ others) ++ all =
      sym (ap (λ (text : List ℕ). text ++ all) (flat_map-append spelled pieces others) ∙ append_assoc (text_of pieces) (text_of others) all) in
      (here.0, subst (Left here.0) same here.1, (behind.0, here.2, behind.2))

  -- pieces behind which there is nothing
  pub says_last : (pieces : List Piece) (form : Form) → Says pieces (form then nothing) → Says pieces form
  says_last pieces form = says_so pieces (form then nothing) form (λ ts rest is. subst (λ (last : List Token). form ts last) is.2 is.1)

-- pieces that say a form are tokens of it
pub tokens_of : (source : ℕ) (pieces : List Piece) (form : Form) → Says source (length (text_of pieces)) pieces form
    → (ts : List Token) × AreTokens source (text_of pieces) ts × form ts []
tokens_of source pieces form says =
    let text = text_of pieces in
    let total = length text in
    let here = says [] [] refl (gap_nothing) in
    let left : Left source total here.0 text = subst (Left source total here.0) (append-nil text) here.1 in
    let begin = left_begin source total here.0 text left in
    (here.0, (begin.0, begin.1, begin.2), here.2)
  where
    gap_nothing : after_gap [] ≡ []
    gap_nothing = gap_none_left []
