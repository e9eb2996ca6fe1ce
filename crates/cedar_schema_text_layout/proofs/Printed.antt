-- The text of tokens and comments, with separators between them.
use Rattle.std.proofs.Common.{◌≡◌, ◌≢◌, ◌<◌, ℕ, zero, suc, Bool, false, true, List, [], ◌∷◌, ◌++◌, length, Option, None, Some, ◌⊎◌, inl, inr, refl, sym, ap, subst, ◌∙◌, arith, append-nil, append_assoc}
use Rattle.std.proofs.lemmas.Bool.{and_parts}
use Rattle.std.proofs.lemmas.Bool.Decides.{nat_tests}
use Rattle.std.specs.Char.{is_whitespace}
use Rattle.std.specs.List.{list_all}
use Rattle.cedar_schema_text_layout.specs.Relaid.{EachSpelled}
use Rattle.cedar_schema_text_layout.specs.Separators.{EndsIf, IsParted, indent, separator_bytes}
use Rattle.cedar_schema_text_layout.specs.declared.separator.Separator.{Separator}
use Rattle.cedar_schema_text_layout.specs.declared.separator.Separator.TheVariants.{Nothing, Blank, Line, EmptyLine}
use Rattle.cedar_schema_tokens.proofs.Blanks.{blank_behind, blank_none, blanks_nothing, blanks_stay}
use Rattle.cedar_schema_tokens.specs.Lexical.{blank_len, first, is_start, is_word}
use Rattle.cedar_schema_tokens.specs.Spelled.{AreSpelled, Ends, IsSpelling, Spelled, after_blanks}
use Rattle.cedar_schema_tokens.specs.Written.{is_id, spelling}
use Rattle.cedar_schema_tokens.specs.declared.spelled.SpelledKind.{SpelledKind}
use Rattle.cedar_schema_tokens.specs.declared.spelled.SpelledKind.TheVariants as kind
use Rattle.cedar_schema_tokens.specs.declared.token.Symbol.{Symbol}
use Rattle.cedar_schema_tokens.specs.declared.token.Symbol.TheVariants as sign

-- ---- separators

pub indent_more : (level : ℕ) → indent level ++ 32 ∷ 32 ∷ [] ≡ indent (suc level)
indent_more zero = refl
indent_more (suc level) = ap (λ bytes. 32 ∷ 32 ∷ bytes) (indent_more level)

blank_gone : (all : List ℕ) → after_blanks (32 ∷ all) ≡ after_blanks all
blank_gone all = blank_behind 32 all (omega arith) refl

line_gone : (all : List ℕ) → after_blanks (10 ∷ all) ≡ after_blanks all
line_gone all = blank_behind 10 all (omega arith) refl

indent_gone : (level : ℕ) (all : List ℕ) → after_blanks (indent level ++ all) ≡ after_blanks all
indent_gone zero all = refl
indent_gone (suc level) all = blank_gone (32 ∷ (indent level ++ all)) ∙ blank_gone (indent level ++ all) ∙ indent_gone level all

separator_gone : (separator : Separator) (all : List ℕ) → after_blanks (separator_bytes separator ++ all) ≡ after_blanks all
separator_gone Nothing all = refl
separator_gone Blank all = blank_gone all
separator_gone (Line level) all = line_gone (indent level ++ all) ∙ indent_gone level all
separator_gone (EmptyLine level) all = line_gone (10 ∷ (indent level ++ all)) ∙ line_gone (indent level ++ all) ∙ indent_gone level all

-- ---- what a token or a comment begins with

start_stays : (b : ℕ) (rest : List ℕ) → is_start b ≡ true → blank_len (b ∷ rest) ≡ 0
start_stays b rest is =
    let below : b < 128 = grind (arith, nat_tests) in
    let other : is_whitespace b ≡ false = grind (arith, nat_tests) in
    blank_none b rest below other

symbol_stays : (m : Symbol) (rest : List ℕ) → blank_len (spelling m ++ rest) ≡ 0
symbol_stays sign.PathSeparator rest = blank_none 58 (58 ∷ rest) (omega arith) refl
symbol_stays sign.Colon rest = blank_none 58 rest (omega arith) refl
symbol_stays sign.Comma rest = blank_none 44 rest (omega arith) refl
symbol_stays sign.Semicolon rest = blank_none 59 rest (omega arith) refl
symbol_stays sign.Question rest = blank_none 63 rest (omega arith) refl
symbol_stays sign.Equals rest = blank_none 61 rest (omega arith) refl
symbol_stays sign.Less rest = blank_none 60 rest (omega arith) refl
symbol_stays sign.Greater rest = blank_none 62 rest (omega arith) refl
symbol_stays sign.OpenBracket rest = blank_none 91 rest (omega arith) refl
symbol_stays sign.CloseBracket rest = blank_none 93 rest (omega arith) refl
symbol_stays sign.OpenBrace rest = blank_none 123 rest (omega arith) refl
symbol_stays sign.CloseBrace rest = blank_none 125 rest (omega arith) refl
symbol_stays sign.OpenParenthesis rest = blank_none 40 rest (omega arith) refl
symbol_stays sign.CloseParenthesis rest = blank_none 41 rest (omega arith) refl
symbol_stays sign.At rest = blank_none 64 rest (omega arith) refl

-- it begins with no white space
spelling_stays : (it : SpelledKind) (bytes rest : List ℕ) → IsSpelling it bytes → blank_len (bytes ++ rest) ≡ 0
spelling_stays kind.Comment bytes rest is = ap (λ bs. blank_len (bs ++ rest)) is.1 ∙ blank_none 47 (47 ∷ (is.0 ++ rest)) (omega arith) refl
spelling_stays kind.Id [] rest is = absurd cc
spelling_stays kind.Id (b ∷ bytes) rest is = start_stays b (bytes ++ rest) (and_parts (is_start b) (list_all is_word bytes) is).0
spelling_stays kind.Text bytes rest is = ap (λ bs. blank_len (bs ++ rest)) is.3 ∙ blank_none 34 (is.2 ++ rest) (omega arith) refl
spelling_stays (kind.Symbol m) bytes rest is = ap (λ bs. blank_len (bs ++ rest)) is ∙ symbol_stays m rest

symbol_no_word : (m : Symbol) (rest : List ℕ) → is_word (first (spelling m ++ rest)) ≡ false
symbol_no_word sign.PathSeparator rest = refl
symbol_no_word sign.Colon rest = refl
symbol_no_word sign.Comma rest = refl
symbol_no_word sign.Semicolon rest = refl
symbol_no_word sign.Question rest = refl
symbol_no_word sign.Equals rest = refl
symbol_no_word sign.Less rest = refl
symbol_no_word sign.Greater rest = refl
symbol_no_word sign.OpenBracket rest = refl
symbol_no_word sign.CloseBracket rest = refl
symbol_no_word sign.OpenBrace rest = refl
symbol_no_word sign.CloseBrace rest = refl
symbol_no_word sign.OpenParenthesis rest = refl
symbol_no_word sign.CloseParenthesis rest = refl
symbol_no_word sign.At rest = refl

-- what is no id goes on with none
no_word : (it : SpelledKind) (bytes rest : List ℕ) → it ≢ kind.Id → IsSpelling it bytes → is_word (first (bytes ++ rest)) ≡ false
no_word kind.Comment bytes rest other is = ap (λ bs. is_word (first (bs ++ rest))) is.1
no_word kind.Id bytes rest other is = absurd (other refl)
no_word kind.Text bytes rest other is = ap (λ bs. is_word (first (bs ++ rest))) is.3
no_word (kind.Symbol m) bytes rest other is = ap (λ bs. is_word (first (bs ++ rest))) is ∙ symbol_no_word m rest

-- ---- where things end

line_ends : (last : SpelledKind) (rest : List ℕ) → Ends last (10 ∷ rest)
line_ends kind.Comment rest = inr refl
line_ends kind.Id rest = refl
line_ends kind.Text rest = tt
line_ends (kind.Symbol m) rest = λ is same. absurd (omega (arith, same))

blank_ends : (last : SpelledKind) (rest : List ℕ) → last ≢ kind.Comment → Ends last (32 ∷ rest)
blank_ends kind.Comment rest other = absurd (other refl)
blank_ends kind.Id rest other = refl
blank_ends kind.Text rest other = tt
blank_ends (kind.Symbol m) rest other = λ is same. absurd (omega (arith, same))

end_ends : (last : Option SpelledKind) → EndsIf last []
end_ends None = tt
end_ends (Some kind.Comment) = inl refl
end_ends (Some kind.Id) = refl
end_ends (Some kind.Text) = tt
end_ends (Some (kind.Symbol m)) = λ is same. absurd (omega (arith, same))

-- a line parts all
pub line_parts : (last : SpelledKind) (level : ℕ) (following : SpelledKind) → IsParted (Some last) (Line level) following
line_parts last level following bytes rest is = line_ends last (indent level ++ (bytes ++ rest))

pub empty_line_parts : (last : SpelledKind) (level : ℕ) (following : SpelledKind) → IsParted (Some last) (EmptyLine level) following
empty_line_parts last level following bytes rest is = line_ends last (10 ∷ (indent level ++ (bytes ++ rest)))

-- a blank parts all but comments
pub blank_parts : (last following : SpelledKind) → last ≢ kind.Comment → IsParted (Some last) Blank following
blank_parts last following other bytes rest is = blank_ends last (bytes ++ rest) other

-- an id touches what is no id
pub id_touches : (following : SpelledKind) → following ≢ kind.Id → IsParted (Some kind.Id) Nothing following
id_touches following other bytes rest is = no_word following bytes rest other is

-- ---- all of a text

-- the bytes spell some tokens and comments, whatever is spelled behind what they end with
abbrev pub Writes : List Spelled → Option SpelledKind → List ℕ → Type 0
Writes some last bytes =
    (rest : List ℕ) (more : List Spelled) → EndsIf last rest → AreSpelled more rest → AreSpelled (some ++ more) (bytes ++ rest)

pub writes_nothing : Writes [] None []
writes_nothing rest more ends are = are

pub writes_on : (some others : List Spelled) (last : Option SpelledKind) (bytes parting behind : List ℕ) (separator : Separator) (it : Spelled)
    → Writes some last bytes → IsParted last separator it.kind → IsSpelling it.kind it.text
    → others ≡ some ++ it ∷ [] → parting ≡ bytes ++ separator_bytes separator → behind ≡ parting ++ it.text → Writes others (Some it.kind) behind
writes_on some others last bytes parting behind separator it writes parted is more_here parting_here behind_here rest more ends are =
    let front = it.text ++ rest in
    let gone : after_blanks (separator_bytes separator ++ front) ≡ front =
    separator_gone separator front ∙ blanks_stay (length front) front (spelling_stays it.kind it.text rest is) in
    let here = writes (separator_bytes separator ++ front) (it ∷ more) (parted it.text rest is) (rest, gone, is, ends, are) in
    let list : others ++ more ≡ some ++ (it ∷ more) = ap (λ ps. ps ++ more) more_here ∙ append_assoc some (it ∷ []) more in
    let text : behind ++ rest ≡ bytes ++ (separator_bytes separator ++ front) =
    ap (λ bs. bs ++ rest) (behind_here ∙ ap (λ bs. bs ++ it.text) parting_here) ∙ append_assoc (bytes ++ separator_bytes separator) it.text rest ∙ append_assoc bytes (separator_bytes separator) front in
    subst (λ ps. AreSpelled ps (behind ++ rest)) (sym list) (subst (AreSpelled (some ++ (it ∷ more))) (sym text) here)

pub writes_all : (some : List Spelled) (last : Option SpelledKind) (bytes : List ℕ) → Writes some last bytes → AreSpelled some bytes
writes_all some last bytes writes =
    subst (λ ps. AreSpelled ps bytes) (append-nil some)
    (subst (AreSpelled (some ++ [])) (append-nil bytes) (writes [] [] (end_ends last) blanks_nothing))

-- what a text spells is each spelled as its kind is
pub spelled_each : (all : List Spelled) (text : List ℕ) → AreSpelled all text → EachSpelled all
spelled_each [] text are = tt
spelled_each (it ∷ more) text are = (are.2, spelled_each more are.0 are.4)
