-- A uid is known by its text.
use Rattle.std.proofs.Common.{◌≡◌, ◌==◌, ℕ, Bool, true, List, [], ◌∷◌, ◌++◌, Option, Some, None, codes, refl, sym, ap, ◌∙◌, arith, inl, inr}
use Rattle.std.proofs.Math.Utf8.{encodes}
use Rattle.std.proofs.lemmas.List.{append_assoc, append_cancel_right}
use Rattle.std.proofs.lemmas.Str.{encodes_same, encodes-chars, scalars-chars}
use Rattle.std.specs.Char.{is_control}
use Rattle.std.specs.Fmt.{digits}
use Rattle.std.specs.List.{cons_option}
use Rattle.std.specs.Str.{IsUtf8, chars}
use Rattle.cedar_ast.proofs.EscapeReading.{all_spelled, alike, below_or_not, cond_false, every, every-at, no_control, other, quoted, run, run-spelled, spelled, spelled-wide}
use Rattle.cedar_ast.proofs.Texts.{text_eq-Decides}
use Rattle.cedar_ast.proofs.TextsOfNames.{cut, names_by_text}
use Rattle.cedar_ast.proofs.UidReading.{is_no_quote, name_front-no_quote, uid_text-split}
use Rattle.cedar_ast.specs.Words.{Escape, IsOfIdentifiers, PlainUid, Text, Whole, escape_then, escaped_text, last_whole, name_text, uid_text}

-- the character of the id that ends with the last one read
abbrev last_read : Option Escape → Option ℕ
last_read None = None
last_read (Some escape) = last_whole escape

-- the characters of the id that are read from those in quotes
abbrev decoded : Option Escape → List ℕ → List ℕ
decoded None chars = []
decoded (Some escape) [] = []
decoded (Some escape) (c ∷ chars) = cons_option (last_read (escape_then escape c)) (decoded (escape_then escape c) chars)

-- one that there may be stands before two lists
cons_option-append : (first : Option ℕ) (some more : List ℕ) → cons_option first (some ++ more) ≡ cons_option first some ++ more
cons_option-append None some more = refl
cons_option-append (Some c) some more = refl

-- two lists in turn are read in turn
decoded-append : (escape : Option Escape) (chars more : List ℕ) → decoded escape (chars ++ more) ≡ decoded escape chars ++ decoded (run escape chars) more
decoded-append None chars more = refl
decoded-append (Some escape) [] more = refl
decoded-append (Some escape) (c ∷ chars) more =
    let next = escape_then escape c in
    ap (cons_option (last_read next)) (decoded-append next chars more) ∙ cons_option-append (last_read next) (decoded next chars) (decoded (run next chars) more)

-- each character below 160 is the one that is read from how it is printed
abbrev decodes_to_itself : Option ℕ → ℕ → Bool
decodes_to_itself last c = alike (decoded (Some (Whole last)) (spelled c)) (c ∷ [])

table_decoded : (last : Option ℕ) → every 160 (decodes_to_itself last) ≡ true
unfolding digits
table_decoded last = refl

-- and so is any other
decoded-spelled : (last : Option ℕ) (c : ℕ) → decoded (Some (Whole last)) (spelled c) ≡ c ∷ []
decoded-spelled last c = elim (below_or_not c 160) [
  | inl small ↦
      (text_eq-Decides (decoded (Some (Whole last)) (spelled c)) (c ∷ [])).0 (every-at 160 (decodes_to_itself last) (table_decoded last) c small)
  | inr large ↦
      ap (decoded (Some (Whole last))) (spelled-wide c large)
      ∙ ap (λ escape. cons_option (last_read escape) (decoded escape [])) (cond_false (c == 92) _ _ (other c 92 large (omega arith))
      ∙ cond_false (c == 34) _ _ (other c 34 large (omega arith)) ∙ cond_false (is_control c) _ _ (no_control c large))
]

-- the characters of an id are read from how it stands in quotes
decoded-all_spelled : (last : Option ℕ) (es : List ℕ) → decoded (Some (Whole last)) (all_spelled es ++ 34 ∷ []) ≡ es
decoded-all_spelled last [] = refl
decoded-all_spelled last (c ∷ es) =
    ap (decoded (Some (Whole last))) (append_assoc (spelled c) (all_spelled es) (34 ∷ []))
    ∙ decoded-append (Some (Whole last)) (spelled c) (all_spelled es ++ 34 ∷ [])
    ∙ (λ i. decoded-spelled last c i ++ decoded (run-spelled last c i) (all_spelled es ++ 34 ∷ []))
    ∙ ap (λ rest. c ∷ rest) (decoded-all_spelled (Some c) es)

-- an id as it stands in quotes, by its characters
quoted_chars : (eid : Text) → IsUtf8 eid → escaped_text eid ++ codes "\"" ≡ encodes (all_spelled (chars eid) ++ 34 ∷ [])
quoted_chars eid utf8 =
    ap (λ bytes. escaped_text bytes ++ codes "\"") (sym (encodes-chars eid utf8)) ∙ quoted (chars eid) (scalars-chars eid utf8)

-- ids that print alike are the same
ids_by_text : (a b : Text) → IsUtf8 a → IsUtf8 b → escaped_text a ++ codes "\"" ≡ escaped_text b ++ codes "\"" → a ≡ b
ids_by_text a b utf8 other_utf8 e =
    let same : all_spelled (chars a) ++ 34 ∷ [] ≡ all_spelled (chars b) ++ 34 ∷ [] =
    encodes_same _ _ (sym (quoted_chars a utf8) ∙ e ∙ quoted_chars b other_utf8) in
    let read : chars a ≡ chars b =
    sym (decoded-all_spelled None (chars a)) ∙ ap (decoded (Some (Whole None))) same ∙ decoded-all_spelled None (chars b) in
    sym (encodes-chars a utf8) ∙ ap encodes read ∙ encodes-chars b other_utf8

-- uids of identifiers that print alike are the same
pub uids_by_text : (a b : PlainUid) → IsOfIdentifiers a.ty → IsOfIdentifiers b.ty → IsUtf8 a.eid → IsUtf8 b.eid → uid_text a ≡ uid_text b → a ≡ b
uids_by_text a b ids others utf8 other_utf8 e =
    let halves = cut is_no_quote 34 refl (name_text a.ty ++ codes "::") (name_text b.ty ++ codes "::") (escaped_text a.eid ++ codes "\"")
    (escaped_text b.eid ++ codes "\"") (name_front-no_quote a.ty ids) (name_front-no_quote b.ty others)
    (sym (uid_text-split a) ∙ e ∙ uid_text-split b) in
    let types = names_by_text a.ty b.ty ids others (append_cancel_right (name_text a.ty) (name_text b.ty) (codes "::") halves.0) in
    let eids = ids_by_text a.eid b.eid utf8 other_utf8 halves.1 in
    λ i. record { ty = types i; eid = eids i }
