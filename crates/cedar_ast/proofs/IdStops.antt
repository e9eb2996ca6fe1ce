-- Where a text stops being an identifier.
use Rattle.std.proofs.Common.{◌≡◌, ◌<◌, ◌≤◌, ℕ, suc, zero, true, false, [], ◌∷◌, ◌++◌, ◌&&◌, length, take, get_or, refl, sym, ap, ◌∙◌, arith, subst, append-nil}
use Rattle.std.proofs.Math.ListN.{get_or-append, length-append, length-take}
use Rattle.std.proofs.lemmas.Bool.{false≢true}
use Rattle.std.proofs.lemmas.List.{get_or-take}
use Rattle.std.proofs.lemmas.List.Folds.{list_all_at}
use Rattle.std.proofs.lemmas.Str.{IsUtf8-nil}
use Rattle.std.specs.List.{list_all}
use Rattle.cedar_ast.proofs.NameReading.{both_true, word_text}
use Rattle.cedar_ast.specs.Words.{Begins, IsIdentifier, StopsAt, Text, begins_identifier, is_identifier_byte}

-- the first byte of an identifier may begin one
identifier_begins : (text : Text) → IsIdentifier text → begins_identifier text ≡ true
identifier_begins text is = (both_true (begins_identifier text) (list_all is_identifier_byte text) is).0

-- the bytes of an identifier may stand in one
pub identifier_bytes : (text : Text) → IsIdentifier text → list_all is_identifier_byte text ≡ true
identifier_bytes text is = (both_true (begins_identifier text) (list_all is_identifier_byte text) is).1

-- what begins a text decides whether an identifier may begin so
begins_alike : (text rest : Text) (longer : ℕ) → 0 < longer → longer ≤ length text
    → begins_identifier (take longer text ++ rest) ≡ begins_identifier text
begins_alike text rest zero some within = absurd (omega (arith, some))
begins_alike [] rest (suc longer) some within = absurd (omega (arith, within))
begins_alike (byte ∷ text) rest (suc longer) some within = refl

-- a text that doesn't begin as an identifier stops at once
pub stops_at_start : (text : Text) → begins_identifier text ≡ false → StopsAt IsIdentifier text 0
stops_at_start text none = record {
  other = λ is. false≢true (sym none ∙ identifier_begins text is);
  beginning = record {
    within = omega arith;
    whole = IsUtf8-nil;
    begins = (97 ∷ [], refl);
    longest = λ longer more within _ (rest, is). false≢true
        (sym none ∙ sym (begins_alike text rest longer more within) ∙ identifier_begins (take longer text ++ rest) is);
  };
}

-- the front of what begins as an identifier goes on to one
front_begins : (text : Text) (at : ℕ) → begins_identifier text ≡ true → list_all is_identifier_byte (take at text) ≡ true
    → Begins IsIdentifier (take at text)
front_begins text zero begins all = (97 ∷ [], refl)
front_begins [] (suc at) begins all = absurd (false≢true begins)
front_begins (byte ∷ text) (suc at) begins all = (
  [],
  subst IsIdentifier (sym (append-nil (byte ∷ take at text))) (ap (λ test. test && list_all is_identifier_byte (byte ∷ take at text)) begins ∙ all),
)

-- a text that begins as an identifier stops at the first byte that may not stand in one
pub stops_within : (text : Text) (at : ℕ) → begins_identifier text ≡ true → list_all is_identifier_byte (take at text) ≡ true
    → at < length text → is_identifier_byte (get_or text at 0) ≡ false → StopsAt IsIdentifier text at
stops_within text at begins all within stop = record {
  other = λ is. false≢true (sym (list_all_at is_identifier_byte text at 0 within stop) ∙ identifier_bytes text is);
  beginning = record {
    within = omega (arith, within);
    whole = word_text (take at text) all;
    begins = front_begins text at begins all;
    longest = λ longer more inside _ (rest, is).
        let long : at < length (take longer text) = omega (arith, more, inside, length-take longer text) in
        let same : get_or (take longer text ++ rest) at 0 ≡ get_or text at 0 =
        get_or-append (take longer text) rest 0 at long ∙ get_or-take longer text at 0 more in
        let here : at < length (take longer text ++ rest) = omega (arith, long, length-append (take longer text) rest) in
        false≢true (sym (list_all_at is_identifier_byte (take longer text ++ rest) at 0 here (ap is_identifier_byte same ∙ stop))
        ∙ identifier_bytes (take longer text ++ rest) is);
  };
}
