-- What a text is that has the tokens of a fragment's object.
use Rattle.std.proofs.Common.{◌≡◌, ◌<◌, ◌≤◌, List, [], ◌∷◌, ◌++◌, Bool, true, false, cond, length, nat_lt, Option, Some, None, IsSome, Contains, option_and_then, refl, ap, sym, ◌∙◌, append-nil, arith, ltb-false, ltb-true}
use Rattle.std.specs.Str.{IsUtf8}
use Rattle.cedar_json_writer.proofs.FragmentReadBack.{fragment_back}
use Rattle.cedar_json_writer.proofs.WritingLemmas.{flaw_right, none_both}
use Rattle.cedar_json_writer.proofs.WrittenKeys.{fragment_unique}
use Rattle.cedar_json_writer.specs.Words.{AddsValue, Describes, Flaw, IsFlawOf, IsFree, IsWritable, SoundFragment, Text, TooDeep, WrittenFragment, fragment_document, fragment_flaws, nesting, nesting_flaws, parts_flaws, too_long}
use Rattle.cedar_json_writer.specs.declared.fault.WriteFault.TheVariants as fault
use Rattle.json.proofs.Found.{one_reading}
use Rattle.json.proofs.Nesting.{value-depth}
use Rattle.json.proofs.Printed.Trees.{value-json_tokens}
use Rattle.json.specs.Json.{Json, document, if_last, max_depth, value}
use Rattle.json.specs.Lex.{tokens}
use Rattle.json.specs.Token.{Token}
use Rattle.json.specs.Tree.{depth, json_tokens}

-- what was written from nothing has just the tokens of its value
pub written_alone : (opened now : List Token) (j : Json) → opened ≡ [] → AddsValue opened now j → now ≡ json_tokens j
written_alone opened now j begun added = added ∙ ap (λ l. l ++ json_tokens j) begun

-- a text that has the tokens of a value which nests no deeper than is read is that value
document_of : (text : Text) (j : Json) → tokens text ≡ json_tokens j → depth j ≤ max_depth → document text ≡ Some j
document_of text j written shallow =
    ap (λ ts. option_and_then (λ p. if_last p.0 p.1) (value max_depth ts)) (written ∙ sym (append-nil (json_tokens j)))
    ∙ ap (option_and_then (λ p. if_last p.0 p.1)) (value-json_tokens j max_depth [] shallow)

-- what is read first where a text is a value
record Begun (o : Option (Json × List Token)) : Type 0 where
  pub first : Json × List Token
  pub is : o ≡ Some first

begun : (o : Option (Json × List Token)) → IsSome (option_and_then (λ p. if_last p.0 p.1) o) → Begun o
begun None some = absurd (cc)
begun (Some first) some = record { first = first; is = refl }

-- and such a text is a value only if it nests no deeper
shallow_of : (text : Text) (j : Json) → tokens text ≡ json_tokens j → IsSome (document text) → depth j ≤ max_depth
shallow_of text j written some =
    let it = begun (value max_depth (tokens text)) some in
    let whole : value (depth j) (tokens text) ≡ Some (j, []) =
    ap (value (depth j)) (written ∙ sym (append-nil (json_tokens j))) ∙ value-json_tokens j (depth j) [] (omega arith) in
    let same = one_reading (depth j) max_depth (tokens text) (j, []) it.first whole it.is in
    value-depth max_depth (tokens text) [] j (it.is ∙ sym same)

no_nesting : (it : WrittenFragment) → depth (fragment_document it) ≤ max_depth → nesting_flaws it ≡ []
no_nesting it shallow = by (nat_lt max_depth (depth (fragment_document it))) refl
  where
    by : (test : Bool) → nat_lt max_depth (depth (fragment_document it)) ≡ test → cond test (nesting ∷ []) [] ≡ []
    by true e = absurd (omega (arith, shallow, ltb-true max_depth (depth (fragment_document it)) e))
    by false e = refl

-- a fragment of which the parts can be written can be written where its text is a value
pub writable_text : (text : Text) (it : WrittenFragment) → tokens text ≡ json_tokens (fragment_document it) → parts_flaws it ≡ []
    → IsSome (document text) → IsWritable it
writable_text text it written flawless some =
    none_both (parts_flaws it) (nesting_flaws it) flawless (no_nesting it (shallow_of text (fragment_document it) written some))

-- and is described by it
pub described_text : (text : Text) (it : WrittenFragment) → IsUtf8 text → tokens text ≡ json_tokens (fragment_document it)
    → IsFree (parts_flaws it) (SoundFragment it) → IsSome (document text) → length text < too_long → Describes text it
described_text text it utf8 written free some short = record {
  value = fragment_document it;
  is_short = short;
  is_utf8 = utf8;
  is_document = document_of text (fragment_document it) written (shallow_of text (fragment_document it) written some);
  is_unique = fragment_unique it free.sound free.flawless;
  is_described = fragment_back it free.sound free.flawless;
}

some_is : (o : Option Json) (j : Json) → o ≡ Some j → IsSome o
some_is None j e = absurd (cc)
some_is (Some k) j e = refl

-- where its text is no value it nests too deep
pub deep_text : (text : Text) (it : WrittenFragment) → tokens text ≡ json_tokens (fragment_document it) → ¬ IsSome (document text)
    → IsFlawOf (fragment_flaws it) (fault.Unwritable TooDeep)
deep_text text it written none =
    flaw_right (parts_flaws it) (nesting_flaws it) (fault.Unwritable TooDeep) (by (nat_lt max_depth (depth (fragment_document it))) refl)
  where
    by : (test : Bool) → nat_lt max_depth (depth (fragment_document it)) ≡ test → Contains {X = Flaw} (cond test (nesting ∷ []) []) nesting
    by true e = (0, omega arith, refl)
    by false e =
        absurd (none (some_is (document text) (fragment_document it)
        (document_of text (fragment_document it) written (ltb-false max_depth (depth (fragment_document it)) e))))
