-- How a uid is read: what stands before its first quote, and its id.
use Rattle.std.proofs.Common.{◌≡◌, ◌≢◌, ◌<◌, ◌+◌, ◌-◌, ℕ, suc, zero, Bool, true, false, [], ◌∷◌, ◌++◌, ◌&&◌, ◌==◌, codes, length, take, refl, sym, ap, ◌∙◌, subst, arith, append-nil, not, get_or, inl, inr}
use Rattle.std.proofs.Math.ListN.{length-append}
use Rattle.std.proofs.Math.Seq.{take-append-add}
use Rattle.std.proofs.Math.Utf8.{encode}
use Rattle.std.proofs.lemmas.Bool.{false≢true, eqb-true, ne_eqb}
use Rattle.std.proofs.lemmas.List.{append_assoc, flat_map_more, take_all, take-append-le}
use Rattle.std.proofs.lemmas.List.Elements.{All-push}
use Rattle.std.proofs.lemmas.Str.{IsUtf8-append, IsUtf8-nil, chars-nil}
use Rattle.std.specs.List.{flat_map, list_all}
use Rattle.std.specs.Str.{IsUtf8}
use Rattle.cedar_ast.proofs.EscapeReading.{below_or_not, utf8_rest}
use Rattle.cedar_ast.proofs.NameReading.{begins_text, bytes-append, both_true, is_name_byte, path_text, name_bytes}
use Rattle.cedar_ast.proofs.TextsOfNames.{cons_head, cons_rest, cut}
use Rattle.cedar_ast.specs.Words.{Begins, IsIdentifier, IsLongestBeginning, IsNameFault, IsNameText, IsOfIdentifiers, IsQuoted, IsReservedUidText, IsTypeFault, IsUidText, NameFault, NotAName, PlainName, PlainUid, StopsAt, Text, escaped, escaped_text, name_text, uid_text}
use Rattle.cedar_ast.specs.declared.name_fault.NameFault.TheVariants.{Memory}

-- a byte that is no quote
abbrev pub is_no_quote : ℕ → Bool
is_no_quote byte = not (byte == 34)

-- no quote stands in the text
abbrev pub HasNoQuote : Text → Type 0
HasNoQuote text = list_all is_no_quote text ≡ true

-- a byte that may stand in a name is no quote
name_byte-no_quote : (byte : ℕ) → is_name_byte byte ≡ true → is_no_quote byte ≡ true
name_byte-no_quote byte is = by (byte == 34) refl
  where
    by : (test : Bool) → (byte == 34) ≡ test → is_no_quote byte ≡ true
    by false e = ap not e
    by true e = absurd (false≢true (ap is_name_byte (sym (eqb-true byte 34 e)) ∙ is))

-- no quote stands where all bytes may stand in a name
name_bytes-no_quote : (text : Text) → list_all is_name_byte text ≡ true → HasNoQuote text
name_bytes-no_quote [] all = refl
name_bytes-no_quote (byte ∷ text) all =
    let halves = both_true (is_name_byte byte) (list_all is_name_byte text) all in
    ap (λ test. test && list_all is_no_quote text) (name_byte-no_quote byte halves.0) ∙ name_bytes-no_quote text halves.1

-- a name with `::` has no quote
pub name_front-no_quote : (name : PlainName) → IsOfIdentifiers name → HasNoQuote (name_text name ++ codes "::")
name_front-no_quote name ids = name_bytes-no_quote (name_text name ++ codes "::") (bytes-append (name_text name) (codes "::") (name_bytes name ids) refl)

-- a uid's text is the name of its type with `::`, and its id in quotes
pub uid_text-split : (uid : PlainUid) → uid_text uid ≡ (name_text uid.ty ++ codes "::") ++ 34 ∷ (escaped_text uid.eid ++ codes "\"")
uid_text-split uid = sym (append_assoc (name_text uid.ty) (codes "::") (34 ∷ (escaped_text uid.eid ++ codes "\"")))

-- the name with `::` and a letter is a name's text
longer_name : (name : PlainName) → IsOfIdentifiers name → IsNameText ((name_text name ++ codes "::") ++ 97 ∷ [])
longer_name name (base, path) = (
  record { base = 97 ∷ []; path = name.path ++ name.base ∷ [] },
  (refl, All-push IsIdentifier name.path name.base path base),
  ap (λ front. front ++ 97 ∷ []) (sym (flat_map_more (λ part. part ++ codes "::") [] name.path name.base)
      ∙ sym (append_assoc (path_text name.path) name.base (codes "::"))),
)

-- what stands before the first quote of a uid's text
pub uid_front : (before after : Text) → HasNoQuote before → IsUidText (before ++ 34 ∷ after)
    → (name : PlainName) × IsOfIdentifiers name × (before ≡ name_text name ++ codes "::") × IsQuoted after
uid_front before after free (uid, ids, utf8, is) =
    let same = cut is_no_quote 34 refl before (name_text uid.ty ++ codes "::") after (escaped_text uid.eid ++ codes "\"") free
    (name_front-no_quote uid.ty ids) (sym is ∙ uid_text-split uid) in
    (uid.ty, ids, same.0, (uid.eid, utf8, sym same.1))

-- where a text begins with one without a quote, that begins what stands before its first quote
within_front : (p q x y : Text) → HasNoQuote q → p ++ 34 ∷ x ≡ q ++ y → (z : Text) × (p ≡ q ++ z)
within_front p [] x y free e = (p, refl)
within_front [] (c ∷ q) x y free e =
    absurd (false≢true (ap is_no_quote (cons_head e) ∙ (both_true (is_no_quote c) (list_all is_no_quote q) free).0))
within_front (b ∷ p) (c ∷ q) x y free e =
    let rest = within_front p q x y (both_true (is_no_quote c) (list_all is_no_quote q) free).1 (cons_rest e) in
    let first : b ≡ c = cons_head e in
    (rest.0, λ i. first i ∷ rest.1 i)

-- what begins a uid without a quote begins a name
begins_name : (front : Text) → HasNoQuote front → Begins IsUidText front → Begins IsNameText front
begins_name front free (rest, (uid, ids, utf8, is)) =
    let within = within_front (name_text uid.ty ++ codes "::") front (escaped_text uid.eid ++ codes "\"") rest free (sym (uid_text-split uid) ∙ is) in (
      within.0 ++ 97 ∷ [],
      rw (ap (λ all. all ++ 97 ∷ []) within.1 ∙ append_assoc front within.0 (97 ∷ [])) at (longer_name uid.ty ids),
    )

-- what begins a name begins a uid
begins_uid : (front : Text) → Begins IsNameText front → Begins IsUidText front
begins_uid front (rest, (name, ids, is)) =
    let uid : PlainUid = record { ty = name; eid = [] } in (
      rest ++ codes "::\"\"",
      (
        uid,
        ids,
        IsUtf8-nil,
        ap (λ cs. name_text name ++ (codes "::\"" ++ (flat_map escaped cs ++ codes "\""))) chars-nil
            ∙ ap (λ all. all ++ codes "::\"\"") is ∙ append_assoc front rest (codes "::\"\""),
      ),
    )

-- no quote stands in the front of a text that has none
front-no_quote : (at : ℕ) (text : Text) → HasNoQuote text → HasNoQuote (take at text)
front-no_quote zero text free = refl
front-no_quote (suc at) [] free = refl
front-no_quote (suc at) (c ∷ text) free =
    let halves = both_true (is_no_quote c) (list_all is_no_quote text) free in
    ap (λ test. test && list_all is_no_quote (take at text)) halves.0 ∙ front-no_quote at text halves.1

-- a text without quotes is no uid's
no_uid : (text : Text) → HasNoQuote text → ¬ IsUidText text
no_uid text free (uid, ids, utf8, is) =
    let within = within_front (name_text uid.ty ++ codes "::") text (escaped_text uid.eid ++ codes "\"") [] free
    (sym (uid_text-split uid) ∙ is ∙ sym (append-nil text)) in
    let long = length-append text within.0 in
    let all = ap length within.1 in
    let whole = ap length (sym (uid_text-split uid) ∙ is) in
    let sum = length-append (name_text uid.ty ++ codes "::") (34 ∷ (escaped_text uid.eid ++ codes "\"")) in
    omega (arith, long, all, whole, sum)

-- what is taken beyond the quote
take_behind : (before after : Text) (k : ℕ) → take (length before + 1 + k) (before ++ 34 ∷ after) ≡ before ++ 34 ∷ take k after
take_behind before after k =
    let front : Text = before ++ 34 ∷ [] in
    let long : length before + 1 + k ≡ length front + k = (let sum = length-append before (34 ∷ []) in omega (arith, sum)) in
    ap (λ n. take n (before ++ 34 ∷ after)) long ∙ ap (take (length front + k)) (sym (append_assoc before (34 ∷ []) after))
    ∙ take-append-add front after k ∙ append_assoc before (34 ∷ []) (take k after)

-- a text without quotes stops being a uid's where it stops beginning a name
pub stops_without_quote : (text : Text) (at : ℕ) → HasNoQuote text → IsLongestBeginning IsNameText text at → StopsAt IsUidText text at
stops_without_quote text at free most = record {
  other = no_uid text free;
  beginning = record {
    within = most.within;
    whole = most.whole;
    begins = begins_uid (take at text) most.begins;
    longest = λ longer more inside utf8 begun. most.longest longer more inside utf8
        (begins_name (take longer text) (front-no_quote longer text free) begun);
  };
}

-- and so does one in which no name and `::` stand before the first quote
pub stops_before_quote : (before after : Text) (at : ℕ) → HasNoQuote before
    → ((name : PlainName) → IsOfIdentifiers name → before ≢ name_text name ++ codes "::") → IsLongestBeginning IsNameText before at
    → StopsAt IsUidText (before ++ 34 ∷ after) at
stops_before_quote before after at free none most =
    let front : take at (before ++ 34 ∷ after) ≡ take at before = take-append-le at before (34 ∷ after) most.within in
    record {
      other = λ is. let uid = uid_front before after free is in none uid.0 uid.1 uid.2;
      beginning = record {
        within = (let inside = most.within in let long = length-append before (34 ∷ after) in omega (arith, inside, long));
        whole = rw front most.whole;
        begins = rw front (begins_uid (take at before) most.begins);
        longest = λ longer more inside utf8 begun. elim (below_or_not (length before) longer) [
          | inl beyond ↦ behind_quote longer beyond begun
          | inr short ↦
              let same : take longer (before ++ 34 ∷ after) ≡ take longer before = take-append-le longer before (34 ∷ after) short in
              most.longest longer more short (rw same at utf8)
              (begins_name (take longer before) (front-no_quote longer before free) (rw same at begun))
        ];
      };
    }
  where
    behind_quote : (longer : ℕ) → length before < longer → ¬ Begins IsUidText (take longer (before ++ 34 ∷ after))
    behind_quote longer beyond (rest, is) =
        let k = longer - (length before + 1) in
        let many : longer ≡ length before + 1 + k = omega (arith, beyond) in
        let uid = uid_front before (take k after ++ rest) free (rw (ap (λ n. take n (before ++ 34 ∷ after) ++ rest) many ∙ ap (λ front. front ++ rest) (take_behind before after k)
        ∙ append_assoc before (34 ∷ take k after) rest) at is) in
        none uid.0 uid.1 uid.2

-- a quote is a text
quote_text : IsUtf8 (34 ∷ [])
unfolding encode
quote_text = (34 ∷ [], (refl, refl))

-- a quoted id after a name, `::` and a quote makes a uid's text
joined_uid : (name : PlainName) (before quoted : Text) → IsOfIdentifiers name → before ≡ name_text name ++ codes "::" → IsQuoted quoted
    → IsUidText (before ++ 34 ∷ quoted)
joined_uid name before quoted ids is (eid, utf8, same) =
    let uid : PlainUid = record { ty = name; eid = eid } in
    (uid, ids, utf8, uid_text-split uid ∙ ap (λ front. front ++ 34 ∷ (escaped_text eid ++ codes "\"")) (sym is) ∙ ap (λ rest. before ++ 34 ∷ rest) same)

-- where an id stops, the uid with it does
pub stops_in_id : (name : PlainName) (before after : Text) (at : ℕ) → IsOfIdentifiers name → before ≡ name_text name ++ codes "::"
    → StopsAt IsQuoted after at → StopsAt IsUidText (before ++ 34 ∷ after) (length before + 1 + at)
stops_in_id name before after at ids is stop =
    let free : HasNoQuote before = rw is (name_front-no_quote name ids) in
    let text : IsUtf8 (before ++ 34 ∷ []) =
    IsUtf8-append before (34 ∷ []) (rw is (begins_text (name_text name ++ codes "::") (97 ∷ [], longer_name name ids))) quote_text in
    record {
      other = λ whole. stop.other (uid_front before after free whole).3;
      beginning = record {
        within = (let inside = stop.beginning.within in let long = length-append before (34 ∷ after) in omega (arith, inside, long));
        whole = rw (append_assoc before (34 ∷ []) (take at after) ∙ sym (take_behind before after at)) at (IsUtf8-append (before ++ 34 ∷ []) (take at after) text stop.beginning.whole);
        begins = (
          stop.beginning.begins.0,
          subst IsUidText (sym (append_assoc before (34 ∷ take at after) stop.beginning.begins.0) ∙ ap (λ front. front ++ stop.beginning.begins.0) (sym (take_behind before after at)))
              (joined_uid name before (take at after ++ stop.beginning.begins.0) ids is stop.beginning.begins.1),
        );
        longest = λ longer more inside utf8 (rest, begun).
            let k = longer - (length before + 1) in
            let many : longer ≡ length before + 1 + k = omega (arith, more) in
            let long = length-append before (34 ∷ after) in
            let front : take longer (before ++ 34 ∷ after) ≡ before ++ 34 ∷ take k after =
            ap (λ n. take n (before ++ 34 ∷ after)) many ∙ take_behind before after k in
            let uid = uid_front before (take k after ++ rest) free (rw (ap (λ first. first ++ rest) front ∙ append_assoc before (34 ∷ take k after) rest) at begun) in
            stop.beginning.longest k (omega (arith, more, many)) (omega (arith, many, inside, long))
            (utf8_rest (before ++ 34 ∷ []) (take k after) text (rw (front ∙ sym (append_assoc before (34 ∷ []) (take k after))) at utf8))
            (rest, uid.3);
      };
    }

-- a name is the whole of its longest beginning
pub beginning_of_name : (text : Text) → IsUtf8 text → IsNameText text → IsLongestBeginning IsNameText text (length text)
beginning_of_name text utf8 is =
    let all : take (length text) text ≡ text = take_all (length text) text (omega arith) in
    record {
      within = omega arith;
      whole = rw all utf8;
      begins = rw all ([], rw (append-nil text) is);
      longest = λ longer more inside _ _. absurd (omega (arith, more, inside));
    }

-- no quote stands in a text in which each byte is another
pub no_quote_by_bytes : (text : Text) → ((i : ℕ) → i < length text → get_or text i 0 ≢ 34) → HasNoQuote text
no_quote_by_bytes [] others = refl
no_quote_by_bytes (c ∷ text) others =
    ap (λ test. not test && list_all is_no_quote text) (ne_eqb c 34 (others 0 (omega arith)))
    ∙ no_quote_by_bytes text (λ i below. others (suc i) (omega (arith, below)))

-- why a text without quotes is no uid's
pub fault_without_quote : (text : Text) (fault : NameFault) → HasNoQuote text → IsTypeFault text fault
    → IsNameFault IsUidText IsReservedUidText (λ _. ⊥) text fault
fault_without_quote text (NotAName at) free is = stops_without_quote text at free is
fault_without_quote text (Memory refused) free is = tt
fault_without_quote _ _ _ is = absurd is

-- and one in which no name and `::` stand before the first quote
pub fault_before_quote : (before after : Text) (fault : NameFault) → HasNoQuote before
    → ((name : PlainName) → IsOfIdentifiers name → before ≢ name_text name ++ codes "::") → IsTypeFault before fault
    → IsNameFault IsUidText IsReservedUidText (λ _. ⊥) (before ++ 34 ∷ after) fault
fault_before_quote before after (NotAName at) free none is = stops_before_quote before after at free none is
fault_before_quote before after (Memory refused) free none is = tt
fault_before_quote _ _ _ _ _ is = absurd is

-- a uid's text by its parts
pub uid_by_parts : (uid : PlainUid) (before after : Text) → before ≡ name_text uid.ty ++ codes "::" → escaped_text uid.eid ++ codes "\"" ≡ after
    → uid_text uid ≡ before ++ 34 ∷ after
uid_by_parts uid before after front rest = uid_text-split uid ∙ (λ i. sym front i ++ 34 ∷ rest i)

-- why a text doesn't go on to a uid, from why it is no name
pub type_fault_by_name : (text : Text) (fault : NameFault) → IsNameFault IsNameText (λ _. ⊥) (λ _. ⊥) text fault → IsTypeFault text fault
type_fault_by_name text (NotAName at) stop = stop.beginning
type_fault_by_name text (Memory refused) is = tt
type_fault_by_name _ _ is = absurd is
