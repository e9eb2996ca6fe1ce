-- How a text is read as a name, byte by byte, and where it stops being one.
use Rattle.std.proofs.Common.{◌≡◌, ◌≢◌, ◌<◌, ◌≤◌, ◌+◌, ◌-◌, ℕ, suc, zero, Bool, true, false, List, [], ◌∷◌, ◌++◌, ◌&&◌, ◌||◌, ◌==◌, Option, Some, None, codes, length, take, drop, get_or, map, All, refl, sym, ap, ◌∙◌, subst, arith, slice_index_or, cond, nat_le, ◌⊎◌, inl, inr, append-nil}
use Rattle.std.proofs.Math.ListN.{length-take}
use Rattle.std.proofs.Math.Seq.{take-append-add}
use Rattle.std.proofs.lemmas.Bool.{false≢true, eqb-true, leb-true}
use Rattle.std.proofs.lemmas.List.{append_assoc, flat_map_more, take_all, take_more, take-append-drop}
use Rattle.std.proofs.lemmas.List.Elements.{All-map, All-push}
use Rattle.std.proofs.lemmas.List.Folds.{list_all-append}
use Rattle.std.proofs.lemmas.Str.{IsUtf8-from_ascii}
use Rattle.std.specs.Char.{is_ascii_alphabetic, is_ascii_digit}
use Rattle.std.specs.Int.{is_in_range}
use Rattle.std.specs.List.{flat_map, list_all}
use Rattle.std.specs.Str.{IsAscii, IsUtf8}
use Rattle.cedar_ast.specs.Words.{Begins, Colon, Id, Inside, IsIdentifier, IsNameText, IsOfIdentifiers, PlainName, Reading, Start, StopsAt, Text, id_text, is_identifier_byte, is_identifier_start, name_text, reading_then}

-- what is read of a name after more bytes
abbrev pub run : Option Reading → Text → Option Reading
run None text = None
run (Some reading) [] = Some reading
run (Some reading) (byte ∷ text) = run (reading_then reading byte) text

-- two texts in turn are read in turn
run-append : (reading : Option Reading) (text more : Text) → run reading (text ++ more) ≡ run (run reading text) more
run-append None text more = refl
run-append (Some reading) [] more = refl
run-append (Some reading) (byte ∷ text) more = run-append (reading_then reading byte) text more

-- the parts of a path, with `::` after each
abbrev pub path_text : List Text → Text
path_text path = flat_map (λ part. part ++ codes "::") path

-- a byte that begins an identifier may stand in one
start_is_byte : (byte : ℕ) → is_identifier_start byte ≡ true → is_identifier_byte byte ≡ true
start_is_byte byte start = rw start refl

-- the two halves of a test that holds
pub both_true : (a b : Bool) → (a && b) ≡ true → (a ≡ true) × (b ≡ true)
both_true true b e = (refl, e)
both_true false b e = absurd (false≢true e)

-- bytes of identifiers keep a part going
run-inside : (text : Text) → list_all is_identifier_byte text ≡ true → run (Some Inside) text ≡ Some Inside
run-inside [] all = refl
run-inside (byte ∷ text) all =
    let halves = both_true (is_identifier_byte byte) (list_all is_identifier_byte text) all in
    ap (λ test. run (cond test (Some Inside) (cond (byte == 58) (Some Colon) None)) text) halves.0 ∙ run-inside text halves.1

-- an identifier is read as a part
run-identifier : (text : Text) → IsIdentifier text → run (Some Start) text ≡ Some Inside
run-identifier [] is = absurd (false≢true is)
run-identifier (byte ∷ text) is =
    let halves = both_true (is_identifier_start byte) (list_all is_identifier_byte (byte ∷ text)) is in
    let rest = both_true (is_identifier_byte byte) (list_all is_identifier_byte text) halves.1 in
    ap (λ test. run (cond test (Some Inside) None) text) halves.0 ∙ run-inside text rest.1

-- after the parts of a path the next part begins
run-path_text : (path : List Text) → All IsIdentifier path → run (Some Start) (path_text path) ≡ Some Start
run-path_text [] all = refl
run-path_text (part ∷ path) all =
    let first = run-identifier part (all 0 part (omega arith)) in
    let rest = run-path_text path (λ k d below. all (suc k) d (omega (arith, below))) in
    run-append (Some Start) (part ++ codes "::") (path_text path)
    ∙ ap (λ reading. run reading (path_text path)) (run-append (Some Start) part (codes "::") ∙ ap (λ reading. run reading (codes "::")) first)
    ∙ rest

-- the text of a name is read to the end of a part
pub run-name_text : (name : PlainName) → IsOfIdentifiers name → run (Some Start) (name_text name) ≡ Some Inside
run-name_text name (base, path) =
    run-append (Some Start) (path_text name.path) name.base
    ∙ ap (λ reading. run reading name.base) (run-path_text name.path path) ∙ run-identifier name.base base

-- what is read of a name: the parts that are finished, and the one that has begun
abbrev pub HasRead : Reading → List Text → Text → Text → Type 0
HasRead Start path part text = (part ≡ []) × (text ≡ path_text path)
HasRead Inside path part text = IsIdentifier part × (text ≡ path_text path ++ part)
HasRead Colon path part text = IsIdentifier part × (text ≡ path_text path ++ (part ++ 58 ∷ []))

-- the identifiers of a path are identifiers
pub ids_are_identifiers : (ids : List Id) → All IsIdentifier (map id_text ids)
ids_are_identifiers ids = All-map IsIdentifier id_text ids (λ k d below. (slice_index_or ids k d).identifier)

-- what is read is read so
run-HasRead : (reading : Reading) (path : List Text) (part text : Text) → All IsIdentifier path → HasRead reading path part text
    → run (Some Start) text ≡ Some reading
run-HasRead Start path part text all (none, is) = ap (run (Some Start)) is ∙ run-path_text path all
run-HasRead Inside path part text all (identifier, is) =
    ap (run (Some Start)) is ∙ run-append (Some Start) (path_text path) part
    ∙ ap (λ reading. run reading part) (run-path_text path all) ∙ run-identifier part identifier
run-HasRead Colon path part text all (identifier, is) =
    ap (run (Some Start)) is ∙ run-append (Some Start) (path_text path) (part ++ 58 ∷ [])
    ∙ ap (λ reading. run reading (part ++ 58 ∷ [])) (run-path_text path all)
    ∙ run-append (Some Start) part (58 ∷ []) ∙ ap (λ reading. run reading (58 ∷ [])) (run-identifier part identifier)

-- an identifier with one more byte of identifiers is one
longer_identifier : (part : Text) (byte : ℕ) → IsIdentifier part → is_identifier_byte byte ≡ true → IsIdentifier (part ++ byte ∷ [])
longer_identifier [] byte is more = absurd (false≢true is)
longer_identifier (first ∷ part) byte is more =
    let halves = both_true (is_identifier_start first) (list_all is_identifier_byte (first ∷ part)) is in
    let all : list_all is_identifier_byte (first ∷ part ++ byte ∷ []) ≡ true =
    list_all-append is_identifier_byte (first ∷ part) (byte ∷ [])
    ∙ ap (λ test. test && (is_identifier_byte byte && true)) halves.1 ∙ ap (λ test. test && true) more in
    ap (λ test. test && list_all is_identifier_byte (first ∷ part ++ byte ∷ [])) halves.0 ∙ all

-- which byte leads from what is read to what is read then
abbrev pub Leads : Reading → ℕ → Reading → Type 0
Leads Start byte Inside = is_identifier_start byte ≡ true
Leads Inside byte Inside = is_identifier_byte byte ≡ true
Leads Inside byte Colon = byte ≡ 58
Leads Colon byte Start = byte ≡ 58
Leads _ _ _ = ⊥

-- a test that chooses gives what it chose
chosen : {A : Type 0} (test : Bool) (first : A) (other : Option A) (a : A) → cond test (Some first) other ≡ Some a
    → ((test ≡ true) × (first ≡ a)) ⊎ (other ≡ Some a)
chosen true first other a e = inl (refl, cc)
chosen false first other a e = inr e

-- a byte leads just there
pub leads : (reading : Reading) (byte : ℕ) (next : Reading) → reading_then reading byte ≡ Some next → Leads reading byte next
leads Start byte next e =
    elim (chosen (is_identifier_start byte) Inside None next e) [ inl is ↦ rw (← is.1) is.0 | inr none ↦ absurd cc ]
leads Inside byte next e =
    elim (chosen (is_identifier_byte byte) Inside (cond (byte == 58) (Some Colon) None) next e) [
      | inl is ↦ rw (← is.1) is.0
      | inr other ↦
          elim (chosen (byte == 58) Colon None next other) [
            | inl is ↦ rw (← is.1) (eqb-true byte 58 is.0)
            | inr none ↦ absurd cc
          ]
    ]
leads Colon byte next e =
    elim (chosen (byte == 58) Start None next e) [
      | inl is ↦ rw (← is.1) (eqb-true byte 58 is.0)
      | inr none ↦ absurd cc
    ]

-- one byte that may begin an identifier is one
single_identifier : (byte : ℕ) → is_identifier_start byte ≡ true → IsIdentifier (byte ∷ [])
single_identifier byte start =
    ap (λ test. test && (is_identifier_byte byte && true)) start ∙ ap (λ test. test && true) (start_is_byte byte start)

-- one more byte of a part is read
pub HasRead-byte : (reading : Reading) (byte : ℕ) (path : List Text) (part text : Text) → Leads reading byte Inside
    → HasRead reading path part text → HasRead Inside path (part ++ byte ∷ []) (text ++ byte ∷ [])
HasRead-byte Start byte path part text start (none, is) = (
  rw none (single_identifier byte start),
  ap (λ all. all ++ byte ∷ []) is ∙ ap (λ begun. path_text path ++ (begun ++ byte ∷ [])) (sym none),
)
HasRead-byte Inside byte path part text more (identifier, is) = (
  longer_identifier part byte identifier more,
  ap (λ all. all ++ byte ∷ []) is ∙ append_assoc (path_text path) part (byte ∷ []),
)
HasRead-byte Colon byte path part text never read = absurd never

-- one `:` after a part is read
pub HasRead-colon : (reading : Reading) (byte : ℕ) (path : List Text) (part text : Text) → Leads reading byte Colon
    → HasRead reading path part text → HasRead Colon path part (text ++ byte ∷ [])
HasRead-colon Inside byte path part text colon (identifier, is) = (
  identifier,
  ap (λ all. all ++ byte ∷ []) is ∙ append_assoc (path_text path) part (byte ∷ []) ∙ ap (λ last. path_text path ++ (part ++ last ∷ [])) colon,
)
HasRead-colon _ _ _ _ _ never _ = absurd never

-- and is the last of the path
pub HasRead-part : (reading : Reading) (byte : ℕ) (path : List Text) (part text : Text) → Leads reading byte Start
    → HasRead reading path part text → HasRead Start (path ++ part ∷ []) [] (text ++ byte ∷ [])
HasRead-part Colon byte path part text colon (identifier, is) = (
  refl,
  ap (λ all. all ++ byte ∷ []) is ∙ append_assoc (path_text path) (part ++ 58 ∷ []) (byte ∷ [])
      ∙ ap (λ rest. path_text path ++ rest) (append_assoc part (58 ∷ []) (byte ∷ []))
      ∙ ap (λ last. path_text path ++ (part ++ 58 ∷ last ∷ [])) colon
      ∙ flat_map_more (λ part. part ++ codes "::") [] path part,
)
HasRead-part _ _ _ _ _ never _ = absurd never

-- what is read goes on to a name
pub HasRead-begins : (reading : Reading) (path : List Text) (part text : Text) → All IsIdentifier path
    → HasRead reading path part text → Begins IsNameText text
HasRead-begins Start path part text all (none, is) =
    (97 ∷ [], (record { base = 97 ∷ []; path = path }, (refl, all), ap (λ front. front ++ 97 ∷ []) (sym is)))
HasRead-begins Inside path part text all (identifier, is) =
    ([], (record { base = part; path = path }, (identifier, all), sym is ∙ sym (append-nil text)))
HasRead-begins Colon path part text all (identifier, is) =
    let name : PlainName = record { base = 97 ∷ []; path = path ++ part ∷ [] } in
    let prints : name_text name ≡ text ++ 58 ∷ 97 ∷ [] =
    ap (λ front. front ++ 97 ∷ []) (sym (flat_map_more (λ part. part ++ codes "::") [] path part))
    ∙ append_assoc (path_text path) (part ++ codes "::") (97 ∷ [])
    ∙ ap (λ rest. path_text path ++ rest) (append_assoc part (codes "::") (97 ∷ []) ∙ sym (append_assoc part (58 ∷ []) (58 ∷ 97 ∷ [])))
    ∙ sym (append_assoc (path_text path) (part ++ 58 ∷ []) (58 ∷ 97 ∷ [])) ∙ ap (λ front. front ++ 58 ∷ 97 ∷ []) (sym is) in
    (58 ∷ 97 ∷ [], (name, (refl, All-push IsIdentifier path part all identifier), prints))

-- the same is read under other names
pub HasRead-like : {reading reading' : Reading} {path path' : List Text} {part part' text text' : Text} → reading ≡ reading' → path ≡ path'
    → part ≡ part' → text ≡ text' → HasRead reading path part text → HasRead reading' path' part' text'
HasRead-like readings paths parts texts read = subst (λ X. X) (λ i. HasRead (readings i) (paths i) (parts i) (texts i)) read

-- one half of a test of two that holds
pub either : (a b : Bool) → (a || b) ≡ true → (a ≡ true) ⊎ (b ≡ true)
either true b e = inl refl
either false b e = inr e

-- what is in a range of ASCII is of ASCII
at_most : (low high byte : ℕ) → is_in_range low high byte ≡ true → byte ≤ high
at_most low high byte is = leb-true byte high (both_true (nat_le low byte) (nat_le byte high) is).1

-- a byte of an identifier is of ASCII
ascii_byte : (byte : ℕ) → is_identifier_byte byte ≡ true → byte < 128
ascii_byte byte is =
    elim (either (is_identifier_start byte) (is_ascii_digit byte) is) [
      | inl start ↦
          elim (either (is_ascii_alphabetic byte) (byte == 95) start) [
            | inl letter ↦
                elim (either (is_in_range 65 90 byte) (is_in_range 97 122 byte) letter) [
                  | inl upper ↦ let within = at_most 65 90 byte upper in omega (arith, within)
                  | inr lower ↦ let within = at_most 97 122 byte lower in omega (arith, within)
                ]
            | inr underline ↦ let is : byte ≡ 95 = eqb-true byte 95 underline in omega (arith, is)
          ]
      | inr digit ↦ let within = at_most 48 57 byte digit in omega (arith, within)
    ]

-- a byte that leads into a part is of ASCII
pub leads-ascii : (reading : Reading) (byte : ℕ) → Leads reading byte Inside → byte < 128
leads-ascii Start byte start = ascii_byte byte (start_is_byte byte start)
leads-ascii Inside byte more = ascii_byte byte more
leads-ascii Colon byte never = absurd never

-- where no name goes on with a byte, nothing is read of what is longer
run-dead : (text : Text) (at longer : ℕ) (reading : Reading) (path : List Text) (part : Text) → All IsIdentifier path
    → HasRead reading path part (take at text) → reading_then reading (get_or text at 0) ≡ None → at < longer → longer ≤ length text
    → run (Some Start) (take longer text) ≡ None
run-dead text at longer reading path part all read none more within =
    let front = take (at + 1) text in
    let back = drop (at + 1) text in
    let left = longer - (at + 1) in
    let here : at < length text = omega (arith, more, within) in
    let long : longer ≡ length front + left = omega (arith, more, within, length-take (at + 1) text) in
    let split : take longer text ≡ front ++ take left back =
    ap (take longer) (sym (take-append-drop (at + 1) text)) ∙ ap (λ k. take k (front ++ back)) long ∙ take-append-add front back left in
    let dead : run (Some Start) front ≡ None =
    ap (run (Some Start)) (take_more text at 0 here) ∙ run-append (Some Start) (take at text) (get_or text at 0 ∷ [])
    ∙ ap (λ before. run before (get_or text at 0 ∷ [])) (run-HasRead reading path part (take at text) all read)
    ∙ ap (λ after. run after []) none in
    ap (run (Some Start)) split ∙ run-append (Some Start) front (take left back) ∙ ap (λ after. run after (take left back)) dead

-- a text of which nothing is read begins no name
dead-begins : (front : Text) → run (Some Start) front ≡ None → ¬ Begins IsNameText front
dead-begins front dead (rest, (name, ids, is)) =
    let reads : run (Some Start) (name_text name) ≡ None =
    ap (run (Some Start)) is ∙ run-append (Some Start) front rest ∙ ap (λ reading. run reading rest) dead in
    let whole = run-name_text name ids in
    absurd cc

-- a byte that may stand in a name: one of an identifier, or `:`
abbrev pub is_name_byte : ℕ → Bool
is_name_byte byte = is_identifier_byte byte || (byte == 58)

-- bytes of identifiers may stand in a name
word_bytes : (text : Text) → list_all is_identifier_byte text ≡ true → list_all is_name_byte text ≡ true
word_bytes [] all = refl
word_bytes (byte ∷ text) all =
    let halves = both_true (is_identifier_byte byte) (list_all is_identifier_byte text) all in
    ap (λ test. (test || (byte == 58)) && list_all is_name_byte text) halves.0 ∙ word_bytes text halves.1

-- and so may those of an identifier
identifier_word : (text : Text) → IsIdentifier text → list_all is_name_byte text ≡ true
identifier_word [] is = absurd (false≢true is)
identifier_word (byte ∷ text) is =
    word_bytes (byte ∷ text) (both_true (is_identifier_start byte) (list_all is_identifier_byte (byte ∷ text)) is).1

-- two texts of such bytes in turn are one
pub bytes-append : (text more : Text) → list_all is_name_byte text ≡ true → list_all is_name_byte more ≡ true
    → list_all is_name_byte (text ++ more) ≡ true
bytes-append text more first rest =
    list_all-append is_name_byte text more ∙ ap (λ test. test && list_all is_name_byte more) first ∙ rest

-- the bytes of a path may stand in a name
path_text-bytes : (path : List Text) → All IsIdentifier path → list_all is_name_byte (path_text path) ≡ true
path_text-bytes [] all = refl
path_text-bytes (part ∷ path) all =
    bytes-append (part ++ codes "::") (path_text path)
    (bytes-append part (codes "::") (identifier_word part (all 0 part (omega arith))) refl)
    (path_text-bytes path (λ k d below. all (suc k) d (omega (arith, below))))

-- and so may those of a name's text
pub name_bytes : (name : PlainName) → IsOfIdentifiers name → list_all is_name_byte (name_text name) ≡ true
name_bytes name (base, path) = bytes-append (path_text name.path) name.base (path_text-bytes name.path path) (identifier_word name.base base)

-- a byte of a name is of ASCII
name_byte-ascii : (byte : ℕ) → is_name_byte byte ≡ true → byte < 128
name_byte-ascii byte is = elim (either (is_identifier_byte byte) (byte == 58) is) [
  | inl part ↦ ascii_byte byte part
  | inr colon ↦ let same : byte ≡ 58 = eqb-true byte 58 colon in omega (arith, same)
]

-- bytes of a name are those of a text
name_bytes-ascii : (text : Text) → list_all is_name_byte text ≡ true → IsAscii text
name_bytes-ascii [] all i = omega arith
name_bytes-ascii (byte ∷ text) all zero = name_byte-ascii byte (both_true (is_name_byte byte) (list_all is_name_byte text) all).0
name_bytes-ascii (byte ∷ text) all (suc i) = name_bytes-ascii text (both_true (is_name_byte byte) (list_all is_name_byte text) all).1 i

-- what begins a name is a text
pub begins_text : (front : Text) → Begins IsNameText front → IsUtf8 front
begins_text front (rest, (name, ids, is)) =
    let all = sym (list_all-append is_name_byte front rest) ∙ ap (list_all is_name_byte) (sym is) ∙ name_bytes name ids in
    IsUtf8-from_ascii front (name_bytes-ascii front (both_true (list_all is_name_byte front) (list_all is_name_byte rest) all).0)

-- bytes of identifiers are those of a text
pub word_text : (text : Text) → list_all is_identifier_byte text ≡ true → IsUtf8 text
word_text text all = IsUtf8-from_ascii text (name_bytes-ascii text (word_bytes text all))

-- a name that no byte goes on stops there
pub stops_at_byte : (text : Text) (at : ℕ) (reading : Reading) (path : List Text) (part : Text) → All IsIdentifier path
    → HasRead reading path part (take at text) → at < length text → reading_then reading (get_or text at 0) ≡ None
    → StopsAt IsNameText text at
stops_at_byte text at reading path part all read within none = record {
  other = λ named. dead-begins (take (length text) text)
      (run-dead text at (length text) reading path part all read none within (omega arith))
      ([], rw (append-nil (take (length text) text) ∙ take_all (length text) text (omega arith)) named);
  beginning = record {
    within = omega (arith, within);
    whole = begins_text (take at text) (HasRead-begins reading path part (take at text) all read);
    begins = HasRead-begins reading path part (take at text) all read;
    longest = λ longer more inside _. dead-begins (take longer text)
        (run-dead text at longer reading path part all read none more inside);
  };
}

-- options of readings are equal where these are
same_reading : (a b : Reading) → Some a ≡ Some b → a ≡ b
same_reading a b e = cc

-- a text that is read to the end but for a part stops at its end
pub stops_at_end : (text : Text) (reading : Reading) (path : List Text) (part : Text) → All IsIdentifier path
    → HasRead reading path part text → reading ≢ Inside → StopsAt IsNameText text (length text)
stops_at_end text reading path part all read unfinished = record {
  other = λ (name, ids, is). unfinished
      (same_reading reading Inside (sym (run-HasRead reading path part text all read) ∙ ap (run (Some Start)) (sym is) ∙ run-name_text name ids));
  beginning = record {
    within = omega arith;
    whole = rw (take_all (length text) text (omega arith)) (begins_text text (HasRead-begins reading path part text all read));
    begins = rw (take_all (length text) text (omega arith)) (HasRead-begins reading path part text all read);
    longest = λ longer more inside _. absurd (omega (arith, more, inside));
  };
}
