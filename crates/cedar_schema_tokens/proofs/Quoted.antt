-- Quoted texts: what is read is written so, what is written so is read, and where reading stops.
use Rattle.std.proofs.Common.{◌≡◌, ◌≢◌, ℕ, zero, suc, ◌+◌, ◌-◌, ◌<◌, ◌≤◌, true, false, not, ◌&&◌, ◌||◌, List, [], ◌∷◌, ◌++◌, length, drop, Option, Some, None, Ok, Err, ◌⊎◌, inl, inr, refl, sym, ap, ◌∙◌, subst, arith, append_assoc, append-nil, eqb-true, length-append}
use Rattle.std.proofs.lemmas.Bool.{and_parts, cases_Bool}
use Rattle.std.proofs.lemmas.Bool.Decides.{nat_tests}
use Rattle.std.specs.Prelude.{if◌then◌else◌, ◌==◌, nat_le}
use Rattle.std.specs.Char.{encode_utf8, len_utf8}
use Rattle.std.specs.List.{list_all}
use Rattle.cedar_schema_tokens.specs.declared.fault.Stop.{Stop}
use Rattle.cedar_schema_tokens.specs.declared.fault.Stop.TheVariants.{At}
use Rattle.cedar_schema_tokens.specs.declared.fault.Wrong.TheVariants as wrong
use Rattle.cedar_schema_tokens.specs.Lexical.{Outcome, first, first_char, split_while, is_plain, escape, part_stop, on_escape, quoted_from}
use Rattle.cedar_schema_tokens.specs.Written.{Piece, plain, escaped, IsEscape, ArePieces}
use Rattle.cedar_schema_tokens.specs.Refused.{IsBadPart}
use Rattle.cedar_schema_tokens.proofs.Runs.{split_passes, split_stops, run_all, run_parts, Ends, run_ends, begins_as}
use Rattle.cedar_schema_tokens.proofs.Escapes.{escape_takes, escape_again, escape_begins, escape_shorter}

abbrev pub given : {A : Type 0} → A → List ℕ → Outcome A
given x ts = Ok (x, ts)

-- ---- a turn, behind its run

abbrev finish : ℕ → ℕ → List ℕ → List ℕ → Outcome (List ℕ)
finish left n found back =
    if first back == 34 then Ok (found, drop 1 back)
    else on_escape (escape back) (part_stop left back) (λ c rest. quoted_from left n (found ++ encode_utf8 c) rest)

turn_is : (left n : ℕ) (found all front back : List ℕ) → (front, back) ≡ split_while is_plain all → quoted_from left (suc n) found all ≡ finish left n (found ++ front) back
unfolding quoted_from
turn_is left n found all front back e = sym (ap (λ q. finish left n (found ++ q.0) q.1) e)

pub turn_closes : (left n : ℕ) (found all front back : List ℕ) → (front, back) ≡ split_while is_plain all → (first back == 34) ≡ true
    → quoted_from left (suc n) found all ≡ Ok (found ++ front, drop 1 back)
turn_closes left n found all front back e closes =
    turn_is left n found all front back e
    ∙ ap (λ b. if b then given (found ++ front) (drop 1 back) else on_escape (escape back) (part_stop left back) (λ c rest. quoted_from left n ((found ++ front) ++ encode_utf8 c) rest)) closes

turn_escapes : (left n : ℕ) (found all front back : List ℕ) (o : Option (ℕ × List ℕ)) → (front, back) ≡ split_while is_plain all → (first back == 34) ≡ false → escape back ≡ o
    → quoted_from left (suc n) found all ≡ on_escape o (part_stop left back) (λ c rest. quoted_from left n ((found ++ front) ++ encode_utf8 c) rest)
turn_escapes left n found all front back o e unclosed is =
    turn_is left n found all front back e
    ∙ ap (λ b. if b then given (found ++ front) (drop 1 back) else on_escape (escape back) (part_stop left back) (λ c rest. quoted_from left n ((found ++ front) ++ encode_utf8 c) rest)) unclosed
    ∙ ap (λ x. on_escape x (part_stop left back) (λ c rest. quoted_from left n ((found ++ front) ++ encode_utf8 c) rest)) is

pub turn_goes : (left n c : ℕ) (found all front back rest : List ℕ) → (front, back) ≡ split_while is_plain all → (first back == 34) ≡ false → escape back ≡ Some (c, rest)
    → quoted_from left (suc n) found all ≡ quoted_from left n ((found ++ front) ++ encode_utf8 c) rest
turn_goes left n c found all front back rest e unclosed is = turn_escapes left n found all front back (Some (c, rest)) e unclosed is

pub turn_stops : (left n : ℕ) (found all front back : List ℕ) → (front, back) ≡ split_while is_plain all → (first back == 34) ≡ false → escape back ≡ None
    → quoted_from left (suc n) found all ≡ Err (part_stop left back)
turn_stops left n found all front back e unclosed is = turn_escapes left n found all front back None e unclosed is

pub none_left : (left : ℕ) (found all : List ℕ) → quoted_from left 0 found all ≡ Err (At wrong.Quote left 0)
unfolding quoted_from
none_left left found all = refl

-- ---- what is read

with_run : (run : List ℕ) (ps : List Piece) (more next rest : List ℕ) → list_all is_plain run ≡ true → ArePieces ps more next rest
    → (qs : List Piece) × ArePieces qs (run ++ more) (run ++ next) rest
with_run [] ps more next rest all h = (ps, h)
with_run (b ∷ run) ps more next rest all h =
    let p = and_parts (is_plain b) (list_all is_plain run) all in
    let q = with_run run ps more next rest p.1 h in
    (plain b ∷ q.0, (run ++ more, run ++ next, p.0, refl, refl, q.1))

-- no part begins there
abbrev pub StopsPart : ℕ → List ℕ → Stop → Type 0
StopsPart left rest stop =
    (((rest ≡ []) ⊎ (rest ≡ 92 ∷ [])) × (stop ≡ At wrong.Quote left 0))
    ⊎ ((width : ℕ) × IsBadPart width rest × (stop ≡ At wrong.Part (length rest) (length rest - width)))

backslash : (b : ℕ) → is_plain b ≡ false → (b == 34) ≡ false → (b == 13) ≡ false → b ≡ 92
backslash b p q r = grind (arith, nat_tests)

long : (x y : ℕ) (xs : List ℕ) → nat_le (length (x ∷ y ∷ xs)) 1 ≡ false
long x y xs = let n = length xs in grind (arith, nat_tests)

no_escape : (all : List ℕ) → escape all ≡ None → (c : ℕ) (rest : List ℕ) → IsEscape c all rest → ⊥
no_escape all none c rest h = let some = escape_again c all rest h in absurd (cc)

part_stops : (left : ℕ) (back : List ℕ) → Ends is_plain back → (first back == 34) ≡ false → escape back ≡ None → StopsPart left back (part_stop left back)
part_stops left [] ends unclosed none = inl (inl refl, refl)
part_stops left (b ∷ bs) ends unclosed none =
    elim (cases_Bool (b == 13)) [
      | inl is ↦
          let stop : part_stop left (b ∷ bs) ≡ At wrong.Part (length (b ∷ bs)) (length (b ∷ bs) - 1) =
          ap (λ x. if x then At wrong.Part (length (b ∷ bs)) (length (b ∷ bs) - 1) else (if nat_le (length (b ∷ bs)) 1 || not (b == 92) then At wrong.Quote left 0
          else At wrong.Part (length (b ∷ bs)) (length (b ∷ bs) - (1 + len_utf8 (first_char bs))))) is in
          inr (1, inl (eqb-true _ _ is, refl), stop)
      | inr other ↦ behind bs (backslash b ends unclosed other) none
    ]
  where
    behind : (next : List ℕ) → b ≡ 92 → escape (b ∷ next) ≡ None → StopsPart left (b ∷ next) (part_stop left (b ∷ next))
    behind [] is gone = inl (inr (ap (λ x. x ∷ []) is), ap (λ x. part_stop left (x ∷ [])) is)
    behind (x ∷ xs) is nothing =
        let stop : part_stop left (92 ∷ x ∷ xs) ≡ At wrong.Part (length (92 ∷ x ∷ xs)) (length (92 ∷ x ∷ xs) - (1 + len_utf8 (first_char (x ∷ xs)))) =
        ap (λ t. if t || false then At wrong.Quote left 0 else At wrong.Part (length (92 ∷ x ∷ xs)) (length (92 ∷ x ∷ xs) - (1 + len_utf8 (first_char (x ∷ xs))))) (long 92 x xs) in
        let P : ℕ → Type 0 = λ y. StopsPart left (y ∷ x ∷ xs) (part_stop left (y ∷ x ∷ xs)) in
        let gone : escape (92 ∷ x ∷ xs) ≡ None = ap (λ y. escape (y ∷ x ∷ xs)) (sym is) ∙ nothing in
        let some : (x ∷ xs) ≢ [] = λ e. cc in
        subst P (sym is) (inr (1 + len_utf8 (first_char (x ∷ xs)), inr (x ∷ xs, refl, some, refl, no_escape (92 ∷ x ∷ xs) gone), stop))

-- what reading tells of the bytes, with what was found before
abbrev pub Tells : ℕ → List ℕ → List ℕ → Outcome (List ℕ) → Type 0
Tells left found all (Ok p) = (more : List ℕ) × (ps : List Piece) × (p.0 ≡ found ++ more) × ArePieces ps more all (34 ∷ p.1)
Tells left found all (Err stop) = (more : List ℕ) × (ps : List Piece) × (rest : List ℕ) × ArePieces ps more all rest × StopsPart left rest stop

none_of : (xs : List ℕ) → length xs ≤ 0 → xs ≡ []
none_of [] e = refl
none_of (x ∷ xs) e = absurd (omega arith)

-- what is told behind an escape is told in front of it
module _ (left c : ℕ) (found all run back next : List ℕ) (whole : all ≡ run ++ back) (plain_run : list_all is_plain run ≡ true) (is : IsEscape c back next) where
  before : (o : Outcome (List ℕ)) → Tells left ((found ++ run) ++ encode_utf8 c) next o → Tells left found all o
  before (Ok p) h =
      let q = with_run run (escaped c ∷ h.1) (encode_utf8 c ++ h.0) back (34 ∷ p.1) plain_run (h.0, next, is, refl, h.3) in
      let Q : List ℕ → Type 0 = λ us. ArePieces q.0 (run ++ (encode_utf8 c ++ h.0)) us (34 ∷ p.1) in
      (run ++ (encode_utf8 c ++ h.0), q.0, h.2 ∙ append_assoc (found ++ run) (encode_utf8 c) h.0 ∙ append_assoc found run (encode_utf8 c ++ h.0), subst Q (sym whole) q.1)
  before (Err stop) h =
      let q = with_run run (escaped c ∷ h.1) (encode_utf8 c ++ h.0) back h.2 plain_run (h.0, next, is, refl, h.3) in
      let Q : List ℕ → Type 0 = λ us. ArePieces q.0 (run ++ (encode_utf8 c ++ h.0)) us h.2 in
      (run ++ (encode_utf8 c ++ h.0), q.0, h.2, subst Q (sym whole) q.1, h.4)

by_escape : (left n : ℕ) (found all run back : List ℕ) (o : Option (ℕ × List ℕ)) → (run, back) ≡ split_while is_plain all → all ≡ run ++ back → list_all is_plain run ≡ true
    → Ends is_plain back → (first back == 34) ≡ false → escape back ≡ o → length all ≤ suc n
    → ((more next : List ℕ) → length next ≤ n → Tells left more next (quoted_from left n more next)) → Tells left found all (quoted_from left (suc n) found all)
by_escape left n found all run back (Some p) split whole plain_run ends unclosed is le onward =
    let P : Outcome (List ℕ) → Type 0 = Tells left found all in
    let takes = escape_takes back p.1 p.0 is in
    let next = (found ++ run) ++ encode_utf8 p.0 in
    let shorter : length p.1 ≤ n = omega (arith, escape_shorter p.0 back p.1 takes, ap length whole, length-append run back) in
    subst P (sym (turn_goes left n p.0 found all run back p.1 split unclosed is)) (before left p.0 found all run back p.1 whole plain_run takes (quoted_from left n next p.1) (onward next p.1 shorter))
by_escape left n found all run back None split whole plain_run ends unclosed is le onward =
    let P : Outcome (List ℕ) → Type 0 = Tells left found all in
    let q = with_run run [] [] back back plain_run (refl, refl) in
    let Q : List ℕ → Type 0 = λ us. ArePieces q.0 (run ++ []) us back in
    subst P (sym (turn_stops left n found all run back split unclosed is)) (run ++ [], q.0, back, subst Q (sym whole) q.1, part_stops left back ends unclosed is)

pub quoted_tells : (left n : ℕ) (found all : List ℕ) → length all ≤ n → Tells left found all (quoted_from left n found all)
quoted_tells left zero found all le =
    let P : Outcome (List ℕ) → Type 0 = Tells left found all in
    subst P (sym (none_left left found all)) ([], [], [], (refl, none_of all le), inl (inl refl, refl))
quoted_tells left (suc n) found all le =
    let run = (split_while is_plain all).0 in
    let back = (split_while is_plain all).1 in
    let whole = run_parts is_plain all in
    let plain_run = run_all is_plain all in
    let P : Outcome (List ℕ) → Type 0 = Tells left found all in
    elim (cases_Bool (first back == 34)) [
      | inl closes ↦
          let q = with_run run [] [] back back plain_run (refl, refl) in
          let R : List ℕ → List ℕ → List ℕ → Type 0 = λ vs us rest. ArePieces q.0 vs us rest in
          let here = subst (λ (vs : List ℕ). R vs all (34 ∷ drop 1 back)) (append-nil run) (subst (λ (us : List ℕ). R (run ++ []) us (34 ∷ drop 1 back)) (sym whole)
          (subst (λ (rest : List ℕ). R (run ++ []) (run ++ back) rest) (begins_as back 34 closes (omega arith)) q.1)) in
          subst P (sym (turn_closes left n found all run back refl closes)) (run, q.0, refl, here)
      | inr unclosed ↦ by_escape left n found all run back (escape back) refl whole plain_run (run_ends is_plain all) unclosed refl le (λ more next shorter. quoted_tells left n more next shorter)
    ]

-- ---- what is written

one_plain : (left n b : ℕ) (found next : List ℕ) → is_plain b ≡ true → quoted_from left (suc n) found (b ∷ next) ≡ quoted_from left (suc n) (found ++ b ∷ []) next
one_plain left n b found next passes =
    let run = (split_while is_plain next).0 in
    let back = (split_while is_plain next).1 in
    turn_is left n found (b ∷ next) (b ∷ run) back (sym (split_passes is_plain b next passes))
    ∙ ap (λ f. finish left n f back) (sym (append_assoc found (b ∷ []) run)) ∙ sym (turn_is left n (found ++ b ∷ []) next run back refl)

one_escape : (left n c : ℕ) (found all next : List ℕ) → IsEscape c all next → quoted_from left (suc n) found all ≡ quoted_from left n (found ++ encode_utf8 c) next
one_escape left n c found all next is =
    let begins = escape_begins c all next is in
    let split : ([], all) ≡ split_while is_plain all =
    ap (λ us. ([], us)) begins.1 ∙ sym (split_stops is_plain 92 begins.0 refl) ∙ ap (split_while is_plain) (sym begins.1) in
    let unclosed : (first all == 34) ≡ false = ap (λ us. first us == 34) begins.1 in
    turn_goes left n c found all [] all next split unclosed (escape_again c all next is) ∙ ap (λ f. quoted_from left n (f ++ encode_utf8 c) next) (append-nil found)

one_close : (left n : ℕ) (found all rest : List ℕ) → all ≡ 34 ∷ rest → quoted_from left (suc n) found all ≡ Ok (found, rest)
one_close left n found all rest e =
    ap (quoted_from left (suc n) found) e ∙ turn_closes left n found (34 ∷ rest) [] (34 ∷ rest) (sym (split_stops is_plain 34 rest refl)) refl ∙ ap (λ f. given f rest) (append-nil found)

pub quoted_again : (ps : List Piece) (left n : ℕ) (found v all rest : List ℕ) → ArePieces ps v all (34 ∷ rest) → length all ≤ n → quoted_from left n found all ≡ Ok (found ++ v, rest)
quoted_again [] left zero found v all rest h le = absurd (omega (arith, ap length h.1))
quoted_again [] left (suc n) found v all rest h le = one_close left n found all rest h.1 ∙ ap (λ f. given f rest) (sym (append-nil found) ∙ ap (λ us. found ++ us) (sym h.0))
quoted_again (plain b ∷ ps) left zero found v all rest h le = absurd (omega (arith, ap length h.4))
quoted_again (plain b ∷ ps) left (suc n) found v all rest h le =
    ap (quoted_from left (suc n) found) h.4 ∙ one_plain left n b found h.1 h.2
    ∙ quoted_again ps left (suc n) (found ++ b ∷ []) h.0 h.1 rest h.5 (omega (arith, ap length h.4))
    ∙ ap (λ us. given us rest) (append_assoc found (b ∷ []) h.0 ∙ ap (λ us. found ++ us) (sym h.3))
quoted_again (escaped c ∷ ps) left zero found v all rest h le = absurd (omega (arith, escape_shorter c all h.1 h.2))
quoted_again (escaped c ∷ ps) left (suc n) found v all rest h le =
    one_escape left n c found all h.1 h.2
    ∙ quoted_again ps left n (found ++ encode_utf8 c) h.0 h.1 rest h.4 (omega (arith, escape_shorter c all h.1 h.2))
    ∙ ap (λ us. given us rest) (append_assoc found (encode_utf8 c) h.0 ∙ ap (λ us. found ++ us) (sym h.3))

pub pieces_shorter : (ps : List Piece) (v all rest : List ℕ) → ArePieces ps v all rest → length rest ≤ length all
pieces_shorter [] v all rest h = omega (arith, ap length h.1)
pieces_shorter (plain b ∷ ps) v all rest h = omega (arith, ap length h.4, pieces_shorter ps h.0 h.1 rest h.5)
pieces_shorter (escaped c ∷ ps) v all rest h = omega (arith, escape_shorter c all h.1 h.2, pieces_shorter ps h.0 h.1 rest h.4)
