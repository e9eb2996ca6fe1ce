-- Reading all tokens, how they are written, and where reading stops.
use Rattle.std.proofs.Common.{◌≡◌, ◌≢◌, ℕ, zero, suc, ◌-◌, ◌<◌, ◌≤◌, true, false, ◌==◌, List, [], ◌∷◌, ◌++◌, length, Result, Ok, Err, inl, inr, refl, sym, ap, ◌∙◌, subst, arith, append_assoc, append-nil, eqb-true}
use Rattle.std.specs.Prelude.{if◌then◌else◌}
use Rattle.std.proofs.lemmas.Bool.{cases_Bool}
use Rattle.std.proofs.lemmas.Bool.Decides.{nat_tests}
use Rattle.cedar_schema_tokens.specs.declared.fault.Stop.{Stop}
use Rattle.cedar_schema_tokens.specs.declared.fault.Stop.TheVariants.{At, Memory}
use Rattle.cedar_schema_tokens.specs.declared.fault.Wrong.TheVariants as wrong
use Rattle.cedar_schema_tokens.specs.Token.{Lexeme, Token}
use Rattle.cedar_schema_tokens.specs.Lexical.{Outcome, after_gap, lexeme_at, place, fault_of, token_between, onward, tokens_from, tokens}
use Rattle.cedar_schema_tokens.specs.Written.{IsWritten, Begin, AreTokens}
use Rattle.cedar_schema_tokens.specs.Refused.{IsStop, IsFaultOf, IsRefused, HasNoTokens}
use Rattle.cedar_schema_tokens.proofs.Gaps.{after_gap_shorter, gap_none_left}
use Rattle.cedar_schema_tokens.proofs.Single.{lexeme_takes, lexeme_again, lexeme_stops, written_shorter}

abbrev Read : Type 0
Read = Result (List Token) Stop

-- ---- a turn

abbrev finish : ℕ → ℕ → ℕ → List Token → List ℕ → Outcome Lexeme → Read
finish source total n found front o = onward o (λ t rest. tokens_from source total n (found ++ token_between source total t front rest ∷ []) rest)

turn_ends : (source total n : ℕ) (found : List Token) (all : List ℕ) → (length (after_gap all) == 0) ≡ true → tokens_from source total (suc n) found all ≡ Ok found
unfolding tokens_from
turn_ends source total n found all ends = ap (λ b. if b then Ok found else finish source total n found (after_gap all) (lexeme_at (after_gap all))) ends

turn_by : (source total n : ℕ) (found : List Token) (all : List ℕ) (o : Outcome Lexeme) → (length (after_gap all) == 0) ≡ false → lexeme_at (after_gap all) ≡ o
    → tokens_from source total (suc n) found all ≡ finish source total n found (after_gap all) o
unfolding tokens_from
turn_by source total n found all o some is =
    ap (λ b. if b then Ok found else finish source total n found (after_gap all) (lexeme_at (after_gap all))) some ∙ ap (finish source total n found (after_gap all)) is

pub token_turn : (source total n : ℕ) (found more : List Token) (all front rest : List ℕ) (t : Lexeme) → front ≡ after_gap all → (length front == 0) ≡ false → lexeme_at front ≡ Ok (t, rest)
    → more ≡ found ++ token_between source total t front rest ∷ [] → tokens_from source total (suc n) found all ≡ tokens_from source total n more rest
token_turn source total n found more all front rest t is some e same =
    let some_there : (length (after_gap all) == 0) ≡ false = ap (λ us. length us == 0) (sym is) ∙ some in
    let there : lexeme_at (after_gap all) ≡ Ok (t, rest) = ap lexeme_at (sym is) ∙ e in
    turn_by source total n found all (Ok (t, rest)) some_there there
    ∙ ap (λ us. tokens_from source total n (found ++ token_between source total t us rest ∷ []) rest) (sym is)
    ∙ ap (λ ts. tokens_from source total n ts rest) (sym same)

-- ---- what is read

abbrev pub Tells : ℕ → ℕ → List Token → List ℕ → Read → Type 0
Tells source total found all (Ok out) = (ts : List Token) × (rest : List ℕ) × (out ≡ found ++ ts) × Begin source total ts all rest × (after_gap rest ≡ [])
Tells source total found all (Err stop) = (ts : List Token) × (rest : List ℕ) × Begin source total ts all rest × IsStop stop (after_gap rest)

none_of : (all : List ℕ) → length all ≤ 0 → all ≡ []
none_of [] e = refl
none_of (x ∷ xs) e = absurd (omega arith)

none_left : (all : List ℕ) → (length all == 0) ≡ true → all ≡ []
none_left [] e = refl
none_left (x ∷ xs) e = absurd (omega (arith, eqb-true _ _ e))

some_left : (all : List ℕ) → (length all == 0) ≡ false → all ≢ []
some_left [] e same = absurd (cc)
some_left (x ∷ xs) e same = cc

-- what is told behind a token is told in front of it
before : (source total : ℕ) (found : List Token) (all next : List ℕ) (t : Token) (o : Read) → IsWritten t.lexeme (after_gap all) next
    → t.loc ≡ place source total (length (after_gap all)) (length next) → Tells source total (found ++ t ∷ []) next o → Tells source total found all o
before source total found all next t (Ok out) is at h = (t ∷ h.0, h.1, h.2 ∙ append_assoc found (t ∷ []) h.0, (next, is, at, h.3), h.4)
before source total found all next t (Err stop) is at h = (t ∷ h.0, h.1, (next, is, at, h.2), h.3)

by_lexeme : (source total n : ℕ) (found : List Token) (all : List ℕ) (o : Outcome Lexeme) → (length (after_gap all) == 0) ≡ false → lexeme_at (after_gap all) ≡ o → length all ≤ suc n
    → ((more : List Token) (next : List ℕ) → length next ≤ n → Tells source total more next (tokens_from source total n more next))
    → Tells source total found all (tokens_from source total (suc n) found all)
by_lexeme source total n found all (Ok p) some is le behind =
    let front = after_gap all in
    let t = token_between source total p.0 front p.1 in
    let takes = lexeme_takes front p.1 p.0 is in
    let next = found ++ t ∷ [] in
    let shorter : length p.1 ≤ n = omega (arith, written_shorter p.0 front p.1 takes, after_gap_shorter all) in
    let P : Read → Type 0 = Tells source total found all in
    subst P (sym (turn_by source total n found all (Ok p) some is))
    (before source total found all p.1 t (tokens_from source total n next p.1) takes refl (behind next p.1 shorter))
by_lexeme source total n found all (Err stop) some is le behind =
    let P : Read → Type 0 = Tells source total found all in
    subst P (sym (turn_by source total n found all (Err stop) some is)) ([], all, refl, lexeme_stops (after_gap all) stop (some_left (after_gap all) some) is)

ended : (source total : ℕ) (found : List Token) (all : List ℕ) → after_gap all ≡ [] → Tells source total found all (Ok found)
ended source total found all e = ([], all, sym (append-nil found), refl, e)

no_turn : (source total : ℕ) (found : List Token) (all : List ℕ) → tokens_from source total 0 found all ≡ Ok found
unfolding tokens_from
no_turn source total found all = refl

tokens_tell : (source total n : ℕ) (found : List Token) (all : List ℕ) → length all ≤ n → Tells source total found all (tokens_from source total n found all)
tokens_tell source total zero found all le =
    let P : Read → Type 0 = Tells source total found all in
    let none = none_of all le in
    subst P (sym (no_turn source total found all)) (ended source total found all (ap after_gap none ∙ gap_none_left []))
tokens_tell source total (suc n) found all le =
    let P : Read → Type 0 = Tells source total found all in
    elim (cases_Bool (length (after_gap all) == 0)) [
      | inl ends ↦ subst P (sym (turn_ends source total n found all ends)) (ended source total found all (none_left (after_gap all) ends))
      | inr some ↦ by_lexeme source total n found all (lexeme_at (after_gap all)) some refl le (λ more next shorter. tokens_tell source total n more next shorter)
    ]

-- ---- what is written

abbrev all_of : List Token → Read
all_of ts = Ok ts

abbrev found_or : List Token → Read → List Token
found_or f (Ok g) = g
found_or f (Err d) = f

front_some : (all rest : List ℕ) → length rest < length all → (length all == 0) ≡ false
front_some all rest less = grind (arith, nat_tests)

front_none : (all : List ℕ) → all ≡ [] → (length all == 0) ≡ true
front_none all e = ap (λ us. length us == 0) e

same_token : (t : Token) (source total : ℕ) (front rest : List ℕ) → t.loc ≡ place source total (length front) (length rest) → t ≡ token_between source total t.lexeme front rest
same_token t source total front rest e = ap (λ l. record { lexeme = t.lexeme; loc = l }) e

tokens_meet : (source total n : ℕ) (found ts : List Token) (all rest : List ℕ) → Begin source total ts all rest → after_gap rest ≡ [] → length all ≤ n
    → tokens_from source total n found all ≡ Ok (found ++ ts)
tokens_meet source total zero found [] all rest h ends le = no_turn source total found all ∙ ap all_of (sym (append-nil found))
tokens_meet source total (suc n) found [] all rest h ends le =
    turn_ends source total n found all (front_none (after_gap all) (ap after_gap h ∙ ends)) ∙ ap all_of (sym (append-nil found))
tokens_meet source total zero found (t ∷ ts) all rest h ends le = absurd (omega (arith, written_shorter t.lexeme (after_gap all) h.0 h.1, after_gap_shorter all))
tokens_meet source total (suc n) found (t ∷ ts) all rest h ends le =
    let front = after_gap all in
    let shorter = written_shorter t.lexeme front h.0 h.1 in
    let more = found ++ t ∷ [] in
    token_turn source total n found more all front h.0 t.lexeme refl (front_some front h.0 shorter) (lexeme_again t.lexeme front h.0 h.1)
    (ap (λ x. found ++ x ∷ []) (same_token t source total front h.0 h.2))
    ∙ tokens_meet source total n more ts h.0 rest h.3 ends (omega (arith, shorter, after_gap_shorter all))
    ∙ ap all_of (append_assoc found (t ∷ []) ts)

pub tokens_again : (source : ℕ) (all : List ℕ) (ts : List Token) → AreTokens source all ts → tokens source all ≡ Ok ts
unfolding tokens
tokens_again source all ts h = tokens_meet source (length all) (length all) [] ts all h.0 h.1 h.2 (omega arith)

pub tokens_told : (source : ℕ) (all : List ℕ) → Tells source (length all) [] all (tokens source all)
unfolding tokens
tokens_told source all = tokens_tell source (length all) (length all) [] all (omega arith)

-- ---- together

pub tokens_are : (source : ℕ) (all : List ℕ) (ts : List Token) → tokens source all ≡ Ok ts → AreTokens source all ts
tokens_are source all ts e =
    let P : Read → Type 0 = Tells source (length all) [] all in
    let h = subst P e (tokens_told source all) in
    let Q : List Token → Type 0 = λ us. AreTokens source all us in
    subst Q (sym h.2) (h.1, h.3, h.4)

stopped : (source : ℕ) (all : List ℕ) (stop : Stop) → tokens source all ≡ Err stop → IsFaultOf source all (fault_of source (length all) stop)
stopped source all stop e =
    let P : Read → Type 0 = Tells source (length all) [] all in
    let h = subst P e (tokens_told source all) in
    (h.0, h.1, stop, h.2, h.3, refl)

pub refused : (source : ℕ) (all : List ℕ) (stop : Stop) → (stop ≢ Memory → tokens source all ≡ Err stop) → IsRefused source all (fault_of source (length all) stop)
refused source all (At wrong.Character left behind) e = stopped source all (At wrong.Character left behind) (e (λ same. cc))
refused source all (At wrong.Quote left behind) e = stopped source all (At wrong.Quote left behind) (e (λ same. cc))
refused source all (At wrong.Part left behind) e = stopped source all (At wrong.Part left behind) (e (λ same. cc))
refused source all Memory e = tt

none_are : (source : ℕ) (all : List ℕ) (stop : Stop) → tokens source all ≡ Err stop → (ts : List Token) → AreTokens source all ts → ⊥
none_are source all stop e ts h = let again = tokens_again source all ts h in absurd (cc)

pub has_none : (source : ℕ) (all : List ℕ) (stop : Stop) → (stop ≢ Memory → tokens source all ≡ Err stop) → HasNoTokens source all (fault_of source (length all) stop)
has_none source all (At wrong.Character left behind) e = none_are source all (At wrong.Character left behind) (e (λ same. cc))
has_none source all (At wrong.Quote left behind) e = none_are source all (At wrong.Quote left behind) (e (λ same. cc))
has_none source all (At wrong.Part left behind) e = none_are source all (At wrong.Part left behind) (e (λ same. cc))
has_none source all Memory e = tt

pub one_reading : (source : ℕ) (all : List ℕ) (ts us : List Token) → AreTokens source all ts → AreTokens source all us → ts ≡ us
one_reading source all ts us h k = ap (found_or ts) (sym (tokens_again source all ts h) ∙ tokens_again source all us k)
