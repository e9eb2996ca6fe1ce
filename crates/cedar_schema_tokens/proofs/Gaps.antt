-- White space and comments, a turn at a time.
use Rattle.std.proofs.Common.{◌≡◌, ℕ, zero, suc, ◌-◌, ◌≤◌, Bool, true, false, List, [], ◌∷◌, length, drop, refl, ap, ◌∙◌, arith, length-drop}
use Rattle.std.proofs.lemmas.Bool.Decides.{nat_tests}
use Rattle.std.specs.Prelude.{if◌then◌else◌, ◌==◌}
use Rattle.cedar_schema_tokens.specs.Lexical.{gap_len, gap_from, after_gap}

pub gap_turn_stops : (n : ℕ) (all : List ℕ) → gap_len all ≡ 0 → gap_from (suc n) all ≡ all
unfolding gap_from
gap_turn_stops n all none =
    let test : (gap_len all == 0) ≡ true = ap (λ k. k == 0) none in
    ap (λ b. if b then all else gap_from n (drop (gap_len all) all)) test

other_than_zero : (k : ℕ) → (k ≡ 0 → ⊥) → (k == 0) ≡ false
other_than_zero k some = grind (arith, nat_tests)

pub gap_turn_goes : (n k : ℕ) (all : List ℕ) → gap_len all ≡ k → (k ≡ 0 → ⊥) → gap_from (suc n) all ≡ gap_from n (drop k all)
unfolding gap_from
gap_turn_goes n k all is some =
    let test : (gap_len all == 0) ≡ false = ap (λ m. m == 0) is ∙ other_than_zero k some in
    ap (λ b. if b then all else gap_from n (drop (gap_len all) all)) test ∙ ap (λ m. gap_from n (drop m all)) is

pub gap_none_left : (all : List ℕ) → gap_from 0 all ≡ all
unfolding gap_from
gap_none_left all = refl

shorter_either : (b : Bool) (all next drops : List ℕ) → length next ≤ length drops → length drops ≤ length all → length (if b then all else next) ≤ length all
shorter_either true all next drops h k = omega arith
shorter_either false all next drops h k = omega arith

gap_shorter : (n : ℕ) (all : List ℕ) → length (gap_from n all) ≤ length all
unfolding gap_from
gap_shorter zero all = omega arith
gap_shorter (suc n) all =
    let drops = drop (gap_len all) all in
    shorter_either (gap_len all == 0) all (gap_from n drops) drops (gap_shorter n drops) (omega (arith, length-drop (gap_len all) all))

pub after_gap_shorter : (all : List ℕ) → length (after_gap all) ≤ length all
after_gap_shorter all = gap_shorter (length all) all
