-- Lists: what is read of them is written so, and what is written so is read.
use Rattle.std.proofs.Common.{◌≡◌, ℕ, zero, suc, ◌+◌, ◌<◌, ◌≤◌, Bool, true, false, List, [], ◌∷◌, ◌++◌, length, drop, Ok, ◌⊎◌, inl, inr, refl, sym, ap, ◌∙◌, subst, arith, append_assoc, append-nil}
use Rattle.std.specs.Prelude.{if◌then◌else◌}
use Rattle.cedar_schema_tokens.specs.Token.{Token}
use Rattle.cedar_schema_tokens.specs.declared.token.Symbol.{Symbol}
use Rattle.cedar_schema_tokens.specs.declared.token.Symbol.TheVariants as sign
use Rattle.cedar_schema_grammar.specs.Grammar.{Form, ◌then◌, mark, separated as separated_form, some, any, many}
use Rattle.cedar_schema_grammar.specs.Reading.{Reader, sees, expect, same_symbol, unexpected, separated_from, separated, until_from, until, some_until, while_from, while}
use Rattle.cedar_schema_grammar.proofs.Turns.{given, bind_on, while_goes, while_ends}
use Rattle.cedar_schema_grammar.proofs.Steps.{bind_ok, chosen, same_pair, carry, eaten, goes, stays, opens, sees_is, expect_ok, expect_on, other}

pub one_less : (m : Symbol) (ts rest : List Token) → mark m ts rest → length ts ≡ length rest + 1
one_less m ts rest h = omega (arith, ap length h.1)

-- ---- what is read is written so

module _ {A : Type 0} (item : Reader A) (form : A → Form) (takes : (x : A) (ts rest : List Token) → item ts ≡ Ok (x, rest) → form x ts rest) where
  longer : (m : Symbol) (x : A) (more : List A) (ts mid next rest : List Token) → form x ts mid → mark m mid next → separated_form m form more next rest
      → separated_form m form (x ∷ more) ts rest
  longer m x [] ts mid next rest is sep h = absurd h
  longer m x (y ∷ more) ts mid next rest is sep h = (mid, is, (next, sep, h))

  separated_takes_from : (m : Symbol) (n : ℕ) (found all : List A) (ts rest : List Token) → separated_from item m n found ts ≡ Ok (all, rest)
      → (more : List A) × (all ≡ found ++ more) × separated_form m form more ts rest
  unfolding separated_from
  separated_takes_from m zero found all ts rest e = absurd (cc)
  separated_takes_from m (suc n) found all ts rest e =
      let first = bind_ok (item ts) _ all rest e in
      let x = first.0 in
      let is = takes x ts first.1 first.2 in
      elim (eaten (sees m) _ _ first.1 _ first.3) [
        | inl p ↦
            let more = separated_takes_from m n (found ++ x ∷ []) all (drop 1 first.1) rest p.1 in
            (x ∷ more.0, more.1 ∙ append_assoc found (x ∷ []) more.0, longer m x more.0 ts first.1 (drop 1 first.1) rest is (sees_is m first.1 p.0) more.2)
        | inr q ↦ let s = same_pair (found ++ x ∷ []) all first.1 rest q.1 in (x ∷ [], sym s.0, carry (form x) ts first.1 rest s.1 is)
      ]

  pub separated_takes : (m : Symbol) (all : List A) (ts rest : List Token) → separated item m ts ≡ Ok (all, rest) → separated_form m form all ts rest
  separated_takes m all ts rest e =
      let p = separated_takes_from m (length ts) [] all ts rest e in
      let P : List A → Type 0 = λ xs. separated_form m form xs ts rest in
      subst P (sym p.1) p.2

  after_comma : (close : Symbol) (x : A) (more : List A) (ts mid next rest : List Token) → form x ts mid → mark sign.Comma mid next → (any form more then mark close) next rest
      → (any form (x ∷ more) then mark close) ts rest
  after_comma close x [] ts mid next rest is comma h = (h.0, (mid, is, inl (carry (mark sign.Comma) mid next h.0 h.1 comma)), h.2)
  after_comma close x (y ∷ more) ts mid next rest is comma h = let k = h.1 in (h.0, (k.0, (mid, is, (next, comma, k.1)), k.2), h.2)

  until_takes_from : (close : Symbol) (n : ℕ) (found all : List A) (ts rest : List Token) → until_from item close n found ts ≡ Ok (all, rest)
      → (more : List A) × (all ≡ found ++ more) × (any form more then mark close) ts rest
  unfolding until_from
  until_takes_from close zero found all ts rest e = absurd (cc)
  until_takes_from close (suc n) found all ts rest e =
      elim (eaten (sees close) _ _ ts _ e) [
        | inl p ↦
            let s = same_pair found all (drop 1 ts) rest p.1 in
            ([], sym s.0 ∙ sym (append-nil found), (ts, refl, carry (mark close) ts (drop 1 ts) rest s.1 (sees_is close ts p.0)))
        | inr q ↦
            let a = bind_ok (item ts) _ all rest q.1 in
            let is = takes a.0 ts a.1 a.2 in
            elim (eaten (sees sign.Comma) _ _ a.1 _ a.3) [
              | inl p ↦
                  let more = until_takes_from close n (found ++ a.0 ∷ []) all (drop 1 a.1) rest p.1 in (
                    a.0 ∷ more.0,
                    more.1 ∙ append_assoc found (a.0 ∷ []) more.0,
                    after_comma close a.0 more.0 ts a.1 (drop 1 a.1) rest is (sees_is sign.Comma a.1 p.0) more.2,
                  )
              | inr r ↦
                  let c = bind_ok (expect close a.1) _ all rest r.1 in
                  let s = same_pair (found ++ a.0 ∷ []) all c.1 rest c.3 in
                  (a.0 ∷ [], sym s.0, (a.1, (a.1, is, inr refl), carry (mark close) a.1 c.1 rest s.1 (expect_ok close a.1 c.1 c.0 c.2)))
            ]
      ]

  pub until_takes : (close : Symbol) (all : List A) (ts rest : List Token) → until item close ts ≡ Ok (all, rest) → (any form all then mark close) ts rest
  until_takes close all ts rest e =
      let p = until_takes_from close (length ts) [] all ts rest e in
      let P : List A → Type 0 = λ xs. (any form xs then mark close) ts rest in
      subst P (sym p.1) p.2

  not_none : (close : Symbol) (all : List A) (ts rest : List Token) → sees close ts ≡ false → (any form all then mark close) ts rest → (some form all then mark close) ts rest
  not_none close [] ts rest e h = absurd (let there = (opens close h.0 rest h.2).0 in let here = ap (sees close) h.1 in cc)
  not_none close (x ∷ all) ts rest e h = h

  pub some_takes : (close : Symbol) (all : List A) (ts rest : List Token) → some_until item close ts ≡ Ok (all, rest) → (some form all then mark close) ts rest
  some_takes close all ts rest e =
      elim (chosen (sees close ts) _ _ _ e) [
        | inl p ↦ absurd (let never = p.1 in cc)
        | inr p ↦ not_none close all ts rest p.0 (until_takes close all ts rest p.1)
      ]

  while_takes_from : (go : List Token → Bool) (n : ℕ) (found all : List A) (ts rest : List Token) → while_from item go n found ts ≡ Ok (all, rest)
      → (more : List A) × (all ≡ found ++ more) × many form more ts rest
  unfolding while_from
  while_takes_from go zero found all ts rest e = let s = same_pair found all ts rest e in ([], sym s.0 ∙ sym (append-nil found), s.1)
  while_takes_from go (suc n) found all ts rest e =
      elim (chosen (go ts) _ _ _ e) [
        | inl p ↦
            let x = bind_ok (item ts) _ all rest p.1 in
            let more = while_takes_from go n (found ++ x.0 ∷ []) all x.1 rest x.3 in
            (x.0 ∷ more.0, more.1 ∙ append_assoc found (x.0 ∷ []) more.0, (x.1, takes x.0 ts x.1 x.2, more.2))
        | inr q ↦ let s = same_pair found all ts rest q.1 in ([], sym s.0 ∙ sym (append-nil found), s.1)
      ]

  pub while_takes : (go : List Token → Bool) (all : List A) (ts rest : List Token) → while item go ts ≡ Ok (all, rest) → many form all ts rest
  while_takes go all ts rest e =
      let p = while_takes_from go (length ts) [] all ts rest e in
      let P : List A → Type 0 = λ xs. many form xs ts rest in
      subst P (sym p.1) p.2

-- ---- what is written so is read

-- each item takes tokens
abbrev pub Less : Form → Type 0
Less p = (ts rest : List Token) → p ts rest → length rest < length ts

-- a form takes tokens or none
abbrev pub Most : Form → Type 0
Most p = (ts rest : List Token) → p ts rest → length rest ≤ length ts

module _ {A : Type 0} (form : A → Form) (less : (x : A) → Less (form x)) where
  pub separated_less : (m : Symbol) (all : List A) → Less (separated_form m form all)
  separated_less m [] ts rest h = absurd h
  separated_less m (x ∷ []) ts rest h = less x ts rest h
  separated_less m (x ∷ y ∷ more) ts rest h = omega (arith, less x ts h.0 h.1, one_less m h.0 h.2.0 h.2.1, separated_less m (y ∷ more) h.2.0 rest h.2.2)

  pub some_less : (all : List A) → Less (some form all)
  some_less all ts rest (mid, h, inl c) = omega (arith, separated_less sign.Comma all ts mid h, one_less sign.Comma mid rest c)
  some_less all ts rest (mid, h, inr e) = omega (arith, separated_less sign.Comma all ts mid h, ap length e)

  pub any_most : (all : List A) → Most (any form all)
  any_most [] ts rest h = omega (arith, ap length h)
  any_most (x ∷ all) ts rest h = omega (arith, some_less (x ∷ all) ts rest h)

  pub many_most : (all : List A) → Most (many form all)
  many_most [] ts rest h = omega (arith, ap length h)
  many_most (x ∷ all) ts rest h = omega (arith, less x ts h.0 h.1, many_most all h.0 rest h.2)

  -- where an item goes on is a symbol or the end of the list
  behind : (close : Symbol) (x : A) (more : List A) (ts rest : List Token) → (any form (x ∷ more) then mark close) ts rest
      → (mid : List Token) × form x ts mid × (((next : List Token) × mark sign.Comma mid next × (any form more then mark close) next rest) ⊎ (mark close mid rest × (more ≡ [])))
  behind close x [] ts rest (m, (k, h, inl c), cl) = (k, h, inl (m, c, (m, refl, cl)))
  behind close x [] ts rest (m, (k, h, inr e), cl) = (k, h, inr (let P : List Token → Type 0 = λ us. mark close us rest in subst P (sym e) cl, refl))
  behind close x (y ∷ more) ts rest h = let k = h.1 in let j = k.1 in (j.0, j.1, inl (j.2.0, j.2.1, (h.0, (k.0, j.2.2, k.2), h.2)))

module _ {A : Type 0} (item : Reader A) (form : A → Form) (less : (x : A) → Less (form x)) (Ends : List Token → Type 0)
    (again : (x : A) (ts rest : List Token) → form x ts rest → Ends rest → item ts ≡ Ok (x, rest)) where
  separated_again_from : (m : Symbol) → ((ts rest : List Token) → mark m ts rest → Ends ts) → (n : ℕ) (found all : List A) (ts rest : List Token) → separated_form m form all ts rest
      → Ends rest → sees m rest ≡ false → length ts ≤ n → separated_from item m n found ts ≡ Ok (found ++ all, rest)
  unfolding separated_from
  separated_again_from m on n found [] ts rest h ends last le = absurd h
  separated_again_from m on zero found (x ∷ all) ts rest h ends last le = absurd (omega (arith, separated_less form less m (x ∷ all) ts rest h))
  separated_again_from m on (suc n) found (x ∷ []) ts rest h ends last le = bind_on (item ts) _ x rest (again x ts rest h ends) ∙ stays (sees m) _ _ rest last
  separated_again_from m on (suc n) found (x ∷ y ∷ ys) ts rest h ends last le =
      let mid = h.0 in
      let sep = h.2 in
      bind_on (item ts) _ x mid (again x ts mid h.1 (on mid sep.0 sep.1)) ∙ goes (sees m) _ _ mid sep.0 (opens m mid sep.0 sep.1)
      ∙ separated_again_from m on n (found ++ x ∷ []) (y ∷ ys) sep.0 rest sep.2 ends last (omega (arith, less x ts mid h.1, one_less m mid sep.0 sep.1))
      ∙ ap (λ xs. given xs rest) (append_assoc found (x ∷ []) (y ∷ ys))

  pub separated_again : (m : Symbol) → ((ts rest : List Token) → mark m ts rest → Ends ts) → (all : List A) (ts rest : List Token) → separated_form m form all ts rest
      → Ends rest → sees m rest ≡ false → separated item m ts ≡ Ok (all, rest)
  separated_again m on all ts rest h ends last = separated_again_from m on (length ts) [] all ts rest h ends last (omega arith)

  module _ (close : Symbol) (apart : same_symbol close sign.Comma ≡ false) (on : (ts rest : List Token) → mark sign.Comma ts rest → Ends ts)
      (at_close : (ts rest : List Token) → mark close ts rest → Ends ts) (begins : (x : A) (ts rest : List Token) → form x ts rest → sees close ts ≡ false) where
    until_again_from : (n : ℕ) (found all : List A) (ts rest : List Token) → (any form all then mark close) ts rest → length ts ≤ n → until_from item close n found ts ≡ Ok (found ++ all, rest)
    unfolding until_from
    until_again_from zero found all ts rest h le = absurd (omega (arith, any_most form less all ts h.0 h.1, one_less close h.0 rest h.2))
    until_again_from (suc n) found [] ts rest h le =
        let P : List Token → Type 0 = λ us. mark close us rest in
        goes (sees close) _ _ ts rest (opens close ts rest (subst P (sym h.1) h.2)) ∙ ap (λ xs. given xs rest) (sym (append-nil found))
    until_again_from (suc n) found (x ∷ more) ts rest h le =
        let b = behind form less close x more ts rest h in
        let mid = b.0 in
        stays (sees close) _ _ ts (begins x ts mid b.1)
        ∙ elim b.2 [
          | inl p ↦
              bind_on (item ts) _ x mid (again x ts mid b.1 (on mid p.0 p.1)) ∙ goes (sees sign.Comma) _ _ mid p.0 (opens sign.Comma mid p.0 p.1)
              ∙ until_again_from n (found ++ x ∷ []) more p.0 rest p.2 (omega (arith, less x ts mid b.1, one_less sign.Comma mid p.0 p.1))
              ∙ ap (λ xs. given xs rest) (append_assoc found (x ∷ []) more)
          | inr q ↦
              bind_on (item ts) _ x mid (again x ts mid b.1 (at_close mid rest q.0)) ∙ stays (sees sign.Comma) _ _ mid (other close sign.Comma mid rest q.0 apart)
              ∙ bind_on (expect close mid) _ tt rest (expect_on (sees close) mid rest (opens close mid rest q.0)) ∙ ap (λ xs. given (found ++ x ∷ xs) rest) (sym q.1)
        ]

    pub until_again : (all : List A) (ts rest : List Token) → (any form all then mark close) ts rest → until item close ts ≡ Ok (all, rest)
    until_again all ts rest h = until_again_from (length ts) [] all ts rest h (omega arith)

    pub some_again : (all : List A) (ts rest : List Token) → (some form all then mark close) ts rest → some_until item close ts ≡ Ok (all, rest)
    some_again [] ts rest h = absurd h.1.1
    some_again (x ∷ all) ts rest h =
        let b = behind form less close x all ts rest h in
        ap (λ c. if c then unexpected ts else until item close ts) (begins x ts b.0 b.1) ∙ until_again (x ∷ all) ts rest h

  module _ (go : List Token → Bool) (begins : (x : A) (ts rest : List Token) → form x ts rest → (go ts ≡ true) × Ends ts) where
    ends_many : (all : List A) (ts rest : List Token) → many form all ts rest → Ends rest → Ends ts
    ends_many [] ts rest h ends = subst Ends (sym h) ends
    ends_many (x ∷ all) ts rest h ends = (begins x ts h.0 h.1).1

    while_again_from : (n : ℕ) (found all : List A) (ts rest : List Token) → many form all ts rest → Ends rest → go rest ≡ false → length ts ≤ n
        → while_from item go n found ts ≡ Ok (found ++ all, rest)
    unfolding while_from
    while_again_from zero found [] ts rest h ends last le = ap (given found) h ∙ ap (λ xs. given xs rest) (sym (append-nil found))
    while_again_from (suc n) found [] ts rest h ends last le =
        while_ends item go n found ts (ap go h ∙ last) ∙ ap (given found) h ∙ ap (λ xs. given xs rest) (sym (append-nil found))
    while_again_from zero found (x ∷ all) ts rest h ends last le = absurd (omega (arith, less x ts h.0 h.1))
    while_again_from (suc n) found (x ∷ all) ts rest h ends last le =
        let mid = h.0 in
        while_goes item go n found ts mid x (begins x ts mid h.1).0 (again x ts mid h.1 (ends_many all mid rest h.2 ends))
        ∙ while_again_from n (found ++ x ∷ []) all mid rest h.2 ends last (omega (arith, less x ts mid h.1)) ∙ ap (λ xs. given xs rest) (append_assoc found (x ∷ []) all)

    pub while_again : (all : List A) (ts rest : List Token) → many form all ts rest → Ends rest → go rest ≡ false → while item go ts ≡ Ok (all, rest)
    while_again all ts rest h ends last = while_again_from (length ts) [] all ts rest h ends last (omega arith)

-- ---- where reading ends

module _ {A : Type 0} (item : Reader A) (less : (x : A) (ts rest : List Token) → item ts ≡ Ok (x, rest) → length rest < length ts) (go : List Token → Bool) (none : go [] ≡ false) where
  while_done_from : (n : ℕ) (found all : List A) (ts rest : List Token) → length ts ≤ n → while_from item go n found ts ≡ Ok (all, rest) → go rest ≡ false
  unfolding while_from
  while_done_from zero found all [] rest le e = ap go (sym (same_pair found all [] rest e).1) ∙ none
  while_done_from zero found all (t ∷ ts) rest le e = absurd (omega arith)
  while_done_from (suc n) found all ts rest le e =
      elim (chosen (go ts) _ _ _ e) [
        | inl p ↦ let x = bind_ok (item ts) _ all rest p.1 in while_done_from n (found ++ x.0 ∷ []) all x.1 rest (omega (arith, less x.0 ts x.1 x.2)) x.3
        | inr q ↦ ap go (sym (same_pair found all ts rest q.1).1) ∙ q.0
      ]

  pub while_done : (all : List A) (ts rest : List Token) → while item go ts ≡ Ok (all, rest) → go rest ≡ false
  while_done all ts rest e = while_done_from (length ts) [] all ts rest (omega arith) e
