-- Reading looks one token ahead, and two where a set may begin: what it tells doesn't depend on the tokens behind these, nor a token that
-- isn't expected on the limit. A type that is too deep is so at the same limit, E, whatever comes behind what begins it.
use Rattle.std.proofs.Common.{◌≡◌, ℕ, zero, suc, ◌+◌, ◌-◌, ◌<◌, ◌≤◌, Bool, true, false, ◌||◌, List, [], ◌∷◌, ◌++◌, length, drop, Option, Some, None, Ok, Err, refl, sym, ap, ap₂, ◌∙◌, subst, arith, append_assoc, length-append}
use Rattle.std.specs.Prelude.{if◌then◌else◌, ⊤}
use Rattle.cedar_ast.specs.declared.loc.Loc.{Loc}
use Rattle.cedar_schema_tokens.specs.Token.{Lexeme, Token}
use Rattle.cedar_schema_tokens.specs.declared.token.Symbol.{Symbol}
use Rattle.cedar_schema_tokens.specs.declared.token.Symbol.TheVariants as sign
use Rattle.cedar_schema_grammar.specs.declared.fault.Stop.TheVariants.{Memory, Unexpected, TooDeep}
use Rattle.cedar_schema_grammar.specs.Exact.{Peek}
use Rattle.cedar_schema_grammar.specs.Grammar.{first_loc, span, between}
use Rattle.cedar_schema_grammar.specs.Reading.{Outcome, Reader, and_then, pure, unexpected, first_is, is_symbol, sees, begins_set, after, expect_if, expect, taken, take_first, separated_from, separated, until_from, until, some_until, while_from, while}
use Rattle.cedar_schema_grammar.proofs.Turns.{given, bind_on, bind_err, behind}

-- ---- the same first token

peek_on : (pre rest us : List Token) → Peek rest us → Peek (pre ++ rest) (pre ++ us)
peek_on [] rest us h = h
peek_on (t ∷ pre) rest us h = refl

pub peek_past : (mid pre rest us : List Token) → mid ≡ pre ++ rest → Peek rest us → Peek mid (pre ++ us)
peek_past mid pre rest us e h = let P : List Token → Type 0 = λ vs. Peek vs (pre ++ us) in subst P (sym e) (peek_on pre rest us h)

pub peek_first : (f : Lexeme → Bool) (ts us : List Token) → Peek ts us → first_is f us ≡ first_is f ts
peek_first f [] [] h = refl
peek_first f [] (u ∷ us) h = absurd h
peek_first f (t ∷ ts) [] h = absurd h
peek_first f (t ∷ ts) (u ∷ us) h = ap (λ v. f v.lexeme) (sym h)

peek_loc : (ts us : List Token) → Peek ts us → first_loc us ≡ first_loc ts
peek_loc [] [] h = refl
peek_loc [] (u ∷ us) h = absurd h
peek_loc (t ∷ ts) [] h = absurd h
peek_loc (t ∷ ts) (u ∷ us) h = ap (λ v. v.loc) (sym h)

peek_drop : (pre rest us : List Token) (k : ℕ) → k ≤ length pre → Peek rest us → Peek (drop k (pre ++ rest)) (drop k (pre ++ us))
peek_drop [] rest us zero le h = h
peek_drop [] rest us (suc k) le h = absurd (omega arith)
peek_drop (t ∷ pre) rest us zero le h = refl
peek_drop (t ∷ pre) rest us (suc k) le h = peek_drop pre rest us k (omega arith) h

peek_place : (pre rest us : List Token) → Peek rest us → between (pre ++ us) us ≡ between (pre ++ rest) rest
peek_place pre rest us h =
    let n : (length (pre ++ us) - length us) - 1 ≡ length pre - 1 = omega (arith, length-append pre us) in
    let m : (length (pre ++ rest) - length rest) - 1 ≡ length pre - 1 = omega (arith, length-append pre rest) in
    ap₂ span (peek_loc (pre ++ rest) (pre ++ us) (peek_on pre rest us h))
    (ap (λ k. first_loc (drop k (pre ++ us))) n
    ∙ peek_loc (drop (length pre - 1) (pre ++ rest)) (drop (length pre - 1) (pre ++ us)) (peek_drop pre rest us (length pre - 1) (omega arith) h)
    ∙ sym (ap (λ k. first_loc (drop k (pre ++ rest))) m))

-- a type that has a level begins
abbrev pub begins_level : List Token → Bool
begins_level ts = sees sign.OpenBrace ts || begins_set ts

-- ---- outcomes

-- a guard that lets all through
abbrev pub Any : List Token → Type 0
Any ts = Unit {0}

-- tokens part in one way, by how many are left
pub part : (a b c d : List Token) → a ++ c ≡ b ++ d → length c ≡ length d → (a ≡ b) × (c ≡ d)
part [] [] c d e l = (refl, e)
part [] (y ∷ b) c d e l = absurd (omega (arith, ap length e, length-append b d))
part (x ∷ a) [] c d e l = absurd (omega (arith, ap length e, length-append a c))
part (x ∷ a) (y ∷ b) c d e l =
    let p = part a b c d (ap (drop 1) e) l in
    let h : x ≡ y = cc in
    (ap₂ (λ t ts. t ∷ ts) h p.0, p.1)

-- E says that both readers have the same limit.
module _ (E : Type 0) where
  -- What one reader tells of the tokens another tells of all that begin alike, up to the token where the first stopped, and pass the guard.
  abbrev pub Match : {A : Type 0} → (List Token → Type 0) → Outcome A → List Token → Reader A → Type 0
  Match Guard (Ok p) ts q = (pre : List Token) × (ts ≡ pre ++ p.1) × ((us : List Token) → Peek p.1 us → Guard (pre ++ us) → q (pre ++ us) ≡ Ok (p.0, us))
  Match Guard (Err (Unexpected left)) ts q =
      (pre : List Token) × (rest : List Token) × (ts ≡ pre ++ rest) × (left ≡ length rest) × ((us : List Token) → Peek rest us → Guard (pre ++ us) → q (pre ++ us) ≡ Err (Unexpected (length us)))
  Match Guard (Err (TooDeep left)) ts q =
      E → (pre : List Token) × (rest : List Token) × (ts ≡ pre ++ rest) × (left ≡ length rest) × (begins_level rest ≡ true)
      × ((us : List Token) → Peek rest us → begins_level us ≡ true → Guard (pre ++ us) → q (pre ++ us) ≡ Err (TooDeep (length us)))
  Match Guard (Err Memory) ts q = ⊤

  abbrev pub Like : {A : Type 0} → Reader A → Reader A → Type 0
  Like p q = (ts : List Token) → Match Any (p ts) ts q

  -- a reader that tells the same of what begins alike
  pub match_as : {A : Type 0} (G H : List Token → Type 0) (o : Outcome A) (ts : List Token) (q r : Reader A) → ((us : List Token) → Peek ts us → H us → (r us ≡ q us) × G us) → Match G o ts q → Match H o ts r
  match_as G H (Ok p) ts q r same h =
      (h.0, h.1, λ us peek guard. let s = same (h.0 ++ us) (peek_past ts h.0 p.1 us h.1 peek) guard in s.0 ∙ h.2 us peek s.1)
  match_as G H (Err (Unexpected left)) ts q r same h =
      (h.0, h.1, h.2, h.3, λ us peek guard. let s = same (h.0 ++ us) (peek_past ts h.0 h.1 us h.2 peek) guard in s.0 ∙ h.4 us peek s.1)
  match_as G H (Err (TooDeep left)) ts q r same h = λ e.
      let k = h e in
      (k.0, k.1, k.2, k.3, k.4, λ us peek op guard. let s = same (k.0 ++ us) (peek_past ts k.0 k.1 us k.2 peek) guard in s.0 ∙ k.5 us peek op s.1)
  match_as G H (Err Memory) ts q r same h = tt

  pub match_of : {A : Type 0} (G : List Token → Type 0) (o o2 : Outcome A) (ts : List Token) (q : Reader A) → o ≡ o2 → Match G o2 ts q → Match G o ts q
  match_of G o o2 ts q e h = let P : Outcome _ → Type 0 = λ x. Match G x ts q in subst P (sym e) h

  -- readers that are the same
  pub like_as : {A : Type 0} (p p2 q q2 : Reader A) → ((ts : List Token) → p ts ≡ p2 ts) → ((ts : List Token) → q ts ≡ q2 ts) → Like p2 q2 → Like p q
  like_as p p2 q q2 e f h ts = match_of Any (p ts) (p2 ts) ts q (e ts) (match_as Any Any (p2 ts) ts q2 q (λ us peek _. (f us, tt)) (h ts))

  -- behind tokens that are read already
  module _ {A B : Type 0} (G H : List Token → Type 0) (pre : List Token) (x : A) (q : Reader A) (g : A → Reader B) (ts mid : List Token) (e : ts ≡ pre ++ mid)
      (reads : (us : List Token) → Peek mid us → q (pre ++ us) ≡ Ok (x, us)) (guard : (us : List Token) → H (pre ++ us) → G us) where
    passed : (o : Outcome B) → Match G o mid (g x) → Match H o ts (λ us. and_then (q us) g)
    passed (Ok p) h = (
      pre ++ h.0,
      e ∙ ap (λ us. pre ++ us) h.1 ∙ sym (append_assoc pre h.0 p.1),
      λ us peek ok.
          let all = append_assoc pre h.0 us in
          ap (λ vs. and_then (q vs) g) all ∙ bind_on (q (pre ++ (h.0 ++ us))) g x (h.0 ++ us) (reads (h.0 ++ us) (peek_past mid h.0 p.1 us h.1 peek)) ∙ h.2 us peek (guard (h.0 ++ us) (subst H all ok)),
    )
    passed (Err (Unexpected left)) h = (
      pre ++ h.0,
      h.1,
      e ∙ ap (λ us. pre ++ us) h.2 ∙ sym (append_assoc pre h.0 h.1),
      h.3,
      λ us peek ok.
          let all = append_assoc pre h.0 us in
          ap (λ vs. and_then (q vs) g) all ∙ bind_on (q (pre ++ (h.0 ++ us))) g x (h.0 ++ us) (reads (h.0 ++ us) (peek_past mid h.0 h.1 us h.2 peek)) ∙ h.4 us peek (guard (h.0 ++ us) (subst H all ok)),
    )
    passed (Err (TooDeep left)) h = λ e2.
        let k = h e2 in (
          pre ++ k.0,
          k.1,
          e ∙ ap (λ us. pre ++ us) k.2 ∙ sym (append_assoc pre k.0 k.1),
          k.3,
          k.4,
          λ us peek op ok.
              let all = append_assoc pre k.0 us in
              ap (λ vs. and_then (q vs) g) all ∙ bind_on (q (pre ++ (k.0 ++ us))) g x (k.0 ++ us) (reads (k.0 ++ us) (peek_past mid k.0 k.1 us k.2 peek)) ∙ k.5 us peek op (guard (k.0 ++ us) (subst H all ok)),
        )
    passed (Err Memory) h = tt

  -- one reader after another
  module _ {A B : Type 0} (H : List Token → Type 0) (q : Reader A) (f g : A → Reader B) (ts : List Token) where
    pub bind_match : (o : Outcome A) → Match Any o ts q
        → ((x : A) (mid pre : List Token) → o ≡ Ok (x, mid) → ts ≡ pre ++ mid → (G : List Token → Type 0) × Match G (f x mid) mid (g x) × ((us : List Token) → H (pre ++ us) → G us))
        → Match H (and_then o f) ts (λ us. and_then (q us) g)
    bind_match (Ok p) h next =
        let n = next p.0 p.1 h.0 refl h.1 in passed n.0 H h.0 p.0 q g ts p.1 h.1 (λ us peek. h.2 us peek tt) n.2 (f p.0 p.1) n.1
    bind_match (Err (Unexpected left)) h next = (h.0, h.1, h.2, h.3, λ us peek ok. bind_err (q (h.0 ++ us)) g _ (h.4 us peek tt))
    bind_match (Err (TooDeep left)) h next = λ e.
        let k = h e in (k.0, k.1, k.2, k.3, k.4, λ us peek op ok. bind_err (q (k.0 ++ us)) g _ (k.5 us peek op tt))
    bind_match (Err Memory) h next = tt

  pub like_bind : {A B : Type 0} (p q : Reader A) (f g : A → Reader B) → Like p q → ((x : A) → Like (f x) (g x)) → Like (λ ts. and_then (p ts) f) (λ ts. and_then (q ts) g)
  like_bind p q f g h k ts = bind_match Any q f g ts (p ts) (h ts) (λ x mid pre e s. (Any, k x mid, λ us _. tt))

  -- ---- single steps

  pub like_pure : {A : Type 0} (x : A) → Like (pure x) (pure x)
  like_pure x ts = ([], refl, λ us peek _. refl)

  pub like_unexpected : {A : Type 0} → Like (unexpected {A = A}) (unexpected {A = A})
  like_unexpected ts = ([], ts, refl, refl, λ us peek _. refl)

  -- behind the first token
  module _ {A : Type 0} (G H : List Token → Type 0) (t : Token) (ts : List Token) (q r : Reader A) (same : (us : List Token) → H (t ∷ us) → (r (t ∷ us) ≡ q us) × G us) where
    pub behind_one : (o : Outcome A) → Match G o ts q → Match H o (t ∷ ts) r
    behind_one (Ok p) h = (t ∷ h.0, ap (λ us. t ∷ us) h.1, λ us peek ok. let s = same (h.0 ++ us) ok in s.0 ∙ h.2 us peek s.1)
    behind_one (Err (Unexpected left)) h = (t ∷ h.0, h.1, ap (λ us. t ∷ us) h.2, h.3, λ us peek ok. let s = same (h.0 ++ us) ok in s.0 ∙ h.4 us peek s.1)
    behind_one (Err (TooDeep left)) h = λ e.
        let k = h e in (t ∷ k.0, k.1, ap (λ us. t ∷ us) k.2, k.3, k.4, λ us peek op ok. let s = same (k.0 ++ us) ok in s.0 ∙ k.5 us peek op s.1)
    behind_one (Err Memory) h = tt

  dropped : (f : Lexeme → Bool) (ts : List Token) → first_is f ts ≡ true → length ts ≡ suc (length (drop 1 ts))
  dropped f [] e = absurd (cc)
  dropped f (t ∷ ts) e = refl

  -- a reader that goes on by whether it took the token
  module _ {B : Type 0} (G H : List Token → Type 0) (f : Lexeme → Bool) (a b c d : Reader B) where
    abbrev Going : Reader B
    Going us = (if first_is f us then c else d) (after (first_is f) us)

    eat_case : (ts : List Token) → ((t : Token) (rest us : List Token) → ts ≡ t ∷ rest → H (t ∷ us) → G us) → (v : Bool) → first_is f ts ≡ v
        → (first_is f ts ≡ true → Match G (a (drop 1 ts)) (drop 1 ts) c) → Match H (b ts) ts d → Match H ((if v then a else b) (if v then drop 1 ts else ts)) ts Going
    eat_case [] shrinks true e h k = absurd (cc)
    eat_case (t ∷ ts) shrinks true e h k =
        behind_one G H t ts c Going (λ us ok. (ap (λ w. (if w then c else d) (if w then us else t ∷ us)) e, shrinks t ts us refl ok)) (a ts) (h e)
    eat_case ts shrinks false e h k =
        match_as H H (b ts) ts d Going (λ us peek ok. (ap (λ w. (if w then c else d) (if w then drop 1 us else us)) (peek_first f ts us peek ∙ e), ok)) k

    eat_match : (ts : List Token) → ((t : Token) (rest us : List Token) → ts ≡ t ∷ rest → H (t ∷ us) → G us)
        → (first_is f ts ≡ true → Match G (a (drop 1 ts)) (drop 1 ts) c) → Match H (b ts) ts d → Match H ((if first_is f ts then a else b) (after (first_is f) ts)) ts Going
    eat_match ts shrinks h k = eat_case ts shrinks (first_is f ts) refl h k

  pub like_eat : {B : Type 0} (f : Lexeme → Bool) (a b c d : Reader B) → Like a c → Like b d
      → Like (λ ts. (if first_is f ts then a else b) (after (first_is f) ts)) (λ ts. (if first_is f ts then c else d) (after (first_is f) ts))
  like_eat f a b c d h k ts = eat_match Any Any f a b c d ts (λ t rest us e _. tt) (λ _. h (drop 1 ts)) (k ts)

  -- a reader that goes on by what comes first
  module _ {B : Type 0} (f : Lexeme → Bool) (a b c d : Reader B) (ts : List Token) where
    look_case : (v : Bool) → first_is f ts ≡ v → (first_is f ts ≡ true → Match Any (a ts) ts c) → (first_is f ts ≡ false → Match Any (b ts) ts d)
        → Match Any (if v then a ts else b ts) ts (λ us. if first_is f us then c us else d us)
    look_case true e h k =
        match_as Any Any (a ts) ts c (λ us. if first_is f us then c us else d us) (λ us peek _. (ap (λ w. if w then c us else d us) (peek_first f ts us peek ∙ e), tt)) (h e)
    look_case false e h k =
        match_as Any Any (b ts) ts d (λ us. if first_is f us then c us else d us) (λ us peek _. (ap (λ w. if w then c us else d us) (peek_first f ts us peek ∙ e), tt)) (k e)

    pub look_match : (first_is f ts ≡ true → Match Any (a ts) ts c) → (first_is f ts ≡ false → Match Any (b ts) ts d)
        → Match Any (if first_is f ts then a ts else b ts) ts (λ us. if first_is f us then c us else d us)
    look_match h k = look_case (first_is f ts) refl h k

  pub like_look : {B : Type 0} (f : Lexeme → Bool) (a b c d : Reader B) → Like a c → Like b d → Like (λ ts. if first_is f ts then a ts else b ts) (λ ts. if first_is f ts then c ts else d ts)
  like_look f a b c d h k ts = look_match f a b c d ts (λ _. h ts) (λ _. k ts)

  module _ (f : Lexeme → Bool) where
    none_there : (us : List Token) → Peek [] us → expect_if (first_is f) us ≡ Err (Unexpected (length us))
    none_there [] h = refl
    none_there (u ∷ us) h = absurd h

    other_there : (t : Token) (ts us : List Token) → f t.lexeme ≡ false → Peek (t ∷ ts) us → expect_if (first_is f) us ≡ Err (Unexpected (length us))
    other_there t ts [] e h = absurd h
    other_there t ts (u ∷ us) e h = ap (λ w. if w then given tt us else unexpected (u ∷ us)) (ap (λ v. f v.lexeme) (sym h) ∙ e)

    expect_case : (t : Token) (ts : List Token) (v : Bool) → f t.lexeme ≡ v → Match Any (if v then given tt ts else unexpected (t ∷ ts)) (t ∷ ts) (expect_if (first_is f))
    expect_case t ts true e = (t ∷ [], refl, λ us peek _. ap (λ w. if w then given tt us else unexpected (t ∷ us)) e)
    expect_case t ts false e = ([], t ∷ ts, refl, refl, λ us peek _. other_there t ts us e peek)

    pub like_expect : Like (expect_if (first_is f)) (expect_if (first_is f))
    like_expect [] = ([], [], refl, refl, λ us peek _. none_there us peek)
    like_expect (t ∷ ts) = expect_case t ts (f t.lexeme) refl

  module _ (f : Lexeme → Option (List ℕ)) where
    nothing_there : (us : List Token) → Peek [] us → take_first f us ≡ Err (Unexpected (length us))
    nothing_there [] h = refl
    nothing_there (u ∷ us) h = absurd h

    another_there : (t : Token) (ts us : List Token) → f t.lexeme ≡ None → Peek (t ∷ ts) us → take_first f us ≡ Err (Unexpected (length us))
    another_there t ts [] e h = absurd h
    another_there t ts (u ∷ us) e h = ap (λ o. taken (u ∷ us) u.loc us o) (ap (λ v. f v.lexeme) (sym h) ∙ e)

    take_case : (t : Token) (ts : List Token) (o : Option (List ℕ)) → f t.lexeme ≡ o → Match Any (taken (t ∷ ts) t.loc ts o) (t ∷ ts) (take_first f)
    take_case t ts (Some s) e = (t ∷ [], refl, λ us peek _. ap (λ o. taken (t ∷ us) t.loc us o) e)
    take_case t ts None e = ([], t ∷ ts, refl, refl, λ us peek _. another_there t ts us e peek)

    pub like_take : Like (take_first f) (take_first f)
    like_take [] = ([], [], refl, refl, λ us peek _. nothing_there us peek)
    like_take (t ∷ ts) = take_case t ts (f t.lexeme) refl

  -- ---- places

  -- what is read, with its place
  abbrev pub placed : {A B : Type 0} → (A → Loc → B) → Reader A → Reader B
  placed f p = λ ts. and_then (p ts) (λ x rest. given (f x (between ts rest)) rest)

  placed_match : {A B : Type 0} (f : A → Loc → B) (o : Outcome A) (ts : List Token) (q : Reader A) → Match Any o ts q → Match Any (and_then o (λ x rest. given (f x (between ts rest)) rest)) ts (placed f q)
  placed_match f (Ok p) ts q h = (
    h.0,
    h.1,
    λ us peek _.
        bind_on (q (h.0 ++ us)) (λ x rest. given (f x (between (h.0 ++ us) rest)) rest) p.0 us (h.2 us peek tt)
        ∙ ap (λ l. given (f p.0 l) us) (peek_place h.0 p.1 us peek ∙ sym (ap (λ vs. between vs p.1) h.1)),
  )
  placed_match f (Err (Unexpected left)) ts q h = (h.0, h.1, h.2, h.3, λ us peek _. bind_err (q (h.0 ++ us)) _ _ (h.4 us peek tt))
  placed_match f (Err (TooDeep left)) ts q h = λ e.
      let k = h e in (k.0, k.1, k.2, k.3, k.4, λ us peek op _. bind_err (q (k.0 ++ us)) _ _ (k.5 us peek op tt))
  placed_match f (Err Memory) ts q h = tt

  pub like_placed : {A B : Type 0} (f : A → Loc → B) (p q : Reader A) → Like p q → Like (placed f p) (placed f q)
  like_placed f p q h ts = placed_match f (p ts) ts q (h ts)

  -- a reader that uses the place of the first token
  pub like_first : {A : Type 0} (p q : Loc → Reader A) → ((l : Loc) → Like (p l) (q l)) → Like (λ ts. p (first_loc ts) ts) (λ ts. q (first_loc ts) ts)
  like_first p q h ts =
      match_as Any Any (p (first_loc ts) ts) ts (q (first_loc ts)) (λ us. q (first_loc us) us) (λ us peek _. (ap (λ l. q l us) (peek_loc ts us peek), tt)) (h (first_loc ts) ts)

  no_tokens : {A : Type 0} (q : Reader A) (us : List Token) → Peek [] us → q (drop 1 us) ≡ q us
  no_tokens q [] h = refl
  no_tokens q (u ∷ us) h = absurd h

  -- behind the first token, whatever it is
  pub like_drop : {A : Type 0} (p q : Reader A) → Like p q → Like (λ ts. p (drop 1 ts)) (λ ts. q (drop 1 ts))
  like_drop p q h [] = match_as Any Any (p []) [] q (λ us. q (drop 1 us)) (λ us peek _. (no_tokens q us peek, tt)) (h [])
  like_drop p q h (t ∷ ts) = behind_one Any Any t ts q (λ us. q (drop 1 us)) (λ us _. (refl, tt)) (p ts) (h ts)

  -- ---- lists

  -- the turns that are left for the tokens differ as the tokens do
  abbrev pub Turns : ℕ → ℕ → List Token → List Token → Type 0
  Turns n k ts us = k + length ts ≡ n + length us

  -- where there is no turn for the tokens there are none
  pub no_turn : (n : ℕ) (ts us : List Token) → length ts ≤ suc n → Peek ts us → Turns (suc n) 0 ts us → ⊥
  no_turn n [] us le peek e = absurd (omega arith)
  no_turn n (t ∷ ts) [] le peek e = absurd peek
  no_turn n (t ∷ ts) (u ∷ us) le peek e = absurd (omega arith)

  -- a guard that asks for more
  pub free : {A : Type 0} (H : List Token → Type 0) (o : Outcome A) (ts : List Token) (q : Reader A) → Match Any o ts q → Match H o ts q
  free H o ts q h = match_as Any H o ts q q (λ us peek _. (refl, tt)) h

  pub fewer : (n k : ℕ) (ts pre mid us : List Token) → ts ≡ pre ++ mid → Turns n k ts (pre ++ us) → Turns n k mid us
  fewer n k ts pre mid us e turns = omega (arith, ap length e, length-append pre mid, length-append pre us)

  one_fewer : (n k : ℕ) (mid : List Token) (t : Token) (rest us : List Token) → mid ≡ t ∷ rest → Turns (suc n) (suc k) mid (t ∷ us) → Turns n k (drop 1 mid) us
  one_fewer n k mid t rest us e turns =
      let l : length (drop 1 mid) ≡ length rest = ap (λ vs. length (drop 1 vs)) e in
      omega (arith, ap length e)

  -- a loop with as many turns as there are tokens
  pub all_turns : {A : Type 0} (o : Outcome A) (ts : List Token) (q : ℕ → Reader A) → ((k : ℕ) → Match (Turns (length ts) k ts) o ts (q k)) → Match Any o ts (λ us. q (length us) us)
  all_turns (Ok p) ts q each =
      let one = each 0 in (
        one.0,
        one.1,
        λ us peek _.
            let k = length (one.0 ++ us) in
            let it = each k in
            let same = (part it.0 one.0 p.1 p.1 (sym it.1 ∙ one.1) refl).0 in
            ap (λ pre. q k (pre ++ us)) (sym same) ∙ it.2 us peek (omega (arith, ap (λ pre. length (pre ++ us)) same)),
      )
  all_turns (Err (Unexpected left)) ts q each =
      let one = each 0 in (
        one.0,
        one.1,
        one.2,
        one.3,
        λ us peek _.
            let k = length (one.0 ++ us) in
            let it = each k in
            let same = part it.0 one.0 it.1 one.1 (sym it.2 ∙ one.2) (sym it.3 ∙ one.3) in
            let P : List Token → Type 0 = λ rest. Peek rest us in
            ap (λ pre. q k (pre ++ us)) (sym same.0) ∙ it.4 us (subst P (sym same.1) peek) (omega (arith, ap (λ pre. length (pre ++ us)) same.0)),
      )
  all_turns (Err (TooDeep left)) ts q each = λ e.
      let one = each 0 e in (
        one.0,
        one.1,
        one.2,
        one.3,
        one.4,
        λ us peek op _.
            let k = length (one.0 ++ us) in
            let it = each k e in
            let same = part it.0 one.0 it.1 one.1 (sym it.2 ∙ one.2) (sym it.3 ∙ one.3) in
            let P : List Token → Type 0 = λ rest. Peek rest us in
            ap (λ pre. q k (pre ++ us)) (sym same.0) ∙ it.5 us (subst P (sym same.1) peek) op (omega (arith, ap (λ pre. length (pre ++ us)) same.0)),
      )
  all_turns (Err Memory) ts q each = tt

  module _ {A : Type 0} (item other : Reader A) (alike : Like item other) where
    -- item {separator item}
    module _ (m : Symbol) where
      abbrev Separated : ℕ → ℕ → List Token → List A → Type 0
      Separated n k ts found = Match (Turns n k ts) (separated_from item m n found ts) ts (separated_from other m k found)

      separated_turn : (n k : ℕ) (found : List A) (ts : List Token) → ((more : List A) (us : List Token) → length us ≤ n → Separated n k us more) → length ts ≤ suc n → Separated (suc n) (suc k) ts found
      unfolding separated_from
      separated_turn n k found ts again le =
          bind_match (Turns (suc n) (suc k) ts) other (λ x us. (if sees m us then separated_from item m n (found ++ x ∷ []) else pure (found ++ x ∷ [])) (after (sees m) us))
          (λ x us. (if sees m us then separated_from other m k (found ++ x ∷ []) else pure (found ++ x ∷ [])) (after (sees m) us)) ts (item ts) (alike ts)
          (λ x mid pre e s. (
            Turns (suc n) (suc k) mid,
            eat_match (Turns n k (drop 1 mid)) (Turns (suc n) (suc k) mid) (is_symbol m) (separated_from item m n (found ++ x ∷ [])) (pure (found ++ x ∷ []))
                (separated_from other m k (found ++ x ∷ [])) (pure (found ++ x ∷ [])) mid (λ t rest us same turns. one_fewer n k mid t rest us same turns)
                (λ sep. again (found ++ x ∷ []) (drop 1 mid) (omega (arith, dropped (is_symbol m) mid sep, ap length s, length-append pre mid)))
                (free (Turns (suc n) (suc k) mid) (given (found ++ x ∷ []) mid) mid (pure (found ++ x ∷ [])) (like_pure (found ++ x ∷ []) mid)),
            λ us turns. fewer (suc n) (suc k) ts pre mid us s turns,
          ))

      separated_none : (k : ℕ) (found : List A) (us : List Token) → Peek [] us → Turns 0 k [] us → separated_from other m k found us ≡ Err (Unexpected (length us))
      unfolding separated_from
      separated_none zero found [] h e = refl
      separated_none (suc k) found [] h e = absurd (omega arith)
      separated_none k found (u ∷ us) h e = absurd h

      separated_match : (n k : ℕ) (found : List A) (ts : List Token) → length ts ≤ n → Separated n k ts found
      unfolding separated_from
      separated_match zero k found [] le = ([], [], refl, refl, λ us peek turns. separated_none k found us peek turns)
      separated_match zero k found (t ∷ ts) le = absurd (omega arith)
      separated_match (suc n) zero found ts le =
          match_as (Turns (suc n) 1 ts) (Turns (suc n) 0 ts) (separated_from item m (suc n) found ts) ts (separated_from other m 1 found) (separated_from other m 0 found)
          (λ us peek turns. absurd (no_turn n ts us le peek turns)) (separated_turn n 0 found ts (λ more us. separated_match n 0 more us) le)
      separated_match (suc n) (suc k) found ts le = separated_turn n k found ts (λ more us. separated_match n k more us) le

      pub like_separated : Like (separated item m) (separated other m)
      like_separated ts = all_turns (separated item m ts) ts (λ k. separated_from other m k []) (λ k. separated_match (length ts) k [] ts (omega arith))

    -- [item {"," item} [","]] and the symbol that closes
    module _ (close : Symbol) where
      abbrev Until : ℕ → ℕ → List Token → List A → Type 0
      Until n k ts found = Match (Turns n k ts) (until_from item close n found ts) ts (until_from other close k found)

      closes : (found : List A) → Like (λ us. and_then (expect close us) (λ _. pure found)) (λ us. and_then (expect close us) (λ _. pure found))
      closes found = like_bind (expect close) (expect close) (λ _. pure found) (λ _. pure found) (like_expect (is_symbol close)) (λ _. like_pure found)

      until_turn : (n k : ℕ) (found : List A) (ts : List Token) → ((more : List A) (us : List Token) → length us ≤ n → Until n k us more) → length ts ≤ suc n → Until (suc n) (suc k) ts found
      unfolding until_from
      until_turn n k found ts again le =
          eat_match Any (Turns (suc n) (suc k) ts) (is_symbol close) (pure found) (λ us. and_then (item us) (λ x. behind item close n (found ++ x ∷ [])))
          (pure found) (λ us. and_then (other us) (λ x. behind other close k (found ++ x ∷ []))) ts (λ t rest us same turns. tt) (λ _. like_pure found (drop 1 ts))
          (bind_match (Turns (suc n) (suc k) ts) other (λ x. behind item close n (found ++ x ∷ [])) (λ x. behind other close k (found ++ x ∷ [])) ts (item ts) (alike ts)
          (λ x mid pre e s. (
            Turns (suc n) (suc k) mid,
            eat_match (Turns n k (drop 1 mid)) (Turns (suc n) (suc k) mid) (is_symbol sign.Comma) (until_from item close n (found ++ x ∷ [])) (λ us. and_then (expect close us) (λ _. pure (found ++ x ∷ [])))
                (until_from other close k (found ++ x ∷ [])) (λ us. and_then (expect close us) (λ _. pure (found ++ x ∷ []))) mid (λ t rest us same turns. one_fewer n k mid t rest us same turns)
                (λ sep. again (found ++ x ∷ []) (drop 1 mid) (omega (arith, dropped (is_symbol sign.Comma) mid sep, ap length s, length-append pre mid)))
                (free (Turns (suc n) (suc k) mid) (and_then (expect close mid) (λ _. pure (found ++ x ∷ []))) mid (λ us. and_then (expect close us) (λ _. pure (found ++ x ∷ []))) (closes (found ++ x ∷ []) mid)),
            λ us turns. fewer (suc n) (suc k) ts pre mid us s turns,
          )))

      until_none : (k : ℕ) (found : List A) (us : List Token) → Peek [] us → Turns 0 k [] us → until_from other close k found us ≡ Err (Unexpected (length us))
      unfolding until_from
      until_none zero found [] h e = refl
      until_none (suc k) found [] h e = absurd (omega arith)
      until_none k found (u ∷ us) h e = absurd h

      until_match : (n k : ℕ) (found : List A) (ts : List Token) → length ts ≤ n → Until n k ts found
      unfolding until_from
      until_match zero k found [] le = ([], [], refl, refl, λ us peek turns. until_none k found us peek turns)
      until_match zero k found (t ∷ ts) le = absurd (omega arith)
      until_match (suc n) zero found ts le =
          match_as (Turns (suc n) 1 ts) (Turns (suc n) 0 ts) (until_from item close (suc n) found ts) ts (until_from other close 1 found) (until_from other close 0 found)
          (λ us peek turns. absurd (no_turn n ts us le peek turns)) (until_turn n 0 found ts (λ more us. until_match n 0 more us) le)
      until_match (suc n) (suc k) found ts le = until_turn n k found ts (λ more us. until_match n k more us) le

      pub like_until : Like (until item close) (until other close)
      like_until ts = all_turns (until item close ts) ts (λ k. until_from other close k []) (λ k. until_match (length ts) k [] ts (omega arith))

      pub like_some : Like (some_until item close) (some_until other close)
      like_some = like_look (is_symbol close) unexpected (until item close) unexpected (until other close) like_unexpected like_until

    -- {item}, as long as a test passes that looks at the first token
    module _ (shorter : (x : A) (ts rest : List Token) → item ts ≡ Ok (x, rest) → length rest < length ts) (go : List Token → Bool) (same_go : (ts us : List Token) → Peek ts us → go us ≡ go ts) where
      abbrev While : ℕ → ℕ → List Token → List A → Type 0
      While n k ts found = Match (Turns n k ts) (while_from item go n found ts) ts (while_from other go k found)

      while_case : (n k : ℕ) (found : List A) (ts : List Token) → ((more : List A) (us : List Token) → length us ≤ n → While n k us more) → length ts ≤ suc n → (v : Bool) → go ts ≡ v
          → Match (Turns (suc n) (suc k) ts) (if v then and_then (item ts) (λ x. while_from item go n (found ++ x ∷ [])) else given found ts) ts (while_from other go (suc k) found)
      unfolding while_from
      while_case n k found ts again le true e =
          match_as (Turns (suc n) (suc k) ts) (Turns (suc n) (suc k) ts) (and_then (item ts) (λ x. while_from item go n (found ++ x ∷ []))) ts
          (λ us. and_then (other us) (λ x. while_from other go k (found ++ x ∷ []))) (while_from other go (suc k) found)
          (λ us peek ok. (ap (λ w. if w then and_then (other us) (λ x. while_from other go k (found ++ x ∷ [])) else given found us) (same_go ts us peek ∙ e), ok))
          (bind_match (Turns (suc n) (suc k) ts) other (λ x. while_from item go n (found ++ x ∷ [])) (λ x. while_from other go k (found ++ x ∷ [])) ts (item ts) (alike ts)
          (λ x mid pre r s. (
            Turns n k mid,
            again (found ++ x ∷ []) mid (omega (arith, shorter x ts mid r)),
            λ us turns. omega (arith, fewer (suc n) (suc k) ts pre mid us s turns),
          )))
      while_case n k found ts again le false e =
          match_as (Turns (suc n) (suc k) ts) (Turns (suc n) (suc k) ts) (given found ts) ts (pure found) (while_from other go (suc k) found)
          (λ us peek ok. (ap (λ w. if w then and_then (other us) (λ x. while_from other go k (found ++ x ∷ [])) else given found us) (same_go ts us peek ∙ e), ok))
          (free (Turns (suc n) (suc k) ts) (given found ts) ts (pure found) (like_pure found ts))

      while_turn : (n k : ℕ) (found : List A) (ts : List Token) → ((more : List A) (us : List Token) → length us ≤ n → While n k us more) → length ts ≤ suc n → While (suc n) (suc k) ts found
      unfolding while_from
      while_turn n k found ts again le = while_case n k found ts again le (go ts) refl

      while_end : (k : ℕ) (found : List A) (us : List Token) → Peek [] us → Turns 0 k [] us → while_from other go k found us ≡ Ok (found, us)
      unfolding while_from
      while_end zero found us h e = refl
      while_end (suc k) found [] h e = absurd (omega arith)
      while_end (suc k) found (u ∷ us) h e = absurd h

      while_match : (n k : ℕ) (found : List A) (ts : List Token) → length ts ≤ n → While n k ts found
      unfolding while_from
      while_match zero k found [] le = ([], refl, λ us peek turns. while_end k found us peek turns)
      while_match zero k found (t ∷ ts) le = absurd (omega arith)
      while_match (suc n) zero found ts le =
          match_as (Turns (suc n) 1 ts) (Turns (suc n) 0 ts) (while_from item go (suc n) found ts) ts (while_from other go 1 found) (while_from other go 0 found)
          (λ us peek turns. absurd (no_turn n ts us le peek turns)) (while_turn n 0 found ts (λ more us. while_match n 0 more us) le)
      while_match (suc n) (suc k) found ts le = while_turn n k found ts (λ more us. while_match n k more us) le

      pub like_while : Like (while item go) (while other go)
      like_while ts = all_turns (while item go ts) ts (λ k. while_from other go k []) (λ k. while_match (length ts) k [] ts (omega arith))
