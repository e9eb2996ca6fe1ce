-- What single steps of reading take, and that they take what is written.
use Rattle.std.proofs.Common.{◌≡◌, ℕ, Bool, true, false, ◌&&◌, List, [], ◌∷◌, drop, bytes_eq, Ok, Err, Option, Some, None, ◌⊎◌, inl, inr, refl, ap, ◌∙◌, subst, rules}
use Rattle.std.specs.Prelude.{codes, if◌then◌else◌}
use Rattle.std.proofs.lemmas.Slice.Eq.{bytes_eq-Decides}
use denote.Enum.Bare.{same_true, true_same}
use Rattle.cedar_ast.specs.declared.loc.Loc.{Loc}
use Rattle.cedar_schema_tokens.specs.Token.{Lexeme, ident, text, symbol, Token}
use Rattle.cedar_schema_tokens.specs.contracts.token.Symbol.{the_type}
use Rattle.cedar_schema_tokens.specs.declared.token.Symbol.{Symbol}
use Rattle.cedar_schema_tokens.specs.declared.token.Symbol.TheVariants as sign
use Rattle.cedar_schema_grammar.specs.Tree.{Name}
use Rattle.cedar_schema_grammar.specs.Grammar.{Form, mark, word, IsId, IsText, IsName}
use Rattle.cedar_schema_grammar.specs.Reading.{Outcome, Reader, and_then, unexpected, same_symbol, is_symbol, is_word, id_of, text_of, name_of, sees, sees_word, after, expect_if, expect, expect_word, taken, id, id_text, quoted, name, begins_set}
use Rattle.cedar_schema_grammar.proofs.Turns.{given}

-- ---- one step after another

pub bind_ok : {A B : Type 0} (o : Outcome A) (f : A → Reader B) (y : B) (rest : List Token) → and_then o f ≡ Ok (y, rest) → (x : A) × (mid : List Token) × (o ≡ Ok (x, mid)) × (f x mid ≡ Ok (y, rest))
bind_ok (Ok p) f y rest e = (p.0, p.1, refl, e)
bind_ok (Err d) f y rest e = absurd (cc)

pub chosen : {A : Type 0} (b : Bool) (x y z : A) → (if b then x else y) ≡ z → ((b ≡ true) × (x ≡ z)) ⊎ ((b ≡ false) × (y ≡ z))
chosen true x y z e = inl (refl, e)
chosen false x y z e = inr (refl, e)

pub chosen_at : {B : Type 0} (b : Bool) (p q : Reader B) (ts : List Token) (z : Outcome B) → (if b then p else q) ts ≡ z → ((b ≡ true) × (p ts ≡ z)) ⊎ ((b ≡ false) × (q ts ≡ z))
chosen_at true p q ts z e = inl (refl, e)
chosen_at false p q ts z e = inr (refl, e)

abbrev value_or : {A : Type 0} → A → Outcome A → A
value_or x (Ok p) = p.0
value_or x (Err d) = x

abbrev rest_of : {A : Type 0} → Outcome A → List Token
rest_of (Ok p) = p.1
rest_of (Err d) = []

pub same_pair : {A : Type 0} (x y : A) (ts us : List Token) → given x ts ≡ given y us → (x ≡ y) × (ts ≡ us)
same_pair x y ts us e = (ap (value_or x) e, ap rest_of e)

-- the last step gives what was built
pub finish : {A : Type 0} (form : A → Form) (x y : A) (ts us rest : List Token) → given y us ≡ given x rest → form y ts us → form x ts rest
finish form x y ts us rest e h =
    let s = same_pair y x us rest e in
    let P : _ → Type 0 = λ z. form z ts rest in
    let Q : List Token → Type 0 = λ vs. form y ts vs in
    subst P s.0 (subst Q s.1 h)

-- the form goes on to the same rest
pub carry : (form : Form) (ts us rest : List Token) → us ≡ rest → form ts us → form ts rest
carry form ts us rest e h = let Q : List Token → Type 0 = λ vs. form ts vs in subst Q e h

-- ---- one token or none

-- the tokens pass the test, and these come behind the first
abbrev pub Opens : (List Token → Bool) → List Token → List Token → Type 0
Opens p ts next = (p ts ≡ true) × (drop 1 ts ≡ next)

module _ {B : Type 0} (p : List Token → Bool) (a b : Reader B) (ts : List Token) where
  eaten_by : (c : Bool) (z : Outcome B) → p ts ≡ c → (if c then a else b) (if c then drop 1 ts else ts) ≡ z → ((p ts ≡ true) × (a (drop 1 ts) ≡ z)) ⊎ ((p ts ≡ false) × (b ts ≡ z))
  eaten_by true z s e = inl (s, e)
  eaten_by false z s e = inr (s, e)

  -- a reader that goes on by whether it took the token
  pub eaten : (z : Outcome B) → (if p ts then a else b) (after p ts) ≡ z → ((p ts ≡ true) × (a (drop 1 ts) ≡ z)) ⊎ ((p ts ≡ false) × (b ts ≡ z))
  eaten z e = eaten_by (p ts) z refl e

  pub goes : (next : List Token) → Opens p ts next → (if p ts then a else b) (after p ts) ≡ a next
  goes next o = ap (λ c. (if c then a else b) (if c then drop 1 ts else ts)) o.0 ∙ ap a o.1

  pub stays : p ts ≡ false → (if p ts then a else b) (after p ts) ≡ b ts
  stays e = ap (λ c. (if c then a else b) (if c then drop 1 ts else ts)) e

-- ---- symbols and words

pub same_self : (m : Symbol) → same_symbol m m ≡ true
same_self m = true_same the_type m m refl

abbrev token_of : Loc → Lexeme → Token
token_of loc l = record { lexeme = l; loc = loc }

symbol_is : (m : Symbol) (l : Lexeme) → is_symbol m l ≡ true → l ≡ symbol m
symbol_is m (ident s) e = absurd (cc)
symbol_is m (text s) e = absurd (cc)
symbol_is m (symbol k) e = ap symbol (same_true the_type (search rules) k m e)

word_is : (w : List ℕ) (l : Lexeme) → is_word w l ≡ true → l ≡ ident w
word_is w (ident s) e = ap ident ((bytes_eq-Decides s w).0 e)
word_is w (text s) e = absurd (cc)
word_is w (symbol k) e = absurd (cc)

pub sees_is : (m : Symbol) (ts : List Token) → sees m ts ≡ true → mark m ts (drop 1 ts)
sees_is m [] e = absurd (cc)
sees_is m (t ∷ ts) e = (t.loc, ap (λ l. token_of t.loc l ∷ ts) (symbol_is m t.lexeme e))

pub word_at : (w : List ℕ) (ts : List Token) → sees_word w ts ≡ true → (loc : Loc) × (ts ≡ token_of loc (ident w) ∷ drop 1 ts)
word_at w [] e = absurd (cc)
word_at w (t ∷ ts) e = (t.loc, ap (λ l. token_of t.loc l ∷ ts) (word_is w t.lexeme e))

pub opens : (m : Symbol) (ts next : List Token) → mark m ts next → Opens (sees m) ts next
opens m ts next h = (ap (sees m) h.1 ∙ same_self m, ap (drop 1) h.1)

pub opens_word : (w : List ℕ) (ts next : List Token) → bytes_eq w w ≡ true → word w ts next → Opens (sees_word w) ts next
opens_word w ts next same h = (ap (sees_word w) h.1 ∙ same, ap (drop 1) h.1)

-- another symbol comes next
pub other : (m k : Symbol) (ts next : List Token) → mark m ts next → same_symbol m k ≡ false → sees k ts ≡ false
other m k ts next h e = ap (sees k) h.1 ∙ e

expected : (p : List Token → Bool) (ts rest : List Token) (u : Unit {0}) → expect_if p ts ≡ Ok (u, rest) → Opens p ts rest
expected p ts rest u e =
    elim (chosen (p ts) _ _ _ e) [ inl q ↦ (q.0, (same_pair tt u (drop 1 ts) rest q.1).1) | inr q ↦ absurd (let never = q.1 in cc) ]

pub expect_ok : (m : Symbol) (ts rest : List Token) (u : Unit {0}) → expect m ts ≡ Ok (u, rest) → mark m ts rest
expect_ok m ts rest u e = let o = expected (sees m) ts rest u e in carry (mark m) ts (drop 1 ts) rest o.1 (sees_is m ts o.0)

pub expect_word_ok : (w : List ℕ) (ts rest : List Token) (u : Unit {0}) → expect_word w ts ≡ Ok (u, rest) → word w ts rest
expect_word_ok w ts rest u e = let o = expected (sees_word w) ts rest u e in carry (word w) ts (drop 1 ts) rest o.1 (word_at w ts o.0)

pub expect_on : (p : List Token → Bool) (ts rest : List Token) → Opens p ts rest → expect_if p ts ≡ Ok (tt, rest)
expect_on p ts rest o = ap (λ b. if b then given tt (drop 1 ts) else unexpected ts) o.0 ∙ ap (given tt) o.1

-- ---- ids and texts

module _ (f : Lexeme → Option (List ℕ)) (form : Name → Form) where
  taken_is : (all : List Token) (loc : Loc) (ts rest : List Token) (x : Name) (o : Option (List ℕ))
      → ((s : List ℕ) → o ≡ Some s → form (record { text = s; loc = loc }) all ts) → taken all loc ts o ≡ Ok (x, rest) → form x all rest
  taken_is all loc ts rest x (Some s) has e = finish form x (record { text = s; loc = loc }) all ts rest e (has s refl)
  taken_is all loc ts rest x None has e = absurd (cc)

id_is : (l : Lexeme) (s : List ℕ) → id_of l ≡ Some s → l ≡ ident s
id_is (ident w) s e = (cc)
id_is (text w) s e = absurd (cc)
id_is (symbol m) s e = absurd (cc)

text_is : (l : Lexeme) (s : List ℕ) → text_of l ≡ Some s → l ≡ text s
text_is (ident w) s e = absurd (cc)
text_is (text w) s e = (cc)
text_is (symbol m) s e = absurd (cc)

name_is : (l : Lexeme) (s : List ℕ) → name_of l ≡ Some s → (l ≡ ident s) ⊎ (l ≡ text s)
name_is (ident w) s e = inl (cc)
name_is (text w) s e = inr (cc)
name_is (symbol m) s e = absurd (cc)

pub id_ok : (x : Name) (ts rest : List Token) → id ts ≡ Ok (x, rest) → IsId x ts rest
id_ok x [] rest e = absurd (cc)
id_ok x (t ∷ ts) rest e =
    taken_is id_of IsId (t ∷ ts) t.loc ts rest x (id_of t.lexeme) (λ s same. ap (λ l. token_of t.loc l ∷ ts) (id_is t.lexeme s same)) e

pub quoted_ok : (x : Name) (ts rest : List Token) → quoted ts ≡ Ok (x, rest) → IsText x ts rest
quoted_ok x [] rest e = absurd (cc)
quoted_ok x (t ∷ ts) rest e =
    taken_is text_of IsText (t ∷ ts) t.loc ts rest x (text_of t.lexeme) (λ s same. ap (λ l. token_of t.loc l ∷ ts) (text_is t.lexeme s same)) e

named : (t : Token) (ts : List Token) (s : List ℕ) → (t.lexeme ≡ ident s) ⊎ (t.lexeme ≡ text s) → IsName (record { text = s; loc = t.loc }) (t ∷ ts) ts
named t ts s (inl e) = inl (ap (λ l. token_of t.loc l ∷ ts) e)
named t ts s (inr e) = inr (ap (λ l. token_of t.loc l ∷ ts) e)

pub name_ok : (x : Name) (ts rest : List Token) → name ts ≡ Ok (x, rest) → IsName x ts rest
name_ok x [] rest e = absurd (cc)
name_ok x (t ∷ ts) rest e =
    taken_is name_of IsName (t ∷ ts) t.loc ts rest x (name_of t.lexeme) (λ s same. named t ts s (name_is t.lexeme s same)) e

pub id_text_ok : (s : List ℕ) (ts rest : List Token) → id_text ts ≡ Ok (s, rest) → word s ts rest
id_text_ok s ts rest e =
    let x = bind_ok (id ts) _ s rest e in
    finish word s x.0.text ts x.1 rest x.3 (x.0.loc, id_ok x.0 ts x.1 x.2)

pub id_on : (x : Name) (ts rest : List Token) → IsId x ts rest → id ts ≡ Ok (x, rest)
id_on x ts rest h = ap id h

pub quoted_on : (x : Name) (ts rest : List Token) → IsText x ts rest → quoted ts ≡ Ok (x, rest)
quoted_on x ts rest h = ap quoted h

pub name_on : (x : Name) (ts rest : List Token) → IsName x ts rest → name ts ≡ Ok (x, rest)
name_on x ts rest (inl h) = ap name h
name_on x ts rest (inr h) = ap name h

pub id_text_on : (s : List ℕ) (ts rest : List Token) → word s ts rest → id_text ts ≡ Ok (s, rest)
id_text_on s ts rest h = ap id_text h.1

-- ---- sets

pub and_true : (a b : Bool) → a && b ≡ true → (a ≡ true) × (b ≡ true)
and_true true b e = (refl, e)
and_true false b e = absurd (cc)

pub set_is : (ts : List Token) → begins_set ts ≡ true → word (codes "Set") ts (drop 1 ts) × mark sign.Less (drop 1 ts) (drop 2 ts)
set_is [] e = absurd (cc)
set_is (t ∷ ts) e = let p = and_true _ _ e in (word_at (codes "Set") (t ∷ ts) p.0, sees_is sign.Less ts p.1)
