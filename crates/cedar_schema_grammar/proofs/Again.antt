-- What is in the grammar is read, where its types are at most at the limit.
use Rattle.std.proofs.Common.{◌≡◌, ℕ, zero, suc, ◌≤◌, Bool, true, false, not, ◌&&◌, List, [], ◌∷◌, length, drop, Ok, inl, inr, refl, sym, ap, ap₂, ◌∙◌, subst, arith}
use Rattle.std.specs.Prelude.{codes, if◌then◌else◌}
use Rattle.cedar_schema_tokens.specs.Token.{Lexeme, ident, symbol, Token}
use Rattle.cedar_schema_tokens.specs.declared.token.Symbol.{Symbol}
use Rattle.cedar_schema_tokens.specs.declared.token.Symbol.TheVariants as sign
use Rattle.cedar_schema_grammar.specs.Tree.{Name, Path, Ty, named, set_of, record_of, Attributes, no_attributes, attribute, Attribute, attributes_from, level, level_of_all}
use Rattle.cedar_schema_grammar.specs.Grammar.{Form, ◌then◌, optional, mark, word, separated as separated_form, any, IsId, IsText, IsName, IsPath, IsAnnotation, AreAnnotations, IsPresence, IsType, AreAttributes, AreMore, between}
use Rattle.cedar_schema_grammar.specs.Reading.{Reader, pure, first_is, is_symbol, same_symbol, sees, sees_word, after, expect, id, id_text, name, quoted, path, annotation, annotations, begins_set, attribute_with, set_with, record_with, type_by, too_deep, type_at, separated, until}
use Rattle.cedar_schema_grammar.proofs.Turns.{given, bind_on}
use Rattle.cedar_schema_grammar.proofs.Steps.{Opens, goes, stays, opens, other, expect_on, id_on, id_text_on, name_on, quoted_on}
use Rattle.cedar_schema_grammar.proofs.Lists.{one_less, Less, Most, separated_less, many_most, separated_again, until_again, while_again}
use Rattle.cedar_schema_grammar.proofs.Takes.{Bounded, IsAttribute, Inner, gather_any, path_type}

-- what is of the form is read, where what follows ends it
abbrev pub Again : {A : Type 0} → Reader A → (A → Form) → (List Token → Type 0) → Type 0
Again p form Ends = (x : _) (ts rest : List Token) → form x ts rest → Ends rest → p ts ≡ Ok (x, rest)

pub picks : {A : Type 0} (b : Bool) (x y : A) → b ≡ true → (if b then x else y) ≡ x
picks b x y e = ap (λ c. if c then x else y) e

pub leaves : {A : Type 0} (b : Bool) (x y : A) → b ≡ false → (if b then x else y) ≡ y
leaves b x y e = ap (λ c. if c then x else y) e

-- ---- tokens are taken

pub id_less : (x : Name) → Less (IsId x)
id_less x ts rest h = omega (arith, ap length h)

pub text_less : (x : Name) → Less (IsText x)
text_less x ts rest h = omega (arith, ap length h)

pub name_less : (x : Name) → Less (IsName x)
name_less x ts rest (inl h) = omega (arith, ap length h)
name_less x ts rest (inr h) = omega (arith, ap length h)

pub word_less : (w : List ℕ) → Less (word w)
word_less w ts rest h = omega (arith, ap length h.1)

pub path_less : (p : Path) → Less (IsPath p)
path_less p ts rest h = separated_less word word_less sign.PathSeparator p.ids ts rest h.0

pub optional_most : (m : Symbol) → Most (optional (mark m))
optional_most m ts rest (inl h) = omega (arith, one_less m ts rest h)
optional_most m ts rest (inr h) = omega (arith, ap length h)

pub annotation_less : (x : Name) → Less (IsAnnotation x)
annotation_less x ts rest (a, start, (b, is, inl v)) =
    omega (arith, one_less sign.At ts a start, id_less x a b is, one_less sign.OpenParenthesis b v.0 v.1, ap length v.2.1.1.1, one_less sign.CloseParenthesis v.2.0 rest v.2.2)
annotation_less x ts rest (a, start, (b, is, inr e)) = omega (arith, one_less sign.At ts a start, id_less x a b is, ap length e)

pub annotations_most : (all : List Name) → Most (AreAnnotations all)
annotations_most all = many_most IsAnnotation annotation_less all

presence_most : (b : Bool) → Most (IsPresence b)
presence_most true ts rest h = omega (arith, ap length h)
presence_most false ts rest h = omega (arith, one_less sign.Question ts rest h)

mutual
  unfolding IsType AreAttributes AreMore

  pub type_less : (t : Ty) → Less (IsType t)
  type_less (named p) ts rest h = path_less p ts rest h
  type_less (set_of t) ts rest h =
      omega (arith, word_less (codes "Set") ts h.0 h.1, one_less sign.Less h.0 h.2.0 h.2.1, type_less t h.2.0 h.2.2.0 h.2.2.1, one_less sign.Greater h.2.2.0 rest h.2.2.2)
  type_less (record_of all loc) ts rest g =
      let h = g.0 in omega (arith, one_less sign.OpenBrace ts h.0 h.1, all_most all h.0 h.2.0 h.2.1, one_less sign.CloseBrace h.2.0 rest h.2.2)

  all_most : (all : Attributes) → Most (AreAttributes all)
  all_most no_attributes ts rest h = omega (arith, ap length h)
  all_most (attribute notes x b t more) ts rest h =
      let n = h.2 in
      let p = n.2 in
      let c = p.2 in
      let k = c.2 in
      omega (
        arith,
        annotations_most notes ts h.0 h.1,
        name_less x h.0 n.0 n.1,
        presence_most b n.0 p.0 p.1,
        one_less sign.Colon p.0 c.0 c.1,
        type_less t c.0 k.0 k.1,
        more_most more k.0 rest k.2,
      )

  more_most : (all : Attributes) → Most (AreMore all)
  more_most no_attributes ts rest h = optional_most sign.Comma ts rest h
  more_most (attribute notes x b t more) ts rest g =
      let h = g.2 in
      let n = h.2 in
      let p = n.2 in
      let c = p.2 in
      let k = c.2 in
      omega (
        arith,
        one_less sign.Comma ts g.0 g.1,
        annotations_most notes g.0 h.0 h.1,
        name_less x h.0 n.0 n.1,
        presence_most b n.0 p.0 p.1,
        one_less sign.Colon p.0 c.0 c.1,
        type_less t c.0 k.0 k.1,
        more_most more k.0 rest k.2,
      )

attribute_less : (of : Ty → Form) → ((t : Ty) → Less (of t)) → (a : Attribute) → Less (IsAttribute of a)
attribute_less of less a ts rest h =
    let n = h.2 in
    let p = n.2 in
    let c = p.2 in
    omega (arith, annotations_most a.annotations ts h.0 h.1, name_less a.name h.0 n.0 n.1, presence_most a.is_required n.0 p.0 p.1, one_less sign.Colon p.0 c.0 c.1, less a.of c.0 rest c.2)

inner_less : (limit : ℕ) (t : Ty) → Less (Inner limit t)
inner_less limit t ts rest h = type_less t ts rest h.0

-- ---- first tokens

-- no token that passes comes first
abbrev pub Not : (Lexeme → Bool) → List Token → Type 0
Not p ts = first_is p ts ≡ false

pub mark_not : (p : Lexeme → Bool) (m : Symbol) (ts next : List Token) → mark m ts next → p (symbol m) ≡ false → Not p ts
mark_not p m ts next h e = ap (first_is p) h.1 ∙ e

pub word_not : (p : Lexeme → Bool) (w : List ℕ) (ts next : List Token) → word w ts next → p (ident w) ≡ false → Not p ts
word_not p w ts next h e = ap (first_is p) h.1 ∙ e

-- a symbol begins no name
pub name_not : (m : Symbol) (x : Name) (ts next : List Token) → IsName x ts next → Not (is_symbol m) ts
name_not m x ts next (inl h) = ap (sees m) h
name_not m x ts next (inr h) = ap (sees m) h

pub annotation_begins : (x : Name) (ts rest : List Token) → IsAnnotation x ts rest → mark sign.At ts (drop 1 ts)
annotation_begins x ts rest h = (h.1.0, h.1.1 ∙ ap (λ us. record { lexeme = symbol sign.At; loc = h.1.0 } ∷ us) (sym (ap (drop 1) h.1.1)))

pub annotations_not : (p : Lexeme → Bool) (all : List Name) (ts us : List Token) → AreAnnotations all ts us → p (symbol sign.At) ≡ false → Not p us → Not p ts
annotations_not p [] ts us h e f = ap (first_is p) h ∙ f
annotations_not p (x ∷ all) ts us h e f = ap (first_is p) (annotation_begins x ts h.0 h.1).1 ∙ e

-- no type goes on here
abbrev pub Ends : List Token → Type 0
Ends ts = Not (is_symbol sign.PathSeparator) ts × Not (is_symbol sign.Less) ts

pub ends_at : (m : Symbol) → same_symbol m sign.PathSeparator ≡ false → same_symbol m sign.Less ≡ false → (ts next : List Token) → mark m ts next → Ends ts
ends_at m p l ts next h = (mark_not (is_symbol sign.PathSeparator) m ts next h p, mark_not (is_symbol sign.Less) m ts next h l)

-- ---- paths and annotations

-- no path goes on here
abbrev pub EndsPath : List Token → Type 0
EndsPath = Not (is_symbol sign.PathSeparator)

-- every place is an end
abbrev pub Anywhere : List Token → Type 0
Anywhere ts = Unit {0}

ids_again : (ids : List (List ℕ)) (ts rest : List Token) → separated_form sign.PathSeparator word ids ts rest → EndsPath rest → separated id_text sign.PathSeparator ts ≡ Ok (ids, rest)
ids_again ids ts rest h ends =
    separated_again id_text word word_less Anywhere (λ w us vs k _. id_text_on w us vs k) sign.PathSeparator (λ us vs k. tt) ids ts rest h tt ends

pub path_again : Again path IsPath EndsPath
unfolding path
path_again p ts rest h ends =
    bind_on (separated id_text sign.PathSeparator ts) (λ ids us. given (record { ids = ids; loc = between ts us }) us) p.ids rest (ids_again p.ids ts rest h.0 ends)
    ∙ ap (λ loc. given (record { ids = p.ids; loc = loc }) rest) (sym h.1)

-- no annotation's text comes here
abbrev pub NoValue : List Token → Type 0
NoValue = Not (is_symbol sign.OpenParenthesis)

annotation_again : Again annotation IsAnnotation NoValue
unfolding annotation
annotation_again x ts rest (a, start, (b, is, inl v)) ends =
    let says = v.2.1 in
    let value : Name = record { text = says.0; loc = says.1.0 } in
    let w = v.2.0 in
    bind_on (expect sign.At ts) _ tt a (expect_on (sees sign.At) ts a (opens sign.At ts a start)) ∙ bind_on (id a) _ x b (id_on x a b is)
    ∙ goes (sees sign.OpenParenthesis) _ _ b v.0 (opens sign.OpenParenthesis b v.0 v.1) ∙ bind_on (quoted v.0) _ value w (quoted_on value v.0 w says.1.1)
    ∙ bind_on (expect sign.CloseParenthesis w) _ tt rest (expect_on (sees sign.CloseParenthesis) w rest (opens sign.CloseParenthesis w rest v.2.2))
annotation_again x ts rest (a, start, (b, is, inr e)) ends =
    bind_on (expect sign.At ts) _ tt a (expect_on (sees sign.At) ts a (opens sign.At ts a start)) ∙ bind_on (id a) _ x b (id_on x a b is)
    ∙ stays (sees sign.OpenParenthesis) _ _ b (ap (sees sign.OpenParenthesis) e ∙ ends) ∙ ap (given x) e

pub annotations_again : (all : List Name) (ts rest : List Token) → AreAnnotations all ts rest → NoValue rest → Not (is_symbol sign.At) rest → annotations ts ≡ Ok (all, rest)
annotations_again all ts rest h value none =
    while_again annotation IsAnnotation annotation_less NoValue annotation_again (sees sign.At)
    (λ x us vs k. let b = annotation_begins x us vs k in ((opens sign.At us (drop 1 us) b).0, mark_not (is_symbol sign.OpenParenthesis) sign.At us (drop 1 us) b refl)) all ts rest h value none

-- ---- attributes

not_not : (b : Bool) → not (not b) ≡ b
not_not true = refl
not_not false = refl

presence_on : (b : Bool) (ts mid next : List Token) → IsPresence b ts mid → mark sign.Colon mid next → (sees sign.Question ts ≡ not b) × (after (sees sign.Question) ts ≡ mid)
presence_on true ts mid next h e = (ap (sees sign.Question) (h ∙ e.1), ap (after (sees sign.Question)) (h ∙ e.1) ∙ sym e.1)
presence_on false ts mid next h e = (ap (sees sign.Question) h.1, ap (after (sees sign.Question)) h.1)

attribute_again : (inner : Reader Ty) (of : Ty → Form) → Again inner of Ends → Again (attribute_with inner) (IsAttribute of) Ends
unfolding attribute_with
attribute_again inner of again a ts rest h ends =
    let n = h.2 in
    let p = n.2 in
    let c = p.2 in
    let s = presence_on a.is_required n.0 p.0 c.0 p.1 c.1 in
    let P : List Token → Type 0 = λ us. Opens (sees sign.Colon) us c.0 in
    let colon : Opens (sees sign.Colon) (after (sees sign.Question) n.0) c.0 = subst P (sym s.1) (opens sign.Colon p.0 c.0 c.1) in
    bind_on (annotations ts) _ a.annotations h.0
    (annotations_again a.annotations ts h.0 h.1 (name_not sign.OpenParenthesis a.name h.0 n.0 n.1) (name_not sign.At a.name h.0 n.0 n.1))
    ∙ bind_on (name h.0) _ a.name n.0 (name_on a.name h.0 n.0 n.1)
    ∙ bind_on (expect sign.Colon (after (sees sign.Question) n.0)) _ tt c.0 (expect_on (sees sign.Colon) (after (sees sign.Question) n.0) c.0 colon)
    ∙ bind_on (inner c.0) _ a.of rest (again a.of c.0 rest c.2 ends)
    ∙ ap (λ b. given (record { annotations = a.annotations; name = a.name; is_required = b; of = a.of }) rest) (ap not s.0 ∙ not_not a.is_required)

attribute_opens_no : (of : Ty → Form) (a : Attribute) (ts rest : List Token) → IsAttribute of a ts rest → sees sign.CloseBrace ts ≡ false
attribute_opens_no of a ts rest h = annotations_not (is_symbol sign.CloseBrace) a.annotations ts h.0 h.1 refl (name_not sign.CloseBrace a.name h.0 h.2.0 h.2.1)

attributes_again : (limit : ℕ) (inner : Reader Ty) → Again inner (Inner limit) Ends → (all : List Attribute) (ts rest : List Token)
    → (any (IsAttribute (Inner limit)) all then mark sign.CloseBrace) ts rest → until (attribute_with inner) sign.CloseBrace ts ≡ Ok (all, rest)
attributes_again limit inner again all ts rest h =
    until_again (attribute_with inner) (IsAttribute (Inner limit)) (attribute_less (Inner limit) (inner_less limit)) Ends (attribute_again inner (Inner limit) again) sign.CloseBrace refl
    (ends_at sign.Comma refl refl) (ends_at sign.CloseBrace refl refl) (attribute_opens_no (Inner limit)) all ts rest h

-- ---- types

-- each list of attributes is one of those that are read
list_of : Attributes → List Attribute
list_of no_attributes = []
list_of (attribute notes x b t more) = record { annotations = notes; name = x; is_required = b; of = t } ∷ list_of more

attributes_from-list_of : (all : Attributes) → attributes_from (list_of all) ≡ all
unfolding list_of
attributes_from-list_of no_attributes = refl
attributes_from-list_of (attribute notes x b t more) = ap (attribute notes x b t) (attributes_from-list_of more)

and_not : (a b : Bool) → b ≡ false → a && b ≡ false
and_not true b e = e
and_not false b e = refl

-- a path is no set, and no symbol begins it
path_begins : (ids : List (List ℕ)) (ts rest : List Token) → separated_form sign.PathSeparator word ids ts rest → Ends rest → (sees sign.OpenBrace ts ≡ false) × (sees sign.Less (drop 1 ts) ≡ false)
path_begins [] ts rest h ends = absurd h
path_begins (x ∷ []) ts rest h ends = (ap (sees sign.OpenBrace) h.1, ap (λ us. sees sign.Less (drop 1 us)) h.1 ∙ ends.1)
path_begins (x ∷ y ∷ ys) ts rest h ends =
    (ap (sees sign.OpenBrace) h.1.1, ap (λ us. sees sign.Less (drop 1 us)) h.1.1 ∙ other sign.PathSeparator sign.Less h.0 h.2.0 h.2.1 refl)

module _ (set whole : Reader Ty) (ts : List Token) where
  as_record : sees sign.OpenBrace ts ≡ true → type_by set whole ts ≡ whole ts
  as_record e = picks (sees sign.OpenBrace ts) _ _ e

  as_set : sees sign.OpenBrace ts ≡ false → begins_set ts ≡ true → type_by set whole ts ≡ set ts
  as_set e f = leaves (sees sign.OpenBrace ts) _ _ e ∙ picks (begins_set ts) _ _ f

  as_path : sees sign.OpenBrace ts ≡ false → begins_set ts ≡ false → type_by set whole ts ≡ path_type ts
  as_path e f = leaves (sees sign.OpenBrace ts) _ _ e ∙ leaves (begins_set ts) _ _ f

named_again : (set whole : Reader Ty) (p : Path) (ts rest : List Token) → IsPath p ts rest → Ends rest → type_by set whole ts ≡ Ok (named p, rest)
named_again set whole p ts rest h ends =
    let b = path_begins p.ids ts rest h.0 ends in
    as_path set whole ts b.0 (and_not (sees_word (codes "Set") ts) (sees sign.Less (drop 1 ts)) b.1) ∙ bind_on (path ts) (λ p. pure (named p)) p rest (path_again p ts rest h ends.0)

pub set_begins : (ts a b : List Token) → word (codes "Set") ts a → mark sign.Less a b → (sees sign.OpenBrace ts ≡ false) × (begins_set ts ≡ true) × (drop 2 ts ≡ b)
set_begins ts a b w l =
    let o = opens sign.Less a b l in
    (ap (sees sign.OpenBrace) w.1, ap begins_set w.1 ∙ o.0, ap (drop 2) w.1 ∙ o.1)

set_again : (inner : Reader Ty) (limit : ℕ) → Again inner (Inner limit) Ends → (whole : Reader Ty) (t : Ty) (ts rest : List Token) → IsType (set_of t) ts rest → level t ≤ limit
    → type_by (set_with inner) whole ts ≡ Ok (set_of t, rest)
unfolding set_with IsType
set_again inner limit again whole t ts rest h le =
    let b = set_begins ts h.0 h.2.0 h.1 h.2.1 in
    let k = h.2.2 in
    as_set (set_with inner) whole ts b.0 b.1
    ∙ bind_on (inner (drop 2 ts)) _ t k.0 (ap inner b.2 ∙ again t h.2.0 k.0 (k.1, le) (ends_at sign.Greater refl refl k.0 rest k.2))
    ∙ bind_on (expect sign.Greater k.0) _ tt rest (expect_on (sees sign.Greater) k.0 rest (opens sign.Greater k.0 rest k.2))

record_again : (inner : Reader Ty) (limit : ℕ) → Again inner (Inner limit) Ends → (set : Reader Ty) (all : Attributes) (loc : _) (ts rest : List Token) → IsType (record_of all loc) ts rest
    → level_of_all all ≤ limit → type_by set (record_with inner) ts ≡ Ok (record_of all loc, rest)
unfolding record_with IsType
record_again inner limit again set all loc ts rest g le =
    let h = g.0 in
    let o = opens sign.OpenBrace ts h.0 h.1 in
    let same = attributes_from-list_of all in
    let P : Attributes → Type 0 = λ xs. AreAttributes xs h.0 h.2.0 × (level_of_all xs ≤ limit) in
    let those = gather_any limit (list_of all) h.0 h.2.0 (subst P (sym same) (h.2.1, le)) in
    let list : until (attribute_with inner) sign.CloseBrace (drop 1 ts) ≡ Ok (list_of all, rest) =
    ap (until (attribute_with inner) sign.CloseBrace) o.1 ∙ attributes_again limit inner again (list_of all) h.0 rest (h.2.0, those, h.2.2) in
    as_record set (record_with inner) ts o.0
    ∙ bind_on (until (attribute_with inner) sign.CloseBrace (drop 1 ts)) (λ xs us. given (record_of (attributes_from xs) (between ts us)) us) (list_of all) rest list
    ∙ ap₂ (λ xs l. given (record_of xs l) rest) same (sym g.1)

pub type_again : (limit : ℕ) → Again (type_at limit) (Bounded level limit IsType) Ends
unfolding type_at IsType
type_again zero (named p) ts rest h ends = named_again too_deep too_deep p ts rest h.0 ends
type_again (suc limit) (named p) ts rest h ends = named_again (set_with (type_at limit)) (record_with (type_at limit)) p ts rest h.0 ends
type_again zero (set_of t) ts rest h ends = absurd (let le = h.1 in omega arith)
type_again (suc limit) (set_of t) ts rest h ends =
    let le = h.1 in set_again (type_at limit) limit (type_again limit) (record_with (type_at limit)) t ts rest h.0 (omega arith)
type_again zero (record_of all loc) ts rest h ends = absurd (let le = h.1 in omega arith)
type_again (suc limit) (record_of all loc) ts rest h ends =
    let le = h.1 in record_again (type_at limit) limit (type_again limit) (set_with (type_at limit)) all loc ts rest h.0 (omega arith)
