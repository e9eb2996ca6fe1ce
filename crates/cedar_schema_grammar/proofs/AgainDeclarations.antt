-- What is in the grammar of declarations is read, where its types are at most at the limit.
use Rattle.std.proofs.Common.{◌≡◌, ℕ, zero, suc, ◌-◌, ◌<◌, ◌≤◌, Bool, true, false, not, List, [], ◌∷◌, ◌++◌, length, drop, Option, Some, None, Ok, ◌⊎◌, inl, inr, refl, sym, ap, ap₂, ◌∙◌, subst, arith, append_assoc, append-nil}
use Rattle.std.specs.Prelude.{codes, if◌then◌else◌}
use Rattle.cedar_ast.specs.declared.loc.Loc.{Loc}
use Rattle.cedar_schema_tokens.specs.Token.{Lexeme, ident, text, symbol, Token}
use Rattle.cedar_schema_tokens.specs.declared.token.Symbol.{Symbol}
use Rattle.cedar_schema_tokens.specs.declared.token.Symbol.TheVariants as sign
use Rattle.cedar_schema_grammar.specs.Tree.{Name, Path, Ty, named, set_of, record_of, Parent, Says, principals, resources, context, Part, Applies, Body, choices, standard, Item, entity, action, common, Declaration, Member, namespace, alone, level, highest, level_if, level_of_part, level_of_applies, level_of_body, level_of_item, level_of_declaration, level_of_member}
use Rattle.cedar_schema_grammar.specs.Grammar.{Form, ◌then◌, ◌or◌, mark, word, separated as separated_form, some, any, many, only, IsId, IsText, IsName, IsPath, IsType, IsRecord, IsContext, ArePaths, IsBelow, IsShape, AreTags, IsBody, IsReference, IsParent, AreParents, IsPart, IsIn, IsApplies, no_values as values_form, IsExternal, IsItem, IsDeclaration, IsMember, first_loc, span, between}
use Rattle.cedar_schema_grammar.specs.Reading as spec
use Rattle.cedar_schema_grammar.specs.Reading.{Reader, and_then, pure, first_is, is_symbol, is_word, is_text, same_symbol, sees, sees_word, sees_text, after, expect, expect_word, id, name, quoted, path, annotations, type_at, record_type, context_type, one_or_listed, until, some_until, separated, while, qualifier_from, plain_parent, before_close, is_more}
use Rattle.cedar_schema_grammar.proofs.Turns.{given, bind_on, either, is_more_some}
use Rattle.cedar_schema_grammar.proofs.Steps.{goes, stays, opens, opens_word, expect_on, id_on, name_on, quoted_on}
use Rattle.cedar_schema_grammar.proofs.Lists.{one_less, Less, Most, separated_less, some_less, any_most, many_most, separated_again, until_again, some_again, while_again}
use Rattle.cedar_schema_grammar.proofs.Places as places
use Rattle.cedar_schema_grammar.proofs.Takes.{Bounded}
use Rattle.cedar_schema_grammar.proofs.TakesDeclarations.{Qualifies, qualifies_on, qualified_place, path_no}
use Rattle.cedar_schema_grammar.proofs.Again.{Again, picks, leaves, id_less, text_less, name_less, word_less, path_less, annotations_most, optional_most, type_less, Not, mark_not, word_not, name_not, annotations_not, Ends, ends_at, EndsPath, Anywhere, path_again, annotations_again, type_again}

-- ---- levels of lists

module _ {A : Type 0} (height : A → ℕ) (limit : ℕ) (form : A → Form) where
  many_each : (all : List A) (ts rest : List Token) → many form all ts rest → highest height all ≤ limit → many (Bounded height limit form) all ts rest
  many_each [] ts rest h le = h
  many_each (x ∷ all) ts rest h le = (h.0, (h.1, omega arith), many_each all h.0 rest h.2 (omega arith))

  separated_each : (m : Symbol) (all : List A) (ts rest : List Token) → separated_form m form all ts rest → highest height all ≤ limit → separated_form m (Bounded height limit form) all ts rest
  separated_each m [] ts rest h le = absurd h
  separated_each m (x ∷ []) ts rest h le = (h, omega arith)
  separated_each m (x ∷ y ∷ all) ts rest h le = (h.0, (h.1, omega arith), (h.2.0, h.2.1, separated_each m (y ∷ all) h.2.0 rest h.2.2 (omega arith)))

-- ---- records and contexts

-- a path begins with an id
ids_not : (p : Lexeme → Bool) → ((s : List ℕ) → p (ident s) ≡ false) → (ids : List (List ℕ)) (ts rest : List Token) → separated_form sign.PathSeparator word ids ts rest → Not p ts
ids_not p e [] ts rest h = absurd h
ids_not p e (x ∷ []) ts rest h = word_not p x ts rest h (e x)
ids_not p e (x ∷ y ∷ ys) ts rest h = word_not p x ts h.0 h.1 (e x)

record_again : (limit : ℕ) → Again (record_type limit) (Bounded level limit IsRecord) Ends
unfolding IsType
record_again limit (named p) ts rest h ends = absurd h.0
record_again limit (set_of t) ts rest h ends = absurd h.0
record_again limit (record_of all loc) ts rest h ends =
    let g = h.0.0 in
    picks (sees sign.OpenBrace ts) _ _ (opens sign.OpenBrace ts g.0 g.1).0 ∙ type_again limit (record_of all loc) ts rest h ends

context_again : (limit : ℕ) → Again (context_type limit) (Bounded level limit IsContext) Ends
unfolding IsType
context_again limit (named p) ts rest h ends =
    leaves (sees sign.OpenBrace ts) _ _ (path_no p sign.OpenBrace ts rest h.0) ∙ bind_on (path ts) (λ p. pure (named p)) p rest (path_again p ts rest h.0 ends.0)
context_again limit (set_of t) ts rest h ends = absurd h.0
context_again limit (record_of all loc) ts rest h ends =
    let g = h.0.0 in
    picks (sees sign.OpenBrace ts) _ _ (opens sign.OpenBrace ts g.0 g.1).0 ∙ type_again limit (record_of all loc) ts rest h ends

record_not : (p : Lexeme → Bool) (t : Ty) (ts rest : List Token) → IsRecord t ts rest → p (symbol sign.OpenBrace) ≡ false → Not p ts
unfolding IsType
record_not p (named q) ts rest h e = absurd h
record_not p (set_of t) ts rest h e = absurd h
record_not p (record_of all loc) ts rest h e = mark_not p sign.OpenBrace ts h.0.0 h.0.1 e

record_opens : (t : Ty) (ts rest : List Token) → IsRecord t ts rest → sees sign.OpenBrace ts ≡ true
unfolding IsType
record_opens (named q) ts rest h = absurd h
record_opens (set_of t) ts rest h = absurd h
record_opens (record_of all loc) ts rest h = (opens sign.OpenBrace ts h.0.0 h.0.1).0

record_less : (t : Ty) → Less (IsRecord t)
record_less (named q) ts rest h = absurd h
record_less (set_of t) ts rest h = absurd h
record_less (record_of all loc) ts rest h = type_less (record_of all loc) ts rest h

context_less : (t : Ty) → Less (IsContext t)
context_less (named q) ts rest h = path_less q ts rest h
context_less (set_of t) ts rest h = absurd h
context_less (record_of all loc) ts rest h = type_less (record_of all loc) ts rest h

-- ---- one thing, or any in brackets

module _ {A : Type 0} (item : Reader A) (form : A → Form) (less : (x : A) → Less (form x)) (Stops : List Token → Type 0)
    (on : (ts rest : List Token) → mark sign.Comma ts rest → Stops ts) (close : (ts rest : List Token) → mark sign.CloseBracket ts rest → Stops ts)
    (again : (x : A) (ts rest : List Token) → form x ts rest → Stops rest → item ts ≡ Ok (x, rest))
    (begins : (m : Symbol) (x : A) (ts rest : List Token) → form x ts rest → Not (is_symbol m) ts) where
  abbrev Listed : List A → Form
  Listed ps = only form ps or mark sign.OpenBracket then any form ps then mark sign.CloseBracket

  only_again : (ps : List A) (ts rest : List Token) → only form ps ts rest → Stops rest → one_or_listed item ts ≡ Ok (ps, rest)
  only_again [] ts rest h ends = absurd h
  only_again (x ∷ []) ts rest h ends =
      stays (sees sign.OpenBracket) _ _ ts (begins sign.OpenBracket x ts rest h) ∙ bind_on (item ts) (λ y. pure (y ∷ [])) x rest (again x ts rest h ends)
  only_again (x ∷ y ∷ more) ts rest h ends = absurd h

  listed_again : (ps : List A) (ts rest : List Token) → Listed ps ts rest → Stops rest → one_or_listed item ts ≡ Ok (ps, rest)
  listed_again ps ts rest (inl h) ends = only_again ps ts rest h ends
  listed_again ps ts rest (inr h) ends =
      goes (sees sign.OpenBracket) _ _ ts h.0 (opens sign.OpenBracket ts h.0 h.1)
      ∙ until_again item form less Stops again sign.CloseBracket refl on close (begins sign.CloseBracket) ps h.0 rest h.2

  only_less : (ps : List A) → Less (only form ps)
  only_less [] ts rest h = absurd h
  only_less (x ∷ []) ts rest h = less x ts rest h
  only_less (x ∷ y ∷ more) ts rest h = absurd h

  listed_less : (ps : List A) → Less (Listed ps)
  listed_less ps ts rest (inl h) = only_less ps ts rest h
  listed_less ps ts rest (inr h) =
      omega (arith, one_less sign.OpenBracket ts h.0 h.1, any_most form less ps h.0 h.2.0 h.2.1, one_less sign.CloseBracket h.2.0 rest h.2.2)

-- ---- entity types

path_begins_no : (m : Symbol) (p : Path) (ts rest : List Token) → IsPath p ts rest → Not (is_symbol m) ts
path_begins_no m p ts rest h = path_no p m ts rest h

paths_again : Again spec.paths ArePaths EndsPath
unfolding spec.paths
paths_again ps ts rest h ends =
    listed_again path IsPath path_less EndsPath (λ us vs k. mark_not (is_symbol sign.PathSeparator) sign.Comma us vs k refl) (λ us vs k. mark_not (is_symbol sign.PathSeparator) sign.CloseBracket us vs k refl)
    path_again path_begins_no ps ts rest h ends

paths_less : (ps : List Path) → Less (ArePaths ps)
paths_less ps ts rest h =
    listed_less path IsPath path_less EndsPath (λ us vs k. mark_not (is_symbol sign.PathSeparator) sign.Comma us vs k refl) (λ us vs k. mark_not (is_symbol sign.PathSeparator) sign.CloseBracket us vs k refl)
    path_again path_begins_no ps ts rest h

-- no path goes on here, and nothing is below
abbrev AfterNames : List Token → Type 0
AfterNames ts = EndsPath ts × Not (is_word (codes "in")) ts

none_is : (ps : List Path) (ts rest : List Token) → IsBelow ps ts rest → (word (codes "in") then ArePaths ps) ts rest ⊎ ((ps ≡ []) × (ts ≡ rest))
none_is ps ts rest (inl h) = inl h
none_is [] ts rest (inr h) = inr (refl, h)
none_is (p ∷ ps) ts rest (inr h) = absurd h

below_again : Again spec.below IsBelow AfterNames
unfolding spec.below
below_again ps ts rest h ends = elim (none_is ps ts rest h) [
  | inl k ↦ goes (sees_word (codes "in")) _ _ ts k.0 (opens_word (codes "in") ts k.0 refl k.1) ∙ paths_again ps k.0 rest k.2 ends.0
  | inr k ↦ stays (sees_word (codes "in")) _ _ ts (ap (sees_word (codes "in")) k.1 ∙ ends.1) ∙ ap₂ (λ xs us. given xs us) (sym k.0) k.1
]

below_most : (ps : List Path) → Most (IsBelow ps)
below_most ps ts rest h = elim (none_is ps ts rest h) [ inl k ↦ omega (arith, word_less (codes "in") ts k.0 k.1, paths_less ps k.0 rest k.2) | inr k ↦ omega (arith, ap length k.1) ]

below_not : (p : Lexeme → Bool) (ps : List Path) (ts us : List Token) → IsBelow ps ts us → p (ident (codes "in")) ≡ false → Not p us → Not p ts
below_not p ps ts us h e f = elim (none_is ps ts us h) [ inl k ↦ word_not p (codes "in") ts k.0 k.1 e | inr k ↦ ap (first_is p) k.1 ∙ f ]

-- neither a type nor a shape goes on here
abbrev AfterShape : List Token → Type 0
AfterShape ts = Ends ts × (Not (is_symbol sign.Equals) ts × Not (is_symbol sign.OpenBrace) ts)

shape_again : (limit : ℕ) → Again (spec.shape limit) (Bounded level_if limit IsShape) AfterShape
unfolding spec.shape
shape_again limit None ts rest h ends =
    let equals : sees sign.Equals ts ≡ false = ap (sees sign.Equals) h.0 ∙ ends.1.0 in
    stays (sees sign.Equals) _ _ ts equals
    ∙ either (sees sign.OpenBrace (after (sees sign.Equals) ts)) false _ _ ts (ap (λ b. sees sign.OpenBrace (if b then drop 1 ts else ts)) equals ∙ ap (sees sign.OpenBrace) h.0 ∙ ends.1.1)
    ∙ ap (given None) h.0
shape_again limit (Some t) ts rest ((us, inl e, is), le) ends =
    goes (sees sign.Equals) _ _ ts us (opens sign.Equals ts us e) ∙ bind_on (record_type limit us) (λ x. pure (Some x)) t rest (record_again limit t us rest (is, le) ends.0)
shape_again limit (Some t) ts rest ((us, inr e, is), le) ends =
    let P : List Token → Type 0 = λ vs. IsRecord t vs rest in
    let here = subst P (sym e) is in
    let equals = record_not (is_symbol sign.Equals) t ts rest here refl in
    stays (sees sign.Equals) _ _ ts equals
    ∙ either (sees sign.OpenBrace (after (sees sign.Equals) ts)) true _ _ ts (ap (λ b. sees sign.OpenBrace (if b then drop 1 ts else ts)) equals ∙ record_opens t ts rest here)
    ∙ bind_on (record_type limit ts) (λ x. pure (Some x)) t rest (record_again limit t ts rest (here, le) ends.0)

shape_most : (t : Option Ty) → Most (IsShape t)
shape_most None ts rest h = omega (arith, ap length h)
shape_most (Some t) ts rest h = omega (arith, optional_most sign.Equals ts h.0 h.1, record_less t h.0 rest h.2)

shape_not : (p : Lexeme → Bool) (t : Option Ty) (ts us : List Token) → IsShape t ts us → p (symbol sign.Equals) ≡ false → p (symbol sign.OpenBrace) ≡ false → Not p us → Not p ts
shape_not p None ts us h e b f = ap (first_is p) h ∙ f
shape_not p (Some t) ts us (vs, inl h, is) e b f = mark_not p sign.Equals ts vs h e
shape_not p (Some t) ts us (vs, inr h, is) e b f = ap (first_is p) h ∙ record_not p t vs us is b

-- neither a type nor tags go on here
abbrev AfterTags : List Token → Type 0
AfterTags ts = Ends ts × Not (is_word (codes "tags")) ts

tags_again : (limit : ℕ) → Again (spec.tags limit) (Bounded level_if limit AreTags) AfterTags
unfolding spec.tags
tags_again limit None ts rest h ends = stays (sees_word (codes "tags")) _ _ ts (ap (sees_word (codes "tags")) h.0 ∙ ends.1) ∙ ap (given None) h.0
tags_again limit (Some t) ts rest ((us, w, is), le) ends =
    goes (sees_word (codes "tags")) _ _ ts us (opens_word (codes "tags") ts us refl w) ∙ bind_on (type_at limit us) (λ x. pure (Some x)) t rest (type_again limit t us rest (is, le) ends.0)

tags_most : (t : Option Ty) → Most (AreTags t)
tags_most None ts rest h = omega (arith, ap length h)
tags_most (Some t) ts rest h = omega (arith, word_less (codes "tags") ts h.0 h.1, type_less t h.0 rest h.2)

tags_not : (p : Lexeme → Bool) (t : Option Ty) (ts us : List Token) → AreTags t ts us → p (ident (codes "tags")) ≡ false → Not p us → Not p ts
tags_not p None ts us h e f = ap (first_is p) h ∙ f
tags_not p (Some t) ts us h e f = word_not p (codes "tags") ts h.0 h.1 e

-- the declaration ends here
abbrev AtEnd : List Token → Type 0
AtEnd ts = (next : List Token) × mark sign.Semicolon ts next

end_not : (p : Lexeme → Bool) (ts : List Token) → AtEnd ts → p (symbol sign.Semicolon) ≡ false → Not p ts
end_not p ts h e = mark_not p sign.Semicolon ts h.0 h.1 e

body_again : (limit : ℕ) → Again (spec.body limit) (Bounded level_of_body limit IsBody) AtEnd
unfolding spec.body
body_again limit (choices texts) ts rest h ends =
    let k = h.0 in
    let l = k.2 in
    goes (sees_word (codes "enum")) _ _ ts k.0 (opens_word (codes "enum") ts k.0 refl k.1)
    ∙ bind_on (expect sign.OpenBracket k.0) _ tt l.0 (expect_on (sees sign.OpenBracket) k.0 l.0 (opens sign.OpenBracket k.0 l.0 l.1))
    ∙ bind_on (some_until quoted sign.CloseBracket l.0) (λ all. pure (choices all)) texts rest
    (some_again quoted IsText text_less Anywhere (λ x us vs q _. quoted_on x us vs q) sign.CloseBracket refl (λ us vs q. tt) (λ us vs q. tt)
    (λ x us vs q. ap (sees sign.CloseBracket) q) texts l.0 rest l.2)
body_again limit (standard parents shape tags) ts rest (k, le) ends =
    let s = k.2 in
    let no : (p : Lexeme → Bool) → p (ident (codes "tags")) ≡ false → p (symbol sign.Semicolon) ≡ false → Not p s.0 = λ p a b. tags_not p tags s.0 rest s.2 a (end_not p rest ends b) in
    let nor : (p : Lexeme → Bool) → p (ident (codes "tags")) ≡ false → p (symbol sign.Semicolon) ≡ false → p (symbol sign.Equals) ≡ false → p (symbol sign.OpenBrace) ≡ false → Not p k.0 =
    λ p a b c d. shape_not p shape k.0 s.0 s.1 c d (no p a b) in
    stays (sees_word (codes "enum")) _ _ ts (below_not (is_word (codes "enum")) parents ts k.0 k.1 refl (nor (is_word (codes "enum")) refl refl refl refl))
    ∙ bind_on (spec.below ts) _ parents k.0 (below_again parents ts k.0 k.1 (nor (is_symbol sign.PathSeparator) refl refl refl refl, nor (is_word (codes "in")) refl refl refl refl))
    ∙ bind_on (spec.shape limit k.0) _ shape s.0
    (shape_again limit shape k.0 s.0 (s.1, omega arith)
    ((no (is_symbol sign.PathSeparator) refl refl, no (is_symbol sign.Less) refl refl), (no (is_symbol sign.Equals) refl refl, no (is_symbol sign.OpenBrace) refl refl)))
    ∙ bind_on (spec.tags limit s.0) _ tags rest
    (tags_again limit tags s.0 rest (s.2, omega arith)
    ((end_not (is_symbol sign.PathSeparator) rest ends refl, end_not (is_symbol sign.Less) rest ends refl), end_not (is_word (codes "tags")) rest ends refl))

body_most : (b : Body) → Most (IsBody b)
body_most (choices texts) ts rest h =
    let l = h.2 in
    let k = l.2 in
    omega (arith, word_less (codes "enum") ts h.0 h.1, one_less sign.OpenBracket h.0 l.0 l.1, some_less IsText text_less texts l.0 k.0 k.1, one_less sign.CloseBracket k.0 rest k.2)
body_most (standard parents shape tags) ts rest h =
    omega (arith, below_most parents ts h.0 h.1, shape_most shape h.0 h.2.0 h.2.1, tags_most tags h.2.0 rest h.2.2)

body_not : (p : Lexeme → Bool) (b : Body) (ts us : List Token) → IsBody b ts us → p (ident (codes "enum")) ≡ false → p (ident (codes "in")) ≡ false → p (symbol sign.Equals) ≡ false
    → p (symbol sign.OpenBrace) ≡ false → p (ident (codes "tags")) ≡ false → Not p us → Not p ts
body_not p (choices texts) ts us h e1 e2 e3 e4 e5 f = word_not p (codes "enum") ts h.0 h.1 e1
body_not p (standard parents shape tags) ts us h e1 e2 e3 e4 e5 f =
    below_not p parents ts h.0 h.1 e2 (shape_not p shape h.0 h.2.0 h.2.1 e3 e4 (tags_not p tags h.2.0 us h.2.2 e5 f))

-- ---- parents of actions

-- an id and `::`
abbrev One : List ℕ → Form
One x = word x then mark sign.PathSeparator

one_id_less : (x : List ℕ) → Less (One x)
one_id_less x ts rest h = omega (arith, word_less x ts h.0 h.1, one_less sign.PathSeparator h.0 rest h.2)

-- the ids of a path, each with the `::` behind it
apart : (x : List ℕ) (xs : List (List ℕ)) (ts mid us : List Token) → separated_form sign.PathSeparator word (x ∷ xs) ts mid → mark sign.PathSeparator mid us
    → (a : List Token) × word x ts a × (b : List Token) × mark sign.PathSeparator a b × many One xs b us
apart x [] ts mid us h sep = (mid, h, us, sep, refl)
apart x (y ∷ ys) ts mid us h sep =
    let r = apart y ys h.2.0 mid us h.2.2 sep in
    (h.0, h.1, h.2.0, h.2.1, (r.2, (r.0, r.1, r.3), r.4))

text_some : (ts : List Token) → sees_text ts ≡ true → 0 < length ts
text_some [] e = absurd (cc)
text_some (t ∷ ts) e = omega arith

qualifier_again : (start : List Token) (n : ℕ) (found more : List (List ℕ)) (last : Loc) (us vs : List Token) → Qualifies start found last us → many One more us vs → sees_text vs ≡ true → length us ≤ n
    → (end : Loc) × Qualifies start (found ++ more) end vs × (qualifier_from (first_loc start) n found last us ≡ Ok (record { ids = found ++ more; loc = span (first_loc start) end }, vs))
unfolding qualifier_from
qualifier_again start zero found more last us vs q h says le = absurd (omega (arith, text_some vs says, many_most One one_id_less more us vs h))
qualifier_again start (suc n) found [] last us vs q h says le =
    let P : List (List ℕ) → Type 0 = λ xs. Qualifies start xs last vs in
    let Q : List Token → Type 0 = λ ws. Qualifies start found last ws in (
      last,
      subst P (sym (append-nil found)) (subst Q h q),
      picks (sees_text us) _ _ (ap sees_text h ∙ says) ∙ ap₂ (λ xs ws. given (record { ids = xs; loc = span (first_loc start) last }) ws) (sym (append-nil found)) h,
    )
qualifier_again start (suc n) found (x ∷ xs) last us vs q (k, (j, w, sep), h) says le =
    let this : Name = record { text = x; loc = w.0 } in
    let here = qualifies_on start found last us this j k q w.1 sep in
    let r = qualifier_again start n (found ++ x ∷ []) xs w.0 k vs here h says (omega (arith, word_less x us j w, one_less sign.PathSeparator j k sep)) in
    let P : List (List ℕ) → Type 0 = λ ys. Qualifies start ys r.0 vs in (
      r.0,
      subst P (append_assoc found (x ∷ []) xs) r.1,
      leaves (sees_text us) _ _ (ap sees_text w.1) ∙ bind_on (id us) _ this j (id_on this us j w.1)
          ∙ bind_on (expect sign.PathSeparator j) _ tt k (expect_on (sees sign.PathSeparator) j k (opens sign.PathSeparator j k sep)) ∙ r.2
          ∙ ap (λ ys. given (record { ids = ys; loc = span (first_loc start) r.0 }) vs) (append_assoc found (x ∷ []) xs),
    )

-- a place depends only on how much is left
same_place : (ts us vs : List Token) → length us ≡ length vs → between ts us ≡ between ts vs
same_place ts us vs e = ap (λ n. span (first_loc ts) (first_loc (drop ((length ts - n) - 1) ts))) e

path_end : (ids : List (List ℕ)) (start : List Token) (end : Loc) (us mid : List Token) → Qualifies start ids end us → mark sign.PathSeparator mid us → span (first_loc start) end ≡ between start mid
path_end ids start end us mid q sep =
    places.from_to (first_loc start) end start q.0 refl (sym q.6 ∙ places.last_is q.3 q.4 start q.0 q.5)
    ∙ same_place start q.0 mid (omega (arith, one_less sign.PathSeparator q.0 us q.2, one_less sign.PathSeparator mid us sep))

qualified_again : (ids : List (List ℕ)) (place : Loc) (x : Name) (loc : Loc) (ts mid us rest : List Token) → separated_form sign.PathSeparator word ids ts mid → place ≡ between ts mid
    → mark sign.PathSeparator mid us → IsText x us rest → loc ≡ between ts rest → spec.parent ts ≡ Ok (record { ty = Some (record { ids = ids; loc = place }); id = x; loc = loc }, rest)
unfolding spec.parent spec.qualified
qualified_again [] place x loc ts mid us rest h at_path sep says at_all = absurd h
qualified_again (y ∷ ys) place x loc ts mid us rest h at_path sep says at_all =
    let a = apart y ys ts mid us h sep in
    let w = a.1 in
    let first : Name = record { text = y; loc = w.0 } in
    let start : Token = record { lexeme = ident y; loc = w.0 } in
    let there : w.0 ≡ first_loc ts = sym (ap first_loc w.1) in
    let begun : Qualifies ts (y ∷ []) w.0 a.2 = (a.0, w, a.3, [], start, w.1, refl) in
    let q = qualifier_again ts (length a.2) (y ∷ []) ys w.0 a.2 us begun a.4 (ap sees_text says) (omega arith) in
    let whole : Path = record { ids = y ∷ ys; loc = span (first_loc ts) q.0 } in
    let P : Loc → Type 0 = λ l. qualifier_from l (length a.2) (y ∷ []) w.0 a.2 ≡ Ok (whole, us) in
    let place_is : span (first_loc ts) q.0 ≡ place = path_end (y ∷ ys) ts q.0 us mid q.1 sep ∙ sym at_path in
    let loc_is : span w.0 x.loc ≡ loc = qualified_place (record { ids = y ∷ ys; loc = place }) x w.0 ts us rest (mid, (h, at_path), sep) says there ∙ sym at_all in
    leaves (sees_text ts) _ _ (ap sees_text w.1) ∙ bind_on (id ts) _ first a.0 (id_on first ts a.0 w.1) ∙ goes (sees sign.PathSeparator) _ _ a.0 a.2 (opens sign.PathSeparator a.0 a.2 a.3)
    ∙ bind_on (spec.qualifier first a.2) _ whole us (subst P (sym there) q.2) ∙ bind_on (quoted us) _ x rest (quoted_on x us rest says)
    ∙ ap₂ (λ l m. given (record { ty = Some (record { ids = y ∷ ys; loc = l }); id = x; loc = m }) rest) place_is loc_is

reference_again : (ty : Option Path) (x : Name) (loc : Loc) (ts rest : List Token) → IsReference ty x ts rest → loc ≡ between ts rest → EndsPath rest
    → spec.parent ts ≡ Ok (record { ty = ty; id = x; loc = loc }, rest)
unfolding spec.parent
reference_again None x loc ts rest (inl e) there ends =
    let place : x.loc ≡ loc = places.alone (record { lexeme = ident x.text; loc = x.loc }) ts rest e ∙ sym there in
    leaves (sees_text ts) _ _ (ap sees_text e) ∙ bind_on (id ts) _ x rest (id_on x ts rest e) ∙ stays (sees sign.PathSeparator) _ _ rest ends
    ∙ ap (λ l. given (record { ty = None; id = x; loc = l }) rest) place
reference_again None x loc ts rest (inr e) there ends =
    let place : x.loc ≡ loc = places.alone (record { lexeme = text x.text; loc = x.loc }) ts rest e ∙ sym there in
    picks (sees_text ts) _ _ (ap sees_text e) ∙ bind_on (quoted ts) (λ y. pure (plain_parent y)) x rest (quoted_on x ts rest e)
    ∙ ap (λ l. given (record { ty = None; id = x; loc = l }) rest) place
reference_again (Some p) x loc ts rest h there ends = qualified_again p.ids p.loc x loc ts h.0 h.2.0 rest h.1.0 h.1.1 h.2.1 h.2.2 there

parent_again : Again spec.parent IsParent EndsPath
parent_again p ts rest h ends = reference_again p.ty p.id p.loc ts rest h.0 h.1 ends

reference_less : (ty : Option Path) (x : Name) → Less (IsReference ty x)
reference_less None x ts rest h = name_less x ts rest h
reference_less (Some p) x ts rest h = omega (arith, path_less p ts h.0 h.1, one_less sign.PathSeparator h.0 h.2.0 h.2.1, text_less x h.2.0 rest h.2.2)

parent_less : (p : Parent) → Less (IsParent p)
parent_less p ts rest h = reference_less p.ty p.id ts rest h.0

reference_not : (m : Symbol) (ty : Option Path) (x : Name) (ts rest : List Token) → IsReference ty x ts rest → Not (is_symbol m) ts
reference_not m None x ts rest h = name_not m x ts rest h
reference_not m (Some p) x ts rest h = path_no p m ts h.0 h.1

parent_not : (m : Symbol) (p : Parent) (ts rest : List Token) → IsParent p ts rest → Not (is_symbol m) ts
parent_not m p ts rest h = reference_not m p.ty p.id ts rest h.0

parents_again : Again spec.parents AreParents EndsPath
unfolding spec.parents
parents_again ps ts rest h ends =
    listed_again spec.parent IsParent parent_less EndsPath (λ us vs k. mark_not (is_symbol sign.PathSeparator) sign.Comma us vs k refl) (λ us vs k. mark_not (is_symbol sign.PathSeparator) sign.CloseBracket us vs k refl)
    parent_again parent_not ps ts rest h ends

parents_less : (ps : List Parent) → Less (AreParents ps)
parents_less ps ts rest h =
    listed_less spec.parent IsParent parent_less EndsPath (λ us vs k. mark_not (is_symbol sign.PathSeparator) sign.Comma us vs k refl) (λ us vs k. mark_not (is_symbol sign.PathSeparator) sign.CloseBracket us vs k refl)
    parent_again parent_not ps ts rest h

-- ---- actions

inside_again : Again spec.inside IsIn AfterNames
unfolding spec.inside
inside_again None ts rest h ends = stays (sees_word (codes "in")) _ _ ts (ap (sees_word (codes "in")) h ∙ ends.1) ∙ ap (given None) h
inside_again (Some ps) ts rest h ends =
    goes (sees_word (codes "in")) _ _ ts h.0 (opens_word (codes "in") ts h.0 refl h.1) ∙ bind_on (spec.parents h.0) (λ all. pure (Some all)) ps rest (parents_again ps h.0 rest h.2 ends.0)

inside_most : (ps : Option (List Parent)) → Most (IsIn ps)
inside_most None ts rest h = omega (arith, ap length h)
inside_most (Some ps) ts rest h = omega (arith, word_less (codes "in") ts h.0 h.1, parents_less ps h.0 rest h.2)

inside_not : (p : Lexeme → Bool) (ps : Option (List Parent)) (ts us : List Token) → IsIn ps ts us → p (ident (codes "in")) ≡ false → Not p us → Not p ts
inside_not p None ts us h e f = ap (first_is p) h ∙ f
inside_not p (Some ps) ts us h e f = word_not p (codes "in") ts h.0 h.1 e

said_paths_again : (ps : List Path) (ts rest : List Token) → (mark sign.Colon then ArePaths ps) ts rest → EndsPath rest → spec.said_paths ts ≡ Ok (ps, rest)
unfolding spec.said_paths
said_paths_again ps ts rest h ends =
    bind_on (expect sign.Colon ts) _ tt h.0 (expect_on (sees sign.Colon) ts h.0 (opens sign.Colon ts h.0 h.1)) ∙ paths_again ps h.0 rest h.2 ends

said_context_again : (limit : ℕ) (t : Ty) (ts rest : List Token) → (mark sign.Colon then IsContext t) ts rest → level t ≤ limit → Ends rest → spec.said_context limit ts ≡ Ok (t, rest)
unfolding spec.said_context
said_context_again limit t ts rest h le ends =
    bind_on (expect sign.Colon ts) _ tt h.0 (expect_on (sees sign.Colon) ts h.0 (opens sign.Colon ts h.0 h.1)) ∙ context_again limit t h.0 rest (h.2, le) ends

-- what is said, behind the word at its place
says_again : (limit : ℕ) (says : Says) (loc : Loc) (ts rest : List Token) → IsPart (record { says = says; loc = loc }) ts rest → level_of_part (record { says = says; loc = loc }) ≤ limit → Ends rest
    → spec.part limit ts ≡ Ok (record { says = says; loc = loc }, rest)
unfolding spec.part
says_again limit (context t) loc ts rest h le ends =
    goes (sees_word (codes "context")) _ _ ts h.0 (opens_word (codes "context") ts h.0 refl (loc, h.1))
    ∙ bind_on (spec.said_context limit h.0) (λ ty. spec.part_at limit (first_loc ts) (context ty)) t rest (said_context_again limit t h.0 rest h.2 le ends)
    ∙ ap (λ l. given (record { says = context t; loc = l }) rest) (ap first_loc h.1)
says_again limit (principals ps) loc ts rest h le ends =
    stays (sees_word (codes "context")) _ _ ts (ap (sees_word (codes "context")) h.1) ∙ goes (sees_word (codes "principal")) _ _ ts h.0 (opens_word (codes "principal") ts h.0 refl (loc, h.1))
    ∙ bind_on (spec.said_paths h.0) (λ all. spec.part_at limit (first_loc ts) (principals all)) ps rest (said_paths_again ps h.0 rest h.2 ends.0)
    ∙ ap (λ l. given (record { says = principals ps; loc = l }) rest) (ap first_loc h.1)
says_again limit (resources ps) loc ts rest h le ends =
    stays (sees_word (codes "context")) _ _ ts (ap (sees_word (codes "context")) h.1) ∙ stays (sees_word (codes "principal")) _ _ ts (ap (sees_word (codes "principal")) h.1)
    ∙ bind_on (expect_word (codes "resource") ts) _ tt h.0 (expect_on (sees_word (codes "resource")) ts h.0 (opens_word (codes "resource") ts h.0 refl (loc, h.1)))
    ∙ bind_on (spec.said_paths h.0) (λ all. spec.part_at limit (first_loc ts) (resources all)) ps rest (said_paths_again ps h.0 rest h.2 ends.0)
    ∙ ap (λ l. given (record { says = resources ps; loc = l }) rest) (ap first_loc h.1)

part_again : (limit : ℕ) → Again (spec.part limit) (Bounded level_of_part limit IsPart) Ends
part_again limit p ts rest h ends = says_again limit p.says p.loc ts rest h.0 h.1 ends

says_less : (says : Says) (loc : Loc) → Less (IsPart (record { says = says; loc = loc }))
says_less (principals ps) loc ts rest h = omega (arith, ap length h.1, one_less sign.Colon h.0 h.2.0 h.2.1, paths_less ps h.2.0 rest h.2.2)
says_less (resources ps) loc ts rest h = omega (arith, ap length h.1, one_less sign.Colon h.0 h.2.0 h.2.1, paths_less ps h.2.0 rest h.2.2)
says_less (context t) loc ts rest h = omega (arith, ap length h.1, one_less sign.Colon h.0 h.2.0 h.2.1, context_less t h.2.0 rest h.2.2)

part_less : (limit : ℕ) (p : Part) → Less (Bounded level_of_part limit IsPart p)
part_less limit p ts rest h = says_less p.says p.loc ts rest h.0

says_opens : (says : Says) (loc : Loc) (ts rest : List Token) → IsPart (record { says = says; loc = loc }) ts rest → sees sign.CloseBrace ts ≡ false
says_opens (principals ps) loc ts rest h = ap (sees sign.CloseBrace) h.1
says_opens (resources ps) loc ts rest h = ap (sees sign.CloseBrace) h.1
says_opens (context t) loc ts rest h = ap (sees sign.CloseBrace) h.1

some_each : (limit : ℕ) (all : List Part) (ts rest : List Token) → some IsPart all ts rest → highest level_of_part all ≤ limit → some (Bounded level_of_part limit IsPart) all ts rest
some_each limit all ts rest h le = (h.0, separated_each level_of_part limit IsPart sign.Comma all ts h.0 h.1 le, h.2)

applies_again : (limit : ℕ) → Again (spec.applies limit) (Bounded level_of_applies limit IsApplies) (Not (is_word (codes "appliesTo")))
unfolding spec.applies
applies_again limit None ts rest h ends = stays (sees_word (codes "appliesTo")) _ _ ts (ap (sees_word (codes "appliesTo")) h.0 ∙ ends) ∙ ap (given None) h.0
applies_again limit (Some it) ts rest (g, le) ends =
    let h = g.0 in
    let b = h.2 in
    let l = b.2 in
    goes (sees_word (codes "appliesTo")) _ _ ts h.0 (opens_word (codes "appliesTo") ts h.0 refl h.1)
    ∙ bind_on (expect sign.OpenBrace h.0) _ tt b.0 (expect_on (sees sign.OpenBrace) h.0 b.0 (opens sign.OpenBrace h.0 b.0 b.1))
    ∙ bind_on (some_until (spec.part limit) sign.CloseBrace b.0) (λ all us. given (Some (record { parts = all; loc = between ts us })) us) it.parts rest
    (some_again (spec.part limit) (Bounded level_of_part limit IsPart) (part_less limit) Ends (part_again limit) sign.CloseBrace refl (ends_at sign.Comma refl refl) (ends_at sign.CloseBrace refl refl)
    (λ p us vs k. says_opens p.says p.loc us vs k.0) it.parts b.0 rest (l.0, some_each limit it.parts b.0 l.0 l.1 le, l.2))
    ∙ ap (λ loc. given (Some (record { parts = it.parts; loc = loc })) rest) (sym g.1)

applies_most : (a : Option Applies) → Most (IsApplies a)
applies_most None ts rest h = omega (arith, ap length h)
applies_most (Some it) ts rest g =
    let h = g.0 in
    let b = h.2 in
    let l = b.2 in
    omega (
      arith,
      word_less (codes "appliesTo") ts h.0 h.1,
      one_less sign.OpenBrace h.0 b.0 b.1,
      some_less IsPart (λ p. says_less p.says p.loc) it.parts b.0 l.0 l.1,
      one_less sign.CloseBrace l.0 rest l.2,
    )

applies_not : (p : Lexeme → Bool) (a : Option Applies) (ts us : List Token) → IsApplies a ts us → p (ident (codes "appliesTo")) ≡ false → Not p us → Not p ts
applies_not p None ts us h e f = ap (first_is p) h ∙ f
applies_not p (Some it) ts us h e f = word_not p (codes "appliesTo") ts h.0.0 h.0.1 e

no_values_again : (ts rest : List Token) → values_form ts rest → Not (is_word (codes "attributes")) rest → spec.no_values ts ≡ Ok (tt, rest)
unfolding spec.no_values
no_values_again ts rest (inl h) ends =
    goes (sees_word (codes "attributes")) _ _ ts h.0 (opens_word (codes "attributes") ts h.0 refl h.1)
    ∙ bind_on (expect sign.OpenBrace h.0) _ tt h.2.0 (expect_on (sees sign.OpenBrace) h.0 h.2.0 (opens sign.OpenBrace h.0 h.2.0 h.2.1))
    ∙ expect_on (sees sign.CloseBrace) h.2.0 rest (opens sign.CloseBrace h.2.0 rest h.2.2)
no_values_again ts rest (inr e) ends = stays (sees_word (codes "attributes")) _ _ ts (ap (sees_word (codes "attributes")) e ∙ ends) ∙ ap (given tt) e

no_values_most : Most values_form
no_values_most ts rest (inl h) = omega (arith, word_less (codes "attributes") ts h.0 h.1, one_less sign.OpenBrace h.0 h.2.0 h.2.1, one_less sign.CloseBrace h.2.0 rest h.2.2)
no_values_most ts rest (inr e) = omega (arith, ap length e)

no_values_not : (p : Lexeme → Bool) (ts us : List Token) → values_form ts us → p (ident (codes "attributes")) ≡ false → Not p us → Not p ts
no_values_not p ts us (inl h) e f = word_not p (codes "attributes") ts h.0 h.1 e
no_values_not p ts us (inr h) e f = ap (first_is p) h ∙ f

-- ---- declarations

entity_again : (limit : ℕ) (b : Bool) (names : List Name) (body : Body) (us rest : List Token) → (separated_form sign.Comma IsId names then IsBody body) us rest → level_of_body body ≤ limit → AtEnd rest
    → spec.entity_item limit b us ≡ Ok (entity b names body, rest)
unfolding spec.entity_item
entity_again limit b names body us rest h le ends =
    bind_on (separated id sign.Comma us) _ names h.0
    (separated_again id IsId id_less Anywhere (λ x vs ws k _. id_on x vs ws k) sign.Comma (λ vs ws k. tt) names us h.0 h.1 tt
    (body_not (is_symbol sign.Comma) body h.0 rest h.2 refl refl refl refl refl (end_not (is_symbol sign.Comma) rest ends refl)))
    ∙ bind_on (spec.body limit h.0) _ body rest (body_again limit body h.0 rest (h.2, le) ends)

action_again : (limit : ℕ) (b : Bool) (names : List Name) (above : Option (List Parent)) (applies : Option Applies) (us rest : List Token)
    → (separated_form sign.Comma IsName names then IsIn above then IsApplies applies then values_form) us rest → level_of_applies applies ≤ limit → AtEnd rest
    → spec.action_item limit b us ≡ Ok (action b names above applies, rest)
unfolding spec.action_item
action_again limit b names above applies us rest h le ends =
    let i = h.2 in
    let a = i.2 in
    let third : (p : Lexeme → Bool) → p (ident (codes "attributes")) ≡ false → p (symbol sign.Semicolon) ≡ false → Not p a.0 = λ p e f. no_values_not p a.0 rest a.2 e (end_not p rest ends f) in
    let second : (p : Lexeme → Bool) → p (ident (codes "appliesTo")) ≡ false → p (ident (codes "attributes")) ≡ false → p (symbol sign.Semicolon) ≡ false → Not p i.0 =
    λ p d e f. applies_not p applies i.0 a.0 a.1 d (third p e f) in
    bind_on (separated name sign.Comma us) _ names h.0
    (separated_again name IsName name_less Anywhere (λ x vs ws k _. name_on x vs ws k) sign.Comma (λ vs ws k. tt) names us h.0 h.1 tt
    (inside_not (is_symbol sign.Comma) above h.0 i.0 i.1 refl (second (is_symbol sign.Comma) refl refl refl)))
    ∙ bind_on (spec.inside h.0) _ above i.0 (inside_again above h.0 i.0 i.1 (second (is_symbol sign.PathSeparator) refl refl refl, second (is_word (codes "in")) refl refl refl))
    ∙ bind_on (spec.applies limit i.0) _ applies a.0 (applies_again limit applies i.0 a.0 (a.1, le) (third (is_word (codes "appliesTo")) refl refl))
    ∙ bind_on (spec.no_values a.0) _ tt rest (no_values_again a.0 rest a.2 (end_not (is_word (codes "attributes")) rest ends refl))

common_again : (limit : ℕ) (x : Name) (t : Ty) (us rest : List Token) → (IsId x then mark sign.Equals then IsType t) us rest → level t ≤ limit → AtEnd rest
    → spec.common_item limit us ≡ Ok (common x t, rest)
unfolding spec.common_item
common_again limit x t us rest h le ends =
    let k = h.2 in
    bind_on (id us) _ x h.0 (id_on x us h.0 h.1) ∙ bind_on (expect sign.Equals h.0) _ tt k.0 (expect_on (sees sign.Equals) h.0 k.0 (opens sign.Equals h.0 k.0 k.1))
    ∙ bind_on (type_at limit k.0) _ t rest (type_again limit t k.0 rest (k.2, le) (end_not (is_symbol sign.PathSeparator) rest ends refl, end_not (is_symbol sign.Less) rest ends refl))

-- `external` or its absence, before one of the two words
external_on : (b : Bool) (w : List ℕ) (ts us next : List Token) → IsExternal b ts us → word w us next → is_word (codes "external") (ident w) ≡ false
    → (sees_word (codes "external") ts ≡ b) × (after (sees_word (codes "external")) ts ≡ us)
external_on true w ts us next h k e = (ap (sees_word (codes "external")) h.1, ap (after (sees_word (codes "external"))) h.1)
external_on false w ts us next h k e =
    let none : sees_word (codes "external") ts ≡ false = ap (sees_word (codes "external")) h ∙ word_not (is_word (codes "external")) w us next k e in
    (none, ap (λ b. if b then drop 1 ts else ts) none ∙ h)

external_not : (p : Lexeme → Bool) (b : Bool) (ts us : List Token) → IsExternal b ts us → p (ident (codes "external")) ≡ false → Not p us → Not p ts
external_not p true ts us h e f = word_not p (codes "external") ts us h e
external_not p false ts us h e f = ap (first_is p) h ∙ f

item_again : (limit : ℕ) → Again (spec.item limit) (Bounded level_of_item limit IsItem) AtEnd
unfolding spec.item spec.declared
item_again limit (entity b names body) ts rest (h, le) ends =
    let w = h.2 in
    let x = external_on b (codes "entity") ts h.0 w.0 h.1 w.1 refl in
    stays (sees_word (codes "type")) _ _ ts (external_not (is_word (codes "type")) b ts h.0 h.1 refl (word_not (is_word (codes "type")) (codes "entity") h.0 w.0 w.1 refl))
    ∙ ap₂ (spec.declared limit) x.0 x.1 ∙ goes (sees_word (codes "entity")) _ _ h.0 w.0 (opens_word (codes "entity") h.0 w.0 refl w.1)
    ∙ entity_again limit b names body w.0 rest w.2 le ends
item_again limit (action b names above applies) ts rest (h, le) ends =
    let w = h.2 in
    let x = external_on b (codes "action") ts h.0 w.0 h.1 w.1 refl in
    stays (sees_word (codes "type")) _ _ ts (external_not (is_word (codes "type")) b ts h.0 h.1 refl (word_not (is_word (codes "type")) (codes "action") h.0 w.0 w.1 refl))
    ∙ ap₂ (spec.declared limit) x.0 x.1 ∙ stays (sees_word (codes "entity")) _ _ h.0 (word_not (is_word (codes "entity")) (codes "action") h.0 w.0 w.1 refl)
    ∙ bind_on (expect_word (codes "action") h.0) _ tt w.0 (expect_on (sees_word (codes "action")) h.0 w.0 (opens_word (codes "action") h.0 w.0 refl w.1))
    ∙ action_again limit b names above applies w.0 rest w.2 le ends
item_again limit (common x t) ts rest (h, le) ends =
    goes (sees_word (codes "type")) _ _ ts h.0 (opens_word (codes "type") ts h.0 refl h.1) ∙ common_again limit x t h.0 rest h.2 le ends

external_most : (b : Bool) → Most (IsExternal b)
external_most true ts rest h = omega (arith, word_less (codes "external") ts rest h)
external_most false ts rest h = omega (arith, ap length h)

item_less : (it : Item) → Less (IsItem it)
item_less (entity b names body) ts rest h =
    let w = h.2 in
    let n = w.2 in
    omega (arith, external_most b ts h.0 h.1, word_less (codes "entity") h.0 w.0 w.1, separated_less IsId id_less sign.Comma names w.0 n.0 n.1, body_most body n.0 rest n.2)
item_less (action b names above applies) ts rest h =
    let w = h.2 in
    let n = w.2 in
    let i = n.2 in
    let a = i.2 in
    omega (
      arith,
      external_most b ts h.0 h.1,
      word_less (codes "action") h.0 w.0 w.1,
      separated_less IsName name_less sign.Comma names w.0 n.0 n.1,
      inside_most above n.0 i.0 i.1,
      applies_most applies i.0 a.0 a.1,
      no_values_most a.0 rest a.2,
    )
item_less (common x t) ts rest h =
    let n = h.2 in
    let k = n.2 in
    omega (arith, word_less (codes "type") ts h.0 h.1, id_less x h.0 n.0 n.1, one_less sign.Equals n.0 k.0 k.1, type_less t k.0 rest k.2)

item_not : (p : Lexeme → Bool) (it : Item) (ts us : List Token) → IsItem it ts us → p (ident (codes "external")) ≡ false → p (ident (codes "entity")) ≡ false → p (ident (codes "action")) ≡ false
    → p (ident (codes "type")) ≡ false → Not p ts
item_not p (entity b names body) ts us h e1 e2 e3 e4 = external_not p b ts h.0 h.1 e1 (word_not p (codes "entity") h.0 h.2.0 h.2.1 e2)
item_not p (action b names above applies) ts us h e1 e2 e3 e4 = external_not p b ts h.0 h.1 e1 (word_not p (codes "action") h.0 h.2.0 h.2.1 e3)
item_not p (common x t) ts us h e1 e2 e3 e4 = word_not p (codes "type") ts h.0 h.1 e4

annotated_again : (limit : ℕ) (d : Declaration) (us rest : List Token) → (mid : List Token) → IsItem d.item us mid → mark sign.Semicolon mid rest → d.loc ≡ between us rest → level_of_item d.item ≤ limit
    → spec.annotated limit d.annotations us ≡ Ok (d, rest)
unfolding spec.annotated
annotated_again limit d us rest mid h close there le =
    bind_on (spec.item limit us) _ d.item mid (item_again limit d.item us mid (h, le) (rest, close))
    ∙ bind_on (expect sign.Semicolon mid) (λ _ vs. given (record { annotations = d.annotations; item = d.item; loc = between us vs }) vs) tt rest
    (expect_on (sees sign.Semicolon) mid rest (opens sign.Semicolon mid rest close))
    ∙ ap (λ l. given (record { annotations = d.annotations; item = d.item; loc = l }) rest) (sym there)

declaration_again : (limit : ℕ) → Again (spec.declaration limit) (Bounded level_of_declaration limit IsDeclaration) Anywhere
unfolding spec.declaration
declaration_again limit d ts rest (h, le) ends =
    let k = h.2.0 in
    bind_on (annotations ts) _ d.annotations h.0
    (annotations_again d.annotations ts h.0 h.1 (item_not (is_symbol sign.OpenParenthesis) d.item h.0 k.0 k.1 refl refl refl refl) (item_not (is_symbol sign.At) d.item h.0 k.0 k.1 refl refl refl refl))
    ∙ annotated_again limit d h.0 rest k.0 k.1 k.2 h.2.1 le

pub declaration_less : (d : Declaration) → Less (IsDeclaration d)
declaration_less d ts rest h =
    let k = h.2.0 in omega (arith, annotations_most d.annotations ts h.0 h.1, item_less d.item h.0 k.0 k.1, one_less sign.Semicolon k.0 rest k.2)

declaration_goes : (d : Declaration) (ts rest : List Token) → IsDeclaration d ts rest → before_close ts ≡ true
declaration_goes d ts rest h =
    let k = h.2.0 in ap not (annotations_not (is_symbol sign.CloseBrace) d.annotations ts h.0 h.1 refl (item_not (is_symbol sign.CloseBrace) d.item h.0 k.0 k.1 refl refl refl refl))

block_again : (limit : ℕ) (notes : List Name) (p : Path) (all : List Declaration) (loc : Loc) (us rest a b mid : List Token) → IsPath p us a → mark sign.OpenBrace a b
    → many IsDeclaration all b mid → mark sign.CloseBrace mid rest → loc ≡ between a rest → highest level_of_declaration all ≤ limit → spec.block limit notes us ≡ Ok (namespace notes p all loc, rest)
unfolding spec.block
block_again limit notes p all loc us rest a b mid h brace those close there le =
    bind_on (path us) _ p a (path_again p us a h (mark_not (is_symbol sign.PathSeparator) sign.OpenBrace a b brace refl))
    ∙ bind_on (expect sign.OpenBrace a) _ tt b (expect_on (sees sign.OpenBrace) a b (opens sign.OpenBrace a b brace))
    ∙ bind_on (while (spec.declaration limit) before_close b) _ all mid
    (while_again (spec.declaration limit) (Bounded level_of_declaration limit IsDeclaration) (λ d vs ws k. declaration_less d vs ws k.0) Anywhere (declaration_again limit) before_close
    (λ d vs ws k. (declaration_goes d vs ws k.0, tt)) all b mid (many_each level_of_declaration limit IsDeclaration all b mid those le) tt (ap not (opens sign.CloseBrace mid rest close).0))
    ∙ bind_on (expect sign.CloseBrace mid) (λ _ vs. given (namespace notes p all (between a vs)) vs) tt rest (expect_on (sees sign.CloseBrace) mid rest (opens sign.CloseBrace mid rest close))
    ∙ ap (λ l. given (namespace notes p all l) rest) (sym there)

member_again : (limit : ℕ) → Again (spec.member limit) (Bounded level_of_member limit IsMember) Anywhere
unfolding spec.member
member_again limit (namespace notes p all loc) ts rest (h, le) ends =
    let w = h.2 in
    let q = w.2 in
    let k = q.2.0 in
    let l = k.2 in
    bind_on (annotations ts) _ notes h.0
    (annotations_again notes ts h.0 h.1 (word_not (is_symbol sign.OpenParenthesis) (codes "namespace") h.0 w.0 w.1 refl) (word_not (is_symbol sign.At) (codes "namespace") h.0 w.0 w.1 refl))
    ∙ goes (sees_word (codes "namespace")) _ _ h.0 w.0 (opens_word (codes "namespace") h.0 w.0 refl w.1)
    ∙ block_again limit notes p all loc w.0 rest q.0 k.0 l.0 q.1 k.1 l.1 l.2 q.2.1 le
member_again limit (alone d) ts rest (h, le) ends =
    let k = h.2.0 in
    bind_on (annotations ts) _ d.annotations h.0
    (annotations_again d.annotations ts h.0 h.1 (item_not (is_symbol sign.OpenParenthesis) d.item h.0 k.0 k.1 refl refl refl refl) (item_not (is_symbol sign.At) d.item h.0 k.0 k.1 refl refl refl refl))
    ∙ stays (sees_word (codes "namespace")) _ _ h.0 (item_not (is_word (codes "namespace")) d.item h.0 k.0 k.1 refl refl refl refl)
    ∙ bind_on (spec.annotated limit d.annotations h.0) (λ x. pure (alone x)) d rest (annotated_again limit d h.0 rest k.0 k.1 k.2 h.2.1 le)

pub member_less : (m : Member) → Less (IsMember m)
member_less (namespace notes p all loc) ts rest h =
    let w = h.2 in
    let q = w.2 in
    let k = q.2.0 in
    let l = k.2 in
    omega (
      arith,
      annotations_most notes ts h.0 h.1,
      word_less (codes "namespace") h.0 w.0 w.1,
      path_less p w.0 q.0 q.1,
      one_less sign.OpenBrace q.0 k.0 k.1,
      many_most IsDeclaration declaration_less all k.0 l.0 l.1,
      one_less sign.CloseBrace l.0 rest l.2,
    )
member_less (alone d) ts rest h = declaration_less d ts rest h

some_left : (ts rest : List Token) → length rest < length ts → is_more ts ≡ true
some_left ts rest less = is_more_some ts (λ none. omega arith)

pub members_again : (limit : ℕ) (all : List Member) (ts rest : List Token) → many IsMember all ts rest → rest ≡ [] → highest level_of_member all ≤ limit → spec.members limit ts ≡ Ok (all, rest)
unfolding spec.members
members_again limit all ts rest h none le =
    while_again (spec.member limit) (Bounded level_of_member limit IsMember) (λ m vs ws k. member_less m vs ws k.0) Anywhere (member_again limit) is_more
    (λ m vs ws k. (some_left vs ws (member_less m vs ws k.0), tt)) all ts rest (many_each level_of_member limit IsMember all ts rest h le) tt (ap is_more none)
