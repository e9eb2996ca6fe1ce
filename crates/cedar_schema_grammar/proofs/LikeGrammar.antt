-- Each reader of the grammar looks one token ahead.
use Rattle.std.proofs.Common.{◌≡◌, ℕ, zero, suc, ◌<◌, ◌≤◌, Bool, true, false, not, ◌&&◌, ◌||◌, List, [], ◌∷◌, ◌++◌, length, drop, Option, Some, None, Ok, Err, refl, sym, ap, ap₂, ◌∙◌, subst, arith, length-append}
use Rattle.std.specs.Prelude.{codes, if◌then◌else◌, ⊤}
use Rattle.cedar_ast.specs.declared.loc.Loc.{Loc}
use Rattle.cedar_schema_tokens.specs.Token.{Lexeme, ident, text, symbol, Token}
use Rattle.cedar_schema_tokens.specs.declared.token.Symbol.TheVariants as sign
use Rattle.cedar_schema_grammar.specs.declared.fault.Stop.TheVariants.{Memory, Unexpected, TooDeep}
use Rattle.cedar_schema_grammar.specs.Tree.{Name, Path, Ty, named, set_of, record_of, Attribute, attributes_from, Parent, Says, principals, resources, context, Part, Applies, Body, choices, standard, Item, entity, action, common, Declaration, Member, namespace, alone}
use Rattle.cedar_schema_grammar.specs.Exact.{Peek}
use Rattle.cedar_schema_grammar.specs.Grammar.{span, between}
use Rattle.cedar_schema_grammar.specs.Reading as spec
use Rattle.cedar_schema_grammar.specs.Reading.{Outcome, Reader, and_then, pure, unexpected, first_is, is_symbol, is_word, is_text, id_of, text_of, name_of, sees, sees_word, sees_text, after, expect, expect_word, id, id_text, quoted, name, path, annotation, annotations, begins_set, attribute_with, set_with, record_with, type_by, too_deep, type_at, record_type, context_type, one_or_listed, separated, separated_from, taken, until, some_until, while, qualifier_from, plain_parent, before_close, is_more}
use Rattle.cedar_schema_grammar.proofs.Turns.{given}
use Rattle.cedar_schema_grammar.proofs.Steps.{same_pair, word_at, expect_ok}
use Rattle.cedar_schema_grammar.proofs.Lists.{one_less}
use Rattle.cedar_schema_grammar.proofs.Takes.{annotation_takes, path_type}
use Rattle.cedar_schema_grammar.proofs.TakesDeclarations.{declaration_takes, member_takes}
use Rattle.cedar_schema_grammar.proofs.Again.{annotation_less}
use Rattle.cedar_schema_grammar.proofs.AgainDeclarations.{declaration_less, member_less}
use Rattle.cedar_schema_grammar.proofs.Like.{peek_past, begins_level, Any, Match, Like, Turns, no_turn, fewer, free, bind_match, all_turns, match_as, match_of, like_as, like_bind, like_pure, like_unexpected, like_eat, like_look, look_match, like_expect, like_take, placed, like_placed, like_first, like_drop, behind_one, peek_first, like_separated, like_until, like_some, like_while}

-- E says that both readers have the same limit.
module _ (E : Type 0) where
  -- ---- names, paths and annotations

  like_id : (Like E) id id
  like_id = (like_take E) id_of

  like_quoted : (Like E) quoted quoted
  like_quoted = (like_take E) text_of

  like_name : (Like E) name name
  like_name = (like_take E) name_of

  like_id_text : (Like E) id_text id_text
  like_id_text = (like_bind E) id id (λ x. pure x.text) (λ x. pure x.text) like_id (λ x. (like_pure E) x.text)

  abbrev path_as : List (List ℕ) → Loc → Path
  path_as ids loc = record { ids = ids; loc = loc }

  pub like_path : (Like E) path path
  unfolding path
  like_path = (like_placed E) path_as (separated id_text sign.PathSeparator) (separated id_text sign.PathSeparator) ((like_separated E) id_text id_text like_id_text sign.PathSeparator)

  like_path_type : (Like E) path_type path_type
  like_path_type = (like_bind E) path path (λ p. pure (named p)) (λ p. pure (named p)) like_path (λ p. (like_pure E) (named p))

  -- what stands behind an annotation's name
  abbrev valued : Name → Reader Name
  valued x = λ us. and_then (quoted us) (λ _ vs. and_then (expect sign.CloseParenthesis vs) (λ _. pure x))

  like_valued : (x : Name) → (Like E) (valued x) (valued x)
  like_valued x =
      (like_bind E) quoted quoted (λ _ vs. and_then (expect sign.CloseParenthesis vs) (λ _. pure x)) (λ _ vs. and_then (expect sign.CloseParenthesis vs) (λ _. pure x)) like_quoted
      (λ _. (like_bind E) (expect sign.CloseParenthesis) (expect sign.CloseParenthesis) (λ _. pure x) (λ _. pure x) ((like_expect E) (is_symbol sign.CloseParenthesis)) (λ _. (like_pure E) x))

  -- an annotation, behind its `@`
  abbrev marked : Reader Name
  marked = λ us. and_then (id us) (λ x vs. (if sees sign.OpenParenthesis vs then valued x else pure x) (after (sees sign.OpenParenthesis) vs))

  like_marked : (Like E) marked marked
  like_marked =
      (like_bind E) id id (λ x vs. (if sees sign.OpenParenthesis vs then valued x else pure x) (after (sees sign.OpenParenthesis) vs)) (λ x vs. (if sees sign.OpenParenthesis vs then valued x else pure x) (after (sees sign.OpenParenthesis) vs)) like_id
      (λ x. (like_eat E) (is_symbol sign.OpenParenthesis) (valued x) (pure x) (valued x) (pure x) (like_valued x) ((like_pure E) x))

  like_annotation : (Like E) annotation annotation
  unfolding annotation
  like_annotation = (like_bind E) (expect sign.At) (expect sign.At) (λ _. marked) (λ _. marked) ((like_expect E) (is_symbol sign.At)) (λ _. like_marked)

  annotation_shorter : (x : Name) (ts rest : List Token) → annotation ts ≡ Ok (x, rest) → length rest < length ts
  annotation_shorter x ts rest e = annotation_less x ts rest (annotation_takes x ts rest e)

  like_annotations : (Like E) annotations annotations
  like_annotations = (like_while E) annotation annotation like_annotation annotation_shorter (sees sign.At) (peek_first (is_symbol sign.At))

  -- ---- types

  -- an attribute, behind its name
  abbrev attribute_tail : Reader Ty → List Name → Name → Reader Attribute
  attribute_tail inner notes x =
      λ us. and_then (expect sign.Colon (after (sees sign.Question) us)) (λ _ vs. and_then (inner vs) (λ ty. pure (record { annotations = notes; name = x; is_required = not (sees sign.Question us); of = ty })))

  -- its type
  abbrev attribute_type : Reader Ty → List Name → Name → Bool → Reader Attribute
  attribute_type inner notes x required = λ us. and_then (expect sign.Colon us) (λ _ vs. and_then (inner vs) (λ ty. pure (record { annotations = notes; name = x; is_required = required; of = ty })))

  like_attribute_type : (inner other : Reader Ty) → (Like E) inner other → (notes : List Name) (x : Name) (b : Bool) → (Like E) (attribute_type inner notes x b) (attribute_type other notes x b)
  like_attribute_type inner other alike notes x b =
      let built : Ty → Attribute = λ ty. record { annotations = notes; name = x; is_required = b; of = ty } in
      (like_bind E) (expect sign.Colon) (expect sign.Colon) (λ _ vs. and_then (inner vs) (λ ty. pure (built ty))) (λ _ vs. and_then (other vs) (λ ty. pure (built ty))) ((like_expect E) (is_symbol sign.Colon))
      (λ _. (like_bind E) inner other (λ ty. pure (built ty)) (λ ty. pure (built ty)) alike (λ ty. (like_pure E) (built ty)))

  -- whether a token is taken is known before the rest is read
  by_question : (inner : Reader Ty) (notes : List Name) (x : Name) (us : List Token) (b : Bool) → sees sign.Question us ≡ b
      → attribute_type inner notes x (not b) (if b then drop 1 us else us) ≡ (if b then attribute_type inner notes x false else attribute_type inner notes x true) (if b then drop 1 us else us)
  by_question inner notes x us true e = refl
  by_question inner notes x us false e = refl

  like_attribute_tail : (inner other : Reader Ty) → (Like E) inner other → (notes : List Name) (x : Name) → (Like E) (attribute_tail inner notes x) (attribute_tail other notes x)
  like_attribute_tail inner other alike notes x =
      (like_as E) (attribute_tail inner notes x) (λ us. (if sees sign.Question us then attribute_type inner notes x false else attribute_type inner notes x true) (after (sees sign.Question) us))
      (attribute_tail other notes x) (λ us. (if sees sign.Question us then attribute_type other notes x false else attribute_type other notes x true) (after (sees sign.Question) us))
      (λ us. by_question inner notes x us (sees sign.Question us) refl) (λ us. by_question other notes x us (sees sign.Question us) refl)
      ((like_eat E) (is_symbol sign.Question) (attribute_type inner notes x false) (attribute_type inner notes x true) (attribute_type other notes x false) (attribute_type other notes x true)
      (like_attribute_type inner other alike notes x false) (like_attribute_type inner other alike notes x true))

  like_attribute : (inner other : Reader Ty) → (Like E) inner other → (Like E) (attribute_with inner) (attribute_with other)
  unfolding attribute_with
  like_attribute inner other alike =
      (like_bind E) annotations annotations (λ notes us. and_then (name us) (λ x. attribute_tail inner notes x)) (λ notes us. and_then (name us) (λ x. attribute_tail other notes x)) like_annotations
      (λ notes. (like_bind E) name name (λ x. attribute_tail inner notes x) (λ x. attribute_tail other notes x) like_name (λ x. like_attribute_tail inner other alike notes x))

  abbrev record_as : List Attribute → Loc → Ty
  record_as all loc = record_of (attributes_from all) loc

  like_record : (inner other : Reader Ty) → (Like E) inner other → (Like E) (record_with inner) (record_with other)
  unfolding record_with
  like_record inner other alike =
      (like_placed E) record_as (λ ts. until (attribute_with inner) sign.CloseBrace (drop 1 ts)) (λ ts. until (attribute_with other) sign.CloseBrace (drop 1 ts))
      ((like_drop E) (until (attribute_with inner) sign.CloseBrace) (until (attribute_with other) sign.CloseBrace)
      ((like_until E) (attribute_with inner) (attribute_with other) (like_attribute inner other alike) sign.CloseBrace))

  two_less : (ts : List Token) → drop 2 ts ≡ drop 1 (drop 1 ts)
  two_less [] = refl
  two_less (t ∷ ts) = refl

  -- a set's element and `>`
  abbrev element : Reader Ty → Reader Ty
  element inner = λ ts. and_then (inner ts) (λ t us. and_then (expect sign.Greater us) (λ _. pure (set_of t)))

  like_element : (inner other : Reader Ty) → (Like E) inner other → (Like E) (element inner) (element other)
  like_element inner other alike =
      (like_bind E) inner other (λ t us. and_then (expect sign.Greater us) (λ _. pure (set_of t))) (λ t us. and_then (expect sign.Greater us) (λ _. pure (set_of t))) alike
      (λ t. (like_bind E) (expect sign.Greater) (expect sign.Greater) (λ _. pure (set_of t)) (λ _. pure (set_of t)) ((like_expect E) (is_symbol sign.Greater)) (λ _. (like_pure E) (set_of t)))

  abbrev token_of : Loc → Lexeme → Token
  token_of loc l = record { lexeme = l; loc = loc }

  -- the path `Set` alone is read
  set_alone : (t : Token) → is_word (codes "Set") t.lexeme ≡ true → (y : Ty) × (path_type (t ∷ []) ≡ Ok (y, []))
  unfolding path spec.separated_from
  set_alone t e =
      let w = word_at (codes "Set") (t ∷ []) e in
      (named (record { ids = codes "Set" ∷ []; loc = between (token_of w.0 (ident (codes "Set")) ∷ []) [] }), ap path_type w.1)

  abbrev first_token : Token → List Token → Token
  first_token d [] = d
  first_token d (t ∷ ts) = t

  first_ok : {A : Type 0} (x y : A) (rest : List Token) (t : Token) (ts : List Token) (q : Reader A) → q (t ∷ []) ≡ Ok (y, []) → t ∷ ts ≡ rest
      → ((us : List Token) → Peek rest us → Any us → q us ≡ Ok (x, us)) → ⊥
  first_ok x y rest t ts q reads e h =
      let P : List Token → Type 0 = λ vs. Peek vs (t ∷ []) in
      let none : t ∷ [] ≡ [] = (same_pair x y (t ∷ []) [] (sym (h (t ∷ []) (subst P e refl) tt) ∙ reads)).1 in
      absurd (cc)

  first_err : {A : Type 0} (y : A) (rest : List Token) (t : Token) (ts : List Token) (q : Reader A) → q (t ∷ []) ≡ Ok (y, []) → t ∷ ts ≡ rest
      → ((us : List Token) → Peek rest us → Any us → q us ≡ Err (Unexpected (length us))) → ⊥
  first_err y rest t ts q reads e h =
      let P : List Token → Type 0 = λ vs. Peek vs (t ∷ []) in
      let never = h (t ∷ []) (subst P e refl) tt in
      absurd (cc)

  -- a path isn't refused as too deep
  abbrev IsPlain : {A : Type 0} → Outcome A → Type 0
  IsPlain (Ok p) = ⊤
  IsPlain (Err (Unexpected left)) = ⊤
  IsPlain (Err (TooDeep left)) = ⊥
  IsPlain (Err Memory) = ⊤

  plain_bind : {A B : Type 0} (o : Outcome A) (f : A → Reader B) → IsPlain o → ((x : A) (us : List Token) → IsPlain (f x us)) → IsPlain (and_then o f)
  plain_bind (Ok p) f h k = k p.0 p.1
  plain_bind (Err (Unexpected left)) f h k = tt
  plain_bind (Err (TooDeep left)) f h k = h
  plain_bind (Err Memory) f h k = tt

  taken_plain : (all : List Token) (loc : Loc) (ts : List Token) (o : Option (List ℕ)) → IsPlain (taken all loc ts o)
  taken_plain all loc ts (Some s) = tt
  taken_plain all loc ts None = tt

  id_plain : (ts : List Token) → IsPlain (id ts)
  id_plain [] = tt
  id_plain (t ∷ ts) = taken_plain (t ∷ ts) t.loc ts (id_of t.lexeme)

  more_plain : {A : Type 0} (b : Bool) (p q : Reader A) (us : List Token) → IsPlain (p us) → IsPlain (q us) → IsPlain ((if b then p else q) us)
  more_plain true p q us h k = h
  more_plain false p q us h k = k

  ids_plain : (n : ℕ) (found : List (List ℕ)) (ts : List Token) → IsPlain (separated_from id_text sign.PathSeparator n found ts)
  unfolding separated_from
  ids_plain zero found ts = tt
  ids_plain (suc n) found ts =
      plain_bind (id_text ts) (λ x us. (if sees sign.PathSeparator us then separated_from id_text sign.PathSeparator n (found ++ x ∷ []) else pure (found ++ x ∷ [])) (after (sees sign.PathSeparator) us))
      (plain_bind (id ts) (λ x. pure x.text) (id_plain ts) (λ x us. tt))
      (λ x us. more_plain (sees sign.PathSeparator us) (separated_from id_text sign.PathSeparator n (found ++ x ∷ [])) (pure (found ++ x ∷ [])) (after (sees sign.PathSeparator) us)
      (ids_plain n (found ++ x ∷ []) (after (sees sign.PathSeparator) us)) tt)

  path_plain : (ts : List Token) → IsPlain (path_type ts)
  unfolding path
  path_plain ts =
      plain_bind (path ts) (λ p. pure (named p))
      (plain_bind (separated id_text sign.PathSeparator ts) (λ ids rest. given (path_as ids (between ts rest)) rest) (ids_plain (length ts) [] ts) (λ ids us. tt)) (λ p us. tt)

  or_true : (b : Bool) → (b || true) ≡ true
  or_true true = refl
  or_true false = refl

  -- a set's word is no brace
  second_less : (l : Lexeme) (b : Bool) → is_word (codes "Set") l ≡ true → (is_symbol sign.OpenBrace l || (is_word (codes "Set") l && b)) ≡ true → b ≡ true
  second_less (ident s) b w op = ap (λ a. a && b) (sym w) ∙ op
  second_less (text s) b w op = absurd (cc)
  second_less (symbol k) b w op = absurd (cc)

  -- behind a first token that the reader takes by itself
  module _ {A : Type 0} (t : Token) (ts : List Token) (q r : Reader A) (y : A) (reads : q (t ∷ []) ≡ Ok (y, [])) (same : (us : List Token) → Peek ts us → r (t ∷ us) ≡ q (t ∷ us)) where
    on_first : (u : Token) (pre rest us : List Token) → t ∷ ts ≡ u ∷ (pre ++ rest) → Peek rest us → r (u ∷ (pre ++ us)) ≡ q (u ∷ (pre ++ us))
    on_first u pre rest us e peek =
        let head : t ≡ u = ap (first_token t) e in
        ap (λ v. r (v ∷ (pre ++ us))) (sym head) ∙ same (pre ++ us) (peek_past ts pre rest us (ap (drop 1) e) peek) ∙ ap (λ v. q (v ∷ (pre ++ us))) head

    taken_first : (o : Outcome A) → IsPlain o → (Match E) Any o (t ∷ ts) q → (Match E) Any o (t ∷ ts) r
    taken_first (Ok p) plain ([], e, h) = absurd (first_ok p.0 y p.1 t ts q reads e h)
    taken_first (Ok p) plain (u ∷ pre, e, h) = (u ∷ pre, e, λ us peek _. on_first u pre p.1 us e peek ∙ h us peek tt)
    taken_first (Err (Unexpected left)) plain ([], rest, e, l, h) = absurd (first_err y rest t ts q reads e h)
    taken_first (Err (Unexpected left)) plain (u ∷ pre, rest, e, l, h) = (u ∷ pre, rest, e, l, λ us peek _. on_first u pre rest us e peek ∙ h us peek tt)
    taken_first (Err (TooDeep left)) plain h = absurd plain
    taken_first (Err Memory) plain h = tt

  -- a set or a path, by the second token
  abbrev by_second : Reader Ty → Reader Ty
  by_second set = λ ts. if sees sign.Less (drop 1 ts) then set ts else path_type ts

  second_case : (set other : Reader Ty) (t : Token) (ts : List Token) → is_word (codes "Set") t.lexeme ≡ true → (v : Bool) → sees sign.Less ts ≡ v
      → (sees sign.Less ts ≡ true → (Match E) Any (set (t ∷ ts)) (t ∷ ts) (by_second other)) → (Match E) Any (if v then set (t ∷ ts) else path_type (t ∷ ts)) (t ∷ ts) (by_second other)
  second_case set other t ts w true e h = h e
  second_case set other t ts w false e h =
      let y = set_alone t w in
      taken_first t ts path_type (by_second other) y.0 y.1 (λ us peek. ap (λ b. if b then other (t ∷ us) else path_type (t ∷ us)) (peek_first (is_symbol sign.Less) ts us peek ∙ e))
      (path_type (t ∷ ts)) (path_plain (t ∷ ts)) (like_path_type (t ∷ ts))

  -- a set or a path
  abbrev set_or_path : Reader Ty → Reader Ty
  set_or_path set = λ ts. if begins_set ts then set ts else path_type ts

  and_case : (a b : Bool) (x y : Outcome Ty) → (if a && b then x else y) ≡ (if a then (if b then x else y) else y)
  and_case true b x y = refl
  and_case false b x y = refl

  second_match : (set other : Reader Ty) (ts : List Token) → ((t : Token) (us : List Token) → is_word (codes "Set") t.lexeme ≡ true → sees sign.Less us ≡ true → (Match E) Any (set (t ∷ us)) (t ∷ us) (by_second other))
      → sees_word (codes "Set") ts ≡ true → (Match E) Any (by_second set ts) ts (by_second other)
  second_match set other [] h e = absurd (cc)
  second_match set other (t ∷ ts) h e = second_case set other t ts e (sees sign.Less ts) refl (h t ts e)

  choice_match : (set other : Reader Ty) (ts : List Token) → ((t : Token) (us : List Token) → is_word (codes "Set") t.lexeme ≡ true → sees sign.Less us ≡ true → (Match E) Any (set (t ∷ us)) (t ∷ us) (by_second other))
      → (Match E) Any (set_or_path set ts) ts (set_or_path other)
  choice_match set other ts h =
      let looked : Reader Ty = λ us. if sees_word (codes "Set") us then by_second other us else path_type us in
      (match_of E) Any (set_or_path set ts) (if sees_word (codes "Set") ts then by_second set ts else path_type ts) ts (set_or_path other)
      (and_case (sees_word (codes "Set") ts) (sees sign.Less (drop 1 ts)) (set ts) (path_type ts))
      ((match_as E) Any Any (if sees_word (codes "Set") ts then by_second set ts else path_type ts) ts looked (set_or_path other)
      (λ us peek _. (and_case (sees_word (codes "Set") us) (sees sign.Less (drop 1 us)) (other us) (path_type us), tt))
      ((look_match E) (is_word (codes "Set")) (by_second set) path_type (by_second other) path_type ts (λ e. second_match set other ts h e) (λ e. like_path_type ts)))

  -- a set, behind its word
  set_match : (inner other : Reader Ty) → (Like E) inner other → (t : Token) (ts : List Token) → sees sign.Less ts ≡ true → (Match E) Any (set_with inner (t ∷ ts)) (t ∷ ts) (by_second (set_with other))
  unfolding set_with
  set_match inner other alike t ts e =
      let behind : Reader Ty = λ us. if sees sign.Less us then element other (drop 1 us) else path_type (t ∷ us) in
      (behind_one E) Any Any t ts behind (by_second (set_with other)) (λ us _. (refl, tt)) (element inner (drop 1 ts))
      ((match_as E) Any Any (element inner (drop 1 ts)) ts (λ us. element other (drop 1 us)) behind
      (λ us peek _. (ap (λ b. if b then element other (drop 1 us) else path_type (t ∷ us)) (peek_first (is_symbol sign.Less) ts us peek ∙ e), tt))
      ((like_drop E) (element inner) (element other) (like_element inner other alike) ts))

  like_type_by : (inner other : Reader Ty) → (Like E) inner other → (Like E) (type_by (set_with inner) (record_with inner)) (type_by (set_with other) (record_with other))
  like_type_by inner other alike ts =
      (look_match E) (is_symbol sign.OpenBrace) (record_with inner) (set_or_path (set_with inner)) (record_with other) (set_or_path (set_with other)) ts (λ _. like_record inner other alike ts)
      (λ _. choice_match (set_with inner) (set_with other) ts (λ t us _. set_match inner other alike t us))

  -- at a set the second token is `<` too
  set_opens : (t : Token) (ts : List Token) → is_word (codes "Set") t.lexeme ≡ true → sees sign.Less ts ≡ true → begins_level (t ∷ ts) ≡ true
  set_opens t ts w less =
      let word = word_at (codes "Set") (t ∷ []) w in
      ap₂ (λ a b. is_symbol sign.OpenBrace t.lexeme || (a && b)) w less ∙ or_true (is_symbol sign.OpenBrace t.lexeme)

  opened_set : (other : Reader Ty) (t : Token) (ts us : List Token) → is_word (codes "Set") t.lexeme ≡ true → Peek (t ∷ ts) us → begins_level us ≡ true → by_second other us ≡ other us
  opened_set other t ts [] w peek op = absurd peek
  opened_set other t ts (u ∷ us) w peek op =
      let word : is_word (codes "Set") u.lexeme ≡ true = ap (λ v. is_word (codes "Set") v.lexeme) (sym peek) ∙ w in
      let less = second_less (u.lexeme) (sees sign.Less us) word op in
      ap (λ b. if b then other (u ∷ us) else path_type (u ∷ us)) less

  -- reading stops at a type, where both readers have the same limit
  deep_set : (set : Reader Ty) → (E → (us : List Token) → set us ≡ Err (TooDeep (length us))) → (t : Token) (ts : List Token) → is_word (codes "Set") t.lexeme ≡ true → sees sign.Less ts ≡ true
      → (Match E) Any (too_deep (t ∷ ts)) (t ∷ ts) (by_second set)
  deep_set set deep t ts w less = λ e. ([], t ∷ ts, refl, refl, set_opens t ts w less, λ us peek op _. opened_set set t ts us w peek op ∙ deep e us)

  deep_record : (whole : Reader Ty) → (E → (us : List Token) → whole us ≡ Err (TooDeep (length us))) → (ts : List Token) → sees sign.OpenBrace ts ≡ true → (Match E) Any (too_deep ts) ts whole
  deep_record whole deep ts brace = λ e. ([], ts, refl, refl, ap (λ b. b || begins_set ts) brace, λ us peek op _. deep e us)

  like_too_deep : (set whole : Reader Ty) → (E → (us : List Token) → set us ≡ Err (TooDeep (length us))) → (E → (us : List Token) → whole us ≡ Err (TooDeep (length us)))
      → (Like E) (type_by too_deep too_deep) (type_by set whole)
  like_too_deep set whole deep deep_whole ts =
      (look_match E) (is_symbol sign.OpenBrace) too_deep (set_or_path too_deep) whole (set_or_path set) ts (deep_record whole deep_whole ts) (λ _. choice_match too_deep set ts (deep_set set deep))

  pub like_type : (l m : ℕ) → l ≤ m → (E → l ≡ m) → (Like E) (type_at l) (type_at m)
  unfolding type_at
  like_type zero zero le even = like_too_deep too_deep too_deep (λ e us. refl) (λ e us. refl)
  like_type zero (suc m) le even = like_too_deep (set_with (type_at m)) (record_with (type_at m)) (λ e us. absurd (omega (arith, even e))) (λ e us. absurd (omega (arith, even e)))
  like_type (suc l) zero le even = absurd (omega arith)
  like_type (suc l) (suc m) le even = like_type_by (type_at l) (type_at m) (like_type l m (omega arith) (λ e. omega (arith, even e)))

  -- ---- lists of one or more

  abbrev one_of : {A : Type 0} → A → List A
  one_of x = x ∷ []

  like_listed : {A : Type 0} (item : Reader A) → (Like E) item item → (Like E) (one_or_listed item) (one_or_listed item)
  like_listed item alike =
      let one : Reader (List _) = λ us. and_then (item us) (λ x. pure (x ∷ [])) in
      (like_eat E) (is_symbol sign.OpenBracket) (until item sign.CloseBracket) one (until item sign.CloseBracket) one ((like_until E) item item alike sign.CloseBracket)
      ((like_bind E) item item (λ x. pure (x ∷ [])) (λ x. pure (x ∷ [])) alike (λ x. (like_pure E) (x ∷ [])))

  like_paths : (Like E) spec.paths spec.paths
  unfolding spec.paths
  like_paths = like_listed path like_path

  like_below : (Like E) spec.below spec.below
  unfolding spec.below
  like_below = (like_eat E) (is_word (codes "in")) spec.paths (pure []) spec.paths (pure []) like_paths ((like_pure E) [])

  like_maybe : {A : Type 0} (p q : Reader A) → (Like E) p q → (Like E) (λ ts. and_then (p ts) (λ x. pure (Some x))) (λ ts. and_then (q ts) (λ x. pure (Some x)))
  like_maybe p q alike = (like_bind E) p q (λ x. pure (Some x)) (λ x. pure (Some x)) alike (λ x. (like_pure E) (Some x))

  -- ---- entity types

  applied : {B : Type 0} (b : Bool) (p q : Reader B) (ts : List Token) → (if b then p else q) ts ≡ (if b then p ts else q ts)
  applied true p q ts = refl
  applied false p q ts = refl

  -- by what comes first, as a reader
  like_here : {B : Type 0} (f : Lexeme → Bool) (a b c d : Reader B) → (Like E) a c → (Like E) b d → (Like E) (λ ts. (if first_is f ts then a else b) ts) (λ ts. (if first_is f ts then c else d) ts)
  like_here f a b c d h k =
      (like_as E) (λ ts. (if first_is f ts then a else b) ts) (λ ts. if first_is f ts then a ts else b ts) (λ ts. (if first_is f ts then c else d) ts) (λ ts. if first_is f ts then c ts else d ts)
      (λ ts. applied (first_is f ts) a b ts) (λ ts. applied (first_is f ts) c d ts) ((like_look E) f a b c d h k)

  module _ (l m : ℕ) (le : l ≤ m) (even : E → l ≡ m) where
    like_record_type : (Like E) (record_type l) (record_type m)
    like_record_type = (like_look E) (is_symbol sign.OpenBrace) (type_at l) unexpected (type_at m) unexpected (like_type l m le even) (like_unexpected E)

    like_context_type : (Like E) (context_type l) (context_type m)
    like_context_type = (like_look E) (is_symbol sign.OpenBrace) (type_at l) path_type (type_at m) path_type (like_type l m le even) like_path_type

    abbrev maybe : Reader Ty → Reader (Option Ty)
    maybe p = λ ts. and_then (p ts) (λ x. pure (Some x))

    abbrev unmarked : Reader Ty → Reader (Option Ty)
    unmarked p = λ us. (if sees sign.OpenBrace us then maybe p else pure None) us

    abbrev shape_with : Reader Ty → Reader (Option Ty)
    shape_with p = λ ts. (if sees sign.Equals ts then maybe p else unmarked p) (after (sees sign.Equals) ts)

    shape_as : (limit : ℕ) (ts : List Token) (b : Bool) (us : List Token)
        → (if b then maybe (record_type limit) else (if sees sign.OpenBrace us then maybe (record_type limit) else pure None)) us ≡ (if b then maybe (record_type limit) else unmarked (record_type limit)) us
    shape_as limit ts true us = refl
    shape_as limit ts false us = refl

    like_shape : (Like E) (spec.shape l) (spec.shape m)
    unfolding spec.shape
    like_shape =
        (like_as E) (spec.shape l) (shape_with (record_type l)) (spec.shape m) (shape_with (record_type m))
        (λ ts. shape_as l ts (sees sign.Equals ts) (after (sees sign.Equals) ts)) (λ ts. shape_as m ts (sees sign.Equals ts) (after (sees sign.Equals) ts))
        ((like_eat E) (is_symbol sign.Equals) (maybe (record_type l)) (unmarked (record_type l)) (maybe (record_type m)) (unmarked (record_type m)) (like_maybe (record_type l) (record_type m) like_record_type)
        (like_here (is_symbol sign.OpenBrace) (maybe (record_type l)) (pure None) (maybe (record_type m)) (pure None) (like_maybe (record_type l) (record_type m) like_record_type) ((like_pure E) None)))

    like_tags : (Like E) (spec.tags l) (spec.tags m)
    unfolding spec.tags
    like_tags = (like_eat E) (is_word (codes "tags")) (maybe (type_at l)) (pure None) (maybe (type_at m)) (pure None) (like_maybe (type_at l) (type_at m) (like_type l m le even)) ((like_pure E) None)

    abbrev listed_body : Reader Body
    listed_body = λ ts. and_then (expect sign.OpenBracket ts) (λ _ us. and_then (some_until quoted sign.CloseBracket us) (λ all. pure (choices all)))

    abbrev plain_body : ℕ → Reader Body
    plain_body limit = λ ts. and_then (spec.below ts) (λ above us. and_then (spec.shape limit us) (λ shape vs. and_then (spec.tags limit vs) (λ tags. pure (standard above shape tags))))

    like_listed_body : (Like E) listed_body listed_body
    like_listed_body =
        (like_bind E) (expect sign.OpenBracket) (expect sign.OpenBracket) (λ _ us. and_then (some_until quoted sign.CloseBracket us) (λ all. pure (choices all)))
        (λ _ us. and_then (some_until quoted sign.CloseBracket us) (λ all. pure (choices all))) ((like_expect E) (is_symbol sign.OpenBracket))
        (λ _. (like_bind E) (some_until quoted sign.CloseBracket) (some_until quoted sign.CloseBracket) (λ all. pure (choices all)) (λ all. pure (choices all))
        ((like_some E) quoted quoted like_quoted sign.CloseBracket) (λ all. (like_pure E) (choices all)))

    like_plain_body : (Like E) (plain_body l) (plain_body m)
    like_plain_body =
        (like_bind E) spec.below spec.below (λ above us. and_then (spec.shape l us) (λ shape vs. and_then (spec.tags l vs) (λ tags. pure (standard above shape tags))))
        (λ above us. and_then (spec.shape m us) (λ shape vs. and_then (spec.tags m vs) (λ tags. pure (standard above shape tags)))) like_below
        (λ above. (like_bind E) (spec.shape l) (spec.shape m) (λ shape vs. and_then (spec.tags l vs) (λ tags. pure (standard above shape tags)))
        (λ shape vs. and_then (spec.tags m vs) (λ tags. pure (standard above shape tags))) like_shape
        (λ shape. (like_bind E) (spec.tags l) (spec.tags m) (λ tags. pure (standard above shape tags)) (λ tags. pure (standard above shape tags)) like_tags (λ tags. (like_pure E) (standard above shape tags))))

    like_body : (Like E) (spec.body l) (spec.body m)
    unfolding spec.body
    like_body = (like_eat E) (is_word (codes "enum")) listed_body (plain_body l) listed_body (plain_body m) like_listed_body like_plain_body

  -- ---- parents of actions

  -- {ID "::"} before a text, a turn
  abbrev qualifier_turn : (List (List ℕ) → Loc → Reader Path) → List (List ℕ) → Reader Path
  qualifier_turn again found = λ ts. and_then (id ts) (λ x us. and_then (expect sign.PathSeparator us) (λ _. again (found ++ x.text ∷ []) x.loc))

  module _ (start : Loc) where
    abbrev Qualifier : ℕ → ℕ → List Token → List (List ℕ) → Loc → Type 0
    Qualifier n k ts found last = (Match E) ((Turns E) n k ts) (qualifier_from start n found last ts) ts (qualifier_from start k found last)

    abbrev ended : List (List ℕ) → Loc → Path
    ended found last = record { ids = found; loc = span start last }

    sep_match : (n k : ℕ) (found : List (List ℕ)) (x : Name) (ts pre mid : List Token) → length ts ≤ suc n → ts ≡ pre ++ mid
        → ((more : List (List ℕ)) (place : Loc) (us : List Token) → length us ≤ n → Qualifier n k us more place)
        → (Match E) ((Turns E) (suc n) (suc k) mid) (and_then (expect sign.PathSeparator mid) (λ _. qualifier_from start n (found ++ x.text ∷ []) x.loc)) mid
        (λ us. and_then (expect sign.PathSeparator us) (λ _. qualifier_from start k (found ++ x.text ∷ []) x.loc))
    sep_match n k found x ts pre mid le e again =
        (bind_match E) ((Turns E) (suc n) (suc k) mid) (expect sign.PathSeparator) (λ _. qualifier_from start n (found ++ x.text ∷ []) x.loc) (λ _. qualifier_from start k (found ++ x.text ∷ []) x.loc) mid
        (expect sign.PathSeparator mid) ((like_expect E) (is_symbol sign.PathSeparator) mid)
        (λ u rest front r s.
        let sep = expect_ok sign.PathSeparator mid rest u r in (
          (Turns E) n k rest,
          again (found ++ x.text ∷ []) x.loc rest (omega (arith, one_less sign.PathSeparator mid rest sep, ap length e, length-append pre mid)),
          λ us turns. omega (arith, (fewer E) (suc n) (suc k) mid front rest us s turns, one_less sign.PathSeparator mid rest sep),
        ))

    turn_match : (n k : ℕ) (found : List (List ℕ)) (ts : List Token) → length ts ≤ suc n → ((more : List (List ℕ)) (place : Loc) (us : List Token) → length us ≤ n → Qualifier n k us more place)
        → (Match E) ((Turns E) (suc n) (suc k) ts) (qualifier_turn (qualifier_from start n) found ts) ts (qualifier_turn (qualifier_from start k) found)
    turn_match n k found ts le again =
        (bind_match E) ((Turns E) (suc n) (suc k) ts) id (λ x us. and_then (expect sign.PathSeparator us) (λ _. qualifier_from start n (found ++ x.text ∷ []) x.loc))
        (λ x us. and_then (expect sign.PathSeparator us) (λ _. qualifier_from start k (found ++ x.text ∷ []) x.loc)) ts (id ts) (like_id ts)
        (λ x mid pre r s. ((Turns E) (suc n) (suc k) mid, sep_match n k found x ts pre mid le s again, λ us turns. (fewer E) (suc n) (suc k) ts pre mid us s turns))

    qualifier_case : (n k : ℕ) (found : List (List ℕ)) (last : Loc) (ts : List Token) → length ts ≤ suc n → ((more : List (List ℕ)) (place : Loc) (us : List Token) → length us ≤ n → Qualifier n k us more place)
        → (v : Bool) → sees_text ts ≡ v → (Match E) ((Turns E) (suc n) (suc k) ts) (if v then given (ended found last) ts else qualifier_turn (qualifier_from start n) found ts) ts (qualifier_from start (suc k) found last)
    unfolding qualifier_from
    qualifier_case n k found last ts le again true e =
        (match_as E) ((Turns E) (suc n) (suc k) ts) ((Turns E) (suc n) (suc k) ts) (given (ended found last) ts) ts (pure (ended found last)) (qualifier_from start (suc k) found last)
        (λ us peek ok. (ap (λ w. if w then given (ended found last) us else qualifier_turn (qualifier_from start k) found us) (peek_first is_text ts us peek ∙ e), ok))
        ((free E) ((Turns E) (suc n) (suc k) ts) (given (ended found last) ts) ts (pure (ended found last)) ((like_pure E) (ended found last) ts))
    qualifier_case n k found last ts le again false e =
        (match_as E) ((Turns E) (suc n) (suc k) ts) ((Turns E) (suc n) (suc k) ts) (qualifier_turn (qualifier_from start n) found ts) ts (qualifier_turn (qualifier_from start k) found) (qualifier_from start (suc k) found last)
        (λ us peek ok. (ap (λ w. if w then given (ended found last) us else qualifier_turn (qualifier_from start k) found us) (peek_first is_text ts us peek ∙ e), ok))
        (turn_match n k found ts le again)

    qualifier_step : (n k : ℕ) (found : List (List ℕ)) (last : Loc) (ts : List Token) → length ts ≤ suc n → ((more : List (List ℕ)) (place : Loc) (us : List Token) → length us ≤ n → Qualifier n k us more place)
        → Qualifier (suc n) (suc k) ts found last
    unfolding qualifier_from
    qualifier_step n k found last ts le again = qualifier_case n k found last ts le again (sees_text ts) refl

    qualifier_none : (k : ℕ) (found : List (List ℕ)) (last : Loc) (us : List Token) → Peek [] us → (Turns E) 0 k [] us → qualifier_from start k found last us ≡ Err (Unexpected (length us))
    unfolding qualifier_from
    qualifier_none zero found last [] h e = refl
    qualifier_none (suc k) found last [] h e = absurd (omega arith)
    qualifier_none k found last (u ∷ us) h e = absurd h

    qualifier_match : (n k : ℕ) (found : List (List ℕ)) (last : Loc) (ts : List Token) → length ts ≤ n → Qualifier n k ts found last
    unfolding qualifier_from
    qualifier_match zero k found last [] le = ([], [], refl, refl, λ us peek turns. qualifier_none k found last us peek turns)
    qualifier_match zero k found last (t ∷ ts) le = absurd (omega arith)
    qualifier_match (suc n) zero found last ts le =
        (match_as E) ((Turns E) (suc n) 1 ts) ((Turns E) (suc n) 0 ts) (qualifier_from start (suc n) found last ts) ts (qualifier_from start 1 found last) (qualifier_from start 0 found last)
        (λ us peek turns. absurd ((no_turn E) n ts us le peek turns)) (qualifier_step n 0 found last ts le (λ more place us. qualifier_match n 0 more place us))
    qualifier_match (suc n) (suc k) found last ts le = qualifier_step n k found last ts le (λ more place us. qualifier_match n k more place us)

  like_qualifier : (first : Name) → (Like E) (spec.qualifier first) (spec.qualifier first)
  like_qualifier first ts =
      (all_turns E) (spec.qualifier first ts) ts (λ k. qualifier_from first.loc k (first.text ∷ []) first.loc) (λ k. qualifier_match first.loc (length ts) k (first.text ∷ []) first.loc ts (omega arith))

  abbrev qualified_as : Name → Path → Name → Parent
  qualified_as first p x = record { ty = Some p; id = x; loc = span first.loc x.loc }

  like_qualified : (first : Name) → (Like E) (spec.qualified first) (spec.qualified first)
  unfolding spec.qualified
  like_qualified first =
      (like_bind E) (spec.qualifier first) (spec.qualifier first) (λ p us. and_then (quoted us) (λ x. pure (qualified_as first p x))) (λ p us. and_then (quoted us) (λ x. pure (qualified_as first p x))) (like_qualifier first)
      (λ p. (like_bind E) quoted quoted (λ x. pure (qualified_as first p x)) (λ x. pure (qualified_as first p x)) like_quoted (λ x. (like_pure E) (qualified_as first p x)))

  abbrev text_parent : Reader Parent
  text_parent = λ ts. and_then (quoted ts) (λ x. pure (plain_parent x))

  abbrev id_parent : Reader Parent
  id_parent = λ ts. and_then (id ts) (λ x us. (if sees sign.PathSeparator us then spec.qualified x else pure (plain_parent x)) (after (sees sign.PathSeparator) us))

  like_parent : (Like E) spec.parent spec.parent
  unfolding spec.parent
  like_parent =
      (like_look E) is_text text_parent id_parent text_parent id_parent ((like_bind E) quoted quoted (λ x. pure (plain_parent x)) (λ x. pure (plain_parent x)) like_quoted (λ x. (like_pure E) (plain_parent x)))
      ((like_bind E) id id (λ x us. (if sees sign.PathSeparator us then spec.qualified x else pure (plain_parent x)) (after (sees sign.PathSeparator) us))
      (λ x us. (if sees sign.PathSeparator us then spec.qualified x else pure (plain_parent x)) (after (sees sign.PathSeparator) us)) like_id
      (λ x. (like_eat E) (is_symbol sign.PathSeparator) (spec.qualified x) (pure (plain_parent x)) (spec.qualified x) (pure (plain_parent x)) (like_qualified x) ((like_pure E) (plain_parent x))))

  like_parents : (Like E) spec.parents spec.parents
  unfolding spec.parents
  like_parents = like_listed spec.parent like_parent

  -- ---- actions

  abbrev in_parents : Reader (Option (List Parent))
  in_parents = λ ts. and_then (spec.parents ts) (λ ps. pure (Some ps))

  like_inside : (Like E) spec.inside spec.inside
  unfolding spec.inside
  like_inside = (like_eat E) (is_word (codes "in")) in_parents (pure None) in_parents (pure None) (like_maybe spec.parents spec.parents like_parents) ((like_pure E) None)

  like_said_paths : (Like E) spec.said_paths spec.said_paths
  unfolding spec.said_paths
  like_said_paths = (like_bind E) (expect sign.Colon) (expect sign.Colon) (λ _. spec.paths) (λ _. spec.paths) ((like_expect E) (is_symbol sign.Colon)) (λ _. like_paths)

  like_no_values : (Like E) spec.no_values spec.no_values
  unfolding spec.no_values
  like_no_values =
      let braces : Reader (Unit {0}) = λ ts. and_then (expect sign.OpenBrace ts) (λ _. expect sign.CloseBrace) in
      (like_eat E) (is_word (codes "attributes")) braces (pure tt) braces (pure tt)
      ((like_bind E) (expect sign.OpenBrace) (expect sign.OpenBrace) (λ _. expect sign.CloseBrace) (λ _. expect sign.CloseBrace) ((like_expect E) (is_symbol sign.OpenBrace)) (λ _. (like_expect E) (is_symbol sign.CloseBrace)))
      ((like_pure E) tt)

  assoc : {A B C : Type 0} (o : Outcome A) (f : A → Reader B) (g : B → Reader C) → and_then o (λ x us. and_then (f x us) g) ≡ and_then (and_then o f) g
  assoc (Ok p) f g = refl
  assoc (Err e) f g = refl

  assoc_two : {A B C D : Type 0} (o : Outcome A) (p : Reader B) (f : B → Reader C) (g : C → Reader D)
      → and_then o (λ _ us. and_then (p us) (λ x vs. and_then (f x vs) g)) ≡ and_then (and_then o (λ _ us. and_then (p us) f)) g
  assoc_two (Ok r) p f g = assoc (p r.1) f g
  assoc_two (Err e) p f g = refl

  module _ (l m : ℕ) (le : l ≤ m) (even : E → l ≡ m) where
    like_said_context : (Like E) (spec.said_context l) (spec.said_context m)
    unfolding spec.said_context
    like_said_context = (like_bind E) (expect sign.Colon) (expect sign.Colon) (λ _. context_type l) (λ _. context_type m) ((like_expect E) (is_symbol sign.Colon)) (λ _. like_context_type l m le even)

    abbrev said : {A : Type 0} → Reader A → (A → Says) → Loc → Reader Part
    said p kind loc = λ ts. and_then (p ts) (λ x. pure (record { says = kind x; loc = loc }))

    like_said : {A : Type 0} (p q : Reader A) (kind : A → Says) (loc : Loc) → (Like E) p q → (Like E) (said p kind loc) (said q kind loc)
    like_said p q kind loc alike = (like_bind E) p q (λ x. pure (record { says = kind x; loc = loc })) (λ x. pure (record { says = kind x; loc = loc })) alike (λ x. (like_pure E) (record { says = kind x; loc = loc }))

    abbrev said_resources : Loc → Reader Part
    said_resources loc = λ ts. and_then (expect_word (codes "resource") ts) (λ _. said spec.said_paths resources loc)

    abbrev said_others : Loc → Reader Part
    said_others loc = λ ts. (if sees_word (codes "principal") ts then said spec.said_paths principals loc else said_resources loc) (after (sees_word (codes "principal")) ts)

    abbrev said_at : ℕ → Loc → Reader Part
    said_at limit loc = λ ts. (if sees_word (codes "context") ts then said (spec.said_context limit) context loc else said_others loc) (after (sees_word (codes "context")) ts)

    like_said_at : (loc : Loc) → (Like E) (said_at l loc) (said_at m loc)
    like_said_at loc =
        (like_eat E) (is_word (codes "context")) (said (spec.said_context l) context loc) (said_others loc) (said (spec.said_context m) context loc) (said_others loc)
        (like_said (spec.said_context l) (spec.said_context m) context loc like_said_context)
        ((like_eat E) (is_word (codes "principal")) (said spec.said_paths principals loc) (said_resources loc) (said spec.said_paths principals loc) (said_resources loc)
        (like_said spec.said_paths spec.said_paths principals loc like_said_paths)
        ((like_bind E) (expect_word (codes "resource")) (expect_word (codes "resource")) (λ _. said spec.said_paths resources loc) (λ _. said spec.said_paths resources loc) ((like_expect E) (is_word (codes "resource")))
        (λ _. like_said spec.said_paths spec.said_paths resources loc like_said_paths)))

    like_part : (Like E) (spec.part l) (spec.part m)
    unfolding spec.part
    like_part = (like_first E) (said_at l) (said_at m) like_said_at

    abbrev applies_as : Option (List Part) → Loc → Option Applies
    applies_as None loc = None
    applies_as (Some all) loc = Some (record { parts = all; loc = loc })

    abbrev parts : ℕ → Reader (Option (List Part))
    parts limit = λ us. and_then (expect sign.OpenBrace us) (λ _ vs. and_then (some_until (spec.part limit) sign.CloseBrace vs) (λ all. pure (Some all)))

    abbrev applies_in : ℕ → Reader (Option (List Part))
    applies_in limit = λ ts. (if sees_word (codes "appliesTo") ts then parts limit else pure None) (after (sees_word (codes "appliesTo")) ts)

    applies_case : (limit : ℕ) (ts : List Token) (b : Bool) (us : List Token)
        → (if b then (λ ws. and_then (expect sign.OpenBrace ws) (λ _ vs. and_then (some_until (spec.part limit) sign.CloseBrace vs) (λ all rest. given (Some (record { parts = all; loc = between ts rest })) rest))) else pure None) us
        ≡ and_then ((if b then parts limit else pure None) us) (λ x rest. given (applies_as x (between ts rest)) rest)
    applies_case limit ts true us =
        assoc_two (expect sign.OpenBrace us) (some_until (spec.part limit) sign.CloseBrace) (λ all. pure (Some all)) (λ x rest. given (applies_as x (between ts rest)) rest)
    applies_case limit ts false us = refl

    like_applies : (Like E) (spec.applies l) (spec.applies m)
    unfolding spec.applies
    like_applies =
        (like_as E) (spec.applies l) ((placed E) applies_as (applies_in l)) (spec.applies m) ((placed E) applies_as (applies_in m))
        (λ ts. applies_case l ts (sees_word (codes "appliesTo") ts) (after (sees_word (codes "appliesTo")) ts)) (λ ts. applies_case m ts (sees_word (codes "appliesTo") ts) (after (sees_word (codes "appliesTo")) ts))
        ((like_placed E) applies_as (applies_in l) (applies_in m)
        ((like_eat E) (is_word (codes "appliesTo")) (parts l) (pure None) (parts m) (pure None)
        ((like_bind E) (expect sign.OpenBrace) (expect sign.OpenBrace) (λ _ vs. and_then (some_until (spec.part l) sign.CloseBrace vs) (λ all. pure (Some all)))
        (λ _ vs. and_then (some_until (spec.part m) sign.CloseBrace vs) (λ all. pure (Some all))) ((like_expect E) (is_symbol sign.OpenBrace))
        (λ _. like_maybe (some_until (spec.part l) sign.CloseBrace) (some_until (spec.part m) sign.CloseBrace) ((like_some E) (spec.part l) (spec.part m) like_part sign.CloseBrace)))
        ((like_pure E) None)))

    -- ---- declarations

    like_entity : (b : Bool) → (Like E) (spec.entity_item l b) (spec.entity_item m b)
    unfolding spec.entity_item
    like_entity b =
        (like_bind E) (separated id sign.Comma) (separated id sign.Comma) (λ names us. and_then (spec.body l us) (λ it. pure (entity b names it))) (λ names us. and_then (spec.body m us) (λ it. pure (entity b names it)))
        ((like_separated E) id id like_id sign.Comma)
        (λ names. (like_bind E) (spec.body l) (spec.body m) (λ it. pure (entity b names it)) (λ it. pure (entity b names it)) (like_body l m le even) (λ it. (like_pure E) (entity b names it)))

    abbrev action_end : Bool → List Name → Option (List Parent) → Option Applies → Reader Item
    action_end b names above applies = λ ts. and_then (spec.no_values ts) (λ _. pure (action b names above applies))

    abbrev action_tail : ℕ → Bool → List Name → Option (List Parent) → Reader Item
    action_tail limit b names above = λ ts. and_then (spec.applies limit ts) (λ applies. action_end b names above applies)

    like_action : (b : Bool) → (Like E) (spec.action_item l b) (spec.action_item m b)
    unfolding spec.action_item
    like_action b =
        (like_bind E) (separated name sign.Comma) (separated name sign.Comma) (λ names us. and_then (spec.inside us) (λ above. action_tail l b names above))
        (λ names us. and_then (spec.inside us) (λ above. action_tail m b names above)) ((like_separated E) name name like_name sign.Comma)
        (λ names. (like_bind E) spec.inside spec.inside (λ above. action_tail l b names above) (λ above. action_tail m b names above) like_inside
        (λ above. (like_bind E) (spec.applies l) (spec.applies m) (λ applies. action_end b names above applies) (λ applies. action_end b names above applies) like_applies
        (λ applies. (like_bind E) spec.no_values spec.no_values (λ _. pure (action b names above applies)) (λ _. pure (action b names above applies)) like_no_values (λ _. (like_pure E) (action b names above applies)))))

    abbrev common_tail : ℕ → Name → Reader Item
    common_tail limit x = λ ts. and_then (expect sign.Equals ts) (λ _ us. and_then (type_at limit us) (λ t. pure (common x t)))

    like_common : (Like E) (spec.common_item l) (spec.common_item m)
    unfolding spec.common_item
    like_common =
        (like_bind E) id id (λ x. common_tail l x) (λ x. common_tail m x) like_id
        (λ x. (like_bind E) (expect sign.Equals) (expect sign.Equals) (λ _ us. and_then (type_at l us) (λ t. pure (common x t))) (λ _ us. and_then (type_at m us) (λ t. pure (common x t)))
        ((like_expect E) (is_symbol sign.Equals)) (λ _. (like_bind E) (type_at l) (type_at m) (λ t. pure (common x t)) (λ t. pure (common x t)) (like_type l m le even) (λ t. (like_pure E) (common x t))))

    abbrev action_word : ℕ → Bool → Reader Item
    action_word limit b = λ ts. and_then (expect_word (codes "action") ts) (λ _. spec.action_item limit b)

    like_declared : (b : Bool) → (Like E) (spec.declared l b) (spec.declared m b)
    unfolding spec.declared
    like_declared b =
        (like_eat E) (is_word (codes "entity")) (spec.entity_item l b) (action_word l b) (spec.entity_item m b) (action_word m b) (like_entity b)
        ((like_bind E) (expect_word (codes "action")) (expect_word (codes "action")) (λ _. spec.action_item l b) (λ _. spec.action_item m b) ((like_expect E) (is_word (codes "action"))) (λ _. like_action b))

    abbrev any_declared : ℕ → Reader Item
    any_declared limit = λ ts. spec.declared limit (sees_word (codes "external") ts) (after (sees_word (codes "external")) ts)

    abbrev by_external : ℕ → Reader Item
    by_external limit = λ ts. (if sees_word (codes "external") ts then spec.declared limit true else spec.declared limit false) (after (sees_word (codes "external")) ts)

    external_case : (limit : ℕ) (b : Bool) (us : List Token) → spec.declared limit b us ≡ (if b then spec.declared limit true else spec.declared limit false) us
    external_case limit true us = refl
    external_case limit false us = refl

    like_any_declared : (Like E) (any_declared l) (any_declared m)
    like_any_declared =
        (like_as E) (any_declared l) (by_external l) (any_declared m) (by_external m) (λ ts. external_case l (sees_word (codes "external") ts) (after (sees_word (codes "external")) ts))
        (λ ts. external_case m (sees_word (codes "external") ts) (after (sees_word (codes "external")) ts))
        ((like_eat E) (is_word (codes "external")) (spec.declared l true) (spec.declared l false) (spec.declared m true) (spec.declared m false) (like_declared true) (like_declared false))

    like_item : (Like E) (spec.item l) (spec.item m)
    unfolding spec.item
    like_item = (like_eat E) (is_word (codes "type")) (spec.common_item l) (any_declared l) (spec.common_item m) (any_declared m) like_common like_any_declared

    abbrev declaration_as : List Name → Item → Loc → Declaration
    declaration_as notes it loc = record { annotations = notes; item = it; loc = loc }

    abbrev item_end : ℕ → Reader Item
    item_end limit = λ ts. and_then (spec.item limit ts) (λ it us. and_then (expect sign.Semicolon us) (λ _. pure it))

    annotated_as : (notes : List Name) (ts : List Token) (o : Outcome Item)
        → and_then o (λ it us. and_then (expect sign.Semicolon us) (λ _ rest. given (declaration_as notes it (between ts rest)) rest))
        ≡ and_then (and_then o (λ it us. and_then (expect sign.Semicolon us) (λ _. pure it))) (λ it rest. given (declaration_as notes it (between ts rest)) rest)
    annotated_as notes ts (Ok p) = assoc (expect sign.Semicolon p.1) (λ _. pure p.0) (λ it rest. given (declaration_as notes it (between ts rest)) rest)
    annotated_as notes ts (Err e) = refl

    like_annotated : (notes : List Name) → (Like E) (spec.annotated l notes) (spec.annotated m notes)
    unfolding spec.annotated
    like_annotated notes =
        (like_as E) (spec.annotated l notes) ((placed E) (declaration_as notes) (item_end l)) (spec.annotated m notes) ((placed E) (declaration_as notes) (item_end m))
        (λ ts. annotated_as notes ts (spec.item l ts)) (λ ts. annotated_as notes ts (spec.item m ts))
        ((like_placed E) (declaration_as notes) (item_end l) (item_end m)
        ((like_bind E) (spec.item l) (spec.item m) (λ it us. and_then (expect sign.Semicolon us) (λ _. pure it)) (λ it us. and_then (expect sign.Semicolon us) (λ _. pure it)) like_item
        (λ it. (like_bind E) (expect sign.Semicolon) (expect sign.Semicolon) (λ _. pure it) (λ _. pure it) ((like_expect E) (is_symbol sign.Semicolon)) (λ _. (like_pure E) it))))

    like_declaration : (Like E) (spec.declaration l) (spec.declaration m)
    unfolding spec.declaration
    like_declaration = (like_bind E) annotations annotations (λ notes. spec.annotated l notes) (λ notes. spec.annotated m notes) like_annotations like_annotated

    declaration_shorter : (d : Declaration) (ts rest : List Token) → spec.declaration l ts ≡ Ok (d, rest) → length rest < length ts
    declaration_shorter d ts rest e = declaration_less d ts rest (declaration_takes l d ts rest e).0

    same_close : (ts us : List Token) → Peek ts us → before_close us ≡ before_close ts
    same_close ts us peek = ap not (peek_first (is_symbol sign.CloseBrace) ts us peek)

    abbrev block_as : List Name → Path → List Declaration → Loc → Member
    block_as notes p all loc = namespace notes p all loc

    abbrev block_body : ℕ → Reader (List Declaration)
    block_body limit = λ ts. and_then (expect sign.OpenBrace ts) (λ _ us. and_then (while (spec.declaration limit) before_close us) (λ all vs. and_then (expect sign.CloseBrace vs) (λ _. pure all)))

    block_end : (notes : List Name) (p : Path) (ts : List Token) (o : Outcome (List Declaration))
        → and_then o (λ all vs. and_then (expect sign.CloseBrace vs) (λ _ rest. given (block_as notes p all (between ts rest)) rest))
        ≡ and_then (and_then o (λ all vs. and_then (expect sign.CloseBrace vs) (λ _. pure all))) (λ all rest. given (block_as notes p all (between ts rest)) rest)
    block_end notes p ts (Ok r) = assoc (expect sign.CloseBrace r.1) (λ _. pure r.0) (λ all rest. given (block_as notes p all (between ts rest)) rest)
    block_end notes p ts (Err e) = refl

    block_case : (limit : ℕ) (notes : List Name) (p : Path) (ts : List Token) (o : Outcome (Unit {0}))
        → and_then o (λ _ us. and_then (while (spec.declaration limit) before_close us) (λ all vs. and_then (expect sign.CloseBrace vs) (λ _ rest. given (block_as notes p all (between ts rest)) rest)))
        ≡ and_then (and_then o (λ _ us. and_then (while (spec.declaration limit) before_close us) (λ all vs. and_then (expect sign.CloseBrace vs) (λ _. pure all)))) (λ all rest. given (block_as notes p all (between ts rest)) rest)
    block_case limit notes p ts (Ok r) = block_end notes p ts (while (spec.declaration limit) before_close r.1)
    block_case limit notes p ts (Err e) = refl

    like_block_body : (Like E) (block_body l) (block_body m)
    like_block_body =
        (like_bind E) (expect sign.OpenBrace) (expect sign.OpenBrace) (λ _ us. and_then (while (spec.declaration l) before_close us) (λ all vs. and_then (expect sign.CloseBrace vs) (λ _. pure all)))
        (λ _ us. and_then (while (spec.declaration m) before_close us) (λ all vs. and_then (expect sign.CloseBrace vs) (λ _. pure all))) ((like_expect E) (is_symbol sign.OpenBrace))
        (λ _. (like_bind E) (while (spec.declaration l) before_close) (while (spec.declaration m) before_close) (λ all vs. and_then (expect sign.CloseBrace vs) (λ _. pure all))
        (λ all vs. and_then (expect sign.CloseBrace vs) (λ _. pure all)) ((like_while E) (spec.declaration l) (spec.declaration m) like_declaration declaration_shorter before_close same_close)
        (λ all. (like_bind E) (expect sign.CloseBrace) (expect sign.CloseBrace) (λ _. pure all) (λ _. pure all) ((like_expect E) (is_symbol sign.CloseBrace)) (λ _. (like_pure E) all)))

    abbrev block_tail : ℕ → List Name → Path → Reader Member
    block_tail limit notes p = λ ts. and_then (expect sign.OpenBrace ts) (λ _ us. and_then (while (spec.declaration limit) before_close us)
        (λ all vs. and_then (expect sign.CloseBrace vs) (λ _ rest. given (block_as notes p all (between ts rest)) rest)))

    like_block : (notes : List Name) → (Like E) (spec.block l notes) (spec.block m notes)
    unfolding spec.block
    like_block notes =
        (like_bind E) path path (λ p. block_tail l notes p) (λ p. block_tail m notes p) like_path
        (λ p. (like_as E) (block_tail l notes p) ((placed E) (block_as notes p) (block_body l)) (block_tail m notes p) ((placed E) (block_as notes p) (block_body m))
        (λ ts. block_case l notes p ts (expect sign.OpenBrace ts)) (λ ts. block_case m notes p ts (expect sign.OpenBrace ts)) ((like_placed E) (block_as notes p) (block_body l) (block_body m) like_block_body))

    abbrev alone_member : ℕ → List Name → Reader Member
    alone_member limit notes = λ ts. and_then (spec.annotated limit notes ts) (λ d. pure (alone d))

    abbrev member_tail : ℕ → List Name → Reader Member
    member_tail limit notes = λ ts. (if sees_word (codes "namespace") ts then spec.block limit notes else alone_member limit notes) (after (sees_word (codes "namespace")) ts)

    like_member : (Like E) (spec.member l) (spec.member m)
    unfolding spec.member
    like_member =
        (like_bind E) annotations annotations (λ notes. member_tail l notes) (λ notes. member_tail m notes) like_annotations
        (λ notes. (like_eat E) (is_word (codes "namespace")) (spec.block l notes) (alone_member l notes) (spec.block m notes) (alone_member m notes) (like_block notes)
        ((like_bind E) (spec.annotated l notes) (spec.annotated m notes) (λ d. pure (alone d)) (λ d. pure (alone d)) (like_annotated notes) (λ d. (like_pure E) (alone d))))

    member_shorter : (x : Member) (ts rest : List Token) → spec.member l ts ≡ Ok (x, rest) → length rest < length ts
    member_shorter x ts rest e = member_less x ts rest (member_takes l x ts rest e).0

    same_more : (ts us : List Token) → Peek ts us → is_more us ≡ is_more ts
    same_more [] [] peek = refl
    same_more [] (u ∷ us) peek = absurd peek
    same_more (t ∷ ts) [] peek = absurd peek
    same_more (t ∷ ts) (u ∷ us) peek = refl

    pub like_members : (Like E) (spec.members l) (spec.members m)
    unfolding spec.members
    like_members = (like_while E) (spec.member l) (spec.member m) like_member member_shorter is_more same_more
