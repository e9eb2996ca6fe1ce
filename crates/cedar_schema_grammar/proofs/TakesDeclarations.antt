-- What is read of declarations is in the grammar, with types that are at most at the limit.
use Rattle.std.proofs.Common.{◌≡◌, ℕ, zero, suc, Bool, true, false, List, [], ◌∷◌, ◌++◌, length, drop, Some, None, Ok, inl, inr, refl, sym, ap, ◌∙◌, subst, arith, append_assoc}
use Rattle.std.specs.Prelude.{codes, if◌then◌else◌}
use Rattle.cedar_ast.specs.declared.loc.Loc.{Loc}
use Rattle.cedar_schema_tokens.specs.Token.{ident, text, symbol, Token}
use Rattle.cedar_schema_tokens.specs.declared.token.Symbol.{Symbol}
use Rattle.cedar_schema_tokens.specs.declared.token.Symbol.TheVariants as sign
use Rattle.cedar_schema_grammar.specs.Tree.{Name, Path, Ty, named, set_of, record_of, Parent, principals, resources, context, choices, standard, Item, entity, action, common, Declaration, Member, namespace, alone, level, highest, level_if, level_of_part, level_of_applies, level_of_body, level_of_item, level_of_declaration, level_of_member}
use Rattle.cedar_schema_grammar.specs.Grammar.{Form, ◌then◌, ◌or◌, optional, token_at, mark, word, separated as separated_form, some, any, many, only, IsId, IsText, IsName, IsPath, AreAnnotations, IsType, IsRecord, IsContext, ArePaths, IsBelow, IsShape, AreTags, IsBody, IsParent, AreParents, IsPart, IsIn, IsApplies, no_values as values_form, IsExternal, IsItem, IsDeclaration, IsMember, first_loc, span, between}
use Rattle.cedar_schema_grammar.specs.Reading as spec
use Rattle.cedar_schema_grammar.specs.Reading.{Reader, and_then, pure, sees, sees_word, sees_text, after, expect, expect_word, id, name, quoted, path, annotations, type_at, record_type, context_type, one_or_listed, until, some_until, separated, while, qualifier_from, plain_parent, before_close, is_more}
use Rattle.cedar_schema_grammar.proofs.Turns.{given}
use Rattle.cedar_schema_grammar.proofs.Steps.{bind_ok, chosen, chosen_at, same_pair, finish, eaten, sees_is, word_at, expect_ok, expect_word_ok, id_ok, name_ok, quoted_ok}
use Rattle.cedar_schema_grammar.proofs.Lists.{separated_takes, until_takes, some_takes, while_takes}
use Rattle.cedar_schema_grammar.proofs.Places as places
use Rattle.cedar_schema_grammar.proofs.Takes.{Takes, Bounded, path_takes, annotations_take, type_takes}

-- ---- levels of lists

module _ {A : Type 0} (height : A → ℕ) (limit : ℕ) (form : A → Form) where
  pub many_bounded : (all : List A) (ts rest : List Token) → many (Bounded height limit form) all ts rest → Bounded (highest height) limit (many form) all ts rest
  many_bounded [] ts rest h = (h, omega arith)
  many_bounded (x ∷ all) ts rest h =
      let more = many_bounded all h.0 rest h.2 in
      let one = h.1.1 in
      let others = more.1 in
      ((h.0, h.1.0, more.0), omega arith)

  pub separated_bounded : (m : Symbol) (all : List A) (ts rest : List Token) → separated_form m (Bounded height limit form) all ts rest → Bounded (highest height) limit (separated_form m form) all ts rest
  separated_bounded m [] ts rest h = absurd h
  separated_bounded m (x ∷ []) ts rest h = let one = h.1 in (h.0, omega arith)
  separated_bounded m (x ∷ y ∷ all) ts rest h =
      let more = separated_bounded m (y ∷ all) h.2.0 rest h.2.2 in
      let one = h.1.1 in
      let others = more.1 in
      ((h.0, h.1.0, (h.2.0, h.2.1, more.0)), omega arith)

-- ---- records and contexts

pub word_no : (w : List ℕ) (m : Symbol) (ts next : List Token) → word w ts next → sees m ts ≡ false
word_no w m ts next h = ap (sees m) h.1

ids_no : (ids : List (List ℕ)) (m : Symbol) (ts rest : List Token) → separated_form sign.PathSeparator word ids ts rest → sees m ts ≡ false
ids_no [] m ts rest h = absurd h
ids_no (x ∷ []) m ts rest h = word_no x m ts rest h
ids_no (x ∷ y ∷ ys) m ts rest h = word_no x m ts h.0 h.1

-- a path begins with no symbol
pub path_no : (p : Path) (m : Symbol) (ts rest : List Token) → IsPath p ts rest → sees m ts ≡ false
path_no p m ts rest h = ids_no p.ids m ts rest h.0

is_record : (t : Ty) (ts rest : List Token) → sees sign.OpenBrace ts ≡ true → IsType t ts rest → IsRecord t ts rest
unfolding IsType
is_record (named p) ts rest opens h = absurd (let never = path_no p sign.OpenBrace ts rest h in cc)
is_record (set_of t) ts rest opens h = absurd (let never = word_no (codes "Set") sign.OpenBrace ts h.0 h.1 in cc)
is_record (record_of all loc) ts rest opens h = h

in_context : (t : Ty) (ts rest : List Token) → IsRecord t ts rest → IsContext t ts rest
in_context (named p) ts rest h = absurd h
in_context (set_of t) ts rest h = absurd h
in_context (record_of all loc) ts rest h = h

record_type_takes : (limit : ℕ) → Takes (record_type limit) (Bounded level limit IsRecord)
record_type_takes limit t ts rest e =
    elim (chosen (sees sign.OpenBrace ts) _ _ _ e) [
      | inl p ↦ let is = type_takes limit t ts rest p.1 in (is_record t ts rest p.0 is.0, is.1)
      | inr q ↦ absurd (let never = q.1 in cc)
    ]

context_type_takes : (limit : ℕ) → Takes (context_type limit) (Bounded level limit IsContext)
context_type_takes limit t ts rest e =
    elim (chosen (sees sign.OpenBrace ts) _ _ _ e) [
      | inl p ↦ let is = type_takes limit t ts rest p.1 in (in_context t ts rest (is_record t ts rest p.0 is.0), is.1)
      | inr q ↦
          let p = bind_ok (path ts) (λ p. pure (named p)) t rest q.1 in
          finish (Bounded level limit IsContext) t (named p.0) ts p.1 rest p.3 (path_takes p.0 ts p.1 p.2, omega arith)
    ]

-- ---- entity types

listed_takes : {A : Type 0} (item : Reader A) (form : A → Form) → Takes item form
    → Takes (one_or_listed item) (λ ps. only form ps or mark sign.OpenBracket then any form ps then mark sign.CloseBracket)
listed_takes item form takes ps ts rest e =
    elim (eaten (sees sign.OpenBracket) _ _ ts _ e) [
      | inl p ↦ inr (drop 1 ts, sees_is sign.OpenBracket ts p.0, until_takes item form takes sign.CloseBracket ps (drop 1 ts) rest p.1)
      | inr q ↦
          let x = bind_ok (item ts) (λ x. pure (x ∷ [])) ps rest q.1 in
          finish (λ ps. only form ps or mark sign.OpenBracket then any form ps then mark sign.CloseBracket) ps (x.0 ∷ []) ts x.1 rest x.3 (inl (takes x.0 ts x.1 x.2))
    ]

paths_take : Takes spec.paths ArePaths
unfolding spec.paths
paths_take ps ts rest e = listed_takes path IsPath path_takes ps ts rest e

below_takes : Takes spec.below IsBelow
unfolding spec.below
below_takes ps ts rest e =
    elim (eaten (sees_word (codes "in")) _ _ ts _ e) [
      | inl p ↦ inl (drop 1 ts, word_at (codes "in") ts p.0, paths_take ps (drop 1 ts) rest p.1)
      | inr q ↦ finish IsBelow ps [] ts ts rest q.1 (inr refl)
    ]

shape_takes : (limit : ℕ) → Takes (spec.shape limit) (Bounded level_if limit IsShape)
unfolding spec.shape
shape_takes limit t ts rest e =
    let behind : (us : List Token) → optional (mark sign.Equals) ts us → spec.some_of limit (record_type limit) us ≡ Ok (t, rest) → Bounded level_if limit IsShape t ts rest =
    λ us before f.
    let r = bind_ok (record_type limit us) (λ x. pure (Some x)) t rest f in
    let is = record_type_takes limit r.0 us r.1 r.2 in
    finish (Bounded level_if limit IsShape) t (Some r.0) ts r.1 rest r.3 ((us, before, is.0), is.1) in
    elim (eaten (sees sign.Equals) _ _ ts _ e) [
      | inl p ↦ behind (drop 1 ts) (inl (sees_is sign.Equals ts p.0)) p.1
      | inr q ↦ elim (chosen_at (sees sign.OpenBrace (after (sees sign.Equals) ts)) _ _ ts _ q.1) [
        | inl p ↦ behind ts (inr refl) p.1
        | inr r ↦ finish (Bounded level_if limit IsShape) t None ts ts rest r.1 (refl, omega arith)
      ]
    ]

tags_take : (limit : ℕ) → Takes (spec.tags limit) (Bounded level_if limit AreTags)
unfolding spec.tags
tags_take limit t ts rest e =
    elim (eaten (sees_word (codes "tags")) _ _ ts _ e) [
      | inl p ↦
          let r = bind_ok (type_at limit (drop 1 ts)) (λ x. pure (Some x)) t rest p.1 in
          let is = type_takes limit r.0 (drop 1 ts) r.1 r.2 in
          finish (Bounded level_if limit AreTags) t (Some r.0) ts r.1 rest r.3 ((drop 1 ts, word_at (codes "tags") ts p.0, is.0), is.1)
      | inr q ↦ finish (Bounded level_if limit AreTags) t None ts ts rest q.1 (refl, omega arith)
    ]

body_takes : (limit : ℕ) → Takes (spec.body limit) (Bounded level_of_body limit IsBody)
unfolding spec.body
body_takes limit b ts rest e =
    elim (eaten (sees_word (codes "enum")) _ _ ts _ e) [
      | inl p ↦
          let brace = bind_ok (expect sign.OpenBracket (drop 1 ts)) _ b rest p.1 in
          let all = bind_ok (some_until quoted sign.CloseBracket brace.1) (λ all. pure (choices all)) b rest brace.3 in
          finish (Bounded level_of_body limit IsBody) b (choices all.0) ts all.1 rest all.3 (
            (
              drop 1 ts,
              word_at (codes "enum") ts p.0,
              (brace.1, expect_ok sign.OpenBracket (drop 1 ts) brace.1 brace.0 brace.2, some_takes quoted IsText quoted_ok sign.CloseBracket all.0 brace.1 all.1 all.2),
            ),
            omega arith,
          )
      | inr q ↦
          let above = bind_ok (spec.below ts) _ b rest q.1 in
          let shape = bind_ok (spec.shape limit above.1) _ b rest above.3 in
          let tags = bind_ok (spec.tags limit shape.1) _ b rest shape.3 in
          let of_shape = shape_takes limit shape.0 above.1 shape.1 shape.2 in
          let of_tags = tags_take limit tags.0 shape.1 tags.1 tags.2 in
          let high = of_shape.1 in
          let deep = of_tags.1 in
          finish (Bounded level_of_body limit IsBody) b (standard above.0 shape.0 tags.0) ts tags.1 rest tags.3
          ((above.1, below_takes above.0 ts above.1 above.2, (shape.1, of_shape.0, of_tags.0)), omega arith)
    ]

-- ---- parents of actions

longer : (ids : List (List ℕ)) (x : List ℕ) (ts mid next rest : List Token) → separated_form sign.PathSeparator word ids ts mid → mark sign.PathSeparator mid next → word x next rest
    → separated_form sign.PathSeparator word (ids ++ x ∷ []) ts rest
longer [] x ts mid next rest h sep w = absurd h
longer (y ∷ []) x ts mid next rest h sep w = (mid, h, (next, sep, w))
longer (y ∷ z ∷ zs) x ts mid next rest h sep w = (h.0, h.1, (h.2.0, h.2.1, longer (z ∷ zs) x h.2.0 mid next rest h.2.2 sep w))

-- ids from the start on, the last one at its place, and `::` before the tokens
abbrev pub Qualifies : List Token → List (List ℕ) → Loc → List Token → Type 0
Qualifies start ids last us =
    (mid : List Token) × separated_form sign.PathSeparator word ids start mid × mark sign.PathSeparator mid us × (pre : List Token) × (t : Token) × (start ≡ pre ++ t ∷ mid) × (t.loc ≡ last)

pub qualifies_on : (start : List Token) (ids : List (List ℕ)) (last : Loc) (us : List Token) (x : Name) (mid next : List Token) → Qualifies start ids last us → IsId x us mid → mark sign.PathSeparator mid next
    → Qualifies start (ids ++ x.text ∷ []) x.loc next
qualifies_on start ids last us x mid next q is sep =
    let colons : Token = record { lexeme = symbol sign.PathSeparator; loc = q.2.0 } in
    let this : Token = record { lexeme = ident x.text; loc = x.loc } in
    let whole : start ≡ q.3 ++ q.4 ∷ colons ∷ this ∷ mid = q.5 ∙ ap (λ vs. q.3 ++ q.4 ∷ vs) (q.2.1 ∙ ap (λ vs. colons ∷ vs) is) in (
      mid,
      longer ids x.text start q.0 us mid q.1 q.2 (x.loc, is),
      sep,
      q.3 ++ q.4 ∷ colons ∷ [],
      this,
      whole ∙ sym (append_assoc q.3 (q.4 ∷ colons ∷ []) (this ∷ mid)),
      refl,
    )

qualifier_takes : (start : List Token) (n : ℕ) (found : List (List ℕ)) (last : Loc) (p : Path) (us vs : List Token) → Qualifies start found last us
    → qualifier_from (first_loc start) n found last us ≡ Ok (p, vs) → (IsPath p then mark sign.PathSeparator) start vs
unfolding qualifier_from
qualifier_takes start zero found last p us vs q e = absurd (cc)
qualifier_takes start (suc n) found last p us vs q e =
    elim (chosen (sees_text us) _ _ _ e) [
      | inl c ↦
          let place = places.from_to (first_loc start) last start q.0 refl (sym q.6 ∙ places.last_is q.3 q.4 start q.0 q.5) in
          finish (λ x. IsPath x then mark sign.PathSeparator) p (record { ids = found; loc = span (first_loc start) last }) start us vs c.1 (q.0, (q.1, place), q.2)
      | inr c ↦
          let x = bind_ok (id us) _ p vs c.1 in
          let sep = bind_ok (expect sign.PathSeparator x.1) _ p vs x.3 in
          qualifier_takes start n (found ++ x.0.text ∷ []) x.0.loc p sep.1 vs
          (qualifies_on start found last us x.0 x.1 sep.1 q (id_ok x.0 us x.1 x.2) (expect_ok sign.PathSeparator x.1 sep.1 sep.0 sep.2)) sep.3
    ]

-- an id or a text alone is a parent
plain : (x : Name) (ts rest : List Token) → IsName x ts rest → IsParent (plain_parent x) ts rest
plain x ts rest (inl e) = (inl e, places.alone (record { lexeme = ident x.text; loc = x.loc }) ts rest e)
plain x ts rest (inr e) = (inr e, places.alone (record { lexeme = text x.text; loc = x.loc }) ts rest e)

-- what goes before the rest goes to the end of the last token
pub qualified_place : (p : Path) (x : Name) (first : Loc) (ts mid rest : List Token) → (IsPath p then mark sign.PathSeparator) ts mid → IsText x mid rest → first ≡ first_loc ts
    → span first x.loc ≡ between ts rest
qualified_place p x first ts mid rest h is e =
    let pre = places.begun_path p ts h.0 h.1 in
    let colons : Token = record { lexeme = symbol sign.PathSeparator; loc = h.2.0 } in
    let this : Token = record { lexeme = text x.text; loc = x.loc } in
    let whole : ts ≡ pre.0 ++ colons ∷ this ∷ rest = pre.1 ∙ ap (λ us. pre.0 ++ us) (h.2.1 ∙ ap (λ us. colons ∷ us) is) in
    places.from_to first x.loc ts rest e (places.last_is (pre.0 ++ colons ∷ []) this ts rest (whole ∙ sym (append_assoc pre.0 (colons ∷ []) (this ∷ rest))))

qualified_takes : (first : Name) (p : Parent) (ts us next rest : List Token) → IsId first ts us → mark sign.PathSeparator us next → spec.qualified first next ≡ Ok (p, rest) → IsParent p ts rest
unfolding spec.qualified
qualified_takes first p ts us next rest is sep e =
    let start : Token = record { lexeme = ident first.text; loc = first.loc } in
    let there : first.loc ≡ first_loc ts = sym (ap first_loc is) in
    let path = bind_ok (spec.qualifier first next) _ p rest e in
    let x = bind_ok (quoted path.1) _ p rest path.3 in
    let begun : Qualifies ts (first.text ∷ []) first.loc next = (us, (first.loc, is), sep, [], start, is, refl) in
    let P : Loc → Type 0 = λ loc. qualifier_from loc (length next) (first.text ∷ []) first.loc next ≡ Ok (path.0, path.1) in
    let whole = qualifier_takes ts (length next) (first.text ∷ []) first.loc path.0 next path.1 begun (subst P there path.2) in
    let says = quoted_ok x.0 path.1 x.1 x.2 in
    finish IsParent p (record { ty = Some path.0; id = x.0; loc = span first.loc x.0.loc }) ts x.1 rest x.3
    ((whole.0, whole.1, (path.1, whole.2, says)), qualified_place path.0 x.0 first.loc ts path.1 x.1 whole says there)

parent_takes : Takes spec.parent IsParent
unfolding spec.parent
parent_takes p ts rest e =
    elim (chosen (sees_text ts) _ _ _ e) [
      | inl c ↦
          let x = bind_ok (quoted ts) (λ x. pure (plain_parent x)) p rest c.1 in
          finish IsParent p (plain_parent x.0) ts x.1 rest x.3 (plain x.0 ts x.1 (inr (quoted_ok x.0 ts x.1 x.2)))
      | inr c ↦
          let x = bind_ok (id ts) _ p rest c.1 in
          let is = id_ok x.0 ts x.1 x.2 in
          elim (eaten (sees sign.PathSeparator) _ _ x.1 _ x.3) [
            | inl q ↦ qualified_takes x.0 p ts x.1 (drop 1 x.1) rest is (sees_is sign.PathSeparator x.1 q.0) q.1
            | inr q ↦ finish IsParent p (plain_parent x.0) ts x.1 rest q.1 (plain x.0 ts x.1 (inl is))
          ]
    ]

-- ---- actions

parents_take : Takes spec.parents AreParents
unfolding spec.parents
parents_take ps ts rest e = listed_takes spec.parent IsParent parent_takes ps ts rest e

inside_takes : Takes spec.inside IsIn
unfolding spec.inside
inside_takes ps ts rest e =
    elim (eaten (sees_word (codes "in")) _ _ ts _ e) [
      | inl p ↦
          let all = bind_ok (spec.parents (drop 1 ts)) (λ all. pure (Some all)) ps rest p.1 in
          finish IsIn ps (Some all.0) ts all.1 rest all.3 (drop 1 ts, word_at (codes "in") ts p.0, parents_take all.0 (drop 1 ts) all.1 all.2)
      | inr q ↦ finish IsIn ps None ts ts rest q.1 refl
    ]

said_paths_take : Takes spec.said_paths (λ ps. mark sign.Colon then ArePaths ps)
unfolding spec.said_paths
said_paths_take ps ts rest e =
    let colon = bind_ok (expect sign.Colon ts) _ ps rest e in
    (colon.1, expect_ok sign.Colon ts colon.1 colon.0 colon.2, paths_take ps colon.1 rest colon.3)

said_context_takes : (limit : ℕ) → Takes (spec.said_context limit) (Bounded level limit (λ ty. mark sign.Colon then IsContext ty))
unfolding spec.said_context
said_context_takes limit ty ts rest e =
    let colon = bind_ok (expect sign.Colon ts) _ ty rest e in
    let is = context_type_takes limit ty colon.1 rest colon.3 in
    ((colon.1, expect_ok sign.Colon ts colon.1 colon.0 colon.2, is.0), is.1)

-- a word, at the place of the first token
word_here : (w : List ℕ) (ts us : List Token) → word w ts us → token_at (ident w) (first_loc ts) ts us
word_here w ts us h = h.1 ∙ ap (λ loc. record { lexeme = ident w; loc = loc } ∷ us) (sym (ap first_loc h.1))

part_takes : (limit : ℕ) → Takes (spec.part limit) (Bounded level_of_part limit IsPart)
unfolding spec.part
part_takes limit p ts rest e =
    elim (eaten (sees_word (codes "context")) _ _ ts _ e) [
      | inl c ↦
          let ty = bind_ok (spec.said_context limit (drop 1 ts)) (λ ty. spec.part_at limit (first_loc ts) (context ty)) p rest c.1 in
          let is = said_context_takes limit ty.0 (drop 1 ts) ty.1 ty.2 in
          finish (Bounded level_of_part limit IsPart) p (record { says = context ty.0; loc = first_loc ts }) ts ty.1 rest ty.3
          ((drop 1 ts, word_here (codes "context") ts (drop 1 ts) (word_at (codes "context") ts c.0), is.0), is.1)
      | inr c ↦ elim (eaten (sees_word (codes "principal")) _ _ ts _ c.1) [
        | inl d ↦
            let ps = bind_ok (spec.said_paths (drop 1 ts)) (λ ps. spec.part_at limit (first_loc ts) (principals ps)) p rest d.1 in
            finish (Bounded level_of_part limit IsPart) p (record { says = principals ps.0; loc = first_loc ts }) ts ps.1 rest ps.3
            ((drop 1 ts, word_here (codes "principal") ts (drop 1 ts) (word_at (codes "principal") ts d.0), said_paths_take ps.0 (drop 1 ts) ps.1 ps.2), omega arith)
        | inr d ↦
            let w = bind_ok (expect_word (codes "resource") ts) _ p rest d.1 in
            let ps = bind_ok (spec.said_paths w.1) (λ ps. spec.part_at limit (first_loc ts) (resources ps)) p rest w.3 in
            finish (Bounded level_of_part limit IsPart) p (record { says = resources ps.0; loc = first_loc ts }) ts ps.1 rest ps.3
            ((w.1, word_here (codes "resource") ts w.1 (expect_word_ok (codes "resource") ts w.1 w.0 w.2), said_paths_take ps.0 w.1 ps.1 ps.2), omega arith)
      ]
    ]

some_bounded : {A : Type 0} (height : A → ℕ) (limit : ℕ) (form : A → Form) (all : List A) (ts rest : List Token) → some (Bounded height limit form) all ts rest → Bounded (highest height) limit (some form) all ts rest
some_bounded height limit form all ts rest h = let k = separated_bounded height limit form sign.Comma all ts h.0 h.1 in ((h.0, k.0, h.2), k.1)

applies_takes : (limit : ℕ) → Takes (spec.applies limit) (Bounded level_of_applies limit IsApplies)
unfolding spec.applies
applies_takes limit a ts rest e =
    elim (eaten (sees_word (codes "appliesTo")) _ _ ts _ e) [
      | inl p ↦
          let brace = bind_ok (expect sign.OpenBrace (drop 1 ts)) _ a rest p.1 in
          let all = bind_ok (some_until (spec.part limit) sign.CloseBrace brace.1) (λ all us. given (Some (record { parts = all; loc = between ts us })) us) a rest brace.3 in
          let is = some_takes (spec.part limit) (Bounded level_of_part limit IsPart) (part_takes limit) sign.CloseBrace all.0 brace.1 all.1 all.2 in
          let those = some_bounded level_of_part limit IsPart all.0 brace.1 is.0 is.1 in
          finish (Bounded level_of_applies limit IsApplies) a (Some (record { parts = all.0; loc = between ts all.1 })) ts all.1 rest all.3 (
            (
              (drop 1 ts, word_at (codes "appliesTo") ts p.0, (brace.1, expect_ok sign.OpenBrace (drop 1 ts) brace.1 brace.0 brace.2, (is.0, those.0, is.2))),
              refl,
            ),
            those.1,
          )
      | inr q ↦ finish (Bounded level_of_applies limit IsApplies) a None ts ts rest q.1 (refl, omega arith)
    ]

no_values_take : Takes spec.no_values (λ _. values_form)
unfolding spec.no_values
no_values_take u ts rest e =
    elim (eaten (sees_word (codes "attributes")) _ _ ts _ e) [
      | inl p ↦
          let brace = bind_ok (expect sign.OpenBrace (drop 1 ts)) _ u rest p.1 in
          inl (drop 1 ts, word_at (codes "attributes") ts p.0, (brace.1, expect_ok sign.OpenBrace (drop 1 ts) brace.1 brace.0 brace.2, expect_ok sign.CloseBrace brace.1 rest u brace.3))
      | inr q ↦ inr (same_pair tt u ts rest q.1).1
    ]

-- ---- declarations

-- an entity type, behind `external` or its absence
entity_takes : (limit : ℕ) (b : Bool) (it : Item) (ts us next rest : List Token) → IsExternal b ts us → word (codes "entity") us next → spec.entity_item limit b next ≡ Ok (it, rest)
    → Bounded level_of_item limit IsItem it ts rest
unfolding spec.entity_item
entity_takes limit b it ts us next rest ext w e =
    let names = bind_ok (separated id sign.Comma next) _ it rest e in
    let body = bind_ok (spec.body limit names.1) _ it rest names.3 in
    let is = body_takes limit body.0 names.1 body.1 body.2 in
    finish (Bounded level_of_item limit IsItem) it (entity b names.0 body.0) ts body.1 rest body.3
    ((us, ext, (next, w, (names.1, separated_takes id IsId id_ok sign.Comma names.0 next names.1 names.2, is.0))), is.1)

action_takes : (limit : ℕ) (b : Bool) (it : Item) (ts us next rest : List Token) → IsExternal b ts us → word (codes "action") us next → spec.action_item limit b next ≡ Ok (it, rest)
    → Bounded level_of_item limit IsItem it ts rest
unfolding spec.action_item
action_takes limit b it ts us next rest ext w e =
    let names = bind_ok (separated name sign.Comma next) _ it rest e in
    let above = bind_ok (spec.inside names.1) _ it rest names.3 in
    let applies = bind_ok (spec.applies limit above.1) _ it rest above.3 in
    let none = bind_ok (spec.no_values applies.1) _ it rest applies.3 in
    let is = applies_takes limit applies.0 above.1 applies.1 applies.2 in
    finish (Bounded level_of_item limit IsItem) it (action b names.0 above.0 applies.0) ts none.1 rest none.3 (
      (
        us,
        ext,
        (
          next,
          w,
          (
            names.1,
            separated_takes name IsName name_ok sign.Comma names.0 next names.1 names.2,
            (above.1, inside_takes above.0 names.1 above.1 above.2, (applies.1, is.0, no_values_take none.0 applies.1 none.1 none.2)),
          ),
        ),
      ),
      is.1,
    )

common_takes : (limit : ℕ) (it : Item) (ts next rest : List Token) → word (codes "type") ts next → spec.common_item limit next ≡ Ok (it, rest) → Bounded level_of_item limit IsItem it ts rest
unfolding spec.common_item
common_takes limit it ts next rest w e =
    let x = bind_ok (id next) _ it rest e in
    let equals = bind_ok (expect sign.Equals x.1) _ it rest x.3 in
    let ty = bind_ok (type_at limit equals.1) _ it rest equals.3 in
    let is = type_takes limit ty.0 equals.1 ty.1 ty.2 in
    finish (Bounded level_of_item limit IsItem) it (common x.0 ty.0) ts ty.1 rest ty.3
    ((next, w, (x.1, id_ok x.0 next x.1 x.2, (equals.1, expect_ok sign.Equals x.1 equals.1 equals.0 equals.2, is.0))), is.1)

declared_takes : (limit : ℕ) (b : Bool) (it : Item) (ts us rest : List Token) → IsExternal b ts us → spec.declared limit b us ≡ Ok (it, rest) → Bounded level_of_item limit IsItem it ts rest
unfolding spec.declared
declared_takes limit b it ts us rest ext e =
    elim (eaten (sees_word (codes "entity")) _ _ us _ e) [
      | inl p ↦ entity_takes limit b it ts us (drop 1 us) rest ext (word_at (codes "entity") us p.0) p.1
      | inr q ↦
          let w = bind_ok (expect_word (codes "action") us) _ it rest q.1 in
          action_takes limit b it ts us w.1 rest ext (expect_word_ok (codes "action") us w.1 w.0 w.2) w.3
    ]

external_is : (b : Bool) (ts : List Token) → sees_word (codes "external") ts ≡ b → IsExternal b ts (if b then drop 1 ts else ts)
external_is true ts e = word_at (codes "external") ts e
external_is false ts e = refl

item_takes : (limit : ℕ) → Takes (spec.item limit) (Bounded level_of_item limit IsItem)
unfolding spec.item
item_takes limit it ts rest e =
    elim (eaten (sees_word (codes "type")) _ _ ts _ e) [
      | inl p ↦ common_takes limit it ts (drop 1 ts) rest (word_at (codes "type") ts p.0) p.1
      | inr q ↦
          declared_takes limit (sees_word (codes "external") ts) it ts (after (sees_word (codes "external")) ts) rest (external_is (sees_word (codes "external") ts) ts refl) q.1
    ]

annotated_takes : (limit : ℕ) (notes : List Name) (d : Declaration) (ts us rest : List Token) → AreAnnotations notes ts us → spec.annotated limit notes us ≡ Ok (d, rest)
    → Bounded level_of_declaration limit IsDeclaration d ts rest
unfolding spec.annotated
annotated_takes limit notes d ts us rest h e =
    let it = bind_ok (spec.item limit us) _ d rest e in
    let close = bind_ok (expect sign.Semicolon it.1) (λ _ vs. given (record { annotations = notes; item = it.0; loc = between us vs }) vs) d rest it.3 in
    let is = item_takes limit it.0 us it.1 it.2 in
    finish (Bounded level_of_declaration limit IsDeclaration) d (record { annotations = notes; item = it.0; loc = between us close.1 }) ts close.1 rest close.3
    ((us, h, ((it.1, is.0, expect_ok sign.Semicolon it.1 close.1 close.0 close.2), refl)), is.1)

pub declaration_takes : (limit : ℕ) → Takes (spec.declaration limit) (Bounded level_of_declaration limit IsDeclaration)
unfolding spec.declaration
declaration_takes limit d ts rest e =
    let notes = bind_ok (annotations ts) _ d rest e in
    annotated_takes limit notes.0 d ts notes.1 rest (annotations_take notes.0 ts notes.1 notes.2) notes.3

block_takes : (limit : ℕ) (notes : List Name) (m : Member) (ts us next rest : List Token) → AreAnnotations notes ts us → word (codes "namespace") us next → spec.block limit notes next ≡ Ok (m, rest)
    → Bounded level_of_member limit IsMember m ts rest
unfolding spec.block
block_takes limit notes m ts us next rest h w e =
    let p = bind_ok (path next) _ m rest e in
    let brace = bind_ok (expect sign.OpenBrace p.1) _ m rest p.3 in
    let all = bind_ok (while (spec.declaration limit) before_close brace.1) _ m rest brace.3 in
    let close = bind_ok (expect sign.CloseBrace all.1) (λ _ vs. given (namespace notes p.0 all.0 (between p.1 vs)) vs) m rest all.3 in
    let those = many_bounded level_of_declaration limit IsDeclaration all.0 brace.1 all.1
    (while_takes (spec.declaration limit) (Bounded level_of_declaration limit IsDeclaration) (declaration_takes limit) before_close all.0 brace.1 all.1 all.2) in
    finish (Bounded level_of_member limit IsMember) m (namespace notes p.0 all.0 (between p.1 close.1)) ts close.1 rest close.3 (
      (
        us,
        h,
        (
          next,
          w,
          (
            p.1,
            path_takes p.0 next p.1 p.2,
            ((brace.1, expect_ok sign.OpenBrace p.1 brace.1 brace.0 brace.2, (all.1, those.0, expect_ok sign.CloseBrace all.1 close.1 close.0 close.2)), refl),
          ),
        ),
      ),
      those.1,
    )

pub member_takes : (limit : ℕ) → Takes (spec.member limit) (Bounded level_of_member limit IsMember)
unfolding spec.member
member_takes limit m ts rest e =
    let notes = bind_ok (annotations ts) _ m rest e in
    let h = annotations_take notes.0 ts notes.1 notes.2 in
    elim (eaten (sees_word (codes "namespace")) _ _ notes.1 _ notes.3) [
      | inl p ↦ block_takes limit notes.0 m ts notes.1 (drop 1 notes.1) rest h (word_at (codes "namespace") notes.1 p.0) p.1
      | inr q ↦
          let d = bind_ok (spec.annotated limit notes.0 notes.1) (λ d. pure (alone d)) m rest q.1 in
          finish (Bounded level_of_member limit IsMember) m (alone d.0) ts d.1 rest d.3 (annotated_takes limit notes.0 d.0 ts notes.1 d.1 h d.2)
    ]

pub members_take : (limit : ℕ) → Takes (spec.members limit) (Bounded (highest level_of_member) limit (many IsMember))
unfolding spec.members
members_take limit all ts rest e =
    many_bounded level_of_member limit IsMember all ts rest (while_takes (spec.member limit) (Bounded level_of_member limit IsMember) (member_takes limit) is_more all ts rest e)
