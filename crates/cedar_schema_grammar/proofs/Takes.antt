-- What is read is in the grammar, with types that are at most at the limit.
use Rattle.std.proofs.Common.{◌≡◌, ℕ, zero, suc, ◌≤◌, Bool, true, false, not, List, [], ◌∷◌, drop, Ok, ◌⊎◌, inl, inr, refl, arith}
use Rattle.std.specs.Prelude.{if◌then◌else◌}
use Rattle.cedar_schema_tokens.specs.Token.{Token}
use Rattle.cedar_schema_tokens.specs.declared.token.Symbol.TheVariants as sign
use Rattle.cedar_schema_grammar.specs.Tree.{Ty, named, set_of, record_of, Attribute, attributes_from, level, level_of_all}
use Rattle.cedar_schema_grammar.specs.Grammar.{Form, ◌then◌, optional, mark, word, separated as separated_form, any, IsName, IsPath, IsAnnotation, AreAnnotations, IsPresence, IsType, AreAttributes, AreMore, between}
use Rattle.cedar_schema_grammar.specs.Reading.{Outcome, Reader, and_then, pure, sees, after, expect, id, id_text, name, quoted, path, annotation, annotations, begins_set, attribute_with, set_with, record_with, type_by, too_deep, type_at, separated, until}
use Rattle.cedar_schema_grammar.proofs.Turns.{given}
use Rattle.cedar_schema_grammar.proofs.Steps.{bind_ok, chosen, finish, eaten, sees_is, expect_ok, id_ok, id_text_ok, name_ok, quoted_ok, set_is}
use Rattle.cedar_schema_grammar.proofs.Lists.{separated_takes, until_takes, while_takes}

-- what is read is of the form
abbrev pub Takes : {A : Type 0} → Reader A → (A → Form) → Type 0
Takes p form = (x : _) (ts rest : List Token) → p ts ≡ Ok (x, rest) → form x ts rest

-- of the form, and at most at a level
abbrev pub Bounded : {A : Type 0} → (A → ℕ) → ℕ → (A → Form) → A → Form
Bounded height limit form x ts rest = form x ts rest × (height x ≤ limit)

-- ---- paths and annotations

pub path_takes : Takes path IsPath
unfolding path
path_takes p ts rest e =
    let ids = bind_ok (separated id_text sign.PathSeparator ts) (λ ids us. given (record { ids = ids; loc = between ts us }) us) p rest e in
    finish IsPath p (record { ids = ids.0; loc = between ts ids.1 }) ts ids.1 rest ids.3 (separated_takes id_text word id_text_ok sign.PathSeparator ids.0 ts ids.1 ids.2, refl)

pub annotation_takes : Takes annotation IsAnnotation
unfolding annotation
annotation_takes x ts rest e =
    let start = bind_ok (expect sign.At ts) _ x rest e in
    let key = bind_ok (id start.1) _ x rest start.3 in
    let begun = expect_ok sign.At ts start.1 start.0 start.2 in
    let is = id_ok key.0 start.1 key.1 key.2 in
    elim (eaten (sees sign.OpenParenthesis) _ _ key.1 _ key.3) [
      | inl p ↦
          let value = bind_ok (quoted (drop 1 key.1)) _ x rest p.1 in
          let close = bind_ok (expect sign.CloseParenthesis value.1) _ x rest value.3 in
          let says = quoted_ok value.0 (drop 1 key.1) value.1 value.2 in
          finish IsAnnotation x key.0 ts close.1 rest close.3 (
            start.1,
            begun,
            (key.1, is, inl (drop 1 key.1, sees_is sign.OpenParenthesis key.1 p.0, (value.1, (value.0.text, (value.0.loc, says)), expect_ok sign.CloseParenthesis value.1 close.1 close.0 close.2))),
          )
      | inr q ↦ finish IsAnnotation x key.0 ts key.1 rest q.1 (start.1, begun, (key.1, is, inr refl))
    ]

pub annotations_take : Takes annotations AreAnnotations
annotations_take all ts rest e = while_takes annotation IsAnnotation annotation_takes (sees sign.At) all ts rest e

-- ---- attributes

-- an attribute by itself, over what its type is
abbrev pub IsAttribute : (Ty → Form) → Attribute → Form
IsAttribute of a = AreAnnotations a.annotations then IsName a.name then IsPresence a.is_required then mark sign.Colon then of a.of

presence : (b : Bool) (ts : List Token) → sees sign.Question ts ≡ b → IsPresence (not b) ts (if b then drop 1 ts else ts)
presence true ts e = sees_is sign.Question ts e
presence false ts e = refl

attribute_takes : (inner : Reader Ty) (of : Ty → Form) → Takes inner of → Takes (attribute_with inner) (IsAttribute of)
unfolding attribute_with
attribute_takes inner of takes a ts rest e =
    let notes = bind_ok (annotations ts) _ a rest e in
    let key = bind_ok (name notes.1) _ a rest notes.3 in
    let colon = bind_ok (expect sign.Colon (after (sees sign.Question) key.1)) _ a rest key.3 in
    let ty = bind_ok (inner colon.1) _ a rest colon.3 in
    finish (IsAttribute of) a (record { annotations = notes.0; name = key.0; is_required = not (sees sign.Question key.1); of = ty.0 }) ts ty.1 rest ty.3 (
      notes.1,
      annotations_take notes.0 ts notes.1 notes.2,
      (
        key.1,
        name_ok key.0 notes.1 key.1 key.2,
        (
          after (sees sign.Question) key.1,
          presence (sees sign.Question key.1) key.1 refl,
          (colon.1, expect_ok sign.Colon _ colon.1 colon.0 colon.2, takes ty.0 colon.1 ty.1 ty.2),
        ),
      ),
    )

module _ (limit : ℕ) where
  abbrev pub Inner : Ty → Form
  Inner = Bounded level limit IsType

  -- a list of attributes is what the grammar has for a record
  abbrev pub Spread : List Attribute → Form
  Spread all ts rest = AreAttributes (attributes_from all) ts rest × (level_of_all (attributes_from all) ≤ limit)

  spread : (a : Attribute) (more : List Attribute) (ts mid rest : List Token) → separated_form sign.Comma (IsAttribute Inner) (a ∷ more) ts mid → optional (mark sign.Comma) mid rest
      → Spread (a ∷ more) ts rest
  unfolding AreAttributes AreMore
  spread a [] ts mid rest h last =
      let n = h.2 in
      let p = n.2 in
      let c = p.2 in
      let deep = c.2.1 in
      ((h.0, h.1, (n.0, n.1, (p.0, p.1, (c.0, c.1, (mid, c.2.0, last))))), omega arith)
  spread a (b ∷ more) ts mid rest k last =
      let h = k.1 in
      let n = h.2 in
      let p = n.2 in
      let c = p.2 in
      let deep = c.2.1 in
      let others = spread b more k.2.0 mid rest k.2.2 last in
      let deeper = others.1 in
      ((h.0, h.1, (n.0, n.1, (p.0, p.1, (c.0, c.1, (k.0, c.2.0, (k.2.0, k.2.1, others.0)))))), omega arith)

  pub spread_any : (all : List Attribute) (ts rest : List Token) → any (IsAttribute Inner) all ts rest → Spread all ts rest
  unfolding AreAttributes
  spread_any [] ts rest h = (h, omega arith)
  spread_any (a ∷ more) ts rest h = spread a more ts h.0 rest h.1 h.2

  gather : (a : Attribute) (more : List Attribute) (ts rest : List Token) → AreAttributes (attributes_from (a ∷ more)) ts rest → level_of_all (attributes_from (a ∷ more)) ≤ limit
      → any (IsAttribute Inner) (a ∷ more) ts rest
  unfolding AreAttributes AreMore
  gather a [] ts rest h le =
      let n = h.2 in
      let p = n.2 in
      let c = p.2 in
      let t = c.2 in
      (t.0, (h.0, h.1, (n.0, n.1, (p.0, p.1, (c.0, c.1, (t.1, omega arith))))), t.2)
  gather a (b ∷ more) ts rest h le =
      let n = h.2 in
      let p = n.2 in
      let c = p.2 in
      let t = c.2 in
      let comma = t.2 in
      let others = gather b more comma.0 rest comma.2 (omega arith) in
      (others.0, (t.0, (h.0, h.1, (n.0, n.1, (p.0, p.1, (c.0, c.1, (t.1, omega arith))))), (comma.0, comma.1, others.1)), others.2)

  pub gather_any : (all : List Attribute) (ts rest : List Token) → Spread all ts rest → any (IsAttribute Inner) all ts rest
  unfolding AreAttributes
  gather_any [] ts rest h = h.0
  gather_any (a ∷ more) ts rest h = gather a more ts rest h.0 h.1

-- ---- types

abbrev pub path_type : Reader Ty
path_type = λ ts. and_then (path ts) (λ p. pure (named p))

named_takes : (limit : ℕ) → Takes path_type (Bounded level limit IsType)
unfolding IsType
named_takes limit t ts rest e =
    let p = bind_ok (path ts) (λ p. pure (named p)) t rest e in
    finish (Bounded level limit IsType) t (named p.0) ts p.1 rest p.3 (path_takes p.0 ts p.1 p.2, omega arith)

set_takes : (inner : Reader Ty) (limit : ℕ) → Takes inner (Bounded level limit IsType) → (t : Ty) (ts rest : List Token) → begins_set ts ≡ true → set_with inner ts ≡ Ok (t, rest)
    → Bounded level (suc limit) IsType t ts rest
unfolding set_with IsType
set_takes inner limit takes t ts rest b e =
    let p = bind_ok (inner (drop 2 ts)) _ t rest e in
    let is = takes p.0 (drop 2 ts) p.1 p.2 in
    let c = bind_ok (expect sign.Greater p.1) _ t rest p.3 in
    let begun = set_is ts b in
    let deep = is.1 in
    finish (Bounded level (suc limit) IsType) t (set_of p.0) ts c.1 rest c.3
    ((drop 1 ts, begun.0, (drop 2 ts, begun.1, (p.1, is.0, expect_ok sign.Greater p.1 c.1 c.0 c.2))), omega arith)

record_takes : (inner : Reader Ty) (limit : ℕ) → Takes inner (Bounded level limit IsType) → (t : Ty) (ts rest : List Token) → sees sign.OpenBrace ts ≡ true → record_with inner ts ≡ Ok (t, rest)
    → Bounded level (suc limit) IsType t ts rest
unfolding record_with IsType
record_takes inner limit takes t ts rest b e =
    let all = bind_ok (until (attribute_with inner) sign.CloseBrace (drop 1 ts)) (λ all us. given (record_of (attributes_from all) (between ts us)) us) t rest e in
    let is = until_takes (attribute_with inner) (IsAttribute (Inner limit)) (attribute_takes inner (Inner limit) takes) sign.CloseBrace all.0 (drop 1 ts) all.1 all.2 in
    let those = spread_any limit all.0 (drop 1 ts) is.0 is.1 in
    let deep = those.1 in
    finish (Bounded level (suc limit) IsType) t (record_of (attributes_from all.0) (between ts all.1)) ts all.1 rest all.3
    (((drop 1 ts, sees_is sign.OpenBrace ts b, (is.0, those.0, is.2)), refl), omega arith)

-- by what a type begins with
begun : (set whole : Reader Ty) (ts : List Token) (z : Outcome Ty) → type_by set whole ts ≡ z
    → ((sees sign.OpenBrace ts ≡ true) × (whole ts ≡ z)) ⊎ (((begins_set ts ≡ true) × (set ts ≡ z)) ⊎ (path_type ts ≡ z))
begun set whole ts z e =
    elim (chosen (sees sign.OpenBrace ts) _ _ z e) [
      | inl p ↦ inl p
      | inr q ↦ elim (chosen (begins_set ts) _ _ z q.1) [ inl p ↦ inr (inl p) | inr r ↦ inr (inr r.1) ]
    ]

pub type_takes : (limit : ℕ) → Takes (type_at limit) (Bounded level limit IsType)
unfolding type_at
type_takes zero t ts rest e =
    elim (begun too_deep too_deep ts _ e) [
      | inl p ↦ absurd (let never = p.1 in cc)
      | inr q ↦ elim q [ inl p ↦ absurd (let never = p.1 in cc) | inr r ↦ named_takes zero t ts rest r ]
    ]
type_takes (suc limit) t ts rest e =
    elim (begun (set_with (type_at limit)) (record_with (type_at limit)) ts _ e) [
      | inl p ↦ record_takes (type_at limit) limit (type_takes limit) t ts rest p.0 p.1
      | inr q ↦ elim q [ inl p ↦ set_takes (type_at limit) limit (type_takes limit) t ts rest p.0 p.1 | inr r ↦ named_takes (suc limit) t ts rest r ]
    ]
