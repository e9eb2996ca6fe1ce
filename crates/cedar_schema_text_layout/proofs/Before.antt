-- The tokens and comments of a text before a place in it.
use Rattle.std.proofs.Common.{◌≡◌, ◌≢◌, ◌<◌, ◌≤◌, ◌+◌, ◌-◌, ℕ, zero, suc, List, [], ◌∷◌, ◌++◌, drop, take, length, map, get_or, refl, sym, ap, subst, ◌∙◌, arith, append-nil, append_assoc, Some, ◌⊎◌, inl, inr}
use Rattle.std.proofs.Math.Seq.{take-add, take-suc}
use Rattle.std.proofs.lemmas.List.{append_cancel_left, map-append, take_all}
use Rattle.std.specs.List.{AllByRecursion}
use Rattle.cedar_schema_text_layout.specs.Relaid.{EachSpelled, GoesOn, IsAt, IsEdit, IsListEnd, IsOfPath, IsPathBetween, IsPathKind, IsSoFar, Takes, before, comma_left_out, tokens}
use Rattle.cedar_schema_text_layout.specs.declared.edited.Edited.{Edited}
use Rattle.cedar_schema_tokens.specs.Spelled.{IsSpelling, Spelled, spelled_of}
use Rattle.cedar_schema_tokens.specs.declared.spelled.Spelled as code
use Rattle.cedar_schema_tokens.specs.declared.spelled.SpelledKind.{SpelledKind}
use Rattle.cedar_schema_tokens.specs.declared.spelled.SpelledKind.TheVariants as kind
use Rattle.cedar_schema_tokens.specs.declared.token.Symbol.TheVariants as sym
use Rattle.cedar_schema_text_layout.proofs.SoFar.{all_append, symbol_is_token, token_alone, tokens_append}

-- what stands between two places
abbrev pub between : List code.Spelled → ℕ → ℕ → List Spelled
between pieces at end = map spelled_of (take (end - at) (drop at pieces))

pub before_at : (pieces : List code.Spelled) (at : ℕ) (d : code.Spelled) → at < length pieces
    → before pieces (at + 1) ≡ before pieces at ++ spelled_of (get_or pieces at d) ∷ []
before_at pieces at d within =
    let next : at + 1 ≡ suc at = omega arith in
    ap (λ n. map spelled_of (take n pieces)) next ∙ ap (map spelled_of) (take-suc pieces at d within)
    ∙ map-append spelled_of (take at pieces) (get_or pieces at d ∷ [])

pub before_between : (pieces : List code.Spelled) (at end : ℕ) → at ≤ end → before pieces end ≡ before pieces at ++ between pieces at end
before_between pieces at end below =
    let whole : end ≡ at + (end - at) = omega arith in
    ap (λ n. map spelled_of (take n pieces)) whole ∙ ap (map spelled_of) (take-add at (end - at) pieces)
    ∙ map-append spelled_of (take at pieces) (take (end - at) (drop at pieces))

pub before_all : (pieces : List code.Spelled) (at : ℕ) → length pieces ≤ at → before pieces at ≡ map spelled_of pieces
before_all pieces at all = ap (map spelled_of) (take_all at pieces all)

-- what goes on by what stands at a place is taken over
pub takes_one : (pieces : List code.Spelled) (at : ℕ) (d : code.Spelled) (old new : Edited) → at < length pieces
    → IsSoFar (before pieces at) old → GoesOn old (spelled_of (get_or pieces at d) ∷ []) new → Takes pieces at (at + 1) new
takes_one pieces at d old new within so_far goes_on =
    (omega arith, omega (arith, within), subst (λ all. IsSoFar all new) (sym (before_at pieces at d within)) (goes_on (before pieces at) so_far))

-- and so is what goes on by all up to another place
pub takes_between : (pieces : List code.Spelled) (at end : ℕ) (old new : Edited) → at < end → end ≤ length pieces
    → IsSoFar (before pieces at) old → GoesOn old (between pieces at end) new → Takes pieces at end new
takes_between pieces at end old new below within so_far goes_on =
    (below, within, subst (λ all. IsSoFar all new) (sym (before_between pieces at end (omega (arith, below)))) (goes_on (before pieces at) so_far))

-- ---- paths

pub path_one : (pieces : List code.Spelled) (at : ℕ) (d : code.Spelled) → at < length pieces → IsPathKind (get_or pieces at d).kind
    → IsPathBetween pieces at (at + 1)
path_one pieces at d within is = (
  spelled_of (get_or pieces at d) ∷ [],
  ap tokens (before_at pieces at d within) ∙ tokens_append (before pieces at) (spelled_of (get_or pieces at d) ∷ [])
      ∙ ap (λ xs. tokens (before pieces at) ++ xs) (token_alone (spelled_of (get_or pieces at d)) (path_is_token (get_or pieces at d).kind is)),
  λ none. cc,
  (is, tt),
)
  where
    path_is_token : (it : SpelledKind) → IsPathKind it → it ≢ kind.Comment
    path_is_token it (inl is) isn't = let never = sym is ∙ isn't in cc
    path_is_token it (inr (inl is)) isn't = let never = sym is ∙ isn't in cc
    path_is_token it (inr (inr is)) isn't = let never = sym is ∙ isn't in cc

-- a path goes on behind comments
pub path_more : (pieces : List code.Spelled) (from end at : ℕ) (d : code.Spelled) → IsPathBetween pieces from end
    → tokens (before pieces at) ≡ tokens (before pieces end) → at < length pieces → IsPathKind (get_or pieces at d).kind
    → IsPathBetween pieces from (at + 1)
path_more pieces from end at d path same within is =
    let one = path_one pieces at d within is in (
      path.0 ++ one.0,
      one.1 ∙ ap (λ xs. xs ++ one.0) (same ∙ path.1) ∙ append_assoc (tokens (before pieces from)) path.0 one.0,
      λ none. one.2 (empty_right path.0 one.0 none),
      all_append IsOfPath path.0 one.0 path.3 one.3,
    )
  where
    empty_right : (xs ys : List Spelled) → xs ++ ys ≡ [] → ys ≡ []
    empty_right [] ys none = none
    empty_right (x ∷ xs) ys none = absurd cc

-- the tokens between the ends of a path
pub path_tokens : (pieces : List code.Spelled) (at end : ℕ) (path : IsPathBetween pieces at end) → at ≤ end
    → tokens (between pieces at end) ≡ path.0
path_tokens pieces at end path below =
    append_cancel_left (tokens (before pieces at)) (tokens (between pieces at end)) path.0
    (sym (ap tokens (before_between pieces at end below) ∙ tokens_append (before pieces at) (between pieces at end)) ∙ path.1)

-- ---- the ends of lists

pub list_ends : (pieces : List code.Spelled) (at end : ℕ) (d e : code.Spelled) → at < end → end < length pieces
    → (get_or pieces at d).kind ≡ kind.Symbol sym.Comma → (get_or pieces end e).kind ≡ kind.Symbol sym.CloseBracket
    → tokens (before pieces end) ≡ tokens (before pieces (at + 1)) → IsListEnd (between pieces at (end + 1))
list_ends pieces at end d e below within comma bracket same =
    let first = spelled_of (get_or pieces at d) in
    let last = spelled_of (get_or pieces end e) in
    let inner = between pieces (at + 1) end in
    let gap : before pieces end ≡ before pieces (at + 1) ++ inner = before_between pieces (at + 1) end (omega (arith, below)) in
    let none : tokens inner ≡ [] =
    append_cancel_left (tokens (before pieces (at + 1))) (tokens inner) []
    (sym (ap tokens gap ∙ tokens_append (before pieces (at + 1)) inner) ∙ same ∙ sym (append-nil _)) in
    let whole : before pieces at ++ between pieces at (end + 1) ≡ before pieces at ++ (first ∷ (inner ++ last ∷ [])) =
    sym (before_between pieces at (end + 1) (omega (arith, below))) ∙ before_at pieces end e within ∙ ap (λ xs. xs ++ last ∷ []) (gap ∙ ap (λ xs. xs ++ inner)
    (before_at pieces at d (omega (arith, below, within))) ∙ append_assoc (before pieces at) (first ∷ []) inner)
    ∙ append_assoc (before pieces at) (first ∷ inner) (last ∷ []) in
    (first, inner, last, append_cancel_left (before pieces at) _ _ whole, (comma, bracket), none)

-- what holds of all holds of what stands at a place
pub spelled_here : (pieces : List code.Spelled) (at : ℕ) (d : code.Spelled) → at < length pieces → EachSpelled (map spelled_of pieces)
    → IsSpelling (get_or pieces at d).kind (get_or pieces at d).text.now
spelled_here [] at d within each = absurd (omega (arith, within))
spelled_here (it ∷ more) zero d within each = each.0
spelled_here (it ∷ more) (suc at) d within each = spelled_here more at d (omega (arith, within)) each.1
