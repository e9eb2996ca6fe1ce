-- The first place of a table is that of the mark that stands first.
use Rattle.std.proofs.Common.{◌≡◌, ◌≢◌, ◌↔◌, ◌⊎◌, [], ◌∷◌, ◌++◌, Some, None, inl, inr, refl, ap, sym, subst, ◌∙◌}
use Rattle.cedar_ast.proofs.Basics.{Contains-none}
use Rattle.cedar_ast.proofs.Lists.{Contains-cons, Contains-cons_cases}
use Rattle.cedar_places.specs.Mark.{Mark, Marked, Marks}
use Rattle.cedar_places.specs.PlaceLaws.{FirstPlacesStandFirst, HasNone, StandsFirst, TwoDefinitionsStandApart}
use Rattle.cedar_places.specs.RefusalPlace.{IsFirstPlace, IsSought}
use Rattle.cedar_places.specs.Words.{Loc}
use Rattle.cedar_schema_semantics.specs.declared.schema_error.SchemaError.TheVariants as error

module _ (IsSo : Mark → Loc → Type 0) where
  -- where none of the others is so, one that isn't may stand before
  none_more : (it : Marked) (rest : Marks) → ((mark : Mark) (loc : Loc) → it ≡ (mark, Some loc) → ¬ IsSo mark loc)
      → HasNone IsSo rest → HasNone IsSo (it ∷ rest)
  none_more it rest isnt others mark loc among = elim (Contains-cons_cases it rest (mark, Some loc) among) [
    | inl same ↦ isnt mark loc same
    | inr later ↦ others mark loc later
  ]

  -- an unknown place is none
  unknown : (own : Mark) (mark : Mark) (loc : Loc) → ◌≡◌ {A = Marked} (own, None) (mark, Some loc) → ¬ IsSo mark loc
  unknown own mark loc same = let wrong : None ≡ Some loc = ap (λ (it : Marked). it.1) same in absurd cc

  -- what isn't so isn't so by another name
  isnt_so : (own : Mark) (at : Loc) → ¬ IsSo own at → (mark : Mark) (loc : Loc) → ◌≡◌ {A = Marked} (own, Some at) (mark, Some loc)
      → ¬ IsSo mark loc
  isnt_so own at isnt mark loc same is =
      let marks : own ≡ mark = ap (λ (it : Marked). it.0) same in
      let both : Some at ≡ Some loc = ap (λ (it : Marked). it.1) same in
      let locs : at ≡ loc = cc both in
      isnt (subst (λ m. IsSo m at) (sym marks) (subst (λ l. IsSo mark l) (sym locs) is))

  -- one more mark before a first one
  one_before : (it : Marked) (rest : Marks) (loc : Loc) → ((mark : Mark) (at : Loc) → it ≡ (mark, Some at) → ¬ IsSo mark at)
      → StandsFirst IsSo rest loc → StandsFirst IsSo (it ∷ rest) loc
  one_before it rest loc isnt first =
      (first.0, it ∷ first.1, first.2, ap (λ table. it ∷ table) first.3, first.4, none_more it first.1 isnt first.5)

  -- a first place is that of the mark that stands first
  stands_first : (table : Marks) (loc : Loc) → IsFirstPlace IsSo table (Some loc) → StandsFirst IsSo table loc
  stands_first [] loc is = absurd cc
  stands_first ((own, None) ∷ rest) loc is = one_before (own, None) rest loc (unknown own) (stands_first rest loc is)
  stands_first ((own, Some at) ∷ rest) loc is = elim is [
    | inl here ↦
        let same : at ≡ loc = cc here.1 in
        (own, [], rest, ap (λ l. (own, Some l) ∷ rest) same, subst (λ l. IsSo own l) same here.0, λ mark other among. absurd (Contains-none (mark, Some other) among))
    | inr later ↦ one_before (own, Some at) rest loc (isnt_so own at later.0) (stands_first rest loc later.1)
  ]

  -- and the other way round
  first_stands : (mark : Mark) (before after : Marks) (loc : Loc) → IsSo mark loc → HasNone IsSo before
      → IsFirstPlace IsSo (before ++ (mark, Some loc) ∷ after) (Some loc)
  first_stands mark [] after loc is none = inl (is, refl)
  first_stands mark ((own, None) ∷ before) after loc is none =
      first_stands mark before after loc is (λ m l among. none m l (Contains-cons (own, None) before (m, Some l) (inr among)))
  first_stands mark ((own, Some at) ∷ before) after loc is none = inr (
    none own at (Contains-cons (own, Some at) before (own, Some at) (inl refl)),
    first_stands mark before after loc is (λ m l among. none m l (Contains-cons (own, Some at) before (m, Some l) (inr among))),
  )

  -- there is none where no mark is so
  none_first : (table : Marks) → IsFirstPlace IsSo table None → HasNone IsSo table
  none_first [] is = λ mark loc among. absurd (Contains-none (mark, Some loc) among)
  none_first ((own, None) ∷ rest) is = none_more (own, None) rest (unknown own) (none_first rest is)
  none_first ((own, Some at) ∷ rest) is = elim is [
    | inl here ↦ let wrong : None ≡ Some at = here.1 in absurd cc
    | inr later ↦ none_more (own, Some at) rest (isnt_so own at later.0) (none_first rest later.1)
  ]

  first_none : (table : Marks) → HasNone IsSo table → IsFirstPlace IsSo table None
  first_none [] none = refl
  first_none ((own, None) ∷ rest) none = first_none rest (λ m l among. none m l (Contains-cons (own, None) rest (m, Some l) (inr among)))
  first_none ((own, Some at) ∷ rest) none = inr (
    none own at (Contains-cons (own, Some at) rest (own, Some at) (inl refl)),
    first_none rest (λ m l among. none m l (Contains-cons (own, Some at) rest (m, Some l) (inr among))),
  )

-- the first place is that of the mark that stands first
pub first_places : FirstPlacesStandFirst
first_places sought table = (
  λ loc. (
    stands_first (IsSought sought) table loc,
    λ first. subst (λ all. IsFirstPlace (IsSought sought) all (Some loc)) (sym first.3)
        (first_stands (IsSought sought) first.0 first.1 first.2 loc first.4 first.5),
  ),
  (none_first (IsSought sought) table, first_none (IsSought sought) table),
)

-- of two definitions the second place that is shown isn't the first
pub two_apart : TwoDefinitionsStandApart
two_apart table it first None two is is_second some = absurd (some refl)
two_apart table (error.DuplicateEntityType ty) first (Some loc) two is is_second some =
    let found = stands_first _ table loc is_second in
    λ same. found.4.1 (sym is ∙ same)
two_apart table (error.DuplicateCommonType name) first (Some loc) two is is_second some =
    let found = stands_first _ table loc is_second in
    λ same. found.4.1 (sym is ∙ same)
two_apart table (error.DuplicateAction uid) first (Some loc) two is is_second some =
    let found = stands_first _ table loc is_second in
    λ same. found.4.1 (sym is ∙ same)
two_apart table _ first (Some loc) two is is_second some = absurd two
