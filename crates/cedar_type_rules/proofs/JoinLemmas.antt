-- What follows for the least own bound of two types.
use Rattle.std.proofs.Common.{inl, inr, refl, Ok, Err}
use Rattle.cedar_type_rules.proofs.AntisymmetryLaws.{Below-same}
use Rattle.cedar_type_rules.proofs.OwnBoundLemmas.{LiesWithin-clean, IsClean-within, LiesWithin-more, LiesWithin-among}
use Rattle.cedar_type_rules.proofs.SubtypeLaws.{Below-itself}
use Rattle.cedar_type_rules.specs.Words.{CleanBoundsAreOwn, IsEither, IsOwnBound, JoinsAreBelowCleanBounds, JoinsAreCommutative, JoinsAreGivenExactly, JoinsAreUnique, JoinsOfCleanAreLeastClean, OwnBoundsOfCleanAreClean, Ty, UpperTypesAreJoins, ValidationMode}

-- a clean bound is an own bound
pub clean_is_own : CleanBoundsAreOwn
clean_is_own mode a b bound clean = (clean.0, LiesWithin-clean (IsEither a b) bound clean.1)

-- an own bound of clean types is clean
pub own_is_clean : OwnBoundsOfCleanAreClean
own_is_clean mode a b bound first second own =
    IsClean-within (IsEither a b) bound
    (λ of either. elim either [ inl e ↦ rw e first | inr e ↦ rw e second ]) own.1

-- the upper of two types is their join
pub upper_is_join : UpperTypesAreJoins
upper_is_join mode a b below = (
  (((below, (Below-itself mode b, tt)), LiesWithin-among (IsEither a b) b (inr refl)), λ bound own. own.0.1.0),
  (((Below-itself mode b, (below, tt)), LiesWithin-among (IsEither b a) b (inl refl)), λ bound own. own.0.0),
)

-- a join is given exactly where there is an own bound
pub join_given_exactly : JoinsAreGivenExactly
join_given_exactly mode a b (Ok join) right = (λ _. (join, right.0), λ _. refl)
join_given_exactly mode a b (Err given) right = (λ e. absurd cc, λ own. absurd (right.0 own))

-- two well-formed joins are the same
pub join_unique : JoinsAreUnique
join_unique mode a b join other formed also first second =
    Below-same mode join other formed also (first.1 other second.0) (second.1 join first.0)

-- a join is below each clean bound
pub join_below_clean : JoinsAreBelowCleanBounds
join_below_clean mode a b (Ok join) right =
    ((right.0.0.0, right.0.0.1.0), λ bound clean. right.1 bound (clean_is_own mode a b bound clean))
join_below_clean mode a b (Err given) right = (tt, λ bound clean. absurd (right.0 (bound, clean_is_own mode a b bound clean)))

-- the join of clean types is their least clean bound
pub join_least_clean : JoinsOfCleanAreLeastClean
join_least_clean mode a b (Ok join) first second right =
    ((right.0.0, own_is_clean mode a b join first second right.0), λ bound clean. right.1 bound (clean_is_own mode a b bound clean))
join_least_clean mode a b (Err given) first second right = λ bound clean. right.0 (bound, clean_is_own mode a b bound clean)

-- an own bound of two types is one of the same types swapped
own_swapped : (mode : ValidationMode) (a b bound : Ty) → IsOwnBound mode a b bound → IsOwnBound mode b a bound
own_swapped mode a b bound own = (
  (own.0.1.0, (own.0.0, tt)),
  LiesWithin-more (IsEither a b) (IsEither b a) bound (λ of either. elim either [ inl e ↦ inr e | inr e ↦ inl e ]) own.1,
)

-- swapped types have the same joins
pub join_commutes : JoinsAreCommutative
join_commutes mode a b = (
  λ own. (own.0, own_swapped mode a b own.0 own.1),
  λ join least. (own_swapped mode a b join least.0, λ bound own. least.1 bound (own_swapped mode b a bound own)),
)
