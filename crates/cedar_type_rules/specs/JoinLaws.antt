use Rattle.std.specs.Prelude.{◌≡◌, ◌↔◌, [], ◌∷◌, IsOk, IsOkAnd, IfOk}
use Rattle.cedar_ast.specs.declared.validation_mode.ValidationMode.{ValidationMode}
use Rattle.cedar_ast.specs.declared.validation_mode.ValidationMode.TheVariants.{Strict, Permissive}
use Rattle.cedar_type_rules.specs.Below.{Below}
use Rattle.cedar_type_rules.specs.Bound.{IsCleanBound}
use Rattle.cedar_type_rules.specs.Clean.{IsClean}
use Rattle.cedar_type_rules.specs.JoinAnswer.{JoinAnswer, IsLeastAnswer, IsJoinAnswer}
use Rattle.cedar_type_rules.specs.OwnBound.{IsOwnBound, HaveOwnBound, IsLeastOwnBound}
use Rattle.cedar_type_rules.specs.Ty.{Ty}
use Rattle.cedar_type_rules.specs.WellFormed.{IsWellFormed}

-- every clean bound of two types is an own bound
abbrev pub CleanBoundsAreOwn : Type 0
CleanBoundsAreOwn =
    (mode : ValidationMode) (a b bound : Ty) → IsCleanBound mode (a ∷ b ∷ []) bound
    → IsOwnBound mode a b bound

-- every own bound of two clean types is clean
abbrev pub OwnBoundsOfCleanAreClean : Type 0
OwnBoundsOfCleanAreClean =
    (mode : ValidationMode) (a b bound : Ty) → IsClean a → IsClean b → IsOwnBound mode a b bound
    → IsClean bound

-- any two well-formed types have an answer: a well-formed least own bound, or a help where there is
-- no own bound
abbrev pub JoinsAreAnswered : Type 0
JoinsAreAnswered =
    (mode : ValidationMode) (a b : Ty) → IsWellFormed a → IsWellFormed b
    → (answer : JoinAnswer) × IsJoinAnswer mode a b answer × IfOk answer IsWellFormed

-- a join is given exactly where there is an own bound
abbrev pub JoinsAreGivenExactly : Type 0
JoinsAreGivenExactly =
    (mode : ValidationMode) (a b : Ty) (answer : JoinAnswer) → IsJoinAnswer mode a b answer
    → IsOk answer ↔ HaveOwnBound mode a b

-- two well-formed joins of the same types are the same
abbrev pub JoinsAreUnique : Type 0
JoinsAreUnique =
    (mode : ValidationMode) (a b join other : Ty) → IsWellFormed join → IsWellFormed other
    → IsLeastOwnBound mode a b join → IsLeastOwnBound mode a b other → join ≡ other

-- where one type is below the other, the upper is the join
abbrev pub UpperTypesAreJoins : Type 0
UpperTypesAreJoins =
    (mode : ValidationMode) (a b : Ty) → Below mode a b
    → IsLeastOwnBound mode a b b × IsLeastOwnBound mode b a b

-- a join is above both types and below each of their clean bounds, and is refused only where they
-- have none
abbrev pub JoinsAreBelowCleanBounds : Type 0
JoinsAreBelowCleanBounds =
    (mode : ValidationMode) (a b : Ty) (answer : JoinAnswer) → IsJoinAnswer mode a b answer
    → IfOk answer (λ join. Below mode a join × Below mode b join)
    × ((bound : Ty) → IsCleanBound mode (a ∷ b ∷ []) bound
    → IsOkAnd answer (λ join. Below mode join bound))

-- the join of clean types is their least clean bound, and is refused only where they have none
abbrev pub JoinsOfCleanAreLeastClean : Type 0
JoinsOfCleanAreLeastClean =
    (mode : ValidationMode) (a b : Ty) (answer : JoinAnswer) → IsClean a → IsClean b
    → IsJoinAnswer mode a b answer
    → IsLeastAnswer mode (IsCleanBound mode (a ∷ b ∷ [])) answer

-- two types swapped have the same own bounds, and so the same joins
abbrev pub JoinsAreCommutative : Type 0
JoinsAreCommutative =
    (mode : ValidationMode) (a b : Ty)
    → (HaveOwnBound mode a b → HaveOwnBound mode b a)
    × ((join : Ty) → IsLeastOwnBound mode a b join → IsLeastOwnBound mode b a join)

-- a strict join is also the permissive one: it is below each own bound in permissive mode
abbrev pub StrictJoinsArePermissive : Type 0
StrictJoinsArePermissive =
    (a b join : Ty) → IsWellFormed a → IsWellFormed b
    → IsLeastOwnBound Strict a b join → IsLeastOwnBound Permissive a b join
