use Rattle.std.specs.List.{AllByRecursion}
use Rattle.std.specs.Prelude.{◌≡◌, ◌⊎◌, List, [], ◌∷◌, Result, Ok, Err}
use Rattle.std.specs.Result.{result_map_both}
use Rattle.cedar_ast.specs.declared.validation_mode.ValidationMode.{ValidationMode}
use Rattle.cedar_type_rules.specs.JoinAnswer.{IsJoinAnswer}
use Rattle.cedar_type_rules.specs.Ty.{Ty}
use Rattle.cedar_type_rules.specs.declared.join_error.JoinError.{JoinError}
use Rattle.cedar_type_rules.specs.declared.join_error.JoinError.TheVariants as error
use Rattle.cedar_type_rules.specs.declared.join_error.LubHelp.{LubHelp}

-- the answer of a call is right, or it is that memory ran out
abbrev pub IsGivenOrMemory : {A : Type 0} → (Result A LubHelp → Type 0) → Result A JoinError
    → Type 0
IsGivenOrMemory IsAnswer (Ok value) = IsAnswer (Ok value)
IsGivenOrMemory IsAnswer (Err (error.Help given)) = IsAnswer (Err given)
IsGivenOrMemory IsAnswer (Err error.Memory) = Unit {0}

-- values are folded by joins from a start: to what the last join gives, or to the help of the first
-- that is refused
abbrev pub IsFoldOfJoins : {A : Type 0} → (A → A → Result A LubHelp → Type 0) → A → List A
    → Result A LubHelp → Type 0
IsFoldOfJoins IsJoin start [] answer = answer ≡ Ok start
IsFoldOfJoins {A = A} IsJoin start (item ∷ rest) answer =
    ((join : A) × IsJoin start item (Ok join) × IsFoldOfJoins IsJoin join rest answer)
    ⊎ ((given : LubHelp) × IsJoin start item (Err given) × (answer ≡ Err given))

-- a value is clean and above each of some
abbrev pub IsCleanAbove : {A : Type 0} → (A → A → Type 0) → (A → Type 0) → List A → A → Type 0
IsCleanAbove IsBelow IsClean items bound =
    AllByRecursion (λ item. IsBelow item bound) items × IsClean bound

-- an answer is clean, above each of some values and below all else that is so; or it is a help, and
-- nothing is so
abbrev pub IsLeastClean : {A : Type 0} → (A → A → Type 0) → (A → Type 0) → List A → Result A LubHelp
    → Type 0
IsLeastClean {A = A} IsBelow IsClean items (Ok least) =
    IsCleanAbove IsBelow IsClean items least
    × ((bound : A) → IsCleanAbove IsBelow IsClean items bound → IsBelow least bound)
IsLeastClean {A = A} IsBelow IsClean items (Err given) = (bound : A)
    → ¬ IsCleanAbove IsBelow IsClean items bound

-- an answer is that of the join of what two values stand for, by what it stands for itself
abbrev pub AnswersJoinOf : {A : Type 0} → (A → Ty) → ValidationMode → A → A → Result A LubHelp
    → Type 0
AnswersJoinOf stands_for mode a b answer =
    IsJoinAnswer mode (stands_for a) (stands_for b)
    (result_map_both stands_for (λ given. given) answer)
