use Rattle.std.specs.Prelude.{List, [], ◌∷◌, ◌≡◌, ◌⊎◌, Result, Ok, Err}
use Rattle.cedar_ast.specs.declared.validation_mode.ValidationMode.{ValidationMode}
use Rattle.cedar_type_rules.specs.Bound.{IsLeast}
use Rattle.cedar_type_rules.specs.Help.{IsHelp}
use Rattle.cedar_type_rules.specs.OwnBound.{HaveOwnBound, IsLeastOwnBound}
use Rattle.cedar_type_rules.specs.Ty.{Ty}
use Rattle.cedar_type_rules.specs.WellFormed.{IsWellFormed}
use Rattle.cedar_type_rules.specs.declared.join_error.JoinError.{JoinError}
use Rattle.cedar_type_rules.specs.declared.join_error.JoinError.TheVariants as error
use Rattle.cedar_type_rules.specs.declared.join_error.LubHelp.{LubHelp}

-- what a join answers, as plain data: a type, or a help
abbrev pub JoinAnswer : Type 0
JoinAnswer = Result Ty LubHelp

-- an answer is the least of some bounds in a mode, or it is a help and there is none
abbrev pub IsLeastAnswer : ValidationMode → (Ty → Type 0) → JoinAnswer → Type 0
IsLeastAnswer mode Bounds (Ok least) = IsLeast mode Bounds least
IsLeastAnswer mode Bounds (Err given) = (bound : Ty) → ¬ Bounds bound

-- a join answers the least own bound of two types, or where they have no own bound a help for them
abbrev pub IsJoinAnswer : ValidationMode → Ty → Ty → JoinAnswer → Type 0
IsJoinAnswer mode a b (Ok join) = IsLeastOwnBound mode a b join
IsJoinAnswer mode a b (Err given) = ¬ HaveOwnBound mode a b × IsHelp mode a b given

-- types are folded by joins from a start, each join well formed: to what the last one gives, or to
-- the help of the first that is refused
abbrev pub IsReduceAnswer : ValidationMode → Ty → List Ty → JoinAnswer → Type 0
IsReduceAnswer mode start [] answer = answer ≡ Ok start
IsReduceAnswer mode start (ty ∷ rest) answer =
    ((join : Ty) × IsJoinAnswer mode start ty (Ok join) × IsWellFormed join
    × IsReduceAnswer mode join rest answer)
    ⊎ ((given : LubHelp) × IsJoinAnswer mode start ty (Err given) × (answer ≡ Err given))

-- the answer of a call is right, by what its value stands for, or it is that memory ran out
abbrev pub IsAnswerOrMemory : {A : Type 0} → (A → Ty) → (JoinAnswer → Type 0) → Result A JoinError
    → Type 0
IsAnswerOrMemory stands_for IsAnswer (Ok value) = IsAnswer (Ok (stands_for value))
IsAnswerOrMemory stands_for IsAnswer (Err (error.Help given)) = IsAnswer (Err given)
IsAnswerOrMemory stands_for IsAnswer (Err error.Memory) = Unit {0}
