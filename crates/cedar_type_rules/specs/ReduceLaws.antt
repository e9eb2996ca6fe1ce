use Rattle.std.specs.List.{AllByRecursion}
use Rattle.std.specs.Prelude.{◌≡◌, ◌++◌, ◌∷◌, List, [], Ok, Err, IfOk}
use Rattle.cedar_ast.specs.Lists.{Included}
use Rattle.cedar_ast.specs.declared.validation_mode.ValidationMode.{ValidationMode}
use Rattle.cedar_type_rules.specs.Bound.{IsCleanBound}
use Rattle.cedar_type_rules.specs.Clean.{IsClean}
use Rattle.cedar_type_rules.specs.Help.{IsHelp}
use Rattle.cedar_type_rules.specs.JoinAnswer.{JoinAnswer, IsLeastAnswer, IsReduceAnswer}
use Rattle.cedar_type_rules.specs.OwnBound.{HaveOwnBound}
use Rattle.cedar_type_rules.specs.Ty.{Ty, never}
use Rattle.cedar_type_rules.specs.WellFormed.{IsWellFormed}
use Rattle.cedar_type_rules.specs.declared.join_error.LubHelp.{LubHelp}

-- well-formed types are reduced to some answer, which is well formed too
abbrev pub ReductionsAreAnswered : Type 0
ReductionsAreAnswered =
    (mode : ValidationMode) (tys : List Ty) → AllByRecursion IsWellFormed tys
    → (answer : JoinAnswer) × IsReduceAnswer mode never tys answer × IfOk answer IsWellFormed

-- what types are reduced to is well formed
abbrev pub ReductionsAreWellFormed : Type 0
ReductionsAreWellFormed =
    (mode : ValidationMode) (tys : List Ty) (answer : JoinAnswer)
    → IsReduceAnswer mode never tys answer → IfOk answer IsWellFormed

-- where types are reduced to a type, this is their only answer
abbrev pub ReductionsAreUnique : Type 0
ReductionsAreUnique =
    (mode : ValidationMode) (tys : List Ty) (join : Ty) (answer : JoinAnswer)
    → IsReduceAnswer mode never tys (Ok join) → IsReduceAnswer mode never tys answer
    → answer ≡ Ok join

-- where some types are reduced to one that has no own bound with the next, all are reduced to a
-- help for these two
abbrev pub RefusalsAreOfTheFirst : Type 0
RefusalsAreOfTheFirst =
    (mode : ValidationMode) (before after : List Ty) (join ty : Ty) (answer : JoinAnswer)
    → IsReduceAnswer mode never before (Ok join) → ¬ HaveOwnBound mode join ty
    → IsReduceAnswer mode never (before ++ ty ∷ after) answer
    → (given : LubHelp) × IsHelp mode join ty given × (answer ≡ Err given)

-- no types at all are reduced to `Never`
abbrev pub EmptyIsReducedToNever : Type 0
EmptyIsReducedToNever =
    (mode : ValidationMode) (answer : JoinAnswer) → IsReduceAnswer mode never [] answer
    → answer ≡ Ok never

-- clean types are reduced to their least clean bound, and are refused only where they have none
abbrev pub CleanAreReducedToLeastClean : Type 0
CleanAreReducedToLeastClean =
    (mode : ValidationMode) (tys : List Ty) (answer : JoinAnswer) → AllByRecursion IsClean tys
    → IsReduceAnswer mode never tys answer → IsLeastAnswer mode (IsCleanBound mode tys) answer

-- what clean types are reduced to doesn't depend on their order and repeats
abbrev pub CleanAreReducedInAnyOrder : Type 0
CleanAreReducedInAnyOrder =
    (mode : ValidationMode) (tys others : List Ty) (join : Ty) (answer : JoinAnswer)
    → AllByRecursion IsClean tys → Included tys others → Included others tys
    → IsReduceAnswer mode never tys (Ok join) → IsReduceAnswer mode never others answer
    → answer ≡ Ok join
