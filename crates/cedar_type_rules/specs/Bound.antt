use Rattle.std.specs.List.{AllByRecursion}
use Rattle.std.specs.Prelude.{List}
use Rattle.cedar_ast.specs.declared.validation_mode.ValidationMode.{ValidationMode}
use Rattle.cedar_type_rules.specs.Below.{Below}
use Rattle.cedar_type_rules.specs.Clean.{IsClean}
use Rattle.cedar_type_rules.specs.Ty.{Ty}

-- a bound of some types is above each of them, in a mode
abbrev pub IsBound : ValidationMode → List Ty → Ty → Type 0
IsBound mode tys bound = AllByRecursion (λ ty. Below mode ty bound) tys

-- a clean bound of some types is a bound in which the any-set stands nowhere
abbrev pub IsCleanBound : ValidationMode → List Ty → Ty → Type 0
IsCleanBound mode tys bound = IsBound mode tys bound × IsClean bound

-- the least of some bounds is one of them that is below each of them, in a mode
abbrev pub IsLeast : ValidationMode → (Ty → Type 0) → Ty → Type 0
IsLeast mode Bounds least = Bounds least × ((bound : Ty) → Bounds bound → Below mode least bound)
