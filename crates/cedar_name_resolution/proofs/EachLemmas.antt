-- What holds of each item of a list.
use Rattle.std.proofs.Common.{List, [], ◌∷◌, ◌++◌}
use Rattle.std.specs.List.{AllByRecursion}

-- what holds of each item of two lists holds of each of both together
pub AllByRecursion-append : {A : Type 0} (P : A → Type 0) (xs ys : List A) → AllByRecursion P xs → AllByRecursion P ys → AllByRecursion P (xs ++ ys)
AllByRecursion-append P [] ys all others = others
AllByRecursion-append P (first ∷ rest) ys all others = (all.0, AllByRecursion-append P rest ys all.1 others)
