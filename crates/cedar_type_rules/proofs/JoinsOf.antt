-- Values that stand for plain types are joined as these are.
use Rattle.std.proofs.Common.{◌≡◌, inl, inr, ap, map, List, [], ◌∷◌, Result, Ok, Err}
use Rattle.std.specs.Result.{result_map_both}
use Rattle.cedar_type_rules.proofs.JoinLemmas.{clean_is_own, own_is_clean}
use Rattle.cedar_type_rules.proofs.SubtypeLaws.{Below-itself, Below-trans}
use Rattle.cedar_type_rules.specs.Words.{AnswersJoinOf, Below, IsAnswerOrMemory, IsClean, IsFoldOfJoins, IsGivenOrMemory, IsReduceAnswer, IsWellFormed, JoinAnswer, JoinError, LubHelp, Ty, ValidationMode}
use Rattle.cedar_type_rules.specs.declared.join_error.JoinError.TheVariants as error

module _ {A : Type 0} (stands_for : A → Ty) (mode : ValidationMode) where
  -- values that stand for the same are below each other
  pub alike_below : (a b : A) → stands_for a ≡ stands_for b → Below mode (stands_for a) (stands_for b)
  alike_below a b same = rw (← same) (Below-itself mode (stands_for a))

  -- each value is below itself
  pub below_itself : (a : A) → Below mode (stands_for a) (stands_for a)
  below_itself a = Below-itself mode (stands_for a)

  -- a value below one that is below a third is below the third
  pub below_onwards : (a b c : A) → Below mode (stands_for a) (stands_for b) → Below mode (stands_for b) (stands_for c)
      → Below mode (stands_for a) (stands_for c)
  below_onwards a b c = Below-trans mode (stands_for a) (stands_for b) (stands_for c)

  -- a join is above both
  pub join_above : (a b given : A) → AnswersJoinOf stands_for mode a b (Ok given)
      → Below mode (stands_for a) (stands_for given) × Below mode (stands_for b) (stands_for given)
  join_above a b given right = (right.0.0.0, right.0.0.1.0)

  -- a join is below each clean bound
  pub join_least : (a b given bound : A) → AnswersJoinOf stands_for mode a b (Ok given) → Below mode (stands_for a) (stands_for bound)
      → Below mode (stands_for b) (stands_for bound) → IsClean (stands_for bound) → Below mode (stands_for given) (stands_for bound)
  join_least a b given bound right first second clean =
      right.1 (stands_for bound) (clean_is_own mode (stands_for a) (stands_for b) (stands_for bound) ((first, (second, tt)), clean))

  -- a join of clean values is clean
  pub join_clean : (a b given : A) → AnswersJoinOf stands_for mode a b (Ok given) → IsClean (stands_for a) → IsClean (stands_for b)
      → IsClean (stands_for given)
  join_clean a b given right first second =
      own_is_clean mode (stands_for a) (stands_for b) (stands_for given) first second right.0

  -- a join is refused only where there is no clean bound
  pub refused_none : (a b bound : A) (help : LubHelp) → AnswersJoinOf stands_for mode a b (Err help)
      → Below mode (stands_for a) (stands_for bound) → Below mode (stands_for b) (stands_for bound) → ¬ IsClean (stands_for bound)
  refused_none a b bound help right first second clean =
      right.0 (stands_for bound, clean_is_own mode (stands_for a) (stands_for b) (stands_for bound) ((first, (second, tt)), clean))

-- an answer that is right of what a call gives is right by what it stands for
pub answers_by : {A : Type 0} (stands_for : A → Ty) (P : Result A LubHelp → Type 0) (Q : JoinAnswer → Type 0) (result : Result A JoinError)
    → ((answer : Result A LubHelp) → P answer → Q (result_map_both stands_for (λ given. given) answer))
    → IsGivenOrMemory P result → IsAnswerOrMemory stands_for Q result
answers_by stands_for P Q (Ok value) forth right = forth (Ok value) right
answers_by stands_for P Q (Err (error.Help given)) forth right = forth (Err given) right
answers_by stands_for P Q (Err error.Memory) forth right = tt

-- values that stand for well-formed types and are folded by joins stand for types that are reduced
-- to what the answer stands for
pub joined_reduced : {A : Type 0} (stands_for : A → Ty) (formed : (a : A) → IsWellFormed (stands_for a)) (mode : ValidationMode)
    (start : A) (items : List A) (answer : Result A LubHelp)
    → IsFoldOfJoins (AnswersJoinOf stands_for mode) start items answer
    → IsReduceAnswer mode (stands_for start) (map stands_for items) (result_map_both stands_for (λ given. given) answer)
joined_reduced stands_for formed mode start [] answer is = ap (result_map_both stands_for (λ given. given)) is
joined_reduced stands_for formed mode start (item ∷ rest) answer (inl (join, right, more)) =
    inl (stands_for join, right, formed join, joined_reduced stands_for formed mode join rest answer more)
joined_reduced stands_for formed mode start (item ∷ rest) answer (inr (given, right, is)) =
    inr (given, right, ap (result_map_both stands_for (λ help. help)) is)
