-- Values that are folded by joins: steps of the walk, and the least clean bound.
use Rattle.std.proofs.Common.{inl, inr, refl, List, [], ◌∷◌, Result, Ok, Err}
use Rattle.std.specs.List.{AllByRecursion}
use Rattle.cedar_type_rules.specs.Words.{IsCleanAbove, IsFoldOfJoins, IsGivenOrMemory, IsLeastClean, JoinError, LubHelp}
use Rattle.cedar_type_rules.specs.declared.join_error.JoinError.TheVariants as error

module _ {A : Type 0} (IsJoin : A → A → Result A LubHelp → Type 0) where
  -- what the values that are left are joined to, from the join so far, all of them are from the
  -- start
  pub record JoinedSoFar (start : A) (all rest : List A) (join : A) : Type 0 where
    pub whole : (answer : Result A LubHelp) → IsFoldOfJoins IsJoin join rest answer → IsFoldOfJoins IsJoin start all answer

  -- at first all are left
  pub joined-first : (start : A) (all : List A) → JoinedSoFar start all all start
  joined-first start all = record { whole = λ answer right. right }

  -- where one more is joined, the walk goes on from the join
  pub joined-next : (start : A) (all rest : List A) (item before join : A) → JoinedSoFar start all (item ∷ rest) before
      → IsJoin before item (Ok join) → JoinedSoFar start all rest join
  joined-next start all rest item before join so_far right =
      record { whole = λ answer more. so_far.whole answer (inl (join, right, more)) }

  -- what refuses one of the joins refuses all
  pub joined-refused : (start : A) (all rest : List A) (item before : A) (refusal : JoinError)
      → JoinedSoFar start all (item ∷ rest) before → IsGivenOrMemory (IsJoin before item) (Err refusal)
      → IsGivenOrMemory (IsFoldOfJoins IsJoin start all) (Err refusal)
  joined-refused start all rest item before (error.Help given) so_far right = so_far.whole (Err given) (inr (given, right, refl))
  joined-refused start all rest item before error.Memory so_far right = tt

  -- at last the join is that of all
  pub joined-last : (start : A) (all : List A) (join : A) → JoinedSoFar start all [] join → IsFoldOfJoins IsJoin start all (Ok join)
  joined-last start all join so_far = so_far.whole (Ok join) refl

-- an answer, or out of memory, of which more is known
pub IsGivenOrMemory-of : {A : Type 0} (P Q : Result A LubHelp → Type 0) (result : Result A JoinError)
    → ((answer : Result A LubHelp) → P answer → Q answer) → IsGivenOrMemory P result → IsGivenOrMemory Q result
IsGivenOrMemory-of P Q (Ok value) more right = more (Ok value) right
IsGivenOrMemory-of P Q (Err (error.Help given)) more right = more (Err given) right
IsGivenOrMemory-of P Q (Err error.Memory) more right = tt

-- what joins tell of clean values
pub record JoinLaws {A : Type 0} (IsBelow : A → A → Type 0) (IsClean : A → Type 0) (IsJoin : A → A → Result A LubHelp → Type 0) : Type 0 where
  pub itself : (a : A) → IsBelow a a
  pub onwards : (a b c : A) → IsBelow a b → IsBelow b c → IsBelow a c
  pub above : (a b given : A) → IsJoin a b (Ok given) → IsBelow a given × IsBelow b given
  pub least : (a b given bound : A) → IsJoin a b (Ok given) → IsBelow a bound → IsBelow b bound → IsClean bound → IsBelow given bound
  pub clean : (a b given : A) → IsJoin a b (Ok given) → IsClean a → IsClean b → IsClean given
  pub refused : (a b bound : A) (help : LubHelp) → IsJoin a b (Err help) → IsBelow a bound → IsBelow b bound → ¬ IsClean bound

module _ {A : Type 0} (IsBelow : A → A → Type 0) (IsClean : A → Type 0) (IsJoin : A → A → Result A LubHelp → Type 0)
    (laws : JoinLaws IsBelow IsClean IsJoin) where
  -- an answer is the least of the clean bounds of some values where it is that of others with the
  -- same bounds
  least-same : (items others : List A) (answer : Result A LubHelp)
      → ((bound : A) → IsCleanAbove IsBelow IsClean items bound → IsCleanAbove IsBelow IsClean others bound)
      → ((bound : A) → IsCleanAbove IsBelow IsClean others bound → IsCleanAbove IsBelow IsClean items bound)
      → IsLeastClean IsBelow IsClean items answer → IsLeastClean IsBelow IsClean others answer
  least-same items others (Ok least) forth back right = (forth least right.0, λ bound other. right.1 bound (back bound other))
  least-same items others (Err given) forth back right = λ bound other. right bound (back bound other)

  -- clean values that are folded by joins from a clean start give the least clean bound of the
  -- start and of them
  pub joined_is_least : (start : A) (items : List A) (answer : Result A LubHelp) → IsClean start → AllByRecursion IsClean items
      → IsFoldOfJoins IsJoin start items answer → IsLeastClean IsBelow IsClean (start ∷ items) answer
  joined_is_least start [] answer clean all is = rw is (((laws.itself start, tt), clean), λ bound own. own.0.0)
  joined_is_least start (item ∷ rest) answer clean all (inl (join, right, more)) =
      let up = laws.above start item join right in
      least-same (join ∷ rest) (start ∷ item ∷ rest) answer (λ bound own. (
        (laws.onwards start join bound up.0 own.0.0, (laws.onwards item join bound up.1 own.0.0, own.0.1)),
        own.1,
      )) (λ bound own. ((laws.least start item join bound right own.0.0 own.0.1.0 own.1, own.0.1.1), own.1))
      (joined_is_least join rest answer (laws.clean start item join right clean all.0) all.1 more)
  joined_is_least start (item ∷ rest) answer clean all (inr (given, right, is)) =
      rw is (λ bound own. laws.refused start item bound given right own.0.0 own.0.1.0 own.1)
