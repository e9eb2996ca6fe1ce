-- Types that are folded by joins.
use Rattle.std.proofs.Common.{◌≡◌, ◌∙◌, ◌++◌, inl, inr, ap, sym, List, [], ◌∷◌, Ok, Err, IfOk}
use Rattle.std.proofs.lemmas.List.Elements.{All-contains, All-from_recursion}
use Rattle.std.specs.List.{AllByRecursion}
use Rattle.cedar_ast.proofs.Inclusion.{Included-head, Included-tail}
use Rattle.cedar_type_rules.proofs.AntisymmetryLaws.{Below-same}
use Rattle.cedar_type_rules.proofs.JoinLemmas.{clean_is_own, join_unique, own_is_clean}
use Rattle.cedar_type_rules.proofs.SubtypeLaws.{Below-itself, Below-trans}
use Rattle.cedar_type_rules.specs.Words.{Below, CleanAreReducedInAnyOrder, CleanAreReducedToLeastClean, EmptyIsReducedToNever, HaveOwnBound, Included, IsClean, IsCleanBound, IsHelp, IsLeastAnswer, IsReduceAnswer, IsWellFormed, JoinAnswer, LubHelp, ReductionsAreUnique, ReductionsAreWellFormed, RefusalsAreOfTheFirst, Ty, ValidationMode, never}

-- an answer is the least of some bounds where it is that of the same bounds said otherwise
IsLeastAnswer-same : (mode : ValidationMode) (Bounds Others : Ty → Type 0) (answer : JoinAnswer)
    → ((bound : Ty) → Bounds bound → Others bound) → ((bound : Ty) → Others bound → Bounds bound)
    → IsLeastAnswer mode Bounds answer → IsLeastAnswer mode Others answer
IsLeastAnswer-same mode Bounds Others (Ok least) forth back right =
    (forth least right.0, λ bound other. right.1 bound (back bound other))
IsLeastAnswer-same mode Bounds Others (Err given) forth back right = λ bound other. right bound (back bound other)

-- clean types that are reduced from a clean start give their and its least clean bound
reduce_from : (mode : ValidationMode) (start : Ty) (tys : List Ty) (answer : JoinAnswer) → IsClean start
    → AllByRecursion IsClean tys → IsReduceAnswer mode start tys answer → IsLeastAnswer mode (IsCleanBound mode (start ∷ tys)) answer
reduce_from mode start [] answer clean all is = rw is (((Below-itself mode start, tt), clean), λ bound own. own.0.0)
reduce_from mode start (ty ∷ rest) answer clean all (inl (join, right, formed, more)) =
    let join_clean = own_is_clean mode start ty join clean all.0 right.0 in
    IsLeastAnswer-same mode (IsCleanBound mode (join ∷ rest)) (IsCleanBound mode (start ∷ ty ∷ rest)) answer (λ bound own. (
      (
        Below-trans mode start join bound right.0.0.0 own.0.0,
        (Below-trans mode ty join bound right.0.0.1.0 own.0.0, own.0.1),
      ),
      own.1,
    ))
    (λ bound own. ((right.1 bound (clean_is_own mode start ty bound ((own.0.0, (own.0.1.0, tt)), own.1)), own.0.1.1), own.1))
    (reduce_from mode join rest answer join_clean all.1 more)
reduce_from mode start (ty ∷ rest) answer clean all (inr (given, right, is)) =
    rw is (λ bound own. right.0 (bound, clean_is_own mode start ty bound ((own.0.0, (own.0.1.0, tt)), own.1)))

-- clean types are reduced to their least clean bound
pub reduce_least_clean : CleanAreReducedToLeastClean
reduce_least_clean mode tys answer all reduced =
    IsLeastAnswer-same mode (IsCleanBound mode (never ∷ tys)) (IsCleanBound mode tys) answer
    (λ bound own. (own.0.1, own.1)) (λ bound own. ((tt, own.0), own.1)) (reduce_from mode never tys answer tt all reduced)

-- what types are reduced to from a well-formed start is well formed
formed_from : (mode : ValidationMode) (start : Ty) (tys : List Ty) (answer : JoinAnswer) → IsWellFormed start
    → IsReduceAnswer mode start tys answer → IfOk answer IsWellFormed
formed_from mode start [] answer formed is = rw is formed
formed_from mode start (ty ∷ rest) answer formed (inl (join, right, joined, more)) = formed_from mode join rest answer joined more
formed_from mode start (ty ∷ rest) answer formed (inr (given, right, is)) = rw is tt

-- what types are reduced to is well formed
pub reduced_formed : ReductionsAreWellFormed
reduced_formed mode tys answer reduced = formed_from mode never tys answer tt reduced

-- where types are reduced to a type from a start, this is their only answer
unique_from : (mode : ValidationMode) (start : Ty) (tys : List Ty) (join : Ty) (answer : JoinAnswer)
    → IsReduceAnswer mode start tys (Ok join) → IsReduceAnswer mode start tys answer → answer ≡ Ok join
unique_from mode start [] join answer first second = second ∙ sym first
unique_from mode start (ty ∷ rest) join answer (inl (one, right, formed, more)) (inl (other, also, joined, others)) =
    let same = join_unique mode start ty other one joined formed also right in
    unique_from mode one rest join answer more (rw same at others)
unique_from mode start (ty ∷ rest) join answer (inl (one, right, formed, more)) (inr (given, none, is)) =
    absurd (none.0 (one, right.0))
unique_from mode start (ty ∷ rest) join answer (inr (given, none, is)) second = absurd cc

-- where types are reduced to a type, this is their only answer
pub reduced_once : ReductionsAreUnique
reduced_once mode tys join answer first second = unique_from mode never tys join answer first second

-- where some types are reduced from a start to one that has no own bound with the next, the help is
-- one for these two
refused_from : (mode : ValidationMode) (start : Ty) (before after : List Ty) (join ty : Ty) (answer : JoinAnswer)
    → IsReduceAnswer mode start before (Ok join) → ¬ HaveOwnBound mode join ty
    → IsReduceAnswer mode start (before ++ ty ∷ after) answer
    → (given : LubHelp) × IsHelp mode join ty given × (answer ≡ Err given)
refused_from mode start [] after join ty answer is none (inl (other, right, formed, more)) =
    let same : start ≡ join = cc in
    absurd (none (rw (← same) (other, right.0)))
refused_from mode start [] after join ty answer is none (inr (given, right, refused)) =
    let same : start ≡ join = cc in
    (given, rw same at right.1, refused)
refused_from mode start (first ∷ before) after join ty answer (inl (one, right, formed, more)) none (inl (other, also, joined, others)) =
    let same = join_unique mode start first other one joined formed also right in
    refused_from mode one before after join ty answer more none (rw same at others)
refused_from mode start (first ∷ before) after join ty answer (inl (one, right, formed, more)) none (inr (given, apart, is)) =
    absurd (apart.0 (one, right.0))
refused_from mode start (first ∷ before) after join ty answer (inr (given, right, is)) none second = absurd cc

-- where some types are reduced to one that has no own bound with the next, the help is one for
-- these two
pub refused_first : RefusalsAreOfTheFirst
refused_first mode before after join ty answer first none second = refused_from mode never before after join ty answer first none second

-- nothing is reduced to `Never`
pub reduce_empty : EmptyIsReducedToNever
reduce_empty mode answer is = is

-- what holds of each of some types holds of each of those among them
AllByRecursion-included : (P : Ty → Type 0) (tys others : List Ty) → Included others tys → AllByRecursion P tys → AllByRecursion P others
AllByRecursion-included P tys [] within all = tt
AllByRecursion-included P tys (ty ∷ rest) within all = (
  All-contains P tys ty (All-from_recursion P tys all) (Included-head ty rest tys within),
  AllByRecursion-included P tys rest (Included-tail ty rest tys within) all,
)

-- least clean bounds of the same types are the same
same_answer : (mode : ValidationMode) (tys others : List Ty) (join : Ty) (answer : JoinAnswer) → Included tys others
    → Included others tys → IsLeastAnswer mode (IsCleanBound mode tys) (Ok join)
    → IsLeastAnswer mode (IsCleanBound mode others) answer → IsWellFormed join → IfOk answer IsWellFormed → answer ≡ Ok join
same_answer mode tys others join (Ok other) forth back first second formed also =
    let up : IsCleanBound mode tys other =
    (AllByRecursion-included (λ ty. Below mode ty other) others tys forth second.0.0, second.0.1) in
    let down : IsCleanBound mode others join =
    (AllByRecursion-included (λ ty. Below mode ty join) tys others back first.0.0, first.0.1) in
    ap Ok (Below-same mode other join also formed (second.1 join down) (first.1 other up))
same_answer mode tys others join (Err given) forth back first second formed also =
    absurd (second join (AllByRecursion-included (λ ty. Below mode ty join) tys others back first.0.0, first.0.1))

-- what clean types are reduced to doesn't depend on their order
pub reduce_any_order : CleanAreReducedInAnyOrder
reduce_any_order mode tys others join answer all forth back reduced also =
    same_answer mode tys others join answer forth back (reduce_least_clean mode tys (Ok join) all reduced)
    (reduce_least_clean mode others answer (AllByRecursion-included IsClean tys others back all) also)
    (reduced_formed mode tys (Ok join) reduced) (reduced_formed mode others answer also)
