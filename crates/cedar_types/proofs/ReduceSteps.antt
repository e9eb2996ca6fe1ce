-- Types that are folded by joins.
use Rattle.std.proofs.Common.{◌≢◌, Result, IsOkAnd, ◌≡◌, refl, ap, sym, ◌∙◌, Bool, List, map, Ok, Err}
use Rattle.std.specs.List.{AllByRecursion}
use Rattle.cedar_type_rules.proofs.JoinsOf.{answers_by, joined_reduced}
use Rattle.cedar_type_rules.proofs.ReduceLemmas.{reduce_any_order}
use Rattle.cedar_type_rules.specs.declared.join_error.JoinError.TheVariants as error
use Rattle.cedar_types.specs.Words.{AnswersJoinOf, Fields, Included, IsAnswerOrMemory, IsClean, IsFoldOfJoins, IsGivenOrMemory, IsReduceAnswer, IsWellFormed-type, JoinError, Ty, «Type», ValidationMode, attribute_step, attributes_step, fold-roll-Type, never, roll-Type, ty_of, type_step}
use Rattle.cedar_types.specs.declared.types.Type.TheOpen as layer
use Rattle.cedar_types.specs.declared.types.Type.TheVariants as type

-- `Never` stands for the plain one
pub ty_of-never : ty_of type.Never ≡ never
ty_of-never =
    ap ty_of (sym type.rolls-Never) ∙ (let e : ty_of (roll-Type layer.Never) ≡ never =
    fold-roll-Type Ty (Bool × Ty) Fields type_step attribute_step attributes_step layer.Never in
    e)

-- types that are folded by joins from `Never` are reduced
pub types-reduced : (mode : ValidationMode) (start : «Type») (all : List «Type») (result : Result «Type» JoinError) → start ≡ type.Never
    → IsGivenOrMemory (IsFoldOfJoins (AnswersJoinOf ty_of mode) start all) result
    → IsAnswerOrMemory ty_of (IsReduceAnswer mode never (map ty_of all)) result
types-reduced mode start all result is =
    answers_by ty_of (IsFoldOfJoins (AnswersJoinOf ty_of mode) start all) (IsReduceAnswer mode never (map ty_of all)) result
    (λ answer right.
    rw (ap ty_of is ∙ ty_of-never) at (joined_reduced ty_of IsWellFormed-type mode start all answer right))

-- what clean types are reduced to is what they are in another order, unless memory runs out
pub reduced_in_any_order : (mode : ValidationMode) (types others : List «Type») (join : «Type») (answer : Result «Type» JoinError)
    → AllByRecursion IsClean (map ty_of types) → Included (map ty_of types) (map ty_of others)
    → Included (map ty_of others) (map ty_of types) → IsReduceAnswer mode never (map ty_of types) (Ok (ty_of join))
    → IsAnswerOrMemory ty_of (IsReduceAnswer mode never (map ty_of others)) answer → answer ≢ Err error.Memory
    → IsOkAnd answer (λ other. ty_of other ≡ ty_of join)
reduced_in_any_order mode types others join (Ok other) clean forth back right also given =
    let same = reduce_any_order mode (map ty_of types) (map ty_of others) (ty_of join) (Ok (ty_of other)) clean forth back right also in
    cc
reduced_in_any_order mode types others join (Err (error.Help given)) clean forth back right also some =
    let wrong = reduce_any_order mode (map ty_of types) (map ty_of others) (ty_of join) (Err given) clean forth back right also in
    absurd cc
reduced_in_any_order mode types others join (Err error.Memory) clean forth back right also some = absurd (some refl)
