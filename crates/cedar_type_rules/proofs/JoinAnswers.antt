-- Any two well-formed types have an answer of their join.
use Rattle.std.proofs.Common.{refl, List, [], ◌∷◌, inl, inr, Ok, Err, IfOk}
use Rattle.std.specs.List.{AllByRecursion}
use Rattle.cedar_type_rules.proofs.AgreeLaws.{AreWellFormed-of, Below-permissive}
use Rattle.cedar_type_rules.proofs.AnsweredLemmas.{IsAnswered, refused, second_is_upper, first_is_upper, truths_answered, sets_answered, extensions_answered, unions_answered, strict_unions_answered, unlike_shapes, any_and_union, union_and_any}
use Rattle.cedar_type_rules.proofs.RecordAnswers.{AreAnswered, permissive_records_answered}
use Rattle.cedar_type_rules.proofs.StrictJoinLemmas.{strict_below}
use Rattle.cedar_type_rules.proofs.StrictRecordAnswers.{strict_records_answered}
use Rattle.cedar_type_rules.proofs.SubtypeLaws.{Below-trans}
use Rattle.cedar_type_rules.specs.Words.{AreWellFormed, Below, Fields, IsOwnBound, IsReduceAnswer, IsWellFormed, JoinAnswer, JoinsAreAnswered, Permissive, ReductionsAreAnswered, Strict, StrictJoinsArePermissive, Ty, ValidationMode, any_entity, any_set, end, extension_of, field, long, never, record_of, set_of, text, truth, union_of}
use Rattle.cedar_type_rules.specs.declared.join_error.LubHelp.TheVariants as help

mutual
  -- two well-formed types have an answer
  answered : (mode : ValidationMode) (a b : Ty) → IsWellFormed a → IsWellFormed b → IsAnswered mode a b
  answered mode never b first second = second_is_upper mode never b tt second
  answered mode a never first second = first_is_upper mode a never tt first
  answered mode (truth a) (truth b) first second = truths_answered mode a b
  answered mode long long first second = second_is_upper mode long long tt tt
  answered mode text text first second = second_is_upper mode text text tt tt
  answered mode any_entity any_entity first second = second_is_upper mode any_entity any_entity tt tt
  answered Permissive any_entity (union_of b) first second = first_is_upper Permissive any_entity (union_of b) tt tt
  answered Permissive (union_of a) any_entity first second = second_is_upper Permissive (union_of a) any_entity tt tt
  answered Permissive (union_of a) (union_of b) first second = unions_answered a b first second
  answered Strict any_entity (union_of b) first second = refused Strict any_entity (union_of b) help.EntityType (any_and_union b) refl
  answered Strict (union_of a) any_entity first second = refused Strict (union_of a) any_entity help.EntityType (union_and_any a) refl
  answered Strict (union_of a) (union_of b) first second = strict_unions_answered a b first second
  answered mode any_set any_set first second = second_is_upper mode any_set any_set tt tt
  answered mode any_set (set_of b) first second = first_is_upper mode any_set (set_of b) tt tt
  answered mode (set_of a) any_set first second = second_is_upper mode (set_of a) any_set tt tt
  answered mode (set_of a) (set_of b) first second = sets_answered mode a b (answered mode a b first second)
  answered Permissive (record_of fa ta) (record_of fb tb) first second =
      permissive_records_answered fa fb ta tb first.0 second.0 first.2 (fields_answered Permissive fa fb first.1 second.1)
  answered Strict (record_of fa ta) (record_of fb tb) first second =
      strict_records_answered fa fb ta tb first.0 second.0 first.2 (fields_answered Strict fa fb first.1 second.1)
  answered mode (extension_of a) (extension_of b) first second = extensions_answered mode a b second
  answered mode any_entity (record_of fb tb) first second =
      refused mode any_entity (record_of fb tb) help.EntityRecord
      (unlike_shapes mode any_entity (record_of fb tb) (λ e. absurd cc) (λ e. absurd cc) (λ e. absurd cc)) refl
  answered mode (union_of a) (record_of fb tb) first second =
      refused mode (union_of a) (record_of fb tb) help.EntityRecord
      (unlike_shapes mode (union_of a) (record_of fb tb) (λ e. absurd cc) (λ e. absurd cc) (λ e. absurd cc)) refl
  answered mode (record_of fa ta) any_entity first second =
      refused mode (record_of fa ta) any_entity help.EntityRecord
      (unlike_shapes mode (record_of fa ta) any_entity (λ e. absurd cc) (λ e. absurd cc) (λ e. absurd cc)) refl
  answered mode (record_of fa ta) (union_of b) first second =
      refused mode (record_of fa ta) (union_of b) help.EntityRecord
      (unlike_shapes mode (record_of fa ta) (union_of b) (λ e. absurd cc) (λ e. absurd cc) (λ e. absurd cc)) refl
  answered mode a b first second =
      refused mode a b help.None (unlike_shapes mode a b (λ e. absurd cc) (λ e. absurd cc) (λ e. absurd cc)) refl

  -- well-formed attributes of the same name have an answer
  fields_answered : (mode : ValidationMode) (fa fb : Fields) → AreWellFormed fa → AreWellFormed fb → AreAnswered mode fa fb
  fields_answered mode end fb first second = tt
  fields_answered mode (field name required ty rest) fb first second = (
    (λ flag of has. answered mode ty of first.0 (AreWellFormed-of fb name flag of second has)),
    fields_answered mode rest fb first.1 second,
  )

-- two well-formed types have an answer
pub joins_answered : JoinsAreAnswered
joins_answered = answered

-- a strict join is the permissive join
pub strict_is_permissive : StrictJoinsArePermissive
strict_is_permissive a b join first second least = (
  ((Below-permissive a join least.0.0.0, (Below-permissive b join least.0.0.1.0, tt)), least.0.1),
  λ bound own. by_answer (answered Strict a b first second) bound own,
)
  where
    by_answer : IsAnswered Strict a b → (bound : Ty) → IsOwnBound Permissive a b bound → Below Permissive join bound
    by_answer (Ok other, also, formed) bound own =
        Below-trans Permissive join other bound (Below-permissive join other (least.1 other also.0))
        (strict_below bound a b other first second formed also own)
    by_answer (Err given, none, formed) bound own = absurd (none.0 (join, least.0))

-- well-formed types folded by joins from a well-formed start have an answer
reduced_from : (mode : ValidationMode) (start : Ty) (tys : List Ty) → IsWellFormed start
    → AllByRecursion IsWellFormed tys → (answer : JoinAnswer) × IsReduceAnswer mode start tys answer × IfOk answer IsWellFormed
reduced_from mode start [] formed all = (Ok start, refl, formed)
reduced_from mode start (ty ∷ rest) formed all =
    by_answer (answered mode start ty formed all.0) (λ join joined. reduced_from mode join rest joined all.1)
  where
    by_answer : IsAnswered mode start ty → ((join : Ty) → IsWellFormed join → (answer : JoinAnswer)
        × IsReduceAnswer mode join rest answer × IfOk answer IsWellFormed) → (answer : JoinAnswer)
        × IsReduceAnswer mode start (ty ∷ rest) answer × IfOk answer IsWellFormed
    by_answer (Ok join, least, joined) rest_answered =
        let more = rest_answered join joined in
        (more.0, inl (join, least, joined, more.1), more.2)
    by_answer (Err given, none, joined) rest_answered = (Err given, inr (given, none, refl), tt)

-- well-formed types are reduced to some answer
pub reductions_answered : ReductionsAreAnswered
reductions_answered mode tys all = reduced_from mode never tys tt all
