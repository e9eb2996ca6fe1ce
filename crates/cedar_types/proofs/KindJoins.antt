-- Joins of types that aren't records: the upper of two, unions, and sets.
use Rattle.std.proofs.Common.{◌≡◌, inl, inr, refl, ap, ◌∙◌, false, List, Result, Err}
use mathlib.Core.Bool.{beq}
use Rattle.cedar_type_rules.proofs.JoinLemmas.{upper_is_join}
use Rattle.cedar_type_rules.proofs.WithinLemmas.{within_elements, within_sets}
use Rattle.cedar_type_rules.specs.declared.join_error.JoinError.TheVariants as error
use Rattle.cedar_type_rules.specs.declared.join_error.LubHelp.TheVariants as help
use Rattle.cedar_types.proofs.EqualityLaws.{attribute_of-parts, flags-Decides}
use Rattle.cedar_types.specs.Words.{AttributeType, Below, HaveOwnBound, IsAnswerOrMemory, IsFlagHelp, IsJoinAnswer, IsLeastOwnBound, IsOwnBound, IsUnionOf, JoinError, Permissive, PlainName, Strict, Ty, «Type», ValidationMode, any_entity, any_set, attribute_of, out-AttributeType, set_of, ty_of, union_of}

-- the union of two unions is their join in permissive mode
pub unions_join : (a b all : List PlainName) → IsUnionOf a b all → IsLeastOwnBound Permissive (union_of a) (union_of b) (union_of all)
unions_join a b all union =
    ((((λ name among. (union name).1 (inl among)), ((λ name among. (union name).1 (inr among)), tt)), tt), below)
  where
    below : (bound : Ty) → IsOwnBound Permissive (union_of a) (union_of b) bound → Below Permissive (union_of all) bound
    below any_entity own = tt
    below (union_of names) own = λ name among. elim ((union name).0 among) [
      | inl left ↦ own.0.0 name left
      | inr right ↦ own.0.1.0 name right
    ]
    below bound own = elim own.0.0 [ ]

-- whether what is held is below is whether the types are
pub held_below : (mode : ValidationMode) (a b x y : «Type») → x ≡ a → y ≡ b → Below mode (ty_of x) (ty_of y) → Below mode (ty_of a) (ty_of b)
held_below mode a b x y first second below = rw (second, first) at below

-- the upper of two types, or one that is the same, is their join
pub upper_joins : (mode : ValidationMode) (a b : Ty) (it upper : «Type») → it ≡ upper → ty_of upper ≡ b → Below mode a b
    → IsLeastOwnBound mode a b (ty_of it) × IsLeastOwnBound mode b a (ty_of it)
upper_joins mode a b it upper same is below = rw (same, is) (upper_is_join mode a b below)

-- the set of the elements' join is the join of two sets
pub sets_join : (mode : ValidationMode) (a b join : Ty) → IsLeastOwnBound mode a b join
    → IsLeastOwnBound mode (set_of a) (set_of b) (set_of join)
sets_join mode a b join least = (((least.0.0.0, (least.0.0.1.0, tt)), within_sets a b join least.0.1), below)
  where
    below : (bound : Ty) → IsOwnBound mode (set_of a) (set_of b) bound → Below mode (set_of join) bound
    below any_set own = tt
    below (set_of element) own = least.1 element ((own.0.0, (own.0.1.0, tt)), within_elements a b element own.1)
    below bound own = elim own.0.0 [ ]

-- sets have no own bound where their elements have none
sets_have_none : (mode : ValidationMode) (a b : Ty) → ¬ HaveOwnBound mode a b → ¬ HaveOwnBound mode (set_of a) (set_of b)
sets_have_none mode a b none (any_set, own) = elim own.1 [ inl e ↦ absurd cc | inr e ↦ absurd cc ]
sets_have_none mode a b none (set_of element, own) =
    none (element, ((own.0.0, (own.0.1.0, tt)), within_elements a b element own.1))
sets_have_none mode a b none (bound, own) = elim own.0.0 [ ]

-- what refuses the elements' join refuses that of the sets
pub sets_refused : {A B : Type 0} (f : A → Ty) (g : B → Ty) (mode : ValidationMode) (a b : Ty) (refusal : JoinError)
    → IsAnswerOrMemory f (IsJoinAnswer mode a b) (Err refusal)
    → IsAnswerOrMemory g (IsJoinAnswer mode (set_of a) (set_of b)) (Err refusal)
sets_refused f g mode a b (error.Help given) right = (sets_have_none mode a b right.0, right.1)
sets_refused f g mode a b error.Memory right = tt

-- and so where the types are sets and the answer is that refusal
pub sets_refused_at : {A : Type 0} (f : A → Ty) (mode : ValidationMode) (a b x y : Ty) (answer : Result «Type» JoinError)
    (refusal given : JoinError) → a ≡ set_of x → b ≡ set_of y → answer ≡ Err given → given ≡ refusal
    → IsAnswerOrMemory f (IsJoinAnswer mode x y) (Err refusal) → IsAnswerOrMemory ty_of (IsJoinAnswer mode a b) answer
sets_refused_at f mode a b x y answer refusal given first second is same right =
    rw (is ∙ ap Err same, first, second) (sets_refused f ty_of mode x y refusal right)

-- attributes whose types join and whose flags differ have the help for that
pub flags_refused : (a b : AttributeType) (join : Ty)
    → IsLeastOwnBound Strict (ty_of (out-AttributeType a).attr_type.value) (ty_of (out-AttributeType b).attr_type.value) join
    → beq (out-AttributeType a).is_required (out-AttributeType b).is_required ≡ false
    → IsFlagHelp (attribute_of a) (attribute_of b) help.AttributeQualifier
flags_refused a b join least differ =
    rw (attribute_of-parts a, attribute_of-parts b)
    ((join, least.0), (λ same. absurd (let e = (flags-Decides _ _).1 same in cc)), refl)
