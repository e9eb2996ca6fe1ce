-- Helps and reductions of sample types.
use Rattle.std.proofs.Common.{◌≡◌, ◌<◌, ℕ, zero, suc, inl, inr, Bool, true, false, refl, sym, subst, ◌∙◌, [], ◌∷◌, Ok, Err, Contains, codes, slice_index, arith}
use Rattle.std.proofs.lemmas.Str.{IsUtf8-from_ascii}
use Rattle.std.specs.List.Sorted.{IsStrictlySortedBy}
use Rattle.cedar_ast.proofs.Lists.{Contains-cons, Contains-cons_cases}
use Rattle.cedar_type_rules.proofs.ApartLemmas.{AreApart-truth_text}
use Rattle.cedar_type_rules.proofs.JoinLemmas.{upper_is_join}
use Rattle.cedar_type_rules.proofs.ReduceLemmas.{reduced_once, refused_first}
use Rattle.cedar_type_rules.proofs.SubtypeLaws.{HasBelow-of, HasField-named}
use Rattle.cedar_type_rules.specs.declared.join_error.LubHelp.TheVariants as help
use Rattle.rule_examples.proofs.JoinExamples.{sets_join-apart, records_join-strict}
use Rattle.rule_examples.specs.Words.{Below, ClosedAttributes, False, HasField, HaveOwnBound, IsHelp, IsJoinAnswer, IsReduceAnswer, IsText, IsWellFormed, JoinAnswer, LubHelp, OpenAttributes, OpenTag, Permissive, Strict, Text, Ty, ValidationMode, any_set, bar_and_false, bar_and_text, end, field, long, never, open_y, optional_y, record_of, required_y, set_of_longs, set_of_truths, text, text_y, twice_y, unit_record}

-- a name is among itself alone
among_itself : (name : Text) → Contains (name ∷ []) name
among_itself name = Contains-cons name [] name (inl refl)

-- a record without names and one with a name have no own bound, in strict mode
unlike_widths : ¬ HaveOwnBound Strict unit_record required_y
unlike_widths (record_of fields openness, own) =
    let found = HasField-named fields (codes "y") (own.0.1.0.1 (codes "y") (among_itself (codes "y"))) in
    (HasBelow-of Strict end fields (codes "y") found.0 found.1 own.0.0.2 found.2).2
unlike_widths (bound, own) = elim own.0.0 [ ]

-- the help of records of unlike width
pub helps-widths : IsJoinAnswer Strict unit_record required_y (Err help.RecordWidth)
helps-widths = (unlike_widths, inl ((λ e. omega (arith, e)), refl))

-- the flag of the only attribute of a record
flag_of : (name : Text) (flag required : Bool) (ty : Ty) → HasField (field name flag long end) name required ty → flag ≡ required
flag_of name flag required ty (inl same) = same.1
flag_of name flag required ty (inr none) = elim none [ ]

-- a required and an optional attribute have no own bound, in strict mode
unlike_flags : ¬ HaveOwnBound Strict required_y optional_y
unlike_flags (record_of fields openness, own) =
    let name = codes "y" in
    let found = HasField-named fields name (own.0.0.1 name (among_itself name)) in
    let first = HasBelow-of Strict (field name true long end) fields name found.0 found.1 own.0.0.2 found.2 in
    let second = HasBelow-of Strict (field name false long end) fields name found.0 found.1 own.0.1.0.2 found.2 in
    let same : true ≡ false =
    flag_of name true first.0 first.1 first.2 ∙ first.3 ∙ sym (flag_of name false second.0 second.1 second.2 ∙ second.3) in
    absurd cc
unlike_flags (bound, own) = elim own.0.0 [ ]

-- the help of a required and an optional attribute
pub helps-flags : IsJoinAnswer Strict required_y optional_y (Err help.AttributeQualifier)
helps-flags =
    (unlike_flags, inr (refl, inr (inl (false, long, inl (refl, refl, refl), inl ((long, ((tt, (tt, tt)), tt)), (λ e. absurd cc), refl)))))

-- the help of attributes whose types don't join
pub helps-types : IsJoinAnswer Strict bar_and_false bar_and_text (Err help.None)
helps-types = (
  records_join-strict,
  inr (
    refl,
    inr (inr (inr (inl (
      true,
      text,
      inr (inl (refl, refl, refl)),
      inr ((λ own. AreApart-truth_text Strict False own.0 own.1.0.0 own.1.0.1.0), refl),
    )))),
  ),
)

-- with the any-set first, sets of unlike elements are reduced to it
pub reduce-first : (mode : ValidationMode) → IsReduceAnswer mode never (any_set ∷ set_of_truths ∷ set_of_longs ∷ []) (Ok any_set)
reduce-first mode =
    inl (
      any_set,
      (upper_is_join mode never any_set tt).0,
      tt,
      inl (
        any_set,
        (upper_is_join mode set_of_truths any_set tt).1,
        tt,
        inl (any_set, (upper_is_join mode set_of_longs any_set tt).1, tt, refl),
      ),
    )

-- with the any-set last, they are refused
pub reduce-last : (mode : ValidationMode) → IsReduceAnswer mode never (set_of_truths ∷ set_of_longs ∷ any_set ∷ []) (Err help.None)
reduce-last mode =
    inl (set_of_truths, (upper_is_join mode never set_of_truths tt).0, tt, inr (help.None, (sets_join-apart mode, refl), refl))

-- the name `y` is a text
y_is_text : (name : Text) → Contains (codes "y" ∷ []) name → IsText name
y_is_text name among =
    elim (Contains-cons_cases (codes "y") [] name among) [
      | inl same ↦ subst IsText same (IsUtf8-from_ascii (codes "y") below_128)
      | inr none ↦ absurd (omega (arith, none.1))
    ]
  where
    below_128 : (i : ℕ) → slice_index (codes "y") i < 128
    below_128 zero = omega arith
    below_128 (suc i) = omega arith

-- a record of the name `y` and the whole numbers is well formed
y_formed : (openness : OpenTag) → IsWellFormed (record_of (field (codes "y") true long end) openness)
unfolding IsStrictlySortedBy
y_formed openness = ((tt, tt), (tt, tt), y_is_text)

-- no type is above the whole numbers and the texts, in strict mode
numbers_or_texts : (bound : Ty) → Below Strict long bound → ¬ Below Strict text bound
numbers_or_texts long below also = also
numbers_or_texts bound below also = below

-- the type of the only attribute of a record
type_of : (name : Text) (flag required : Bool) (own ty : Ty) → HasField (field name flag own end) name required ty → own ≡ ty
type_of name flag required own ty (inl same) = same.2
type_of name flag required own ty (inr none) = elim none [ ]

-- a number and a text have no own bound, in strict mode
unlike_types : ¬ HaveOwnBound Strict required_y text_y
unlike_types (record_of fields openness, own) =
    let name = codes "y" in
    let found = HasField-named fields name (own.0.0.1 name (among_itself name)) in
    let first = HasBelow-of Strict (field name true long end) fields name found.0 found.1 own.0.0.2 found.2 in
    let second = HasBelow-of Strict (field name true text end) fields name found.0 found.1 own.0.1.0.2 found.2 in
    numbers_or_texts found.1 (rw (type_of name true first.0 long first.1 first.2) first.4)
    (rw (type_of name true second.0 text second.1 second.2) second.4)
unlike_types (bound, own) = elim own.0.0 [ ]

-- the help at the only name of both
only_help : (given : LubHelp) → IsHelp Strict required_y text_y given → given ≡ help.None
only_help given (inl (unlike, is)) = absurd (unlike refl)
only_help given (inr (same, inl (lacked, is))) = absurd (lacked (among_itself (codes "y")))
only_help given (inr (same, inr (inl (flag, of, inl has, inl (joined, flags, is))))) = absurd (flags has.1)
only_help given (inr (same, inr (inl (flag, of, inl has, inr (apart, is))))) =
    subst (λ ty. IsHelp Strict long ty given) (sym has.2) is
only_help given (inr (same, inr (inl (flag, of, inr none, which)))) = elim none [ ]
only_help given (inr (same, inr (inr none))) = elim none [ ]

-- a number and a text in a record are refused for their types
pub reduce-refused : (given : LubHelp) → IsReduceAnswer Strict never (required_y ∷ text_y ∷ []) (Err given) → given ≡ help.None
reduce-refused given answer =
    let first : IsReduceAnswer Strict never (required_y ∷ []) (Ok required_y) =
    inl (required_y, (upper_is_join Strict never required_y tt).0, y_formed ClosedAttributes, refl) in
    let found = refused_first Strict (required_y ∷ []) [] required_y text_y (Err given) first unlike_types answer in
    let same : given ≡ found.0 = cc in
    same ∙ only_help found.0 found.1

-- an open record alone is reduced to itself
pub reduce-alone : (answer : JoinAnswer) → IsReduceAnswer Permissive never (open_y ∷ []) answer → answer ≡ Ok open_y
reduce-alone answer reduced =
    reduced_once Permissive (open_y ∷ []) open_y answer
    (inl (open_y, (upper_is_join Permissive never open_y tt).0, y_formed OpenAttributes, refl)) reduced

-- and to no record that names an attribute twice
pub reduce-twice : ¬ IsReduceAnswer Permissive never (open_y ∷ []) (Ok twice_y)
reduce-twice reduced = let same = reduce-alone (Ok twice_y) reduced in absurd cc
