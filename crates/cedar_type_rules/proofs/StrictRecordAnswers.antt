-- Answers of joins of records in strict mode.
use Rattle.std.proofs.Common.{◌≡◌, ◌⊎◌, inl, inr, Bool, refl, sym, subst, ◌∙◌, ℕ, length, Ok, Err, Contains, nat_eq, eqb-true, true, false}
use Rattle.std.proofs.lemmas.Bool.{eqb-false}
use Rattle.cedar_ast.proofs.Texts.{text_cmp-total, text_cmp-Equal}
use Rattle.cedar_type_rules.proofs.AgreeLaws.{HasField-once}
use Rattle.cedar_type_rules.proofs.AnsweredLemmas.{IsAnswered, given, refused}
use Rattle.cedar_type_rules.proofs.AntisymmetryLaws.{Included-same}
use Rattle.cedar_type_rules.proofs.Decisions.{IsDecided, decide_flags, decide_among, all_among}
use Rattle.cedar_type_rules.proofs.Extensional.{rest_sorted_by_name}
use Rattle.cedar_type_rules.proofs.RecordAnswers.{AreAnswered, IsJoined, in_more, joined_sorted_by_name, end_sorted_by_name, decide_texts}
use Rattle.cedar_type_rules.proofs.SubtypeLaws.{FieldsWithin, HasBelow-of, HasField-name, HasField-named, FieldsBelow-names}
use Rattle.cedar_type_rules.proofs.WithinLemmas.{FieldsBelow-from, FieldsLieWithin-from, FieldsLieWithin-of, within_both, within_named}
use Rattle.cedar_type_rules.specs.Words.{AreTexts, AreWellFormed, Below, ClosedAttributes, Fields, HasField, HaveOwnBound, Included, IsEither, IsHelpAtName, IsLeastOwnBound, IsOwnBound, IsSortedByName, IsWellFormed, LubHelp, OpenAttributes, OpenTag, OpennessBelow, Strict, Text, Ty, either_open, end, field, field_names, record_of, text_cmp}
use Rattle.cedar_type_rules.specs.declared.join_error.LubHelp.TheVariants as help

-- in strict mode the flags are the same
abbrev SameFlags : Bool → Bool → Bool → Type 0
SameFlags a b required = (a ≡ required) × (b ≡ required)

-- the attributes of a strict join: each is joined, and each name is there
pub record StrictJoin (fa fb : Fields) : Type 0 where
  pub fields : Fields
  pub sorted_by_name : IsSortedByName fields
  pub formed : AreWellFormed fields
  pub sound : (name : Text) (required : Bool) (ty : Ty) → HasField fields name required ty
      → IsJoined Strict SameFlags fa fb name required ty
  pub complete : (name : Text) (required : Bool) (ty : Ty) → HasField fa name required ty → Contains (field_names fields) name

-- two records have a strict join, or a help is found at a name
abbrev IsTried : Fields → Fields → Type 0
IsTried fa fb = StrictJoin fa fb ⊎ ((it : LubHelp) × IsHelpAtName fa fb it)

-- the attributes of a strict join with no attributes are none
unfoldable pub no_strict : (fb : Fields) → StrictJoin end fb
no_strict fb = record {
  fields = end;
  sorted_by_name = end_sorted_by_name;
  formed = tt;
  sound = λ n r t has. absurd has;
  complete = λ n r t has. absurd has;
}

-- an attribute with a join is kept
unfoldable pub keep_strict : (name : Text) (required : Bool) (ty of join : Ty) (rest fb : Fields)
    → IsSortedByName (field name required ty rest) → StrictJoin rest fb → HasField fb name required of
    → IsLeastOwnBound Strict ty of join → IsWellFormed join → StrictJoin (field name required ty rest) fb
keep_strict name required ty of join rest fb sorted_by_name before has least formed = record {
  fields = field name required join before.fields;
  sorted_by_name = joined_sorted_by_name Strict SameFlags name required required ty join rest fb before.fields sorted_by_name
      before.sorted_by_name before.sound;
  formed = (formed, before.formed);
  sound = λ n r t there. elim there [
    | inl same ↦
        rw (← same.0, ← same.1) (subst (IsJoined Strict SameFlags (field name required ty rest) fb name required) same.2 (record {
          first_flag = required;
          second_flag = required;
          first = ty;
          second = of;
          in_first = inl (refl, refl, refl);
          in_second = has;
          least = least;
          flag = (refl, refl);
        }))
    | inr old ↦ in_more Strict SameFlags rest fb name required ty n r t (before.sound n r t old)
  ];
  complete = λ n r t own. elim own [
    | inl same ↦ HasField-name (field name required join before.fields) n required join (inl (same.0, refl, refl))
    | inr there ↦
        let found = HasField-named before.fields n (before.complete n r t there) in
        HasField-name (field name required join before.fields) n found.0 found.1 (inr found.2)
  ];
}

-- a strict join is found, or a help
try_strict : (fa fb : Fields) → IsSortedByName fa → AreAnswered Strict fa fb → IsTried fa fb
try_strict end fb sorted_by_name answers = inl (no_strict fb)
try_strict (field name required ty rest) fb sorted_by_name answers =
    elim (try_strict rest fb (rest_sorted_by_name name required ty rest sorted_by_name) answers.1) [
      | inl before ↦
          elim (decide_among decide_texts (field_names fb) name) [
            | inl there ↦
                let found = HasField-named fb name there in by_answer before found.0 found.1 found.2 (answers.0 found.0 found.1 found.2)
            | inr absent ↦ inr (help.RecordWidth, inl (absent, refl))
          ]
      | inr found ↦ inr (found.0, inr (inr found.1))
    ]
  where
    by_answer : StrictJoin rest fb → (flag : Bool) (of : Ty) → HasField fb name flag of → IsAnswered Strict ty of
        → IsTried (field name required ty rest) fb
    by_answer before flag of has (Ok join, least, formed) =
        elim (decide_flags required flag) [
          | inl same ↦
              inl (keep_strict name required ty of join rest fb sorted_by_name before
              (rw same has) least formed)
          | inr differ ↦ inr (help.AttributeQualifier, inr (inl (flag, of, has, inl ((join, least.0), differ, refl))))
        ]
    by_answer before flag of has (Err it, none, formed) = inr (it, inr (inl (flag, of, has, inr none)))

-- where a help is found at a name of two records, they have no own bound
pub help_refuses : (part fa fb : Fields) (ta tb : OpenTag) (it : LubHelp) → IsSortedByName fa → IsSortedByName fb
    → FieldsWithin part fa → IsHelpAtName part fb it → ¬ HaveOwnBound Strict (record_of fa ta) (record_of fb tb)
help_refuses end fa fb ta tb it first second within found own = found
help_refuses (field name required ty rest) fa fb ta tb it first second within (inl lacks) (record_of fc tc, own) =
    let mine = HasField-name fa name required ty (within name required ty (inl (refl, refl, refl))) in
    lacks.0 (FieldsBelow-names Strict fb fc own.0.1.0.2 name (own.0.0.1 name mine))
help_refuses (field name required ty rest) fa fb ta tb it first second within (inr (inl (flag, of, has, either))) (record_of fc tc, own) =
    let mine = within name required ty (inl (refl, refl, refl)) in
    let found = HasField-named fc name (own.0.0.1 name (HasField-name fa name required ty mine)) in
    let one = HasBelow-of Strict fa fc name found.0 found.1 own.0.0.2 found.2 in
    let other = HasBelow-of Strict fb fc name found.0 found.1 own.0.1.0.2 found.2 in
    let same = HasField-once fa name one.0 required one.1 ty first one.2 mine in
    let alike = HasField-once fb name other.0 flag other.1 of second other.2 has in
    let bound : IsOwnBound Strict ty of found.1 = (
      (rw same.1 at one.4, (rw alike.1 at other.4, tt)),
      within_both fa fb ta tb name required flag ty of found.1 first second mine has
          (FieldsLieWithin-of (IsEither (record_of fa ta) (record_of fb tb)) fc name found.0 found.1 own.1 found.2),
    ) in
    elim either [ inl flags ↦ flags.1 (sym same.0 ∙ one.3 ∙ sym other.3 ∙ alike.0) | inr none ↦ none.0 (found.1, bound) ]
help_refuses (field name required ty rest) fa fb ta tb it first second within (inr (inr later)) own =
    help_refuses rest fa fb ta tb it first second (λ n r t has. within n r t (inr has)) later own
help_refuses (field name required ty rest) fa fb ta tb it first second within found (bound, own) = elim own.0.0 [ ]

-- each openness is below it
first_below : (ta tb : OpenTag) → OpennessBelow ta (either_open ta tb)
first_below OpenAttributes tb = tt
first_below ClosedAttributes OpenAttributes = tt
first_below ClosedAttributes ClosedAttributes = tt

-- the second openness is below it
second_below : (ta tb : OpenTag) → OpennessBelow tb (either_open ta tb)
second_below OpenAttributes OpenAttributes = tt
second_below OpenAttributes ClosedAttributes = tt
second_below ClosedAttributes OpenAttributes = tt
second_below ClosedAttributes ClosedAttributes = tt

-- it is below what both are below
either_below : (ta tb tc : OpenTag) → OpennessBelow ta tc → OpennessBelow tb tc → OpennessBelow (either_open ta tb) tc
either_below OpenAttributes tb tc h k = h
either_below ClosedAttributes tb tc h k = k

-- a strict join of records with the same names is their least own bound
pub strict_least : (fa fb : Fields) (ta tb : OpenTag) (it : StrictJoin fa fb) → IsSortedByName fa → IsSortedByName fb
    → Included (field_names fb) (field_names fa) → IsLeastOwnBound Strict (record_of fa ta) (record_of fb tb)
    (record_of it.fields (either_open ta tb))
strict_least fa fb ta tb it first second names = (
  (
    (
      (
        first_below ta tb,
        kept,
        FieldsBelow-from Strict fa it.fields
            (λ n r t has. (let part = it.sound n r t has in (part.first_flag, part.first, part.in_first, part.flag.0, part.least.0.0.0))),
      ),
      (
        (
          second_below ta tb,
          (λ n among. kept n (names n among)),
          FieldsBelow-from Strict fb it.fields (λ n r t has. (let part = it.sound n r t has in
              (part.second_flag, part.second, part.in_second, part.flag.1, part.least.0.0.1.0))),
        ),
        tt,
      ),
    ),
    FieldsLieWithin-from (IsEither (record_of fa ta) (record_of fb tb)) it.fields
        (λ n r t has. (let part = it.sound n r t has in
        within_named fa fb ta tb n part.first_flag part.second_flag part.first part.second t part.in_first part.in_second part.least.0.1)),
  ),
  below,
)
  where
    kept : Included (field_names fa) (field_names it.fields)
    kept n among = let found = HasField-named fa n among in it.complete n found.0 found.1 found.2

    below : (bound : Ty) → IsOwnBound Strict (record_of fa ta) (record_of fb tb) bound
        → Below Strict (record_of it.fields (either_open ta tb)) bound
    below (record_of fc tc) own = (
      either_below ta tb tc own.0.0.0 own.0.1.0.0,
      (λ n among. (let found = HasField-named it.fields n among in
          let part = it.sound n found.0 found.1 found.2 in
          own.0.0.1 n (HasField-name fa n part.first_flag part.first part.in_first))),
      FieldsBelow-from Strict it.fields fc (λ n r t has.
          (let one = HasBelow-of Strict fa fc n r t own.0.0.2 has in
          let other = HasBelow-of Strict fb fc n r t own.0.1.0.2 has in
          let found = HasField-named it.fields n (it.complete n one.0 one.1 one.2) in
          let part = it.sound n found.0 found.1 found.2 in
          let same = HasField-once fa n one.0 part.first_flag one.1 part.first first one.2 part.in_first in
          let alike = HasField-once fb n other.0 part.second_flag other.1 part.second second other.2 part.in_second in
          let bound : IsOwnBound Strict one.1 other.1 t = (
            (one.4, (other.4, tt)),
            within_both fa fb ta tb n one.0 other.0 one.1 other.1 t first second one.2 other.2
                (FieldsLieWithin-of (IsEither (record_of fa ta) (record_of fb tb)) fc n r t own.1 has),
          ) in (
            found.0,
            found.1,
            found.2,
            sym part.flag.0 ∙ sym same.0 ∙ one.3,
            part.least.1 t (rw (← same.1) (rw alike.1 at bound)),
          ))),
    )
    below bound own = elim own.0.0 [ ]

-- records with an own bound in strict mode have the same names
pub same_names : (fa fb : Fields) (ta tb : OpenTag) → IsSortedByName fa → IsSortedByName fb
    → HaveOwnBound Strict (record_of fa ta) (record_of fb tb) → field_names fa ≡ field_names fb
same_names fa fb ta tb first second (record_of fc tc, own) =
    Included-same text_cmp text_cmp-total (field_names fa) (field_names fb) first second
    (λ n among. FieldsBelow-names Strict fb fc own.0.1.0.2 n (own.0.0.1 n among))
    (λ n among. FieldsBelow-names Strict fa fc own.0.0.2 n (own.0.1.0.1 n among))
same_names fa fb ta tb first second (bound, own) = elim own.0.0 [ ]

-- lengths are the same or not
decide_lengths : (m n : ℕ) → IsDecided (m ≡ n)
decide_lengths m n = from_test (nat_eq m n) refl
  where
    from_test : (b : Bool) → nat_eq m n ≡ b → IsDecided (m ≡ n)
    from_test true e = inl (eqb-true m n e)
    from_test false e = inr (eqb-false m n e)

-- records have an answer in strict mode
pub strict_records_answered : (fa fb : Fields) (ta tb : OpenTag) → IsSortedByName fa → IsSortedByName fb
    → AreTexts (field_names fa) → AreAnswered Strict fa fb → IsAnswered Strict (record_of fa ta) (record_of fb tb)
strict_records_answered fa fb ta tb first second texts answers =
    elim (decide_lengths (length (field_names fa)) (length (field_names fb))) [
      | inl like ↦
          elim (try_strict fa fb first answers) [
            | inl it ↦
                given Strict (record_of fa ta) (record_of fb tb) (record_of it.fields (either_open ta tb))
                (strict_least fa fb ta tb it first second
                ((all_among text_cmp text_cmp-total text_cmp-Equal (field_names fa) (field_names fb) first second
                (λ n among. (let found = HasField-named fa n among in
                let kept = HasField-named it.fields n (it.complete n found.0 found.1 found.2) in
                let part = it.sound n kept.0 kept.1 kept.2 in
                HasField-name fb n part.second_flag part.second part.in_second))).1 like)) (
                  it.sorted_by_name,
                  it.formed,
                  (λ name among.
                      (let found = HasField-named it.fields name among in
                      let part = it.sound name found.0 found.1 found.2 in
                      texts name (HasField-name fa name part.first_flag part.first part.in_first))),
                )
            | inr found ↦
                refused Strict (record_of fa ta) (record_of fb tb) found.0
                (help_refuses fa fa fb ta tb found.0 first second (λ n r t has. has) found.1) (inr (like, found.1))
          ]
      | inr unlike ↦
          refused Strict (record_of fa ta) (record_of fb tb) help.RecordWidth
          (λ own. unlike (λ i. length (same_names fa fb ta tb first second own i))) (inl (unlike, refl))
    ]
