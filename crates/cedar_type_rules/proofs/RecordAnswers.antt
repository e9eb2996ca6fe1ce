-- Answers of joins of records.
use Rattle.std.proofs.Common.{◌≡◌, ◌↔◌, inl, inr, Bool, true, false, ◌&&◌, IsTrue, refl, sym, subst, ◌∙◌, Ok, Err}
use Rattle.std.specs.List.{AllByRecursion}
use Rattle.std.specs.List.Sorted.{IsStrictlySortedBy}
use Rattle.std.specs.declared.cmp.Ordering.TheVariants.{Less}
use Rattle.cedar_ast.proofs.Texts.{text_cmp-Equal}
use Rattle.cedar_type_rules.proofs.AgreeLaws.{HasField-once}
use Rattle.cedar_type_rules.proofs.AnsweredLemmas.{IsAnswered, given}
use Rattle.cedar_type_rules.proofs.Decisions.{IsDecided, decide_both, decide_same, decide_among, decide_included, of_each}
use Rattle.cedar_type_rules.proofs.Extensional.{rest_sorted_by_name}
use Rattle.cedar_type_rules.proofs.StrictJoinLemmas.{tag_below, names_below}
use Rattle.cedar_type_rules.proofs.SubtypeLaws.{HasBelow-of, HasField-name, HasField-named, FieldsBelow-names}
use Rattle.cedar_type_rules.proofs.WithinLemmas.{FieldsBelow-from, FieldsLieWithin-from, FieldsLieWithin-of, within_both, within_named}
use Rattle.cedar_type_rules.specs.Words.{AreTexts, AreWellFormed, Below, ClosedAttributes, Fields, FieldsBelow, HasField, HaveOwnBound, Included, IsEither, IsLeastOwnBound, IsOwnBound, IsSortedByName, IsWellFormed, NamesBelow, OpenAttributes, OpenTag, OpennessBelow, Permissive, Text, Ty, ValidationMode, end, field, field_names, record_of, text_cmp}

-- the types of a name that both records have are answered
abbrev pub AreAnswered : ValidationMode → Fields → Fields → Type 0
AreAnswered mode end fb = Unit {0}
AreAnswered mode (field name required ty rest) fb =
    ((flag : Bool) (of : Ty) → HasField fb name flag of → IsAnswered mode ty of) × AreAnswered mode rest fb

-- two texts are the same or not
pub decide_texts : (a b : Text) → IsDecided (a ≡ b)
decide_texts = decide_same text_cmp text_cmp-Equal

-- what holds of each attribute's name holds of all names
all_names : (P : Text → Type 0) (fields : Fields) → ((name : Text) (required : Bool) (ty : Ty)
    → HasField fields name required ty → P name) → AllByRecursion P (field_names fields)
all_names P end each = tt
all_names P (field name required ty rest) each =
    (each name required ty (inl (refl, refl, refl)), all_names P rest (λ n r t has. each n r t (inr has)))

-- an attribute of the join: both records have it, its type is the least own bound there, and its
-- flag fits
pub record IsJoined (mode : ValidationMode) (flags : Bool → Bool → Bool → Type 0) (fa fb : Fields) (name : Text)
    (required : Bool) (ty : Ty) : Type 0 where
  pub first_flag : Bool
  pub second_flag : Bool
  pub first : Ty
  pub second : Ty
  pub in_first : HasField fa name first_flag first
  pub in_second : HasField fb name second_flag second
  pub least : IsLeastOwnBound mode first second ty
  pub flag : flags first_flag second_flag required

-- an attribute of the join with the rest of a record is one with the record
pub in_more : (mode : ValidationMode) (flags : Bool → Bool → Bool → Type 0) (rest fb : Fields) (name : Text)
    (required : Bool) (ty : Ty) (n : Text) (r : Bool) (t : Ty) → IsJoined mode flags rest fb n r t
    → IsJoined mode flags (field name required ty rest) fb n r t
in_more mode flags rest fb name required ty n r t it = record {
  first_flag = it.first_flag;
  second_flag = it.second_flag;
  first = it.first;
  second = it.second;
  in_first = inr it.in_first;
  in_second = it.in_second;
  least = it.least;
  flag = it.flag;
}

-- attributes of a join are sorted where those of the record do
pub joined_sorted_by_name : (mode : ValidationMode) (flags : Bool → Bool → Bool → Type 0) (name : Text)
    (required flag : Bool) (ty of : Ty) (rest fb fj : Fields) → IsSortedByName (field name required ty rest)
    → IsSortedByName fj → ((n : Text) (r : Bool) (t : Ty) → HasField fj n r t → IsJoined mode flags rest fb n r t)
    → IsSortedByName (field name flag of fj)
unfolding IsStrictlySortedBy
joined_sorted_by_name mode flags name required flag ty of rest fb fj sorted_by_name own each = (
  all_names (λ n. text_cmp name n ≡ Less) fj (λ n r t has. (let it = each n r t has in
      of_each (λ n. text_cmp name n ≡ Less) (field_names rest) sorted_by_name.0 n (HasField-name rest n it.first_flag it.first it.in_first))),
  own,
)

-- no attributes are sorted
pub end_sorted_by_name : IsSortedByName end
unfolding IsStrictlySortedBy
end_sorted_by_name = tt

-- in permissive mode the join requires what both do
abbrev pub BothRequire : Bool → Bool → Bool → Type 0
BothRequire a b required = IsTrue required ↔ (IsTrue a × IsTrue b)

-- two flags and what they give together
pub both_require : (a b : Bool) → BothRequire a b (a && b)
both_require true true = (λ e. (refl, refl), λ both. refl)
both_require true false = (λ e. absurd cc, λ both. both.1)
both_require false b = (λ e. absurd cc, λ both. both.0)

-- the attributes of a permissive join: each is joined, and each name whose types have an own bound
-- is there
pub record PermissiveJoin (fa fb : Fields) : Type 0 where
  pub fields : Fields
  pub sorted_by_name : IsSortedByName fields
  pub formed : AreWellFormed fields
  pub sound : (name : Text) (required : Bool) (ty : Ty) → HasField fields name required ty
      → IsJoined Permissive BothRequire fa fb name required ty
  pub complete : (name : Text) (ra rb : Bool) (a b : Ty) → HasField fa name ra a → HasField fb name rb b
      → HaveOwnBound Permissive a b → (required : Bool) × (ty : Ty) × HasField fields name required ty

-- the attributes of a permissive join with no attributes are none
unfoldable pub no_permissive : (fb : Fields) → PermissiveJoin end fb
no_permissive fb = record {
  fields = end;
  sorted_by_name = end_sorted_by_name;
  formed = tt;
  sound = λ n r t has. absurd has;
  complete = λ n ra rb a b has also own. absurd has;
}

-- an attribute without a join is dropped
unfoldable pub drop_one : (name : Text) (required : Bool) (ty : Ty) (rest fb : Fields) → PermissiveJoin rest fb
    → ((rb : Bool) (b : Ty) → HasField fb name rb b → ¬ HaveOwnBound Permissive ty b) → PermissiveJoin (field name required ty rest) fb
drop_one name required ty rest fb before none = record {
  fields = before.fields;
  sorted_by_name = before.sorted_by_name;
  formed = before.formed;
  sound = λ n r t has. in_more Permissive BothRequire rest fb name required ty n r t (before.sound n r t has);
  complete = λ n ra rb a b has also own. elim has [
    | inl same ↦
        absurd (none rb b (rw same.0 also)
        (rw same.2 own))
    | inr there ↦ before.complete n ra rb a b there also own
  ];
}

-- an attribute with a join is kept
unfoldable pub keep_one : (name : Text) (required flag : Bool) (ty of join : Ty) (rest fb : Fields)
    → IsSortedByName (field name required ty rest) → PermissiveJoin rest fb → HasField fb name flag of
    → IsLeastOwnBound Permissive ty of join → IsWellFormed join → PermissiveJoin (field name required ty rest) fb
keep_one name required flag ty of join rest fb sorted_by_name before has least formed = record {
  fields = field name (required && flag) join before.fields;
  sorted_by_name = joined_sorted_by_name Permissive BothRequire name required
      (required && flag) ty join rest fb before.fields sorted_by_name before.sorted_by_name before.sound;
  formed = (formed, before.formed);
  sound = λ n r t there. elim there [
    | inl same ↦
        rw (← same.0) (rw same.1 at (subst (IsJoined Permissive BothRequire (field name required ty rest) fb name (required && flag)) same.2 (record {
          first_flag = required;
          second_flag = flag;
          first = ty;
          second = of;
          in_first = inl (refl, refl, refl);
          in_second = has;
          least = least;
          flag = both_require required flag;
        })))
    | inr old ↦ in_more Permissive BothRequire rest fb name required ty n r t (before.sound n r t old)
  ];
  complete = λ n ra rb a b own also bound. elim own [
    | inl same ↦ (required && flag, join, inl (same.0, refl, refl))
    | inr there ↦ let found = before.complete n ra rb a b there also bound in (found.0, found.1, inr found.2)
  ];
}

-- the attributes of a permissive join
permissive_join : (fa fb : Fields) → IsSortedByName fa → IsSortedByName fb → AreAnswered Permissive fa fb → PermissiveJoin fa fb
permissive_join end fb sorted_by_name second answers = no_permissive fb
permissive_join (field name required ty rest) fb sorted_by_name second answers =
    let before = permissive_join rest fb (rest_sorted_by_name name required ty rest sorted_by_name) second answers.1 in
    elim (decide_among decide_texts (field_names fb) name) [
      | inl there ↦
          let found = HasField-named fb name there in by_answer before found.0 found.1 found.2 (answers.0 found.0 found.1 found.2)
      | inr absent ↦ drop_one name required ty rest fb before (λ rb b has own. absent (HasField-name fb name rb b has))
    ]
  where
    by_answer : PermissiveJoin rest fb → (flag : Bool) (of : Ty) → HasField fb name flag of
        → IsAnswered Permissive ty of → PermissiveJoin (field name required ty rest) fb
    by_answer before flag of has (Ok join, least, formed) = keep_one name required flag ty of join rest fb sorted_by_name before has least formed
    by_answer before flag of has (Err it, none, formed) =
        drop_one name required ty rest fb before
        (λ rb b also own. none.0 (rw (HasField-once fb name rb flag b of second also has).1 at own))

-- a openness that is below the closed one is closed
closed_tag : (openness : OpenTag) → OpennessBelow openness ClosedAttributes → openness ≡ ClosedAttributes
closed_tag OpenAttributes h = elim h [ ]
closed_tag ClosedAttributes h = refl

-- tags are decided
decide_closed : (openness : OpenTag) → IsDecided (openness ≡ ClosedAttributes)
decide_closed OpenAttributes = inr (λ e. absurd cc)
decide_closed ClosedAttributes = inl refl

-- the permissive join is closed exactly where both records are and no name is dropped
abbrev pub NothingDropped : Fields → Fields → Fields → OpenTag → OpenTag → Type 0
NothingDropped fa fb fj ta tb =
    ((ta ≡ ClosedAttributes) × (tb ≡ ClosedAttributes)) × (Included (field_names fa) (field_names fj)
    × Included (field_names fb) (field_names fj))

-- the permissive join with a openness that fits is an own bound
permissive_own : (fa fb : Fields) (ta tb openness : OpenTag) (it : PermissiveJoin fa fb) → OpennessBelow ta openness
    → OpennessBelow tb openness → NamesBelow Permissive openness fa it.fields
    → NamesBelow Permissive openness fb it.fields → IsOwnBound Permissive (record_of fa ta) (record_of fb tb)
    (record_of it.fields openness)
permissive_own fa fb ta tb openness it h k names also = (
  (
    (
      h,
      names,
      FieldsBelow-from Permissive fa it.fields (λ n r t has. (let part = it.sound n r t has in
          (part.first_flag, part.first, part.in_first, (λ needed. (part.flag.0 needed).0), part.least.0.0.0))),
    ),
    (
      (
        k,
        also,
        FieldsBelow-from Permissive fb it.fields (λ n r t has. (let part = it.sound n r t has in
            (part.second_flag, part.second, part.in_second, (λ needed. (part.flag.0 needed).1), part.least.0.0.1.0))),
      ),
      tt,
    ),
  ),
  FieldsLieWithin-from (IsEither (record_of fa ta) (record_of fb tb)) it.fields
      (λ n r t has. (let part = it.sound n r t has in
      within_named fa fb ta tb n part.first_flag part.second_flag part.first part.second t part.in_first part.in_second part.least.0.1)),
)

-- the attributes of the permissive join are below those of each own bound
permissive_fields : (fa fb fc : Fields) (ta tb tc : OpenTag) (it : PermissiveJoin fa fb) → IsSortedByName fa
    → IsSortedByName fb → IsOwnBound Permissive (record_of fa ta) (record_of fb tb) (record_of fc tc) → FieldsBelow Permissive it.fields fc
permissive_fields fa fb fc ta tb tc it first second own =
    FieldsBelow-from Permissive it.fields fc (λ n r t has.
    (let one = HasBelow-of Permissive fa fc n r t own.0.0.2 has in
    let other = HasBelow-of Permissive fb fc n r t own.0.1.0.2 has in
    let bound : IsOwnBound Permissive one.1 other.1 t = (
      (one.4, (other.4, tt)),
      within_both fa fb ta tb n one.0 other.0 one.1 other.1 t first second one.2 other.2
          (FieldsLieWithin-of (IsEither (record_of fa ta) (record_of fb tb)) fc n r t own.1 has),
    ) in
    let found = it.complete n one.0 other.0 one.1 other.1 one.2 other.2 (t, bound) in
    let part = it.sound n found.0 found.1 found.2 in
    let same = HasField-once fa n one.0 part.first_flag one.1 part.first first one.2 part.in_first in
    let alike = HasField-once fb n other.0 part.second_flag other.1 part.second second other.2 part.in_second in (
      found.0,
      found.1,
      found.2,
      (λ needed. part.flag.1 (sym same.0 ∙ one.3 needed, sym alike.0 ∙ other.3 needed)),
      part.least.1 t (rw (← same.1) (rw alike.1 at bound)),
    )))

-- the names of the permissive join are those of the first record
pub permissive_names : (fa fb : Fields) (it : PermissiveJoin fa fb) → Included (field_names it.fields) (field_names fa)
permissive_names fa fb it name among =
    let found = HasField-named it.fields name among in
    let part = it.sound name found.0 found.1 found.2 in
    HasField-name fa name part.first_flag part.first part.in_first

-- names that fit below a closed record are its own
names_closed : (openness : OpenTag) (fa fc : Fields) → openness ≡ ClosedAttributes
    → NamesBelow Permissive openness fa fc → Included (field_names fa) (field_names fc)
names_closed openness fa fc e names = rw e at names

-- the permissive join is below each own bound
permissive_least : (fa fb : Fields) (ta tb openness : OpenTag) (it : PermissiveJoin fa fb) → IsSortedByName fa
    → IsSortedByName fb → (NothingDropped fa fb it.fields ta tb → OpennessBelow openness ClosedAttributes)
    → (bound : Ty) → IsOwnBound Permissive (record_of fa ta) (record_of fb tb) bound → Below Permissive (record_of it.fields openness) bound
permissive_least fa fb ta tb openness it first second closed (record_of fc tc) own =
    let fields = permissive_fields fa fb fc ta tb tc it first second own in
    let back = FieldsBelow-names Permissive it.fields fc fields in (
      tag_below openness tc (λ e. closed (
        (closed_tag ta (rw e at own.0.0.0), closed_tag tb (rw e at own.0.1.0.0)),
        (
          (λ n among. back n (names_closed tc fa fc e own.0.0.1 n among)),
          (λ n among. back n (names_closed tc fb fc e own.0.1.0.1 n among)),
        ),
      )),
      names_below tc it.fields fa fc (permissive_names fa fb it) own.0.0.1,
      fields,
    )
permissive_least fa fb ta tb openness it first second closed bound own = elim own.0.0 [ ]

-- every openness is below the open one
below_open : (openness : OpenTag) → OpennessBelow openness OpenAttributes
below_open OpenAttributes = tt
below_open ClosedAttributes = tt

-- the names of the permissive join are those of the second record
pub permissive_second : (fa fb : Fields) (it : PermissiveJoin fa fb) → Included (field_names it.fields) (field_names fb)
permissive_second fa fb it name among =
    let found = HasField-named it.fields name among in
    let part = it.sound name found.0 found.1 found.2 in
    HasField-name fb name part.second_flag part.second part.in_second

-- where nothing is dropped, the closed record of a permissive join is the least own bound
pub permissive_closed : (fa fb : Fields) (ta tb : OpenTag) (it : PermissiveJoin fa fb) → IsSortedByName fa → IsSortedByName fb
    → NothingDropped fa fb it.fields ta tb
    → IsLeastOwnBound Permissive (record_of fa ta) (record_of fb tb) (record_of it.fields ClosedAttributes)
permissive_closed fa fb ta tb it first second all = (
  permissive_own fa fb ta tb ClosedAttributes it (rw all.0.0 tt)
      (rw all.0.1 tt) all.1.0 all.1.1,
  permissive_least fa fb ta tb ClosedAttributes it first second (λ _. tt),
)

-- else the open one is
pub permissive_open : (fa fb : Fields) (ta tb : OpenTag) (it : PermissiveJoin fa fb) → IsSortedByName fa → IsSortedByName fb
    → ¬ NothingDropped fa fb it.fields ta tb
    → IsLeastOwnBound Permissive (record_of fa ta) (record_of fb tb) (record_of it.fields OpenAttributes)
permissive_open fa fb ta tb it first second none = (
  permissive_own fa fb ta tb OpenAttributes it (below_open ta) (below_open tb) tt tt,
  permissive_least fa fb ta tb OpenAttributes it first second (λ all. absurd (none all)),
)

-- records have an answer in permissive mode
pub permissive_records_answered : (fa fb : Fields) (ta tb : OpenTag) → IsSortedByName fa → IsSortedByName fb
    → AreTexts (field_names fa) → AreAnswered Permissive fa fb → IsAnswered Permissive (record_of fa ta) (record_of fb tb)
permissive_records_answered fa fb ta tb first second texts answers =
    let it = permissive_join fa fb first second answers in
    let names : AreTexts (field_names it.fields) = λ name among.
    (let found = HasField-named it.fields name among in
    let part = it.sound name found.0 found.1 found.2 in
    texts name (HasField-name fa name part.first_flag part.first part.in_first)) in
    elim (decide_both (decide_both (decide_closed ta) (decide_closed tb))
    (decide_both (decide_included decide_texts (field_names fa) (field_names it.fields))
    (decide_included decide_texts (field_names fb) (field_names it.fields)))) [
      | inl all ↦
          given Permissive (record_of fa ta) (record_of fb tb) (record_of it.fields ClosedAttributes)
          (permissive_closed fa fb ta tb it first second all) (it.sorted_by_name, it.formed, names)
      | inr none ↦
          given Permissive (record_of fa ta) (record_of fb tb) (record_of it.fields OpenAttributes)
          (permissive_open fa fb ta tb it first second none) (it.sorted_by_name, it.formed, names)
    ]
