-- Inclusion of values of inhabited types follows from their parts, and permissive subtyping is
-- inclusion of values and of names.
use Rattle.std.proofs.Common.{◌≡◌, inl, inr, Bool, true, false, refl, sym, ◌∙◌, pos, [], Some, Contains, IsTrue}
use Rattle.cedar_ast.proofs.Inclusion.{Included-cons}
use Rattle.cedar_ast.proofs.Lists.{Contains-cons}
use Rattle.cedar_ast.proofs.ValueLemmas.{stretch_name, IsText-nil, IsName-stretch}
use Rattle.cedar_type_rules.proofs.AgreeLaws.{HasField-once, AreWellFormed-of}
use Rattle.cedar_type_rules.proofs.Decisions.{decide_among}
use Rattle.cedar_type_rules.proofs.MemberLaws.{EachTree-weaker, EntryFits-weaker, FlagsBelow-missing, HasBy-above, HasFieldsBy-of, HasTruth-above, NamesListed-above}
use Rattle.cedar_type_rules.proofs.RecordAnswers.{decide_texts}
use Rattle.cedar_type_rules.proofs.SampleValues.{HasFields-from, fits_some, some_fits, entry_here, entry_there, absent_entry, fresh_text, fresh_name, truth_sample, some_name, uid_is_value, zero_is_value, only_listed, Sample, inhabitant, sample}
use Rattle.cedar_type_rules.proofs.SubtypeLaws.{FieldsWithin, HasField-name, HasField-named, FieldsBelow-names}
use Rattle.cedar_type_rules.specs.Words.{AnyBool, AreInhabited, AreTexts, AreWellFormed, Below, BoolType, ClosedAttributes, Entries, EntryFits, Extensions, False, Fields, FieldsBelow, FieldsIncluded, FieldsListNames, FieldsRequireAll, Gives, Has, HasBy, HasField, HasFieldsBy, Included, IncludedByParts, IsInhabited, IsNeverThere, IsSortedByName, IsText, IsValue, IsWellFormed, ListsNames, NamesBelow, NamesListed, OpenAttributes, OpenTag, OpennessBelow, PartsTellInclusion, Permissive, PlainName, RequiresAll, SubtypingIsInclusion, SubtypingIsInclusionAndNames, Text, Tree, Trees, True, Ty, ValuesIncluded, any_entity, any_set, call_value, core_extension, end, entry, entry_at, entry_names, extension_of, field, field_names, is_open, long, map_value, never, no_tree, number_value, record_of, result_type, set_of, set_value, text, text_value, tree, truth, truth_value, uid_value, union_of}

-- the type of an inhabited attribute is inhabited
AreInhabited-of : (extensions : Extensions) (fields : Fields) (name : Text) (required : Bool) (ty : Ty)
    → AreInhabited extensions fields → HasField fields name required ty → IsInhabited extensions ty
AreInhabited-of extensions end name required ty lives has = absurd has
AreInhabited-of extensions (field other flag of rest) name required ty lives (inl same) = rw same.2 at lives.0
AreInhabited-of extensions (field other flag of rest) name required ty lives (inr there) =
    AreInhabited-of extensions rest name required ty lives.1 there

-- some value doesn't have a type
other_value : (extensions : Extensions) (ty : Ty) → (value : Tree) × IsValue value × ¬ Has extensions value ty
other_value extensions (truth known) = (text_value [], IsText-nil, λ has. has)
other_value extensions ty = (truth_value true, tt, λ has. elim has [ ])

-- elements of sets are included where the sets are
elements_included : (extensions : Extensions) (a b : Ty) → ValuesIncluded extensions (set_of a) (set_of b) → ValuesIncluded extensions a b
elements_included extensions a b within value real has = (within (set_value (tree value no_tree)) (real, tt) (has, tt)).0

-- what is known of two records, of which the first has no more values
record Inclusion (extensions : Extensions) (fa fb : Fields) (ta tb : OpenTag) : Type 0 where
  first : IsSortedByName fa
  formed : AreWellFormed fa
  texts : AreTexts (field_names fa)
  others : (n : Text) (r : Bool) (t : Ty) → HasField fb n r t → IsText n
  lives : AreInhabited extensions fa
  within : ValuesIncluded extensions (record_of fa ta) (record_of fb tb)

-- a sample of a record with a further value is a value
sample_is_value : (extensions : Extensions) (fa : Fields) (n : Text) (value : Tree) (it : Sample extensions fa n)
    → IsText n → IsValue value → IsValue (map_value (entry n value it.values))
sample_is_value extensions fa n value it named real = (named, real, it.valid, it.absent)

-- a sample of the first record with every name, and one further value
with_value : (extensions : Extensions) (fa : Fields) (ta : OpenTag) (n : Text) (value : Tree)
    (it : Sample extensions fa n) → IsSortedByName fa → ((r : Bool) (t : Ty) → HasField fa n r t → Has extensions value t)
    → NamesListed (is_open ta) (entry_names (entry n value it.values)) (field_names fa)
    → Has extensions (map_value (entry n value it.values)) (record_of fa ta)
with_value extensions fa ta n value it sorted_by_name fits listed = (
  listed,
  HasFields-from (Gives extensions) (entry n value it.values) fa (λ m r t has. elim (decide_texts m n) [
    | inl same ↦
        fits_some (λ v. Has extensions v t) r (entry_at m (entry n value it.values)) value (entry_here m n value it.values same)
        (fits r t (rw same at has))
    | inr differ ↦
        let found = it.has m r t has differ in
        fits_some (λ v. Has extensions v t) r (entry_at m (entry n value it.values)) found.0
        (entry_there m n value it.values differ ∙ found.1) found.2
  ]),
)

-- the names of a sample with a further value are listed if that one is
more_listed : (extensions : Extensions) (fa : Fields) (ta : OpenTag) (n : Text) (value : Tree)
    (it : Sample extensions fa n) → Contains (field_names fa) n
    → NamesListed (is_open ta) (entry_names (entry n value it.values)) (field_names fa)
more_listed extensions fa ta n value it among =
    only_listed ta (entry n value it.values) fa (Included-cons n (entry_names it.values) (field_names fa) among it.listed)

-- the values of attributes of a name are included where the records are
attributes_included : (extensions : Extensions) (fa fb : Fields) (ta tb : OpenTag) (n : Text) (ra rb : Bool) (a b : Ty)
    → Inclusion extensions fa fb ta tb → HasField fa n ra a → HasField fb n rb b → ValuesIncluded extensions a b
attributes_included extensions fa fb ta tb n ra rb a b known has also value real holds =
    let it = sample extensions fa n known.first known.formed known.texts known.lives in
    let whole = with_value extensions fa ta n value it known.first
    (λ r t there. rw (HasField-once fa n ra r a t known.first has there).1 at holds)
    (more_listed extensions fa ta n value it (HasField-name fa n ra a has)) in
    some_fits (λ v. Has extensions v b) rb (entry_at n (entry n value it.values)) value (entry_here n n value it.values refl)
    (HasFieldsBy-of (Gives extensions) (entry n value it.values) fb n rb b
    (known.within (map_value (entry n value it.values)) (sample_is_value extensions fa n value it
    (known.texts n (HasField-name fa n ra a has)) real) whole).1 also)

-- a sample without a name that the record doesn't require is a value of it
lacking_value : (extensions : Extensions) (fa : Fields) (ta : OpenTag) (n : Text) (it : Sample extensions fa n)
    → ((r : Bool) (t : Ty) → HasField fa n r t → r ≡ false) → Has extensions (map_value it.values) (record_of fa ta)
lacking_value extensions fa ta n it optional = (
  only_listed ta it.values fa it.listed,
  HasFields-from (Gives extensions) it.values fa (λ m r t has. elim (decide_texts m n) [
    | inl same ↦ rw (rw (← same) at (absent_entry n it.values it.absent)) (optional r t (rw same at has))
    | inr differ ↦
        let found = it.has m r t has differ in fits_some (λ v. Has extensions v t) r
        (entry_at m it.values) found.0 found.1 found.2
  ]),
)

-- an inhabited record has a value
record_value : (extensions : Extensions) (fa : Fields) (ta : OpenTag) → IsSortedByName fa → AreWellFormed fa
    → AreTexts (field_names fa) → AreInhabited extensions fa → (values : Entries) × IsValue (map_value values)
    × Has extensions (map_value values) (record_of fa ta)
record_value extensions fa ta sorted_by_name formed texts lives =
    let fresh = fresh_text (field_names fa) [] in
    let it = sample extensions fa fresh.0 sorted_by_name formed texts lives in
    (it.values, it.valid, lacking_value extensions fa ta fresh.0 it (λ r t has. absurd (fresh.1 (HasField-name fa fresh.0 r t has))))

-- a name that the first record needn't have isn't required by the second
optional_too : (extensions : Extensions) (fa fb : Fields) (ta tb : OpenTag) (n : Text) (rb : Bool) (b : Ty)
    → Inclusion extensions fa fb ta tb → ((r : Bool) (t : Ty) → HasField fa n r t → r ≡ false) → HasField fb n rb b → rb ≡ false
optional_too extensions fa fb ta tb n rb b known optional also =
    let it = sample extensions fa n known.first known.formed known.texts known.lives in
    let whole = lacking_value extensions fa ta n it optional in
    rw (absent_entry n it.values it.absent) at (HasFieldsBy-of (Gives extensions) it.values fb n rb b (known.within (map_value it.values) it.valid whole).1 also)

-- flags of a name fit where the values are included
flags_included : (extensions : Extensions) (fa fb : Fields) (ta tb : OpenTag) (n : Text) (ra rb : Bool) (a b : Ty)
    → Inclusion extensions fa fb ta tb → HasField fa n ra a → HasField fb n rb b → IsTrue rb → IsTrue ra
flags_included extensions fa fb ta tb n true rb a b known has also needed = refl
flags_included extensions fa fb ta tb n false rb a b known has also needed =
    sym (optional_too extensions fa fb ta tb n rb b known (λ r t there.
    (HasField-once fa n r false t a known.first there has).0) also) ∙ needed

-- a name that the second record requires is one of the first
required_listed : (extensions : Extensions) (fa fb : Fields) (ta tb : OpenTag) (n : Text) (b : Ty)
    → Inclusion extensions fa fb ta tb → HasField fb n true b → Contains (field_names fa) n
required_listed extensions fa fb ta tb n b known also =
    elim (decide_among decide_texts (field_names fa) n) [
      | inl among ↦ among
      | inr absent ↦
          let none : true ≡ false = optional_too extensions fa fb ta tb n true b known
          (λ r t has. absurd (absent (HasField-name fa n r t has))) also in
          absurd cc
    ]

-- the names of the first record are those of a closed second
closed_names : (extensions : Extensions) (fa fb : Fields) (ta : OpenTag)
    → Inclusion extensions fa fb ta ClosedAttributes → Included (field_names fa) (field_names fb)
closed_names extensions fa fb ta known n among =
    let it = sample extensions fa n known.first known.formed known.texts known.lives in
    let own = HasField-named fa n among in
    let value = inhabitant extensions own.1 (AreWellFormed-of fa n own.0 own.1 known.formed own.2)
    (AreInhabited-of extensions fa n own.0 own.1 known.lives own.2) in
    let whole = with_value extensions fa ta n value.0 it known.first
    (λ r t there. rw (← (HasField-once fa n own.0 r own.1 t known.first own.2 there).1) value.2)
    (more_listed extensions fa ta n value.0 it among) in
    (known.within (map_value (entry n value.0 it.values)) (sample_is_value extensions fa n value.0 it
    (known.texts n among) value.1) whole).0 n (Contains-cons n (entry_names it.values) n (inl refl))

-- an open record doesn't have its values in a closed one
open_isnt_closed : (extensions : Extensions) (fa fb : Fields) → ¬ Inclusion extensions fa fb OpenAttributes ClosedAttributes
open_isnt_closed extensions fa fb known =
    let fresh = fresh_text (field_names fa) (field_names fb) in
    let it = sample extensions fa fresh.0 known.first known.formed known.texts known.lives in
    let whole = with_value extensions fa OpenAttributes fresh.0 (truth_value true) it known.first
    (λ r t there. absurd (fresh.1 (HasField-name fa fresh.0 r t there))) tt in
    fresh.2 ((known.within (map_value (entry fresh.0 (truth_value true) it.values))
    (sample_is_value extensions fa fresh.0 (truth_value true) it fresh.3 tt) whole).0 fresh.0
    (Contains-cons fresh.0 (entry_names it.values) fresh.0 (inl refl)))

-- tags fit where the values are included
tags_included : (extensions : Extensions) (fa fb : Fields) (ta tb : OpenTag) → Inclusion extensions fa fb ta tb → OpennessBelow ta tb
tags_included extensions fa fb OpenAttributes OpenAttributes known = tt
tags_included extensions fa fb OpenAttributes ClosedAttributes known = open_isnt_closed extensions fa fb known
tags_included extensions fa fb ClosedAttributes OpenAttributes known = tt
tags_included extensions fa fb ClosedAttributes ClosedAttributes known = tt

-- names fit where the values are included
names_included : (extensions : Extensions) (fa fb : Fields) (ta tb : OpenTag) → Inclusion extensions fa fb ta tb
    → NamesBelow Permissive tb fa fb
names_included extensions fa fb ta OpenAttributes known = tt
names_included extensions fa fb ta ClosedAttributes known = closed_names extensions fa fb ta known

-- truth values that are included are below
truths_included : (extensions : Extensions) (known other : BoolType)
    → ValuesIncluded extensions (truth known) (truth other) → Below Permissive (truth known) (truth other)
truths_included extensions known AnyBool within = inl refl
truths_included extensions True True within = inr refl
truths_included extensions False False within = inr refl
truths_included extensions AnyBool True within = absurd (let e : false ≡ true = within (truth_value false) tt tt in cc)
truths_included extensions AnyBool False within = absurd (let e : true ≡ false = within (truth_value true) tt tt in cc)
truths_included extensions True False within = absurd (let e : true ≡ false = within (truth_value true) tt refl in cc)
truths_included extensions False True within = absurd (let e : false ≡ true = within (truth_value false) tt refl in cc)

-- an extension type that is included is the same
pub extensions_included : (extensions : Extensions) (a b : PlainName) (function : PlainName) (args : Trees)
    → Gives extensions function args a → Gives extensions function args b → a ≡ b
extensions_included extensions a b function args gives also =
    let same : gives.0 ≡ also.0 = (let one = gives.1 in let other = also.1 in cc) in
    let results : Some (core_extension a) ≡ Some (core_extension b) =
    sym gives.2 ∙ (λ i. result_type (same i)) ∙ also.2 in
    cc

-- a name that only the second record has is never there in a record of the first
never_there : (extensions : Extensions) (fa fb : Fields) (ta tb : OpenTag) (n : Text) (rb : Bool) (b : Ty)
    → Inclusion extensions fa fb ta tb → HasField fb n rb b → ¬ Contains (field_names fa) n → IsNeverThere ta fa n rb
never_there extensions fa fb ClosedAttributes tb n rb b known also absent =
    (refl, absent, optional_too extensions fa fb ClosedAttributes tb n rb b known (λ r t has. absurd (absent (HasField-name fa n r t has))) also)
never_there extensions fa fb OpenAttributes tb n rb b known also absent =
    let it = sample extensions fa n known.first known.formed known.texts known.lives in
    let other = other_value extensions b in
    let whole = with_value extensions fa OpenAttributes n other.0 it known.first
    (λ r t there. absurd (absent (HasField-name fa n r t there))) tt in
    absurd (other.2 (some_fits (λ v. Has extensions v b) rb (entry_at n (entry n other.0 it.values)) other.0
    (entry_here n n other.0 it.values refl) (HasFieldsBy-of (Gives extensions) (entry n other.0 it.values) fb n rb b
    (known.within (map_value (entry n other.0 it.values))
    (sample_is_value extensions fa n other.0 it (known.others n rb b also) other.1) whole).1 also)))

mutual
  -- an inhabited type is included by its parts in one that has its values
  included_by_parts : (extensions : Extensions) (b a : Ty) → IsWellFormed a → IsWellFormed b → IsInhabited extensions a
      → ValuesIncluded extensions a b → IncludedByParts a b
  included_by_parts extensions b never formed other lives within = elim lives [ ]
  included_by_parts extensions (truth other) (truth known) formed also lives within = truths_included extensions known other within
  included_by_parts extensions b (truth known) formed other lives within =
      (let it = truth_sample known in elim (within (truth_value it.0) tt it.1) [ ])
  included_by_parts extensions long long formed other lives within = tt
  included_by_parts extensions b long formed other lives within = elim (within (number_value (pos 0)) zero_is_value tt) [ ]
  included_by_parts extensions text text formed other lives within = tt
  included_by_parts extensions b text formed other lives within = elim (within (text_value []) IsText-nil tt) [ ]
  included_by_parts extensions any_entity any_entity formed other lives within = tt
  included_by_parts extensions (union_of names) any_entity formed other lives within =
      (let fresh = fresh_name names in
      absurd (fresh.1 (within (uid_value (record { ty = fresh.0; eid = [] })) (uid_is_value fresh.0 fresh.2) tt)))
  included_by_parts extensions b any_entity formed other lives within =
      elim (within (uid_value (record { ty = stretch_name 0; eid = [] })) (uid_is_value (stretch_name 0) (IsName-stretch 0)) tt) [ ]
  included_by_parts extensions any_entity (union_of names) formed other lives within = tt
  included_by_parts extensions (union_of others) (union_of names) formed other lives within =
      λ name among. within (uid_value (record { ty = name; eid = [] })) (uid_is_value name (formed.2 name among)) among
  included_by_parts extensions b (union_of names) formed other lives within =
      (let it = some_name names formed.0 in
      elim (within (uid_value (record { ty = it.0; eid = [] })) (uid_is_value it.0 (formed.2 it.0 it.1)) it.1) [ ])
  included_by_parts extensions any_set any_set formed other lives within = tt
  included_by_parts extensions (set_of b) any_set formed other lives within =
      (let it = other_value extensions b in absurd (it.2 (within (set_value (tree it.0 no_tree)) (it.1, tt) tt).0))
  included_by_parts extensions b any_set formed other lives within = elim (within (set_value no_tree) tt tt) [ ]
  included_by_parts extensions any_set (set_of a) formed other lives within = tt
  included_by_parts extensions (set_of b) (set_of a) formed other lives within =
      included_by_parts extensions b a formed other lives (elements_included extensions a b within)
  included_by_parts extensions b (set_of a) formed other lives within = elim (within (set_value no_tree) tt tt) [ ]
  included_by_parts extensions (record_of fb tb) (record_of fa ta) formed other lives within =
      let known : Inclusion extensions fa fb ta tb = record {
        first = formed.0;
        formed = formed.1;
        texts = formed.2;
        others = λ n r t has. other.2 n (HasField-name fb n r t has);
        lives = lives;
        within = within;
      } in (
        tags_included extensions fa fb ta tb known,
        names_included extensions fa fb ta tb known,
        fields_included extensions fb fa fb ta tb known (λ n r t has. has) other.1,
      )
  included_by_parts extensions b (record_of fa ta) formed other lives within =
      (let it = record_value extensions fa ta formed.0 formed.1 formed.2 lives in elim (within (map_value it.0) it.1 it.2) [ ])
  included_by_parts extensions (extension_of other) (extension_of name) formed also (call_value function args, real, gives) within =
      extensions_included extensions name other function args gives (within (call_value function args) real gives)
  included_by_parts extensions b (extension_of name) formed other (call_value function args, real, gives) within =
      elim (within (call_value function args) real gives) [ ]
  included_by_parts extensions b (extension_of name) formed other (value, real, gives) within = elim gives [ ]

  -- each attribute of the other is included, or never there
  fields_included : (extensions : Extensions) (part fa fb : Fields) (ta tb : OpenTag) → Inclusion extensions fa fb ta tb
      → FieldsWithin part fb → AreWellFormed part → FieldsIncluded ta fa part
  fields_included extensions end fa fb ta tb known within formed = tt
  fields_included extensions (field name required ty rest) fa fb ta tb known within formed =
      let there = within name required ty (inl (refl, refl, refl)) in (
        elim (decide_among decide_texts (field_names fa) name) [
          | inl among ↦
              let own = HasField-named fa name among in inl (
                own.0,
                own.1,
                own.2,
                flags_included extensions fa fb ta tb name own.0 required own.1 ty known own.2 there,
                included_by_parts extensions ty own.1 (AreWellFormed-of fa name own.0 own.1 known.formed own.2) formed.0
                    (AreInhabited-of extensions fa name own.0 own.1 known.lives own.2)
                    (attributes_included extensions fa fb ta tb name own.0 required own.1 ty known own.2 there),
              )
          | inr absent ↦ inr (never_there extensions fa fb ta tb name required ty known there absent)
        ],
        fields_included extensions rest fa fb ta tb known (λ n r t has. within n r t (inr has)) formed.1,
      )

mutual
  -- a type that is included by its parts and lists the names of the other is below it
  parts_below : (b a : Ty) → IncludedByParts a b → ListsNames a b → Below Permissive a b
  parts_below b never h lists = tt
  parts_below (set_of b) (set_of a) h lists = parts_below b a h lists
  parts_below (record_of fb tb) (record_of fa ta) h lists = (h.0, h.1, fields_parts_below fb fa ta fb (λ n r t has. has) h.2 lists.0 lists.1)
  parts_below (truth b) (truth a) h lists = h
  parts_below long long h lists = tt
  parts_below text text h lists = tt
  parts_below any_entity any_entity h lists = tt
  parts_below any_entity (union_of a) h lists = tt
  parts_below (union_of b) (union_of a) h lists = h
  parts_below any_set any_set h lists = tt
  parts_below any_set (set_of a) h lists = tt
  parts_below (extension_of b) (extension_of a) h lists = h
  parts_below b a h lists = elim h [ ]

  -- so are its attributes
  fields_parts_below : (part fa : Fields) (ta : OpenTag) (fb : Fields) → FieldsWithin part fb → FieldsIncluded ta fa part
      → Included (field_names fb) (field_names fa) → FieldsListNames fa part → FieldsBelow Permissive fa part
  fields_parts_below end fa ta fb within h names lists = tt
  fields_parts_below (field name required ty rest) fa ta fb within h names lists = (
    elim h.0 [
      | inl own ↦ (own.0, own.1, own.2, own.3, parts_below ty own.1 own.4 (lists.0 own.0 own.1 own.2))
      | inr none ↦
          absurd (none.1 (names name (HasField-name fb name required ty (within name required ty (inl (refl, refl, refl))))))
    ],
    fields_parts_below rest fa ta fb (λ n r t has. within n r t (inr has)) h.1 names lists.1,
  )

mutual
  -- what is below a type is included in it by its parts
  pub below_parts : (b a : Ty) → Below Permissive a b → IncludedByParts a b
  below_parts b never h = tt
  below_parts (set_of b) (set_of a) h = below_parts b a h
  below_parts (record_of fb tb) (record_of fa ta) h = (h.0, h.1, fields_below_parts fb fa ta h.2)
  below_parts (truth b) (truth a) h = h
  below_parts long long h = tt
  below_parts text text h = tt
  below_parts any_entity any_entity h = tt
  below_parts any_entity (union_of a) h = tt
  below_parts (union_of b) (union_of a) h = h
  below_parts any_set any_set h = tt
  below_parts any_set (set_of a) h = tt
  below_parts (extension_of b) (extension_of a) h = h
  below_parts b a h = elim h [ ]

  -- so are its attributes
  fields_below_parts : (fb fa : Fields) (ta : OpenTag) → FieldsBelow Permissive fa fb → FieldsIncluded ta fa fb
  fields_below_parts end fa ta h = tt
  fields_below_parts (field name required ty rest) fa ta h =
      let own = h.0 in
      (inl (own.0, own.1, own.2, own.3, below_parts ty own.1 own.4), fields_below_parts rest fa ta h.1)

-- what a closed record never has may be missing
fits_missing : (P : Tree → Type 0) (openness : OpenTag) (lower : Fields) (name : Text) (required : Bool) (values : Entries)
    → NamesListed (is_open openness) (entry_names values) (field_names lower) → IsNeverThere openness lower name required
    → EntryFits P required (entry_at name values)
fits_missing P ClosedAttributes lower name required values listed missing =
    rw (absent_entry name values (λ there. missing.1 (listed name there))) missing.2
fits_missing P OpenAttributes lower name required values listed missing = absurd (let e = missing.0 in cc)

mutual
  -- what has a type has each type in which it is included by its parts
  pub HasBy-included : (calls : PlainName → Trees → PlainName → Type 0) (value : Tree) (a b : Ty)
      → HasBy calls value a → IncludedByParts a b → HasBy calls value b
  HasBy-included calls (truth_value value) (truth a) (truth b) h k = HasTruth-above value a b h k
  HasBy-included calls (truth_value value) (truth a) b h k = elim k [ ]
  HasBy-included calls (number_value value) long long h k = tt
  HasBy-included calls (number_value value) long b h k = elim k [ ]
  HasBy-included calls (text_value value) text text h k = tt
  HasBy-included calls (text_value value) text b h k = elim k [ ]
  HasBy-included calls (uid_value uid) any_entity any_entity h k = tt
  HasBy-included calls (uid_value uid) any_entity b h k = elim k [ ]
  HasBy-included calls (uid_value uid) (union_of a) any_entity h k = tt
  HasBy-included calls (uid_value uid) (union_of a) (union_of b) h k = k uid.ty h
  HasBy-included calls (uid_value uid) (union_of a) b h k = elim k [ ]
  HasBy-included calls (set_value values) any_set any_set h k = tt
  HasBy-included calls (set_value values) any_set b h k = elim k [ ]
  HasBy-included calls (set_value values) (set_of a) any_set h k = tt
  HasBy-included calls (set_value values) (set_of a) (set_of b) h k =
      EachTree-weaker (λ value. HasBy calls value a) (λ value. HasBy calls value b) values
      (λ value has. HasBy-included calls value a b has k) h
  HasBy-included calls (set_value values) (set_of a) b h k = elim k [ ]
  HasBy-included calls (map_value values) (record_of a openness) (record_of b upper_openness) h k =
      (NamesListed-above Permissive openness upper_openness values a b h.0 k.0 k.1, HasFieldsBy-included calls values openness a b h.0 h.1 k.2)
  HasBy-included calls (map_value values) (record_of a openness) b h k = elim k [ ]
  HasBy-included calls (call_value function args) (extension_of a) (extension_of b) h k = rw k at h
  HasBy-included calls (call_value function args) (extension_of a) b h k = elim k [ ]
  HasBy-included calls value a b h k = elim h [ ]

  -- what has the attributes of a record has those of one in which they are included
  HasFieldsBy-included : (calls : PlainName → Trees → PlainName → Type 0) (values : Entries) (openness : OpenTag)
      (a b : Fields) → NamesListed (is_open openness) (entry_names values) (field_names a) → HasFieldsBy calls values a
      → FieldsIncluded openness a b → HasFieldsBy calls values b
  HasFieldsBy-included calls values openness a end listed h k = tt
  HasFieldsBy-included calls values openness a (field name required ty rest) listed h k = (
    elim k.0 [
      | inl own ↦
          EntryFits-weaker (λ value. HasBy calls value own.1) (λ value. HasBy calls value ty) own.0 required
          (entry_at name values) (λ value has. HasBy-included calls value own.1 ty has own.4)
          (FlagsBelow-missing Permissive own.0 required own.3) (HasFieldsBy-of calls values a name own.0 own.1 h own.2)
      | inr missing ↦ fits_missing (λ value. HasBy calls value ty) openness a name required values listed missing
    ],
    HasFieldsBy-included calls values openness a rest listed h k.1,
  )

mutual
  -- a type lists the names of a type above it
  below_lists : (a b : Ty) → IsWellFormed a → Below Permissive a b → ListsNames a b
  below_lists (set_of a) (set_of b) formed h = below_lists a b formed h
  below_lists (record_of fa ta) (record_of fb tb) formed h =
      (FieldsBelow-names Permissive fa fb h.2, fields_list fb fa formed.0 formed.1 h.2)
  below_lists a b formed h = tt

  -- the types of its attributes list the names of those above
  fields_list : (fb fa : Fields) → IsSortedByName fa → AreWellFormed fa → FieldsBelow Permissive fa fb → FieldsListNames fa fb
  fields_list end fa sorted_by_name formed h = tt
  fields_list (field name required ty rest) fa sorted_by_name formed h =
      let one = h.0 in (
        (λ own_required own has.
            (let same = HasField-once fa name one.0 own_required one.1 own sorted_by_name one.2 has in
            below_lists own ty (AreWellFormed-of fa name own_required own formed has) (rw same.1 at one.4))),
        fields_list rest fa sorted_by_name formed h.1,
      )

-- an attribute of those that are all required is required, and so is every one in its type
FieldsRequireAll-of : (fields : Fields) (name : Text) (required : Bool) (ty : Ty) → FieldsRequireAll fields
    → HasField fields name required ty → IsTrue required × RequiresAll ty
FieldsRequireAll-of end name required ty all has = absurd has
FieldsRequireAll-of (field other flag of rest) name required ty all (inl same) =
    (sym same.1 ∙ all.0, rw same.2 at all.1)
FieldsRequireAll-of (field other flag of rest) name required ty all (inr there) = FieldsRequireAll-of rest name required ty all.2 there

mutual
  -- an inhabited type lists the names of one that has its values and requires all
  included_lists : (extensions : Extensions) (a b : Ty) → IsWellFormed a → IsWellFormed b → IsInhabited extensions a → RequiresAll b
      → ValuesIncluded extensions a b → ListsNames a b
  included_lists extensions (set_of a) (set_of b) formed other lives all within =
      included_lists extensions a b formed other lives all (elements_included extensions a b within)
  included_lists extensions (record_of fa ta) (record_of fb tb) formed other lives all within =
      let known : Inclusion extensions fa fb ta tb = record {
        first = formed.0;
        formed = formed.1;
        texts = formed.2;
        others = λ n r t has. other.2 n (HasField-name fb n r t has);
        lives = lives;
        within = within;
      } in (
        (λ n among.
            (let found = HasField-named fb n among in
            let needed = FieldsRequireAll-of fb n found.0 found.1 all found.2 in
            required_listed extensions fa fb ta tb n found.1 known (rw needed.0 at found.2))),
        included_fields_list extensions fb fa fb ta tb known (λ n r t has. has) other.1 all,
      )
  included_lists extensions a b formed other lives all within = tt

  -- the types of its attributes list the names of those of the other
  included_fields_list : (extensions : Extensions) (part fa fb : Fields) (ta tb : OpenTag)
      → Inclusion extensions fa fb ta tb → FieldsWithin part fb → AreWellFormed part → FieldsRequireAll part → FieldsListNames fa part
  included_fields_list extensions end fa fb ta tb known within formed all = tt
  included_fields_list extensions (field name required ty rest) fa fb ta tb known within formed all = (
    (λ own_required own has.
        included_lists extensions own ty (AreWellFormed-of fa name own_required own known.formed has) formed.0
        (AreInhabited-of extensions fa name own_required own known.lives has) all.1
        (attributes_included extensions fa fb ta tb name own_required required own ty known has
        (within name required ty (inl (refl, refl, refl))))),
    included_fields_list extensions rest fa fb ta tb known (λ n r t has. within n r t (inr has)) formed.1 all.2,
  )

-- inclusion by parts of inhabited types is inclusion of values
pub inclusion_by_parts : PartsTellInclusion
inclusion_by_parts a b first second extensions lives = (
  λ parts value real has. HasBy-included (Gives extensions) value a b has parts,
  λ within. included_by_parts extensions b a first second lives within,
)

-- permissive subtyping of inhabited types is inclusion of values and of names
pub inclusion_and_names : SubtypingIsInclusionAndNames
inclusion_and_names a b first second extensions lives also = (
  λ below. ((λ value real has. HasBy-above (Gives extensions) value Permissive a b has below), below_lists a b first below),
  λ both. parts_below b a (included_by_parts extensions b a first second lives both.0) both.1,
)

-- permissive subtyping of stated types is inclusion of values
pub inclusion : SubtypingIsInclusion
inclusion a b first second extensions stated also = (
  λ below value real has. HasBy-above (Gives extensions) value Permissive a b has below,
  λ within. parts_below b a (included_by_parts extensions b a first second stated.0 within)
      (included_lists extensions a b first second stated.0 also.1 within),
)
