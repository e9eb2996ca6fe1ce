-- Starts of values of a record that another hasn't.
use Rattle.std.proofs.Common.{◌≡◌, inl, inr, Bool, true, false, refl, sym, subst, ◌∙◌, List, [], Option, Some, None, Contains, arith, IsTrue}
use Rattle.cedar_ast.proofs.Inclusion.{Included-cons, Included-none}
use Rattle.cedar_ast.proofs.Lists.{Contains-cons_cases}
use Rattle.cedar_counterexample.proofs.FillingLemmas.{filled_has, nothing_or}
use Rattle.cedar_counterexample.proofs.TypeCounterexamples.{separated_outside}
use Rattle.cedar_counterexample.specs.Words.{AreInhabitedWith, ClosedAttributes, Entries, EntryFits, Extensions, Fields, FieldsIncluded, Gives, Has, HasField, Included, IsCounterexample, IsFilled, IsInhabitedWith, IsOutsideAnswer, IsOutsideAt, IsSortedByName, IsStart, IsText, IsValue, IsValueOf, NamesListed, OpenAttributes, OpenTag, PlainFound, PlainStart, Text, Tree, Ty, empty_start, end, entry, entry_at, entry_names, field, field_names, is_open, map_value, no_entry, record_of, start_through, truth_value}
use Rattle.cedar_type_rules.proofs.AgreeLaws.{HasField-once}
use Rattle.cedar_type_rules.proofs.MemberLaws.{HasFieldsBy-of}
use Rattle.cedar_type_rules.proofs.RecordAnswers.{decide_texts}
use Rattle.cedar_type_rules.proofs.SampleValues.{entry_here, entry_named, entry_there, only_listed, some_fits}
use Rattle.cedar_type_rules.proofs.SubtypeLaws.{FieldsWithin, HasField-name}

-- the type of an attribute is inhabited where those of all are
pub AreInhabitedWith-of : (extensions : Extensions) (samples : List Tree) (fields : Fields) (name : Text) (required : Bool) (ty : Ty)
    → AreInhabitedWith extensions samples fields → HasField fields name required ty → IsInhabitedWith extensions samples ty
AreInhabitedWith-of extensions samples end name required ty lives has = absurd has
AreInhabitedWith-of extensions samples (field other flag of rest) name required ty lives (inl same) =
    subst (IsInhabitedWith extensions samples) same.2 lives.0
AreInhabitedWith-of extensions samples (field other flag of rest) name required ty lives (inr there) =
    AreInhabitedWith-of extensions samples rest name required ty lives.1 there

-- what stands under the one name of a start is its value
alone_is : (name other : Text) (value found : Tree) → entry_at other (entry name value no_entry) ≡ Some found → (other ≡ name) × (value ≡ found)
alone_is name other value found is =
    elim (decide_texts other name) [
      | inl same ↦ let e : Some value ≡ Some found = sym (entry_here other name value no_entry same) ∙ is in (same, cc)
      | inr differ ↦ absurd (let e : None ≡ Some found = sym (entry_there other name value no_entry differ) ∙ is in cc)
    ]

-- where the other record requires a name that the one doesn't, nothing is a start
pub missing_start : (extensions : Extensions) (lower upper : Fields) (openness upper_openness : OpenTag) (name : Text) (required : Bool) (ty : Ty)
    → ((own : Ty) → ¬ HasField lower name true own) → IsTrue required → HasField upper name required ty
    → IsStart extensions lower openness upper upper_openness (empty_start name)
missing_start extensions lower upper openness upper_openness name required ty never needed asked = record {
  real = tt;
  fits = λ n v r t found has. absurd cc;
  listed = only_listed openness no_entry lower (Included-none (field_names lower));
  lacks = λ whole filled has.
      let P : Option Tree → Type 0 = EntryFits (λ value. Has extensions value ty) required in
      let fits : P (entry_at name whole) = HasFieldsBy-of (Gives extensions) whole upper name required ty has.1 asked in
      elim (nothing_or (entry_at name whole)) [
        | inl none ↦
            let optional : required ≡ false = rw none at fits in
            let wrong : true ≡ false = sym needed ∙ optional in
            absurd cc
        | inr there ↦
            elim (filled.listed name there.0 there.1) [
              | inl found ↦ absurd (let e : None ≡ Some there.0 = found in cc)
              | inr own ↦ never own.0 own.1
            ]
      ];
  leads = λ apart. (inr (refl, inl ((ty, rw needed at asked), never)));
}

-- what is filled up from a value that the type of its name hasn't isn't one of the other record
lacks_alone : (extensions : Extensions) (lower upper : Fields) (upper_openness : OpenTag) (name : Text) (required : Bool) (ty : Ty) (value : Tree)
    (whole : Entries) → IsFilled extensions lower (entry name value no_entry) whole → HasField upper name required ty → ¬ Has extensions value ty
    → ¬ Has extensions (map_value whole) (record_of upper upper_openness)
lacks_alone extensions lower upper upper_openness name required ty value whole filled also lacks holds =
    let there : entry_at name whole ≡ Some value = filled.kept name value (entry_here name name value no_entry refl) in
    lacks (some_fits (λ v. Has extensions v ty) required (entry_at name whole) value there
    (HasFieldsBy-of (Gives extensions) whole upper name required ty holds.1 also))

-- a value of an attribute of the record has the types of the attributes of its name
pub own_fits : (extensions : Extensions) (lower : Fields) (name : Text) (own_required : Bool) (own : Ty) (value : Tree) → IsSortedByName lower
    → HasField lower name own_required own → Has extensions value own → (n : Text) (v : Tree) (r : Bool) (t : Ty)
    → entry_at n (entry name value no_entry) ≡ Some v → HasField lower n r t → Has extensions v t
own_fits extensions lower name own_required own value sorted_by_name has holds n v r t found there =
    let is = alone_is name n value v found in
    let same = HasField-once lower name own_required r own t sorted_by_name has (rw is.0 at there) in
    subst (Has extensions v) same.1 (subst (λ w. Has extensions w own) is.1 holds)

-- a name of an attribute is listed
pub own_listed : (lower : Fields) (openness : OpenTag) (name : Text) (own_required : Bool) (own : Ty) (value : Tree) → HasField lower name own_required own
    → NamesListed (is_open openness) (entry_names (entry name value no_entry)) (field_names lower)
own_listed lower openness name own_required own value has =
    only_listed openness (entry name value no_entry) lower
    (Included-cons name [] (field_names lower) (HasField-name lower name own_required own has) (Included-none (field_names lower)))

-- where a value separates the types of a name, it under that name is a start
pub attribute_start : (extensions : Extensions) (lower upper : Fields) (openness upper_openness : OpenTag) (name : Text)
    (own_required required : Bool) (own ty : Ty) (found : PlainFound) → IsSortedByName lower → IsText name → HasField lower name own_required own
    → HasField upper name required ty → IsCounterexample extensions own ty found.value → IsOutsideAt extensions found.steps own ty
    → IsStart extensions lower openness upper upper_openness (start_through name found)
attribute_start extensions lower upper openness upper_openness name own_required required own ty found sorted_by_name named has also separates parts =
    record {
      real = (named, separates.0.0, tt, λ among. omega (arith, among.1));
      fits = own_fits extensions lower name own_required own found.value sorted_by_name has separates.0.1;
      listed = own_listed lower openness name own_required own found.value has;
      lacks = λ whole filled. lacks_alone extensions lower upper upper_openness name required ty found.value whole filled also separates.1;
      leads = λ apart. inl (own_required, own, required, ty, has, also, parts);
    }

-- a value under a name that the record lacks has no attribute to fit
pub fresh_fits : (extensions : Extensions) (lower : Fields) (name : Text) (value : Tree) → ¬ Contains (field_names lower) name → (n : Text) (v : Tree)
    (r : Bool) (t : Ty) → entry_at n (entry name value no_entry) ≡ Some v → HasField lower n r t → Has extensions v t
fresh_fits extensions lower name value fresh n v r t found has =
    let is = alone_is name n value v found in
    absurd (fresh (subst (Contains (field_names lower)) is.0 (HasField-name lower n r t has)))

-- where an open record lacks a name of the other, a value that the type of the name hasn't is a
-- start
pub other_start : (extensions : Extensions) (lower upper : Fields) (upper_openness : OpenTag) (name : Text) (required : Bool) (ty : Ty)
    (value : Tree) → IsText name → ¬ Contains (field_names lower) name → HasField upper name required ty → IsValue value → ¬ Has extensions value ty
    → IsStart extensions lower OpenAttributes upper upper_openness (start_through name (record { value = value; steps = [] }))
other_start extensions lower upper upper_openness name required ty value named fresh also real lacks = record {
  real = (named, real, tt, λ among. omega (arith, among.1));
  fits = fresh_fits extensions lower name value fresh;
  listed = tt;
  lacks = λ whole filled. lacks_alone extensions lower upper upper_openness name required ty value whole filled also lacks;
  leads = λ apart. inr (refl, inr (inr (HasField-name upper name required ty also, refl, fresh)));
}

-- what is filled up from a value under a name that a closed record lacks isn't one of it
lacks_name : (extensions : Extensions) (lower upper : Fields) (name : Text) (value : Tree) (whole : Entries)
    → IsFilled extensions lower (entry name value no_entry) whole → ¬ Contains (field_names upper) name
    → ¬ Has extensions (map_value whole) (record_of upper ClosedAttributes)
lacks_name extensions lower upper name value whole filled absent has =
    let there : entry_at name whole ≡ Some value = filled.kept name value (entry_here name name value no_entry refl) in
    absent (has.0 name (entry_named name whole value there))

-- where a closed record lacks a name of the one, a value of its type is a start
pub further_start : (extensions : Extensions) (lower upper : Fields) (openness : OpenTag) (name : Text) (own_required : Bool) (own : Ty) (value : Tree)
    → IsSortedByName lower → IsText name → HasField lower name own_required own → ¬ Contains (field_names upper) name
    → IsValueOf extensions own value
    → IsStart extensions lower openness upper ClosedAttributes (start_through name (record { value = value; steps = [] }))
further_start extensions lower upper openness name own_required own value sorted_by_name named has absent sample = record {
  real = (named, sample.0, tt, λ among. omega (arith, among.1));
  fits = own_fits extensions lower name own_required own value sorted_by_name has sample.1;
  listed = own_listed lower openness name own_required own value has;
  lacks = λ whole filled. lacks_name extensions lower upper name value whole filled absent;
  leads = λ apart. inr (refl, inr (inl (HasField-name lower name own_required own has, refl, absent)));
}

-- an open record has all names of one whose attributes are included
open_names : (lower upper : Fields) → FieldsIncluded OpenAttributes lower upper → (name : Text) → Contains (field_names upper) name
    → Contains (field_names lower) name
open_names lower end parts name among = absurd (omega (arith, among.1))
open_names lower (field other required ty rest) parts name among =
    elim (Contains-cons_cases other (field_names rest) name among) [
      | inl same ↦
          subst (Contains (field_names lower)) same (elim parts.0 [
            | inl own ↦ HasField-name lower other own.0 own.1 own.2
            | inr never ↦ absurd (let wrong : OpenAttributes ≡ ClosedAttributes = never.0 in cc)
          ])
      | inr there ↦ open_names lower rest parts.1 name there
    ]

-- where an open record has all names of a closed one, a value under a further name is a start
pub open_start : (extensions : Extensions) (lower upper : Fields) (name : Text) → IsText name → ¬ Contains (field_names lower) name
    → FieldsIncluded OpenAttributes lower upper
    → IsStart extensions lower OpenAttributes upper ClosedAttributes (record { values = entry name (truth_value true) no_entry; steps = [] })
open_start extensions lower upper name named fresh parts = record {
  real = (named, tt, tt, λ among. omega (arith, among.1));
  fits = fresh_fits extensions lower name (truth_value true) fresh;
  listed = tt;
  lacks = λ whole filled. lacks_name extensions lower upper name (truth_value true) whole filled
      (λ among. fresh (open_names lower upper parts name among));
  leads = λ apart. apart;
}

-- what is filled up from a start separates the records, and the steps lead to where they part
pub start_separates : (extensions : Extensions) (lower upper : Fields) (openness upper_openness : OpenTag) (start : PlainStart) (whole : Entries)
    → IsSortedByName lower → IsStart extensions lower openness upper upper_openness start → IsFilled extensions lower start.values whole
    → IsOutsideAnswer extensions (record_of lower openness) (record_of upper upper_openness)
    (Some (record { value = map_value whole; steps = start.steps }))
start_separates extensions lower upper openness upper_openness start whole sorted_by_name begun filled =
    let a = record_of lower openness in
    let b = record_of upper upper_openness in
    let separates : IsCounterexample extensions a b (map_value whole) = (
      (filled.real begun.real, filled_has extensions lower openness start.values whole sorted_by_name filled begun.fits begun.listed),
      begun.lacks whole filled,
    ) in
    (separates, begun.leads (separated_outside extensions a b (map_value whole) separates))

-- a walk over the attributes of the other record: what is left of them decides about all
pub record CounterexampleSoFar (lower : Fields) (openness : OpenTag) (upper left : Fields) : Type 0 where
  pub before : FieldsIncluded openness lower left → FieldsIncluded openness lower upper
  pub within : FieldsWithin left upper

module _ (lower : Fields) (openness : OpenTag) (upper : Fields) where
  -- past an attribute whose values are included the rest decides
  pub separating_next : (name : Text) (required : Bool) (ty : Ty) (rest : Fields)
      → CounterexampleSoFar lower openness upper (field name required ty rest) → FieldsIncluded openness lower (field name required ty end)
      → CounterexampleSoFar lower openness upper rest
  separating_next name required ty rest so_far one = record {
    before = λ others. so_far.before (one.0, others);
    within = λ n r t there. so_far.within n r t (inr there);
  }

-- a walk over the attributes of the one record: the names that are left decide about all
pub record NamesSoFar (lower upper left : Fields) : Type 0 where
  pub before : Included (field_names left) (field_names upper) → Included (field_names lower) (field_names upper)
  pub within : FieldsWithin left lower

module _ (lower upper : Fields) where
  -- past a name of the other the rest decides
  pub names_next : (name : Text) (required : Bool) (ty : Ty) (rest : Fields) → NamesSoFar lower upper (field name required ty rest)
      → Contains (field_names upper) name → NamesSoFar lower upper rest
  names_next name required ty rest so_far there = record {
    before = λ others. so_far.before (Included-cons name (field_names rest) (field_names upper) there others);
    within = λ n r t has. so_far.within n r t (inr has);
  }

  -- where none is left, all are names of the other
  pub names_all : (left : Fields) → left ≡ end → NamesSoFar lower upper left → Included (field_names lower) (field_names upper)
  names_all left nothing so_far = let done = rw nothing at so_far in done.before (Included-none (field_names upper))
