-- Records that are filled up with samples.
use Rattle.std.proofs.Common.{◌≡◌, ◌≢◌, ◌⊎◌, inl, inr, Bool, true, false, refl, sym, subst, ◌∙◌, [], Option, Some, None, Contains, arith, Global}
use Rattle.std.proofs.lemmas.Option.{same_Some}
use Rattle.std.proofs.lemmas.Slice.Eq.{bytes_eq-Decides}
use Rattle.std.specs.BTreeMap.{BTreeMap, get_by_text}
use Rattle.std.specs.Option.{is_some, option_map}
use Rattle.std.specs.Str.{bytes_eq}
use Rattle.std.specs.declared.string.String.{String}
use Rattle.cedar_ast.proofs.Inclusion.{Included-none}
use Rattle.cedar_ast.proofs.Lists.{Contains-cons_cases}
use Rattle.cedar_ast.proofs.TreeLemmas.{entry_at-entries}
use Rattle.cedar_ast.proofs.ValueLemmas.{IsName-type_name}
use Rattle.cedar_counterexample.specs.Words.{AreEntries, ClosedAttributes, EntityKind, EntityType, Entries, EntryFits, Extensions, Fields, Gives, Has, HasField, HasUid, IsFilled, IsPut, IsSortedByName, IsValueOf, NamesListed, OpenAttributes, OpenTag, PlainName, RestrictedExpr, Text, Tree, Ty, entries_of, entry, entry_at, entry_names, field, field_names, is_open, kind_ty, map_value, no_entry, record_of, tree_of, type_name, uid_value}
use Rattle.cedar_type_rules.proofs.AgreeLaws.{HasField-once}
use Rattle.cedar_type_rules.proofs.RecordAnswers.{decide_texts}
use Rattle.cedar_type_rules.proofs.SampleValues.{HasFields-from, entry_here, entry_named, entry_there, fits_some, only_listed, uid_is_value}
use Rattle.cedar_type_rules.proofs.SubtypeLaws.{FieldsWithin, HasField-name}
use Rattle.cedar_type_rules.proofs.SubtypeLemmas.{chosen_first, unchosen}

-- what is found is nothing or a value
pub nothing_or : (found : Option Tree) → (found ≡ None) ⊎ ((value : Tree) × (found ≡ Some value))
nothing_or None = inl refl
nothing_or (Some value) = inr (value, refl)

-- at a name that is there is a value
pub named_entry : (name : Text) (values : Entries) → Contains (entry_names values) name → (value : Tree) × (entry_at name values ≡ Some value)
named_entry name no_entry among = absurd (omega (arith, among.1))
named_entry name (entry other value rest) among =
    elim (decide_texts name other) [
      | inl same ↦ (value, entry_here name other value rest same)
      | inr differ ↦
          let there : Contains (entry_names rest) name = elim (Contains-cons_cases other (entry_names rest) name among) [
            | inl same ↦ absurd (differ (sym same))
            | inr there ↦ there
          ] in
          let found = named_entry name rest there in (found.0, entry_there name other value rest differ ∙ found.1)
    ]

-- where a value was put, it is
pub put_here : (name : Text) (value : Tree) (old new : Entries) → IsPut name value old new → entry_at name new ≡ Some value
put_here name value old new put =
    put.found name ∙ chosen_first (bytes_eq name name) (Some value) (entry_at name old) ((bytes_eq-Decides name name).1 refl)

-- at another name nothing changes
pub put_there : (name : Text) (value : Tree) (old new : Entries) (other : Text) → IsPut name value old new → other ≢ name
    → entry_at other new ≡ entry_at other old
put_there name value old new other put differ =
    put.found other ∙ unchosen (bytes_eq other name) (Some value) (entry_at other old) (λ e. differ ((bytes_eq-Decides other name).0 e))

-- a value isn't at a name where there is none
apart_from : (values : Entries) (name other : Text) (value : Tree) → entry_at name values ≡ None → entry_at other values ≡ Some value
    → other ≢ name
apart_from values name other value none found same =
    let wrong : None ≡ Some value = sym none ∙ rw same at found in
    absurd cc

-- values are filled up so far: for the attributes of which none is left
pub record FillingSoFar (extensions : Extensions) (all : Fields) (start : Entries) (left : Fields) (now : Entries) : Type 0 where
  pub kept : (name : Text) (value : Tree) → entry_at name start ≡ Some value → entry_at name now ≡ Some value
  pub filled : (name : Text) (ty : Ty) → HasField all name true ty
      → HasField left name true ty ⊎ ((value : Tree) × (entry_at name now ≡ Some value))
  pub listed : (name : Text) (value : Tree) → entry_at name now ≡ Some value
      → (entry_at name start ≡ Some value) ⊎ ((ty : Ty) × HasField all name true ty × Has extensions value ty)
  pub real : AreEntries start → AreEntries now
  pub within : FieldsWithin left all

module _ (extensions : Extensions) (all : Fields) (start : Entries) where
  module _ (name : Text) (required : Bool) (ty : Ty) (rest : Fields) (now : Entries)
      (so_far : FillingSoFar extensions all start (field name required ty rest) now) where
    -- past an attribute that is there, if it is required, all else is left
    pub filling_there : (required ≡ true → (value : Tree) × (entry_at name now ≡ Some value))
        → FillingSoFar extensions all start rest now
    filling_there found = record {
      kept = so_far.kept;
      filled = λ n t has. elim (so_far.filled n t has) [
        | inl still ↦ elim still [ inl same ↦ inr (rw same.0 at (found same.1)) | inr later ↦ inl later ]
        | inr done ↦ inr done
      ];
      listed = so_far.listed;
      real = so_far.real;
      within = λ n r t has. so_far.within n r t (inr has);
    }

    -- with a sample put under the next name, which is required, all else is left
    pub filling_put : (value : Tree) (new : Entries) → required ≡ true → entry_at name now ≡ None → IsPut name value now new
        → IsValueOf extensions ty value → FillingSoFar extensions all start rest new
    filling_put value new needed none put sample =
        let stays : (n : Text) (v : Tree) → entry_at n now ≡ Some v → entry_at n new ≡ Some v = λ n v found.
        put_there name value now new n put (apart_from now name n v none found) ∙ found in
        let own = so_far.within name true ty (inl (refl, needed, refl)) in
        record {
          kept = λ n v found. stays n v (so_far.kept n v found);
          filled = λ n t has. elim (so_far.filled n t has) [
            | inl still ↦
                elim still [ inl same ↦ inr (value, rw same.0 at (put_here name value now new put)) | inr later ↦ inl later ]
            | inr done ↦ inr (done.0, stays n done.0 done.1)
          ];
          listed = λ n v found. elim (decide_texts n name) [
            | inl same ↦
                inr (let is : entry_at n new ≡ Some value = subst (λ m. entry_at m new ≡ Some value) (sym same)
                (put_here name value now new put) in
                let one : Some value ≡ Some v = sym is ∙ found in
                (ty, subst (λ m. HasField all m true ty) (sym same) own, subst (λ w. Has extensions w ty) (same_Some value v one) sample.1))
            | inr differ ↦ so_far.listed n v (sym (put_there name value now new n put differ) ∙ found)
          ];
          real = λ real. put.real (so_far.real real) sample.0;
          within = λ n r t has. so_far.within n r t (inr has);
        }

-- what is filled up has listed names where what it began with had
filled_listed : (extensions : Extensions) (fields : Fields) (openness : OpenTag) (start whole : Entries) → IsFilled extensions fields start whole
    → NamesListed (is_open openness) (entry_names start) (field_names fields)
    → NamesListed (is_open openness) (entry_names whole) (field_names fields)
filled_listed extensions fields OpenAttributes start whole filled listed = tt
filled_listed extensions fields ClosedAttributes start whole filled listed = λ name among.
    let found = named_entry name whole among in
    elim (filled.listed name found.0 found.1) [
      | inl there ↦ listed name (entry_named name start found.0 there)
      | inr own ↦ HasField-name fields name true own.0 own.1
    ]

-- where what is filled up has no value, no attribute is required
missing_optional : (extensions : Extensions) (fields : Fields) (start whole : Entries) → IsFilled extensions fields start whole → (name : Text)
    (required : Bool) (ty : Ty) → HasField fields name required ty → entry_at name whole ≡ None → required ≡ false
missing_optional extensions fields start whole filled name false ty has none = refl
missing_optional extensions fields start whole filled name true ty has none =
    let found = filled.filled name ty has in
    let wrong : None ≡ Some found.0 = sym none ∙ found.1 in absurd cc

-- what is filled up is a value of the record if what it began with fits
pub filled_has : (extensions : Extensions) (fields : Fields) (openness : OpenTag) (start whole : Entries) → IsSortedByName fields
    → IsFilled extensions fields start whole
    → ((name : Text) (value : Tree) (required : Bool) (ty : Ty) → entry_at name start ≡ Some value
    → HasField fields name required ty → Has extensions value ty)
    → NamesListed (is_open openness) (entry_names start) (field_names fields) → Has extensions (map_value whole) (record_of fields openness)
filled_has extensions fields openness start whole sorted_by_name filled fits listed = (
  filled_listed extensions fields openness start whole filled listed,
  HasFields-from (Gives extensions) whole fields (λ n r t has. elim (nothing_or (entry_at n whole)) [
    | inl none ↦
        subst (EntryFits (λ v. Has extensions v t) r) (sym none) (missing_optional extensions fields start whole filled n r t has none)
    | inr there ↦
        fits_some (λ v. Has extensions v t) r (entry_at n whole) there.0 there.1
        (elim (filled.listed n there.0 there.1) [
          | inl begun ↦ fits n there.0 r t begun has
          | inr own ↦
              subst (Has extensions there.0) (HasField-once fields n true r own.0 t sorted_by_name own.1 has).1 own.2
        ])
  ]),
)

-- what is filled up from nothing is a value of the record
pub record_sample : (extensions : Extensions) (fields : Fields) (openness : OpenTag) (start whole : Entries) → IsSortedByName fields
    → start ≡ no_entry → IsFilled extensions fields start whole → IsValueOf extensions (record_of fields openness) (map_value whole)
record_sample extensions fields openness start whole sorted_by_name nothing filled =
    let all = rw nothing at filled in (
      all.real tt,
      filled_has extensions fields openness no_entry whole sorted_by_name all (λ n v r t found has. absurd cc)
          (only_listed openness no_entry fields (Included-none (field_names fields))),
    )

-- where nothing is found in a map, there is no value
pub missing_entry : (name : Text) (values : BTreeMap (String Global) RestrictedExpr) → is_some (get_by_text values name) ≡ false
    → entry_at name (entries_of values) ≡ None
missing_entry name values none = at_found (get_by_text values name) (entry_at-entries name values.entries) none
  where
    at_found : (found : Option RestrictedExpr) → entry_at name (entries_of values) ≡ option_map tree_of found → is_some found ≡ false
        → entry_at name (entries_of values) ≡ None
    at_found None is missed = is
    at_found (Some value) is missed = absurd cc

-- where something is found in a map, there is a value
pub present_entry : (name : Text) (values : BTreeMap (String Global) RestrictedExpr) → is_some (get_by_text values name) ≡ true
    → (value : Tree) × (entry_at name (entries_of values) ≡ Some value)
present_entry name values some = at_found (get_by_text values name) (entry_at-entries name values.entries) some
  where
    at_found : (found : Option RestrictedExpr) → entry_at name (entries_of values) ≡ option_map tree_of found → is_some found ≡ true
        → (value : Tree) × (entry_at name (entries_of values) ≡ Some value)
    at_found None is missed = absurd cc
    at_found (Some value) is missed = (tree_of value, is)

-- an entity whose type is of a kind is a real value of the kind
pub entity_sample : (extensions : Extensions) (of : EntityKind) (ty : EntityType) (name : PlainName) (value : Tree)
    → value ≡ uid_value (record { ty = type_name ty; eid = [] }) → type_name ty ≡ name
    → HasUid (record { ty = name; eid = [] }) (kind_ty of) → IsValueOf extensions (kind_ty of) value
entity_sample extensions of ty name value is named has =
    rw is (uid_is_value (type_name ty) (IsName-type_name ty), rw named has)

-- an entity whose type isn't of a kind isn't of the kind
pub entity_apart : (extensions : Extensions) (of : EntityKind) (ty : EntityType) (name : PlainName) (value : Tree)
    → value ≡ uid_value (record { ty = type_name ty; eid = [] }) → type_name ty ≡ name
    → ¬ HasUid (record { ty = name; eid = [] }) (kind_ty of) → ¬ Has extensions value (kind_ty of)
entity_apart extensions of ty name value is named lacks has = lacks (rw (is, named) at has)
