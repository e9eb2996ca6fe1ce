-- Values that name a uid which isn't kept.
use Rattle.std.proofs.Common.{◌≡◌, inl, inr, refl, sym, subst, ◌∙◌, Bool, [], ◌∷◌, List, Option, Some, None, map, length, Contains, arith}
use Rattle.cedar_ast.proofs.Lists.{Contains-cons, Contains-cons_cases}
use Rattle.cedar_counterexample.proofs.FillingLemmas.{filled_has}
use Rattle.cedar_counterexample.proofs.StartLemmas.{fresh_fits, own_fits, own_listed}
use Rattle.cedar_counterexample.specs.Words.{Entries, Extensions, Fields, FieldsKeepIds, HasField, HasUid, Included, IsFilled, IsLostUid, IsNaming, IsNamingRecord, IsNamingStart, IsOpenAnswer, IsSortedByName, IsText, IsValue, KeepsIds, KeepsIdsOf, MayBeNamedHere, NamesSome, OpenAttributes, PlainName, PlainNaming, PlainNamingStart, PlainUid, SomeEntryNamesSome, Text, Tree, Ty, any_entity, any_set, end, entry, entry_at, field, field_names, found_element, map_value, no_entry, no_tree, record_of, set_of, set_value, start_through, tree, uid_value, union_of}
use Rattle.cedar_counterexample.specs.declared.found.Found.{Found}
use Rattle.cedar_type_rules.proofs.RecordAnswers.{decide_texts}
use Rattle.cedar_type_rules.proofs.SampleValues.{entry_here, entry_there}
use Rattle.cedar_type_rules.proofs.SubtypeLaws.{FieldsWithin}
use Rattle.cedar_type_rules.specs.declared.open_tag.OpenTag.{OpenTag}

-- a walk over the entity types of a union: those that are left decide about all
pub record UidsSoFar (Old New : PlainUid → Type 0) (all left : List PlainName) : Type 0 where
  pub before : ((name : PlainName) → Contains left name → KeepsIdsOf Old New name) → KeepsIds Old New (union_of all)
  pub within : Included left all

module _ (Old New : PlainUid → Type 0) (all : List PlainName) where
  -- at first all are left
  pub uids_start : UidsSoFar Old New all all
  uids_start = record { before = λ each. each; within = λ name among. among }

  -- past one whose ids are kept the others decide
  pub uids_next : (name : PlainName) (rest : List PlainName) → UidsSoFar Old New all (name ∷ rest) → KeepsIdsOf Old New name
      → UidsSoFar Old New all rest
  uids_next name rest so_far kept = record {
    before = λ each. so_far.before (λ n among. elim (Contains-cons_cases name rest n among) [
      | inl same ↦ subst (KeepsIdsOf Old New) same kept
      | inr later ↦ each n later
    ]);
    within = λ n among. so_far.within n (Contains-cons name rest n (inr among));
  }

  -- where none is left, all are kept
  pub uids_kept : (left : List PlainName) → left ≡ [] → UidsSoFar Old New all left → KeepsIds Old New (union_of all)
  uids_kept left nothing so_far = so_far.before (λ name among. absurd (let e = rw nothing at among in omega (arith, e.1)))

-- a list without items stands for none
pub none_left : {A : Type 0} (f : A → PlainName) (rest : List A) → length rest ≡ 0 → map f rest ≡ []
none_left f [] none = refl
none_left f (first ∷ rest) none = absurd (omega (arith, none))

-- an entity of a type is named by it alone
pub named_here : (ty : Ty) (uid : PlainUid) → HasUid uid ty → MayBeNamedHere ty uid
named_here any_entity uid has = tt
named_here (union_of names) uid has = has
named_here ty uid has = elim has [ ]

module _ (extensions : Extensions) (Old New : PlainUid → Type 0) where
  -- the uid itself names it
  pub naming_uid : (ty : Ty) (uid : PlainUid) → IsValue (uid_value uid) → HasUid uid ty → IsLostUid Old New uid
      → IsNaming extensions Old New ty (record { found = record { value = uid_value uid; steps = [] }; uid = uid })
  naming_uid ty uid real has lost = record { sample = (real, has); names = refl; lost = lost; leads = named_here ty uid has }

  -- so does the set of it
  pub naming_in_set : (uid : PlainUid) → IsValue (uid_value uid) → IsLostUid Old New uid
      → IsNaming extensions Old New any_set
      (record { found = record { value = set_value (tree (uid_value uid) no_tree); steps = [] }; uid = uid })
  naming_in_set uid real lost = record { sample = ((real, tt), tt); names = inl refl; lost = lost; leads = tt }

  -- the set of one value names what it names
  pub naming_element : (ty : Ty) (it : PlainNaming) → IsNaming extensions Old New ty it
      → IsNaming extensions Old New (set_of ty) (record { found = found_element it.found; uid = it.uid })
  naming_element ty it naming = record {
    sample = ((naming.sample.0, tt), (naming.sample.1, tt));
    names = inl naming.names;
    lost = naming.lost;
    leads = naming.leads;
  }

  module _ (fields : Fields) where
    -- a value that names it under the name of an attribute is a start
    pub naming_start : (openness : OpenTag) (name : Text) (required : Bool) (ty : Ty) (it : PlainNaming) → IsSortedByName fields → IsText name
        → HasField fields name required ty → IsNaming extensions Old New ty it
        → IsNamingStart extensions Old New fields openness (record { start = start_through name it.found; uid = it.uid })
    naming_start openness name required ty it sorted_by_name named has naming = record {
      real = (named, naming.sample.0, tt, λ among. omega (arith, among.1));
      fits = own_fits extensions fields name required ty it.found.value sorted_by_name has naming.sample.1;
      listed = own_listed fields openness name required ty it.found.value has;
      names = (name, it.found.value, entry_here name name it.found.value no_entry refl, naming.names);
      lost = naming.lost;
      leads = (required, ty, has, naming.leads);
    }

    -- so is it under a name that an open record lacks
    pub naming_beside : (name : Text) (uid : PlainUid) → IsText name → ¬ Contains (field_names fields) name → IsValue (uid_value uid)
        → IsLostUid Old New uid
        → IsNamingStart extensions Old New fields OpenAttributes
        (record { start = record { values = entry name (uid_value uid) no_entry; steps = [] }; uid = uid })
    naming_beside name uid named fresh real lost = record {
      real = (named, real, tt, λ among. omega (arith, among.1));
      fits = fresh_fits extensions fields name (uid_value uid) fresh;
      listed = tt;
      names = (name, uid_value uid, entry_here name name (uid_value uid) no_entry refl, refl);
      lost = lost;
      leads = refl;
    }

    -- where the ids of the attributes are kept, the names that aren't listed decide
    pub naming_rest : (openness : OpenTag) (found : Option PlainNamingStart) → FieldsKeepIds Old New fields
        → IsOpenAnswer extensions Old New fields openness found → IsNamingRecord extensions Old New fields openness found
    naming_rest openness None kept answer = (kept, answer)
    naming_rest openness (Some it) kept answer = answer

-- a value that is found names what it names
named_there : (Is : PlainUid → Type 0) (name : Text) (values : Entries) (value : Tree) → entry_at name values ≡ Some value → NamesSome Is value
    → SomeEntryNamesSome Is values
named_there Is name no_entry value found some = absurd cc
named_there Is name (entry other first rest) value found some = elim (decide_texts name other) [
  | inl same ↦
      inl (let is : Some first ≡ Some value = sym (entry_here name other first rest same) ∙ found in
      let one : first ≡ value = cc in subst (NamesSome Is) (sym one) some)
  | inr differ ↦ inr (named_there Is name rest value (sym (entry_there name other first rest differ) ∙ found) some)
]

-- what is filled up from a start names what the start names
pub naming_filled : (extensions : Extensions) (Old New : PlainUid → Type 0) (fields : Fields) (openness : OpenTag) (it : PlainNaming)
    (values whole : Entries) → IsSortedByName fields
    → IsNamingStart extensions Old New fields openness (record { start = record { values = values; steps = it.found.steps }; uid = it.uid })
    → IsFilled extensions fields values whole → it.found.value ≡ map_value whole → IsNaming extensions Old New (record_of fields openness) it
naming_filled extensions Old New fields openness it values whole sorted_by_name begun filled is = record {
  sample = rw is (
    filled.real begun.real,
    filled_has extensions fields openness values whole sorted_by_name filled begun.fits begun.listed,
  );
  names = rw is (named_there (λ uid. uid ≡ it.uid) begun.names.0 whole begun.names.1
      (filled.kept begun.names.0 begun.names.1 begun.names.2) begun.names.3);
  lost = begun.lost;
  leads = begun.leads;
}

-- a walk over the attributes of a record: those that are left decide about all
pub record NamingSoFar (Old New : PlainUid → Type 0) (all left : Fields) : Type 0 where
  pub before : FieldsKeepIds Old New left → FieldsKeepIds Old New all
  pub within : FieldsWithin left all

module _ (Old New : PlainUid → Type 0) (all : Fields) where
  -- at first all are left
  pub naming_start_all : NamingSoFar Old New all all
  naming_start_all = record { before = λ kept. kept; within = λ n r t has. has }

  -- where none is left, all are kept
  pub naming_none : (left : Fields) → left ≡ end → NamingSoFar Old New all left → FieldsKeepIds Old New all
  naming_none left nothing so_far = let done = rw nothing at so_far in done.before tt

  -- past one whose ids are kept the others decide
  pub naming_next : (name : Text) (required : Bool) (ty : Ty) (rest : Fields) → NamingSoFar Old New all (field name required ty rest)
      → KeepsIds Old New ty → NamingSoFar Old New all rest
  naming_next name required ty rest so_far kept = record {
    before = λ others. so_far.before (kept, others);
    within = λ n r t has. so_far.within n r t (inr has);
  }
