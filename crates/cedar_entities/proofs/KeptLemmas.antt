-- What names only uids that are kept.
use Rattle.std.proofs.Common.{◌≡◌, inl, inr, refl, subst, ◌∙◌, Bool, Some, Contains}
use Rattle.cedar_ast.proofs.Lists.{Contains-cons}
use Rattle.cedar_entities.specs.Words.{AreEntries, AreValues, ClosedAttributes, EachNamesOnly, Entries, EntriesNameOnly, Extensions, Fields, FieldsKeepIds, HasBy, HasFieldsBy, IsValue, KeepsIds, KeepsUids, KeptByParts, NamesOnly, OpenAttributes, OpenTag, PlainName, PlainUid, Text, Tree, Trees, Ty, ValuesKept, any_entity, any_set, call_value, end, entry, entry_at, entry_names, field, map_value, no_entry, no_tree, number_value, record_of, set_of, set_value, text_value, tree, truth_value, uid_value, union_of}
use Rattle.cedar_type_rules.proofs.Decisions.{decide_among}
use Rattle.cedar_type_rules.proofs.MemberLaws.{HasFieldsBy-of}
use Rattle.cedar_type_rules.proofs.RecordAnswers.{decide_texts}
use Rattle.cedar_type_rules.proofs.SampleValues.{entry_here, entry_named, entry_there, some_fits}
use Rattle.cedar_type_rules.proofs.SubtypeLaws.{HasField-named}
use Rattle.cedar_type_rules.proofs.ValueInclusion.{HasBy-included}
use Rattle.cedar_type_rules.specs.Words.{EachTree, Gives, HasField, NamesListed, field_names, is_open}

mutual
  -- where all uids are kept, what a value names is
  pub all_kept : (Old New : PlainUid → Type 0) (value : Tree) → KeepsUids Old New → IsValue value → NamesOnly Old value → NamesOnly New value
  all_kept Old New (truth_value value) keeps real old = tt
  all_kept Old New (number_value value) keeps real old = tt
  all_kept Old New (text_value value) keeps real old = tt
  all_kept Old New (uid_value uid) keeps real old = keeps uid real old
  all_kept Old New (set_value values) keeps real old = each_all_kept Old New values keeps real old
  all_kept Old New (map_value values) keeps real old = entries_all_kept Old New values keeps real old
  all_kept Old New (call_value function args) keeps real old = tt

  each_all_kept : (Old New : PlainUid → Type 0) (values : Trees) → KeepsUids Old New → AreValues values → EachNamesOnly Old values
      → EachNamesOnly New values
  each_all_kept Old New no_tree keeps real old = tt
  each_all_kept Old New (tree first rest) keeps real old =
      (all_kept Old New first keeps real.0 old.0, each_all_kept Old New rest keeps real.1 old.1)

  entries_all_kept : (Old New : PlainUid → Type 0) (values : Entries) → KeepsUids Old New → AreEntries values → EntriesNameOnly Old values
      → EntriesNameOnly New values
  entries_all_kept Old New no_entry keeps real old = tt
  entries_all_kept Old New (entry name value rest) keeps real old =
      (all_kept Old New value keeps real.1 old.0, entries_all_kept Old New rest keeps real.2 old.1)

-- the ids in the type of an attribute are kept
pub FieldsKeepIds-of : (Old New : PlainUid → Type 0) (fields : Fields) (name : Text) (required : Bool) (ty : Ty) → FieldsKeepIds Old New fields
    → HasField fields name required ty → KeepsIds Old New ty
FieldsKeepIds-of Old New end name required ty keeps has = absurd has
FieldsKeepIds-of Old New (field other flag of rest) name required ty keeps (inl same) = subst (KeepsIds Old New) same.2 keeps.0
FieldsKeepIds-of Old New (field other flag of rest) name required ty keeps (inr there) =
    FieldsKeepIds-of Old New rest name required ty keeps.1 there

-- a record with a name that isn't listed is open
opened : (openness : OpenTag) (name : Text) (value : Tree) (rest : Entries) (fields : Fields)
    → NamesListed (is_open openness) (entry_names (entry name value rest)) (field_names fields) → ¬ Contains (field_names fields) name
    → openness ≡ OpenAttributes
opened OpenAttributes name value rest fields listed absent = refl
opened ClosedAttributes name value rest fields listed absent =
    absurd (absent (listed name (Contains-cons name (entry_names rest) name (inl refl))))

-- where names are listed, the others are
listed_rest : (openness : OpenTag) (name : Text) (value : Tree) (rest : Entries) (fields : Fields)
    → NamesListed (is_open openness) (entry_names (entry name value rest)) (field_names fields)
    → NamesListed (is_open openness) (entry_names rest) (field_names fields)
listed_rest OpenAttributes name value rest fields listed = tt
listed_rest ClosedAttributes name value rest fields listed = λ n among. listed n (Contains-cons name (entry_names rest) n (inr among))

-- what is found among the other values of a record is found in it
found_later : (name : Text) (value : Tree) (rest : Entries) → AreEntries (entry name value rest) → (n : Text) (v : Tree)
    → entry_at n rest ≡ Some v → entry_at n (entry name value rest) ≡ Some v
found_later name value rest real n v found =
    entry_there n name value rest (λ same. real.3 (subst (Contains (entry_names rest)) same (entry_named n rest v found))) ∙ found

mutual
  -- where the ids in a type are kept, what its values name is
  pub names_kept : (Old New : PlainUid → Type 0) (calls : PlainName → Trees → PlainName → Type 0) (value : Tree) (ty : Ty)
      → KeepsIds Old New ty → IsValue value → HasBy calls value ty → NamesOnly Old value → NamesOnly New value
  names_kept Old New calls (truth_value value) ty keeps real has old = tt
  names_kept Old New calls (number_value value) ty keeps real has old = tt
  names_kept Old New calls (text_value value) ty keeps real has old = tt
  names_kept Old New calls (call_value function args) ty keeps real has old = tt
  names_kept Old New calls (uid_value uid) any_entity keeps real has old = keeps uid real old
  names_kept Old New calls (uid_value uid) (union_of names) keeps real has old = keeps uid.ty has uid real (refl, old)
  names_kept Old New calls (uid_value uid) ty keeps real has old = elim has [ ]
  names_kept Old New calls (set_value values) any_set keeps real has old = each_all_kept Old New values keeps real old
  names_kept Old New calls (set_value values) (set_of ty) keeps real has old = each_kept Old New calls values ty keeps real has old
  names_kept Old New calls (set_value values) ty keeps real has old = elim has [ ]
  names_kept Old New calls (map_value values) (record_of fields openness) keeps real has old =
      entries_kept Old New calls values values fields openness keeps.0 keeps.1 real has.0 (λ n v found. found) has.1 old
  names_kept Old New calls (map_value values) ty keeps real has old = elim has [ ]

  each_kept : (Old New : PlainUid → Type 0) (calls : PlainName → Trees → PlainName → Type 0) (values : Trees) (ty : Ty)
      → KeepsIds Old New ty → AreValues values → EachTree (λ value. HasBy calls value ty) values → EachNamesOnly Old values
      → EachNamesOnly New values
  each_kept Old New calls no_tree ty keeps real has old = tt
  each_kept Old New calls (tree first rest) ty keeps real has old =
      (names_kept Old New calls first ty keeps real.0 has.0 old.0, each_kept Old New calls rest ty keeps real.1 has.1 old.1)

  entries_kept : (Old New : PlainUid → Type 0) (calls : PlainName → Trees → PlainName → Type 0) (part whole : Entries) (fields : Fields)
      (openness : OpenTag) → FieldsKeepIds Old New fields → (openness ≡ OpenAttributes → KeepsUids Old New) → AreEntries part
      → NamesListed (is_open openness) (entry_names part) (field_names fields)
      → ((n : Text) (v : Tree) → entry_at n part ≡ Some v → entry_at n whole ≡ Some v) → HasFieldsBy calls whole fields
      → EntriesNameOnly Old part → EntriesNameOnly New part
  entries_kept Old New calls no_entry whole fields openness keeps open_keeps real listed within has old = tt
  entries_kept Old New calls (entry name value rest) whole fields openness keeps open_keeps real listed within has old = (
    elim (decide_among decide_texts (field_names fields) name) [
      | inl among ↦
          let own = HasField-named fields name among in
          let fits = HasFieldsBy-of calls whole fields name own.0 own.1 has own.2 in
          let found = within name value (entry_here name name value rest refl) in
          names_kept Old New calls value own.1 (FieldsKeepIds-of Old New fields name own.0 own.1 keeps own.2) real.1
          (some_fits (λ v. HasBy calls v own.1) own.0 (entry_at name whole) value found fits) old.0
      | inr absent ↦ all_kept Old New value (open_keeps (opened openness name value rest fields listed absent)) real.1 old.0
    ],
    entries_kept Old New calls rest whole fields openness keeps open_keeps real.2 (listed_rest openness name value rest fields listed)
        (λ n v found. within n v (found_later name value rest real n v found)) has old.1,
  )

-- where the parts of two types say so, each value of the one is kept
pub kept_by_parts : (extensions : Extensions) (Old New : PlainUid → Type 0) (lower upper : Ty) → KeptByParts Old New lower upper
    → ValuesKept extensions Old New lower upper
kept_by_parts extensions Old New lower upper parts value real has old = (
  HasBy-included (Gives extensions) value lower upper has parts.values,
  names_kept Old New (Gives extensions) value lower parts.ids real has old,
)
