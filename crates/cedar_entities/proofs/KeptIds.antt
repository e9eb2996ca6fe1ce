-- Values that are kept keep the ids that they may name.
use Rattle.std.proofs.Common.{◌≡◌, ◌⊎◌, inl, inr, refl, sym, subst, ◌∙◌, Bool, [], Option, Some, None, Contains}
use Rattle.cedar_ast.proofs.Inclusion.{Included-cons}
use Rattle.cedar_entities.proofs.ExchangeLemmas.{entries_given, entries_only, entries_real, exchanged, found_exchanged, has_exchanged, moves_within, names_exchanged, only_exchanged, real_exchanged, turned}
use Rattle.cedar_entities.specs.Words.{Entries, Extensions, Fields, FieldsKeepIds, FieldsMentionEntity, Has, HoldsOfBoth, Included, IsExchanged, IsInhabited, IsText, IsValue, IsWellFormed, KeepsIds, MentionsEntity, NamesOnly, OpenTag, PlainName, PlainUid, Text, Tree, Ty, ValuesIncluded, ValuesKept, any_entity, any_set, end, entry, entry_at, entry_names, extension_of, field, long, map_value, never, no_tree, record_of, set_of, set_value, text, tree, truth, uid_value, union_of}
use Rattle.cedar_type_rules.proofs.AgreeLaws.{HasField-once}
use Rattle.cedar_type_rules.proofs.RecordAnswers.{decide_texts}
use Rattle.cedar_type_rules.proofs.SampleValues.{HasFields-from, entry_here, entry_there, fits_some, fresh_text, only_listed, sample}
use Rattle.cedar_type_rules.proofs.SubtypeLaws.{FieldsWithin, HasField-name}
use Rattle.cedar_type_rules.specs.Words.{AreInhabited, AreTexts, AreWellFormed, Gives, HasField, IsSortedByName, NamesListed, field_names, is_open}

-- the type of an attribute mentions what the record does
pub mentioned_of : (fields : Fields) (name : Text) (required : Bool) (ty : Ty) (n : PlainName) → HasField fields name required ty
    → MentionsEntity ty n → FieldsMentionEntity fields n
mentioned_of end name required ty n has mentions = absurd has
mentioned_of (field other flag of rest) name required ty n (inl same) mentions =
    inl (subst (λ t. MentionsEntity t n) (sym same.2) mentions)
mentioned_of (field other flag of rest) name required ty n (inr there) mentions = inr (mentioned_of rest name required ty n there mentions)

-- of what is found at a name there is what it is exchanged for
found_other : (R : PlainUid → PlainUid → Type 0) (value : Tree) (found others : Option Tree) → found ≡ Some value
    → HoldsOfBoth (IsExchanged R) found others → (other : Tree) × (others ≡ Some other) × IsExchanged R value other
found_other R value None others is both = absurd cc
found_other R value (Some it) None is both = elim both [ ]
found_other R value (Some it) (Some other) is both =
    let same : it ≡ value = cc in (other, refl, subst (λ v. IsExchanged R v other) same both)

module _ (extensions : Extensions) (Old New : PlainUid → Type 0) (R : PlainUid → PlainUid → Type 0)
    (gives : (uid : PlainUid) → (it : PlainUid) × R uid it) (known : (uid it : PlainUid) → R uid it → Old it)
    (real_ones : (uid it : PlainUid) → R uid it → IsValue (uid_value it)) (whole : Ty)
    (stays : (uid it : PlainUid) → R uid it → MentionsEntity whole uid.ty → it.ty ≡ uid.ty) where
  -- what values of a type name is kept, where all that they name is old
  abbrev pub KeptOf : Ty → Type 0
  KeptOf ty = (value : Tree) → IsValue value → Has extensions value ty → NamesOnly Old value → NamesOnly New value

  -- the names that a type mentions are mentioned in the whole
  abbrev pub IsPart : Ty → Type 0
  IsPart ty = (name : PlainName) → MentionsEntity ty name → MentionsEntity whole name

  module _ (fields : Fields) (openness : OpenTag) (sorted_by_name : IsSortedByName fields) (formed : AreWellFormed fields)
      (texts : AreTexts (field_names fields)) (lives : AreInhabited extensions fields)
      (part : (name : PlainName) → FieldsMentionEntity fields name → MentionsEntity whole name)
      (kept : KeptOf (record_of fields openness)) where
    -- a value under one name of a record keeps what it names
    kept_beside : (name : Text) (value : Tree) → IsText name → IsValue value
        → ((required : Bool) (ty : Ty) → HasField fields name required ty → Has extensions value ty)
        → ((others : Entries) → Included (entry_names others) (field_names fields)
        → NamesListed (is_open openness) (entry_names (entry name value others)) (field_names fields))
        → NamesOnly Old value → NamesOnly New value
    kept_beside name value named real fits listed old =
        let it = sample extensions fields name sorted_by_name formed texts lives in
        let given = entries_given R it.values gives in
        let others = given.0 in
        let names = names_exchanged R it.values others given.1 in
        let all = entry name value others in
        let has : Has extensions (map_value all) (record_of fields openness) = (
          listed others (rw names it.listed),
          HasFields-from (Gives extensions) all fields (λ m r t there. elim (decide_texts m name) [
            | inl same ↦
                fits_some (λ v. Has extensions v t) r (entry_at m all) value (entry_here m name value others same)
                (fits r t (subst (λ n. HasField fields n r t) same there))
            | inr differ ↦
                let found = it.has m r t there differ in
                let other = found_other R found.0 (entry_at m it.values) (entry_at m others) found.1
                (found_exchanged R m it.values others given.1) in
                fits_some (λ v. Has extensions v t) r (entry_at m all) other.0 (entry_there m name value others differ ∙ other.1)
                (has_exchanged R (Gives extensions) t found.0 other.0
                (moves_within R whole stays t (λ n mentions. part n (mentioned_of fields m r t n there mentions))) other.2 found.2)
          ]),
        ) in
        let all_real : IsValue (map_value all) =
        (named, real, entries_real R it.values others real_ones given.1 it.valid, rw names it.absent) in
        (kept (map_value all) all_real has (old, entries_only R Old it.values others known given.1)).0

    -- so does the value of an attribute
    attribute_kept : (name : Text) (required : Bool) (ty : Ty) → HasField fields name required ty → KeptOf ty
    attribute_kept name required ty there value real has old =
        let among = HasField-name fields name required ty there in
        kept_beside name value (texts name among) real
        (λ r t also. subst (Has extensions value) (HasField-once fields name required r ty t sorted_by_name there also).1 has)
        (λ others listed. only_listed openness (entry name value others) fields
        (Included-cons name (entry_names others) (field_names fields) among listed)) old

  mutual
    -- so where the values of a type are kept, the ids that they may name are
    pub ids_kept : (ty : Ty) → IsWellFormed ty → IsInhabited extensions ty → IsPart ty → KeptOf ty → KeepsIds Old New ty
    ids_kept any_entity formed lives part kept = λ uid real old. kept (uid_value uid) real tt old
    ids_kept (union_of names) formed lives part kept =
        λ name among uid real both. kept (uid_value uid) real (subst (Contains names) (sym both.0) among) both.1
    ids_kept any_set formed lives part kept =
        λ uid real old. (kept (set_value (tree (uid_value uid) no_tree)) (real, tt) tt (old, tt)).0
    ids_kept (set_of ty) formed lives part kept =
        ids_kept ty formed lives part
        (λ value real has old. (kept (set_value (tree value no_tree)) (real, tt) (has, tt) (old, tt)).0)
    ids_kept (record_of fields openness) formed lives part kept = (
      fields_kept fields fields openness formed.0 formed.1 formed.2 lives part kept (λ n r t has. has) formed.1 lives part,
      λ is uid real old. (let fresh = fresh_text (field_names fields) [] in
          kept_beside fields openness formed.0 formed.1 formed.2 lives part kept fresh.0 (uid_value uid) fresh.3 real
          (λ r t has. absurd (fresh.1 (HasField-name fields fresh.0 r t has)))
          (λ others listed. subst (λ (o : OpenTag). NamesListed (is_open o) (entry_names (entry fresh.0 (uid_value uid) others))
          (field_names fields)) (sym is) tt)
          old),
    )
    ids_kept never formed lives part kept = tt
    ids_kept (truth known) formed lives part kept = tt
    ids_kept long formed lives part kept = tt
    ids_kept text formed lives part kept = tt
    ids_kept (extension_of name) formed lives part kept = tt

    fields_kept : (left fields : Fields) (openness : OpenTag) → IsSortedByName fields → AreWellFormed fields
        → AreTexts (field_names fields) → AreInhabited extensions fields
        → ((name : PlainName) → FieldsMentionEntity fields name → MentionsEntity whole name)
        → KeptOf (record_of fields openness) → FieldsWithin left fields → AreWellFormed left → AreInhabited extensions left
        → ((name : PlainName) → FieldsMentionEntity left name → MentionsEntity whole name) → FieldsKeepIds Old New left
    fields_kept end fields openness sorted_by_name formed texts lives part kept within formed' lives' part' = tt
    fields_kept (field name required ty rest) fields openness sorted_by_name formed texts lives part kept within formed' lives' part' = (
      ids_kept ty formed'.0 lives'.0 (λ n mentions. part' n (inl mentions))
          (attribute_kept fields openness sorted_by_name formed texts lives part kept name required ty (within name required ty (inl (refl, refl, refl)))),
      fields_kept rest fields openness sorted_by_name formed texts lives part kept (λ n r t has. within n r t (inr has)) formed'.1 lives'.1
          (λ n mentions. part' n (inr mentions)),
    )

  -- and the values are included whatever they name, where no uid that stands for another has one of
  -- the entity types of the other type but for its own
  pub values_included : (upper : Ty) → ((uid it : PlainUid) → R uid it → (it.ty ≡ uid.ty) ⊎ ¬ MentionsEntity upper it.ty)
      → ValuesKept extensions Old New whole upper → ValuesIncluded extensions whole upper
  values_included upper apart kept value real has =
      let Back : PlainUid → PlainUid → Type 0 = λ it uid. R uid it in
      let it = exchanged R value gives in
      let lower_has = has_exchanged R (Gives extensions) whole value it.0 (moves_within R whole stays whole (λ n mentions. mentions)) it.1 has in
      let whole_real = real_exchanged R value it.0 real_ones it.1 real in
      let upper_has = (kept it.0 whole_real lower_has (only_exchanged R Old value it.0 known it.1)).0 in
      has_exchanged Back (Gives extensions) upper it.0 value
      (moves_within Back upper (λ other uid stands mentions. elim (apart uid other stands) [
        | inl same ↦ sym same
        | inr none ↦ absurd (none mentions)
      ]) upper (λ n mentions. mentions))
      (turned R Back value it.0 (λ uid other stands. stands) it.1) upper_has
