-- Values whose uids are exchanged.
use Rattle.std.proofs.Common.{◌≡◌, inl, inr, refl, sym, ap, subst, Bool, true, false, ◌∷◌, Option, Some, None, Contains, if◌then◌else◌}
use Rattle.std.specs.Str.{bytes_eq}
use Rattle.cedar_entities.specs.Words.{AreEntries, AreExchanged, AreValues, EachNamesOnly, Entries, EntriesAreExchanged, EntriesNameOnly, Fields, FieldsHaveUids, HasBy, HasFieldsBy, HasUidOf, HasUidsIn, HoldsOfBoth, IsExchanged, IsValue, MentionsEntity, FieldsMentionEntity, NamesOnly, NamesSome, PlainName, PlainUid, SomeEntryNamesSome, SomeNamesSome, Text, Tree, Trees, Ty, any_entity, any_set, call_value, end, entry, entry_at, entry_names, extension_of, field, long, map_value, never, no_entry, no_tree, number_value, record_of, set_of, set_value, text, text_value, tree, truth, truth_value, uid_value, union_of}
use Rattle.cedar_type_rules.specs.Words.{EachTree, EntryFits, NamesListed, field_names, is_open}

module _ (R : PlainUid → PlainUid → Type 0) where
  -- the names of a record stay
  pub names_exchanged : (values others : Entries) → EntriesAreExchanged R values others → entry_names others ≡ entry_names values
  names_exchanged no_entry no_entry are = refl
  names_exchanged no_entry (entry name value rest) are = elim are [ ]
  names_exchanged (entry name value rest) no_entry are = elim are [ ]
  names_exchanged (entry name value rest) (entry other_name other others) are =
      λ i. are.0 i ∷ names_exchanged rest others are.2 i

  -- a choice of two values that are exchanged is exchanged
  chosen_exchanged : (b : Bool) (value other : Tree) (found others : Option Tree) → IsExchanged R value other
      → HoldsOfBoth (IsExchanged R) found others
      → HoldsOfBoth (IsExchanged R) (if b then Some value else found) (if b then Some other else others)
  chosen_exchanged true value other found others here later = here
  chosen_exchanged false value other found others here later = later

  -- what is found at a name is exchanged
  pub found_exchanged : (name : Text) (values others : Entries) → EntriesAreExchanged R values others
      → HoldsOfBoth (IsExchanged R) (entry_at name values) (entry_at name others)
  found_exchanged name no_entry no_entry are = tt
  found_exchanged name no_entry (entry other_name other others) are = elim are [ ]
  found_exchanged name (entry first value rest) no_entry are = elim are [ ]
  found_exchanged name (entry first value rest) (entry other_name other others) are =
      let here = chosen_exchanged (bytes_eq name first) value other (entry_at name rest) (entry_at name others) are.1
      (found_exchanged name rest others are.2) in
      subst (λ n. HoldsOfBoth (IsExchanged R) (if bytes_eq name first then Some value else entry_at name rest)
      (if bytes_eq name n then Some other else entry_at name others)) (sym are.0) here

  -- what fits at a name still does
  fits_exchanged : (P Q : Tree → Type 0) (required : Bool) (found others : Option Tree)
      → ((value other : Tree) → IsExchanged R value other → P value → Q other) → HoldsOfBoth (IsExchanged R) found others
      → EntryFits P required found → EntryFits Q required others
  fits_exchanged P Q required None None moves both fits = fits
  fits_exchanged P Q required None (Some other) moves both fits = elim both [ ]
  fits_exchanged P Q required (Some value) None moves both fits = elim both [ ]
  fits_exchanged P Q required (Some value) (Some other) moves both fits = moves value other both fits

  each_exchanged : (P Q : Tree → Type 0) (values others : Trees) → ((value other : Tree) → IsExchanged R value other → P value → Q other)
      → AreExchanged R values others → EachTree P values → EachTree Q others
  each_exchanged P Q no_tree no_tree moves are each = tt
  each_exchanged P Q no_tree (tree first rest) moves are each = elim are [ ]
  each_exchanged P Q (tree first rest) no_tree moves are each = elim are [ ]
  each_exchanged P Q (tree first rest) (tree other others) moves are each =
      (moves first other are.0 each.0, each_exchanged P Q rest others moves are.1 each.1)

  abbrev mutual
    -- each union in a type that has the type of a uid has that of the one that stands for it
    pub Moves : Ty → Type 0
    Moves (union_of names) = (uid other : PlainUid) → R uid other → Contains names uid.ty → Contains names other.ty
    Moves (set_of ty) = Moves ty
    Moves (record_of fields openness) = FieldsMove fields
    Moves _ = Unit {0}

    pub FieldsMove : Fields → Type 0
    FieldsMove end = Unit {0}
    FieldsMove (field name required ty rest) = Moves ty × FieldsMove rest

  mutual
    -- then what has the type still has it
    pub has_exchanged : (calls : PlainName → Trees → PlainName → Type 0) (ty : Ty) (value other : Tree) → Moves ty
        → IsExchanged R value other → HasBy calls value ty → HasBy calls other ty
    has_exchanged calls ty (truth_value value) other moves is has = subst (λ v. HasBy calls v ty) (sym is) has
    has_exchanged calls ty (number_value value) other moves is has = subst (λ v. HasBy calls v ty) (sym is) has
    has_exchanged calls ty (text_value value) other moves is has = subst (λ v. HasBy calls v ty) (sym is) has
    has_exchanged calls ty (call_value function args) other moves is has = subst (λ v. HasBy calls v ty) (sym is) has
    has_exchanged calls any_entity (uid_value uid) (uid_value other) moves is has = tt
    has_exchanged calls (union_of names) (uid_value uid) (uid_value other) moves is has = moves uid other is has
    has_exchanged calls ty (uid_value uid) (uid_value other) moves is has = elim has [ ]
    has_exchanged calls ty (uid_value uid) other moves is has = elim is [ ]
    has_exchanged calls any_set (set_value values) (set_value others) moves is has = tt
    has_exchanged calls (set_of ty) (set_value values) (set_value others) moves is has =
        each_exchanged (λ v. HasBy calls v ty) (λ v. HasBy calls v ty) values others
        (λ value other one had. has_exchanged calls ty value other moves one had) is has
    has_exchanged calls ty (set_value values) (set_value others) moves is has = elim has [ ]
    has_exchanged calls ty (set_value values) other moves is has = elim is [ ]
    has_exchanged calls (record_of fields openness) (map_value values) (map_value others) moves is has = (
      subst (λ names. NamesListed (is_open openness) names (field_names fields)) (sym (names_exchanged values others is)) has.0,
      fields_exchanged calls fields values others moves is has.1,
    )
    has_exchanged calls ty (map_value values) (map_value others) moves is has = elim has [ ]
    has_exchanged calls ty (map_value values) other moves is has = elim is [ ]

    fields_exchanged : (calls : PlainName → Trees → PlainName → Type 0) (fields : Fields) (values others : Entries) → FieldsMove fields
        → EntriesAreExchanged R values others → HasFieldsBy calls values fields → HasFieldsBy calls others fields
    fields_exchanged calls end values others moves are has = tt
    fields_exchanged calls (field name required ty rest) values others moves are has = (
      fits_exchanged (λ v. HasBy calls v ty) (λ v. HasBy calls v ty) required (entry_at name values) (entry_at name others)
          (λ value other one had. has_exchanged calls ty value other moves.0 one had) (found_exchanged name values others are) has.0,
      fields_exchanged calls rest values others moves.1 are has.1,
    )

  mutual
    -- real values are exchanged for real ones
    pub real_exchanged : (value other : Tree) → ((uid it : PlainUid) → R uid it → IsValue (uid_value it)) → IsExchanged R value other
        → IsValue value → IsValue other
    real_exchanged (truth_value value) other to_real is real = subst IsValue (sym is) real
    real_exchanged (number_value value) other to_real is real = subst IsValue (sym is) real
    real_exchanged (text_value value) other to_real is real = subst IsValue (sym is) real
    real_exchanged (call_value function args) other to_real is real = subst IsValue (sym is) real
    real_exchanged (uid_value uid) (uid_value other) to_real is real = to_real uid other is
    real_exchanged (uid_value uid) other to_real is real = elim is [ ]
    real_exchanged (set_value values) (set_value others) to_real is real = each_real values others to_real is real
    real_exchanged (set_value values) other to_real is real = elim is [ ]
    real_exchanged (map_value values) (map_value others) to_real is real = entries_real values others to_real is real
    real_exchanged (map_value values) other to_real is real = elim is [ ]

    each_real : (values others : Trees) → ((uid it : PlainUid) → R uid it → IsValue (uid_value it)) → AreExchanged R values others
        → AreValues values → AreValues others
    each_real no_tree no_tree to_real are real = tt
    each_real no_tree (tree first rest) to_real are real = elim are [ ]
    each_real (tree first rest) no_tree to_real are real = elim are [ ]
    each_real (tree first rest) (tree other others) to_real are real =
        (real_exchanged first other to_real are.0 real.0, each_real rest others to_real are.1 real.1)

    pub entries_real : (values others : Entries) → ((uid it : PlainUid) → R uid it → IsValue (uid_value it)) → EntriesAreExchanged R values others
        → AreEntries values → AreEntries others
    entries_real no_entry no_entry to_real are real = tt
    entries_real no_entry (entry name value rest) to_real are real = elim are [ ]
    entries_real (entry name value rest) no_entry to_real are real = elim are [ ]
    entries_real (entry name value rest) (entry other_name other others) to_real are real = (
      rw are.0 real.0,
      real_exchanged value other to_real are.1 real.1,
      entries_real rest others to_real are.2 real.2,
      rw (are.0, names_exchanged rest others are.2) real.3,
    )

  mutual
    -- what stands for uids is all that is named then
    pub only_exchanged : (Is : PlainUid → Type 0) (value other : Tree) → ((uid it : PlainUid) → R uid it → Is it) → IsExchanged R value other
        → NamesOnly Is other
    only_exchanged Is (truth_value value) other gives is = subst (NamesOnly Is) (sym is) tt
    only_exchanged Is (number_value value) other gives is = subst (NamesOnly Is) (sym is) tt
    only_exchanged Is (text_value value) other gives is = subst (NamesOnly Is) (sym is) tt
    only_exchanged Is (call_value function args) other gives is = subst (NamesOnly Is) (sym is) tt
    only_exchanged Is (uid_value uid) (uid_value other) gives is = gives uid other is
    only_exchanged Is (uid_value uid) other gives is = elim is [ ]
    only_exchanged Is (set_value values) (set_value others) gives is = each_only Is values others gives is
    only_exchanged Is (set_value values) other gives is = elim is [ ]
    only_exchanged Is (map_value values) (map_value others) gives is = entries_only Is values others gives is
    only_exchanged Is (map_value values) other gives is = elim is [ ]

    each_only : (Is : PlainUid → Type 0) (values others : Trees) → ((uid it : PlainUid) → R uid it → Is it) → AreExchanged R values others
        → EachNamesOnly Is others
    each_only Is no_tree no_tree gives are = tt
    each_only Is no_tree (tree first rest) gives are = elim are [ ]
    each_only Is (tree first rest) no_tree gives are = elim are [ ]
    each_only Is (tree first rest) (tree other others) gives are =
        (only_exchanged Is first other gives are.0, each_only Is rest others gives are.1)

    pub entries_only : (Is : PlainUid → Type 0) (values others : Entries) → ((uid it : PlainUid) → R uid it → Is it)
        → EntriesAreExchanged R values others → EntriesNameOnly Is others
    entries_only Is no_entry no_entry gives are = tt
    entries_only Is no_entry (entry name value rest) gives are = elim are [ ]
    entries_only Is (entry name value rest) no_entry gives are = elim are [ ]
    entries_only Is (entry name value rest) (entry other_name other others) gives are =
        (only_exchanged Is value other gives are.1, entries_only Is rest others gives are.2)

  mutual
    -- a uid that is named and stands for itself is named then
    pub some_exchanged : (Is : PlainUid → Type 0) (value other : Tree) → ((uid it : PlainUid) → R uid it → Is uid → Is it)
        → IsExchanged R value other → NamesSome Is value → NamesSome Is other
    some_exchanged Is (truth_value value) other stays is some = elim some [ ]
    some_exchanged Is (number_value value) other stays is some = elim some [ ]
    some_exchanged Is (text_value value) other stays is some = elim some [ ]
    some_exchanged Is (call_value function args) other stays is some = elim some [ ]
    some_exchanged Is (uid_value uid) (uid_value other) stays is some = stays uid other is some
    some_exchanged Is (uid_value uid) other stays is some = elim is [ ]
    some_exchanged Is (set_value values) (set_value others) stays is some = each_some Is values others stays is some
    some_exchanged Is (set_value values) other stays is some = elim is [ ]
    some_exchanged Is (map_value values) (map_value others) stays is some = entries_some Is values others stays is some
    some_exchanged Is (map_value values) other stays is some = elim is [ ]

    each_some : (Is : PlainUid → Type 0) (values others : Trees) → ((uid it : PlainUid) → R uid it → Is uid → Is it)
        → AreExchanged R values others → SomeNamesSome Is values → SomeNamesSome Is others
    each_some Is no_tree others stays are some = elim some [ ]
    each_some Is (tree first rest) no_tree stays are some = elim are [ ]
    each_some Is (tree first rest) (tree other others) stays are (inl here) = inl (some_exchanged Is first other stays are.0 here)
    each_some Is (tree first rest) (tree other others) stays are (inr later) = inr (each_some Is rest others stays are.1 later)

    entries_some : (Is : PlainUid → Type 0) (values others : Entries) → ((uid it : PlainUid) → R uid it → Is uid → Is it)
        → EntriesAreExchanged R values others → SomeEntryNamesSome Is values → SomeEntryNamesSome Is others
    entries_some Is no_entry others stays are some = elim some [ ]
    entries_some Is (entry name value rest) no_entry stays are some = elim are [ ]
    entries_some Is (entry name value rest) (entry other_name other others) stays are (inl here) =
        inl (some_exchanged Is value other stays are.1 here)
    entries_some Is (entry name value rest) (entry other_name other others) stays are (inr later) =
        inr (entries_some Is rest others stays are.2 later)

  mutual
    -- a value whose uids all stand for themselves stays
    pub same_exchanged : (Is : PlainUid → Type 0) (value other : Tree) → ((uid it : PlainUid) → R uid it → Is uid → it ≡ uid)
        → IsExchanged R value other → NamesOnly Is value → other ≡ value
    same_exchanged Is (truth_value value) other stays is only = is
    same_exchanged Is (number_value value) other stays is only = is
    same_exchanged Is (text_value value) other stays is only = is
    same_exchanged Is (call_value function args) other stays is only = is
    same_exchanged Is (uid_value uid) (uid_value other) stays is only = ap uid_value (stays uid other is only)
    same_exchanged Is (uid_value uid) other stays is only = elim is [ ]
    same_exchanged Is (set_value values) (set_value others) stays is only = ap set_value (each_same Is values others stays is only)
    same_exchanged Is (set_value values) other stays is only = elim is [ ]
    same_exchanged Is (map_value values) (map_value others) stays is only = ap map_value (entries_same Is values others stays is only)
    same_exchanged Is (map_value values) other stays is only = elim is [ ]

    each_same : (Is : PlainUid → Type 0) (values others : Trees) → ((uid it : PlainUid) → R uid it → Is uid → it ≡ uid)
        → AreExchanged R values others → EachNamesOnly Is values → others ≡ values
    each_same Is no_tree no_tree stays are only = refl
    each_same Is no_tree (tree first rest) stays are only = elim are [ ]
    each_same Is (tree first rest) no_tree stays are only = elim are [ ]
    each_same Is (tree first rest) (tree other others) stays are only =
        λ i. tree (same_exchanged Is first other stays are.0 only.0 i) (each_same Is rest others stays are.1 only.1 i)

    entries_same : (Is : PlainUid → Type 0) (values others : Entries) → ((uid it : PlainUid) → R uid it → Is uid → it ≡ uid)
        → EntriesAreExchanged R values others → EntriesNameOnly Is values → others ≡ values
    entries_same Is no_entry no_entry stays are only = refl
    entries_same Is no_entry (entry name value rest) stays are only = elim are [ ]
    entries_same Is (entry name value rest) no_entry stays are only = elim are [ ]
    entries_same Is (entry name value rest) (entry other_name other others) stays are only =
        λ i. entry (are.0 i) (same_exchanged Is value other stays are.1 only.0 i) (entries_same Is rest others stays are.2 only.1 i)

  mutual
    -- where for each uid there is one that stands for it, a value can be exchanged
    pub exchanged : (value : Tree) → ((uid : PlainUid) → (it : PlainUid) × R uid it) → (other : Tree) × IsExchanged R value other
    exchanged (truth_value value) gives = (truth_value value, refl)
    exchanged (number_value value) gives = (number_value value, refl)
    exchanged (text_value value) gives = (text_value value, refl)
    exchanged (call_value function args) gives = (call_value function args, refl)
    exchanged (uid_value uid) gives = (uid_value (gives uid).0, (gives uid).1)
    exchanged (set_value values) gives = (let others = each_given values gives in (set_value others.0, others.1))
    exchanged (map_value values) gives = (let others = entries_given values gives in (map_value others.0, others.1))

    each_given : (values : Trees) → ((uid : PlainUid) → (it : PlainUid) × R uid it) → (others : Trees) × AreExchanged R values others
    each_given no_tree gives = (no_tree, tt)
    each_given (tree first rest) gives =
        (let other = exchanged first gives in let others = each_given rest gives in (tree other.0 others.0, (other.1, others.1)))

    pub entries_given : (values : Entries) → ((uid : PlainUid) → (it : PlainUid) × R uid it)
        → (others : Entries) × EntriesAreExchanged R values others
    entries_given no_entry gives = (no_entry, tt)
    entries_given (entry name value rest) gives =
        (let other = exchanged value gives in let others = entries_given rest gives in (entry name other.0 others.0, (refl, other.1, others.1)))

mutual
  -- what is exchanged one way is exchanged the other way
  pub turned : (R S : PlainUid → PlainUid → Type 0) (value other : Tree) → ((uid it : PlainUid) → R uid it → S it uid)
      → IsExchanged R value other → IsExchanged S other value
  turned R S (truth_value value) other turns is = subst (λ v. IsExchanged S v (truth_value value)) (sym is) refl
  turned R S (number_value value) other turns is = subst (λ v. IsExchanged S v (number_value value)) (sym is) refl
  turned R S (text_value value) other turns is = subst (λ v. IsExchanged S v (text_value value)) (sym is) refl
  turned R S (call_value function args) other turns is = subst (λ v. IsExchanged S v (call_value function args)) (sym is) refl
  turned R S (uid_value uid) (uid_value other) turns is = turns uid other is
  turned R S (uid_value uid) other turns is = elim is [ ]
  turned R S (set_value values) (set_value others) turns is = each_turned R S values others turns is
  turned R S (set_value values) other turns is = elim is [ ]
  turned R S (map_value values) (map_value others) turns is = entries_turned R S values others turns is
  turned R S (map_value values) other turns is = elim is [ ]

  each_turned : (R S : PlainUid → PlainUid → Type 0) (values others : Trees) → ((uid it : PlainUid) → R uid it → S it uid)
      → AreExchanged R values others → AreExchanged S others values
  each_turned R S no_tree no_tree turns are = tt
  each_turned R S no_tree (tree first rest) turns are = elim are [ ]
  each_turned R S (tree first rest) no_tree turns are = elim are [ ]
  each_turned R S (tree first rest) (tree other others) turns are =
      (turned R S first other turns are.0, each_turned R S rest others turns are.1)

  entries_turned : (R S : PlainUid → PlainUid → Type 0) (values others : Entries) → ((uid it : PlainUid) → R uid it → S it uid)
      → EntriesAreExchanged R values others → EntriesAreExchanged S others values
  entries_turned R S no_entry no_entry turns are = tt
  entries_turned R S no_entry (entry name value rest) turns are = elim are [ ]
  entries_turned R S (entry name value rest) no_entry turns are = elim are [ ]
  entries_turned R S (entry name value rest) (entry other_name other others) turns are =
      (sym are.0, turned R S value other turns are.1, entries_turned R S rest others turns are.2)

module _ (R : PlainUid → PlainUid → Type 0) (whole : Ty)
    (stays : (uid it : PlainUid) → R uid it → MentionsEntity whole uid.ty → it.ty ≡ uid.ty) where
  mutual
    -- where uids of the entity types that a type mentions stand for such of the same, its unions have
    -- them still
    pub moves_within : (ty : Ty) → ((name : PlainName) → MentionsEntity ty name → MentionsEntity whole name) → Moves R ty
    moves_within (union_of names) within =
        λ uid other stands among. subst (Contains names) (sym (stays uid other stands (within uid.ty among))) among
    moves_within (set_of ty) within = moves_within ty within
    moves_within (record_of fields openness) within = fields_move_within fields within
    moves_within never within = tt
    moves_within (truth known) within = tt
    moves_within long within = tt
    moves_within text within = tt
    moves_within any_entity within = tt
    moves_within any_set within = tt
    moves_within (extension_of name) within = tt

    fields_move_within : (fields : Fields) → ((name : PlainName) → FieldsMentionEntity fields name → MentionsEntity whole name)
        → FieldsMove R fields
    fields_move_within end within = tt
    fields_move_within (field name required ty rest) within =
        (moves_within ty (λ n here. within n (inl here)), fields_move_within rest (λ n later. within n (inr later)))

-- where of each entity type that a type names there is a uid, there is one of those that it mentions
mutual
  pub uid_mentioned : (Is : PlainUid → Type 0) (ty : Ty) (name : PlainName) → HasUidsIn Is ty → MentionsEntity ty name → HasUidOf Is name
  uid_mentioned Is (union_of names) name has mentions = has name mentions
  uid_mentioned Is (set_of ty) name has mentions = uid_mentioned Is ty name has mentions
  uid_mentioned Is (record_of fields openness) name has mentions = uid_mentioned_of Is fields name has mentions
  uid_mentioned Is ty name has mentions = elim mentions [ ]

  uid_mentioned_of : (Is : PlainUid → Type 0) (fields : Fields) (name : PlainName) → FieldsHaveUids Is fields → FieldsMentionEntity fields name
      → HasUidOf Is name
  uid_mentioned_of Is end name has mentions = elim mentions [ ]
  uid_mentioned_of Is (field first required ty rest) name has (inl here) = uid_mentioned Is ty name has.0 here
  uid_mentioned_of Is (field first required ty rest) name has (inr later) = uid_mentioned_of Is rest name has.1 later
