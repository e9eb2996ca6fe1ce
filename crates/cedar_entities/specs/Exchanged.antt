-- Values whose uids are exchanged for others.
use Rattle.std.specs.Prelude.{◌≡◌, ◌⊎◌}
use Rattle.cedar_ast.specs.Words.{Entries, PlainUid, Tree, Trees, call_value, entry, map_value, no_entry, no_tree, number_value, set_value, text_value, tree, truth_value, uid_value}

abbrev mutual
  -- a value is another but for uids, at any depth of sets and records, which are related in turn
  pub IsExchanged : (PlainUid → PlainUid → Type 0) → Tree → Tree → Type 0
  IsExchanged R (uid_value uid) (uid_value other) = R uid other
  IsExchanged R (set_value values) (set_value others) = AreExchanged R values others
  IsExchanged R (map_value values) (map_value others) = EntriesAreExchanged R values others
  IsExchanged R (truth_value value) other = other ≡ truth_value value
  IsExchanged R (number_value value) other = other ≡ number_value value
  IsExchanged R (text_value value) other = other ≡ text_value value
  IsExchanged R (call_value function args) other = other ≡ call_value function args
  IsExchanged R _ _ = ⊥

  -- the same of some values in turn
  pub AreExchanged : (PlainUid → PlainUid → Type 0) → Trees → Trees → Type 0
  AreExchanged R no_tree no_tree = Unit {0}
  AreExchanged R (tree first rest) (tree other others) =
      IsExchanged R first other × AreExchanged R rest others
  AreExchanged R _ _ = ⊥

  -- the same of the values of a record, under the same names
  pub EntriesAreExchanged : (PlainUid → PlainUid → Type 0) → Entries → Entries → Type 0
  EntriesAreExchanged R no_entry no_entry = Unit {0}
  EntriesAreExchanged R (entry name value rest) (entry other_name other others) =
      (other_name ≡ name) × IsExchanged R value other × EntriesAreExchanged R rest others
  EntriesAreExchanged R _ _ = ⊥

abbrev mutual
  -- a fact holds of some uid in a value, at any depth of its sets and records
  pub NamesSome : (PlainUid → Type 0) → Tree → Type 0
  NamesSome Is (uid_value uid) = Is uid
  NamesSome Is (set_value values) = SomeNamesSome Is values
  NamesSome Is (map_value values) = SomeEntryNamesSome Is values
  NamesSome Is (truth_value value) = ⊥
  NamesSome Is (number_value value) = ⊥
  NamesSome Is (text_value value) = ⊥
  NamesSome Is (call_value function args) = ⊥

  -- it holds of some uid in some of these values
  pub SomeNamesSome : (PlainUid → Type 0) → Trees → Type 0
  SomeNamesSome Is no_tree = ⊥
  SomeNamesSome Is (tree first rest) = NamesSome Is first ⊎ SomeNamesSome Is rest

  -- it holds of some uid in some value of a record
  pub SomeEntryNamesSome : (PlainUid → Type 0) → Entries → Type 0
  SomeEntryNamesSome Is no_entry = ⊥
  SomeEntryNamesSome Is (entry name value rest) =
      NamesSome Is value ⊎ SomeEntryNamesSome Is rest
