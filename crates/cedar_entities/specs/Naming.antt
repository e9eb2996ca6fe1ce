-- What values name.
use Rattle.cedar_ast.specs.Words.{Entries, PlainUid, Tree, Trees, call_value, entry, map_value, no_entry, no_tree, number_value, set_value, text_value, tree, truth_value, uid_value}
use Rattle.cedar_entities.specs.Exists.{Exists}
use Rattle.cedar_schema_semantics.specs.PlainSchema.{PlainSchema}

abbrev mutual
  -- a fact holds of each uid in a value, at any depth of its sets and records; the arguments of
  -- calls aren't looked into
  pub NamesOnly : (PlainUid → Type 0) → Tree → Type 0
  NamesOnly Is (uid_value uid) = Is uid
  NamesOnly Is (set_value values) = EachNamesOnly Is values
  NamesOnly Is (map_value values) = EntriesNameOnly Is values
  NamesOnly Is (truth_value value) = Unit {0}
  NamesOnly Is (number_value value) = Unit {0}
  NamesOnly Is (text_value value) = Unit {0}
  NamesOnly Is (call_value function args) = Unit {0}

  -- it holds of each uid in some values
  pub EachNamesOnly : (PlainUid → Type 0) → Trees → Type 0
  EachNamesOnly Is no_tree = Unit {0}
  EachNamesOnly Is (tree first rest) = NamesOnly Is first × EachNamesOnly Is rest

  -- it holds of each uid in the values of a record
  pub EntriesNameOnly : (PlainUid → Type 0) → Entries → Type 0
  EntriesNameOnly Is no_entry = Unit {0}
  EntriesNameOnly Is (entry name value rest) = NamesOnly Is value × EntriesNameOnly Is rest

-- each uid in a value exists in the schema
abbrev pub NamesWhatExists : PlainSchema → Tree → Type 0
NamesWhatExists schema = NamesOnly (Exists schema)
