-- What is written of a value describes it.
use Rattle.std.proofs.Common.{◌≡◌, ⊎_elim, [], ◌∷◌, ◌++◌, Bool, true, false, cond, ◌||◌, Some, None, option_map, option_and_then, codes, refl, ap, ap₂, sym, ◌∙◌, append_assoc, append-nil}
use Rattle.std.proofs.lemmas.Bool.{false≢true}
use Rattle.std.specs.BTreeMap.{insert_entry}
use Rattle.std.specs.List.Sorted.{IsStrictlySortedBy}
use Rattle.std.specs.Map.{keys_of}
use Rattle.std.specs.Str.{bytes_eq}
use Rattle.cedar_ast.proofs.Texts.{text_cmp-total}
use Rattle.cedar_json.proofs.NameLemmas.{spelled_name-text, unreserved_by}
use Rattle.cedar_json.proofs.ValueLemmas.{pairs_of-member, pairs_of-none, value_of-record}
use Rattle.cedar_json_writer.proofs.NumberReadBack.{whole_number-back}
use Rattle.cedar_json_writer.proofs.TypeReadBack.{neither}
use Rattle.cedar_json_writer.proofs.WrittenOrder.{both_none, put-last, still_sorted}
use Rattle.cedar_json_writer.specs.Words.{Entries, IsPlain, Pairs, PlainName, PlainUid, SoundEntries, SoundValue, SoundValues, Text, Tree, Trees, call_of, call_value, entries_flaws, entries_from, entry, entry_names, if_unreserved, is_among, is_reserved, key_flaws, lone_key, map_value, name_text, no_entry, no_tree, number_value, pairs_of, plain_name_in, record_of_pairs, set_value, sole_held, text_cmp, text_value, tree, truth_value, uid_by, uid_document, uid_in, uid_value, value_document, value_flaws, value_items, value_keys, value_members, value_of, values_flaws, values_of}

-- the text of a name that isn't reserved spells it
pub plain_name-back : (name : PlainName) → IsPlain name → plain_name_in (name_text name) ≡ Some name
plain_name-back name (ids, unreserved) =
    ap (option_and_then if_unreserved) (spelled_name-text name ids) ∙ unreserved_by name (is_reserved name) refl unreserved

-- what is written of a uid describes it
pub uid_back : (uid : PlainUid) → IsPlain uid.ty → uid_in (uid_document uid) ≡ Some uid
uid_back uid plain = ap (λ ty. uid_by ty (Some uid.eid)) (plain_name-back uid.ty plain)

-- values by text as a list
abbrev pub listed : Entries → Pairs
listed no_entry = []
listed (entry name value rest) = (name, value) ∷ listed rest

pub entries_from-listed : (values : Entries) → entries_from (listed values) ≡ values
entries_from-listed no_entry = refl
entries_from-listed (entry name value rest) = ap (entry name value) (entries_from-listed rest)

-- no record is written as an entity or a call
abbrev NoSole : Entries → Type 0
NoSole values =
    (sole_held (codes "__entity") (value_members values) ≡ None) × (sole_held (codes "__extn") (value_members values) ≡ None)

no_key : (name : Text) (test : Bool) → cond test (lone_key name ∷ []) [] ≡ [] → test ≡ false
no_key name true e = absurd (cc)
no_key name false e = refl

no_sole : (values : Entries) → key_flaws values ≡ [] → NoSole values
unfolding value_document
no_sole no_entry flawless = (refl, refl)
no_sole (entry name value no_entry) flawless =
    let first = neither (bytes_eq name (codes "__entity")) _ (no_key name (is_among name value_keys) flawless) in
    let second = neither (bytes_eq name (codes "__extn")) _ first.1 in
    (ap (λ test. cond test (Some (value_document value)) None) first.0, ap (λ test. cond test (Some (value_document value)) None) second.0)
no_sole (entry name value (entry other it rest)) flawless = (refl, refl)

mutual
  unfolding value_of value_document SoundValue value_flaws IsStrictlySortedBy

  -- what is written of a value describes it
  pub value_back : (value : Tree) → SoundValue value → value_flaws value ≡ [] → value_of (value_document value) ≡ Some value
  value_back (truth_value b) sound flawless = refl
  value_back (number_value z) sound flawless = ap (option_map number_value) (whole_number-back z sound)
  value_back (text_value text) sound flawless = refl
  value_back (uid_value uid) sound flawless = ap (option_map uid_value) (uid_back uid sound)
  value_back (set_value values) sound flawless = ap (option_map set_value) (values_back values sound flawless)
  value_back (map_value values) sound flawless =
      let both = both_none (key_flaws values) (entries_flaws values) flawless in
      let none = no_sole values both.0 in
      value_of-record (value_members values) none.0 none.1
      ∙ ap (option_map record_of_pairs) (entries_back values [] sound.0 sound.1 both.1)
      ∙ ap (λ it. Some (map_value it)) (entries_from-listed values)
  value_back (call_value function (tree value no_tree)) sound flawless =
      let both = both_none (value_flaws value) (values_flaws no_tree) flawless in
      ap₂ call_of (plain_name-back function sound.0) (value_back value sound.1.0 both.0)
  value_back _ sound flawless = absurd (cc)

  values_back : (values : Trees) → SoundValues values → values_flaws values ≡ [] → values_of (value_items values) ≡ Some values
  values_back no_tree sound flawless = refl
  values_back (tree value rest) sound flawless =
      let both = both_none (value_flaws value) (values_flaws rest) flawless in
      ap₂ (λ first others. option_and_then (λ it. option_map (λ more. tree it more) others) first)
      (value_back value sound.0 both.0) (values_back rest sound.1 both.1)

  -- what is written of values by text describes them
  pub entries_back : (values : Entries) (before : Pairs) → IsStrictlySortedBy text_cmp (keys_of before ++ entry_names values)
      → SoundEntries values → entries_flaws values ≡ [] → pairs_of (value_members values) before ≡ Some (before ++ listed values)
  entries_back no_entry before sorted sound flawless = pairs_of-none before ∙ ap Some (sym (append-nil before))
  entries_back (entry name value rest) before sorted sound flawless =
      let both = both_none (value_flaws value) (entries_flaws rest) flawless in
      pairs_of-member name (value_document value) (value_members rest) before
      ∙ ap (option_and_then (λ it. pairs_of (value_members rest) (insert_entry text_cmp before name it))) (value_back value sound.0 both.0)
      ∙ ap (pairs_of (value_members rest)) (put-last text_cmp-total before name value (entry_names rest) sorted)
      ∙ entries_back rest (before ++ (name, value) ∷ []) (still_sorted text_cmp-total before name value (entry_names rest) sorted) sound.1 both.1
      ∙ ap Some (append_assoc before ((name, value) ∷ []) (listed rest))
