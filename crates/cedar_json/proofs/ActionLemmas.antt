-- Fields of actions that may be null, and the values of attributes.
use Rattle.std.proofs.Common.{◌≡◌, List, [], Bool, Option, Some, None, option_and_then, option_map, ap, refl, sym, ◌∙◌}
use Rattle.std.specs.BTreeMap.{insert_entry}
use Rattle.cedar_json.proofs.ValueLemmas.{pairs_of-member, pairs_of-none}
use Rattle.cedar_json.specs.Words.{Pairs, Requests, Tree, WrittenParent, action_by, entries_in, entries_of, field_or, optional, pairs_in, pairs_of, text_cmp, unless_null, value_of}
use Rattle.json.specs.Find.{as_object}
use Rattle.json.specs.Json.{Json, boolean, number, string, array, object, Members, no_members, member}

-- what a field holds that isn't null
pub unless_null-held : (o : Option Json) (k : Json) → unless_null o ≡ Some k → o ≡ Some k
unless_null-held (Some (boolean b)) k e = e
unless_null-held (Some (number s)) k e = e
unless_null-held (Some (string s)) k e = e
unless_null-held (Some (array js)) k e = e
unless_null-held (Some (object ms)) k e = e
unless_null-held _ k e = absurd (cc)

-- members that are entries under their keys are the pairs that they describe
entries_of-pairs : (ms : Members) (before : Pairs) → entries_of text_cmp Some value_of ms before ≡ pairs_of ms before
entries_of-pairs no_members before = sym (pairs_of-none before)
entries_of-pairs (member key j rest) before =
    by (λ value. entries_of-pairs rest (insert_entry text_cmp before key value)) (value_of j)
    ∙ sym (pairs_of-member key j rest before)
  where
    with_value : Tree → Pairs
    with_value value = insert_entry text_cmp before key value

    by : ((value : Tree) → entries_of text_cmp Some value_of rest (with_value value) ≡ pairs_of rest (with_value value))
        → (o : Option Tree) → option_and_then (λ value. entries_of text_cmp Some value_of rest (with_value value)) o
        ≡ option_and_then (λ value. pairs_of rest (with_value value)) o
    by others None = refl
    by others (Some value) = others value

entries_in-pairs : (o : Option Members)
    → option_and_then (λ ms. entries_of text_cmp Some value_of ms []) o ≡ option_and_then (λ ms. pairs_of ms []) o
entries_in-pairs None = refl
entries_in-pairs (Some ms) = entries_of-pairs ms []

-- what a field describes as entries it describes as pairs
pub optional-pairs : (held : Option Json) → optional (entries_in text_cmp Some value_of) held ≡ optional pairs_in held
optional-pairs held = by (unless_null held)
  where
    by : (o : Option Json) → field_or None (λ j. option_map Some (entries_in text_cmp Some value_of j)) o
        ≡ field_or None (λ j. option_map Some (pairs_in j)) o
    by None = refl
    by (Some j) = ap (option_map Some) (entries_in-pairs (as_object j))

-- there is no declaration where one of its parts is missing
pub action_by-no_external : (attributes : Option (Option Pairs)) (requests : Option (Option Requests)) (parents : Option (Option (List WrittenParent)))
    → action_by attributes requests parents None ≡ None
action_by-no_external None requests parents = refl
action_by-no_external (Some a) None parents = refl
action_by-no_external (Some a) (Some r) None = refl
action_by-no_external (Some a) (Some r) (Some p) = refl

pub action_by-no_parents : (attributes : Option (Option Pairs)) (requests : Option (Option Requests)) (external : Option Bool)
    → action_by attributes requests None external ≡ None
action_by-no_parents None requests external = refl
action_by-no_parents (Some a) None external = refl
action_by-no_parents (Some a) (Some r) external = refl

pub action_by-no_requests : (attributes : Option (Option Pairs)) (parents : Option (Option (List WrittenParent))) (external : Option Bool)
    → action_by attributes None parents external ≡ None
action_by-no_requests None parents external = refl
action_by-no_requests (Some a) parents external = refl
