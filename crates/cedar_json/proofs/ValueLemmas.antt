-- The definition of values by look-ups.
use Rattle.std.proofs.Common.{◌≡◌, ◌≢◌, ℕ, ℤ, ◌+◌, ◌<◌, arith, rules, FitsSigned, of_z, to_z, to_z-of_z, w64, Vec, BTreeMap, ◌≤◌, List, [], ◌∷◌, ◌++◌, length, drop, drop_of_length-le, map, Bool, true, false, cond, Option, Some, None, IsSomeAnd, subst, option_map, option_and_then, codes, string_bytes, string_cmp, Bor, String, Global, refl, ap, sym, ◌∙◌}
use Rattle.std.proofs.lemmas.List.{length-append}
use Rattle.std.specs.BTreeMap.{insert_entry}
use Rattle.std.specs.Str.{bytes_eq}
use Rattle.cedar_ast.proofs.TreeLemmas.{tree_of-record}
use Rattle.cedar_ast.proofs.ValueCopies.{tree_of-text, tree_of-truth}
use Rattle.cedar_ast.specs.declared.value.RestrictedExpr.TheOpen as layer
use Rattle.cedar_ast.specs.declared.value.RestrictedExpr.TheVariants as expr
use Rattle.cedar_json.proofs.MapLemmas.{seen-insert}
use Rattle.cedar_json.proofs.TypeLemmas.{later}
use Rattle.cedar_json.specs.Words.{OfCall, Pairs, PlainName, RestrictedExpr, Text, Tree, Trees, argument_of, call_by, call_in, call_of, call_value, first_call, fold-roll-RestrictedExpr, has_only, if_so, known_fields, no_tree, number_value, object_by, pairs_of, plain_name_in, record_of_pairs, roll-RestrictedExpr, set_value, sole_held, text_cmp, text_held, text_value, tree, tree_of, tree_step, trees_of, truth_value, uid_in, uid_value, value_of, values_of, whole_number}
use Rattle.json.proofs.Trees.{view-Array}
use Rattle.json.specs.Find.{as_number, get, get_member}
use Rattle.json.specs.Json.{Json, null, boolean, number, string, array, object, Items, no_items, item, Members, no_members, member}
use Rattle.json.specs.Tree.{json_tokens, members_tokens}
use Rattle.json.specs.Value.{items_view, members_view, value_view}
use Rattle.json.specs.declared.value.Value as kit
use Rattle.json.specs.declared.value.Value.{Value, the_lemmas}

argument_of-get : (ms : Members) → argument_of ms ≡ option_and_then value_of (get_member (codes "arg") ms)
unfolding value_of
argument_of-get no_members = refl
argument_of-get (member key j rest) =
    later value_of (get_member (codes "arg") rest) (argument_of rest) (bytes_eq key (codes "arg")) j (argument_of-get rest)

-- the call that a value describes, by its fields
pub call_in-with : (j : Json) → call_in j ≡ call_by j (option_and_then value_of (get (codes "arg") j))
unfolding value_of
call_in-with null = refl
call_in-with (boolean b) = refl
call_in-with (number s) = refl
call_in-with (string s) = refl
call_in-with (array js) = refl
call_in-with (object ms) = ap (call_by (object ms)) (argument_of-get ms)

first_call-sole : (name : Text) (ms : Members) (k : Json) → sole_held name ms ≡ Some k → first_call ms ≡ call_in k
unfolding value_of
first_call-sole name (member key j no_members) k e = by (bytes_eq key name) e
  where
    by : (test : Bool) → cond test (Some j) None ≡ Some k → call_in j ≡ call_in k
    by true e = let same : j ≡ k = cc in ap call_in same
    by false e = absurd (cc)
first_call-sole name _ k e = absurd (cc)

-- what the one member holds is what its field does
pub sole_held-get : (name : Text) (ms : Members) (k : Json) → sole_held name ms ≡ Some k → get_member name ms ≡ Some k
sole_held-get name (member key j no_members) k e = e
sole_held-get name _ k e = absurd (cc)

-- an object by its members
abbrev by_members : Members → Option Json → Option Json → Option Tree
by_members ms uid extension = object_by uid extension (first_call ms) (pairs_of ms [])

value_of-object : (ms : Members) → value_of (object ms) ≡ by_members ms (sole_held (codes "__entity") ms) (sole_held (codes "__extn") ms)
unfolding value_of
value_of-object ms = refl

pub value_of-entity : (ms : Members) (k : Json) → sole_held (codes "__entity") ms ≡ Some k → value_of (object ms) ≡ option_map uid_value (uid_in k)
value_of-entity ms k e = value_of-object ms ∙ ap (λ o. by_members ms o (sole_held (codes "__extn") ms)) e

pub value_of-call : (ms : Members) (k : Json) → sole_held (codes "__entity") ms ≡ None → sole_held (codes "__extn") ms ≡ Some k
    → value_of (object ms) ≡ call_in k
value_of-call ms k none e =
    value_of-object ms ∙ ap (λ o. by_members ms o (sole_held (codes "__extn") ms)) none ∙ ap (λ o. by_members ms None o) e
    ∙ first_call-sole (codes "__extn") ms k e

pub value_of-record : (ms : Members) → sole_held (codes "__entity") ms ≡ None → sole_held (codes "__extn") ms ≡ None
    → value_of (object ms) ≡ option_map record_of_pairs (pairs_of ms [])
value_of-record ms none neither =
    value_of-object ms ∙ ap (λ o. by_members ms o (sole_held (codes "__extn") ms)) none ∙ ap (λ o. by_members ms None o) neither

-- values before others in a row
abbrev pub before : List RestrictedExpr → Trees → Trees
before [] rest = rest
before (expr ∷ exprs) rest = tree (tree_of expr) (before exprs rest)

before-none : (exprs : List RestrictedExpr) → before exprs no_tree ≡ trees_of exprs
before-none [] = refl
before-none (expr ∷ exprs) = ap (tree (tree_of expr)) (before-none exprs)

before-push : (exprs : List RestrictedExpr) (expr : RestrictedExpr) (rest : Trees)
    → before exprs (tree (tree_of expr) rest) ≡ before (exprs ++ expr ∷ []) rest
before-push [] expr rest = refl
before-push (first ∷ exprs) expr rest = ap (tree (tree_of first)) (before-push exprs expr rest)

pushed : (exprs : List RestrictedExpr) (expr : RestrictedExpr) (o : Option Trees)
    → option_map (before exprs) (option_map (λ others. tree (tree_of expr) others) o) ≡ option_map (before (exprs ++ expr ∷ [])) o
pushed exprs expr None = refl
pushed exprs expr (Some rest) = ap Some (before-push exprs expr rest)

values_of-item : (j : Json) (rest : Items)
    → values_of (item j rest) ≡ option_and_then (λ value. option_map (λ others. tree value others) (values_of rest)) (value_of j)
unfolding value_of
values_of-item j rest = refl

values_of-none : values_of no_items ≡ Some no_tree
unfolding value_of
values_of-none = refl

pub nothing_read : (o : Option Trees) → o ≡ option_map (before []) o
nothing_read None = refl
nothing_read (Some rest) = refl

-- where no item is left, all were read
pub all_values : (xs all : List (Value Global)) (index : ℕ) (exprs : List RestrictedExpr) → xs ≡ all → length xs ≤ index
    → values_of (items_view all) ≡ option_map (before exprs) (values_of (items_view (drop index all)))
    → values_of (items_view all) ≡ Some (trees_of exprs)
all_values xs all index exprs same end so_far =
    so_far ∙ ap (λ ys. option_map (before exprs) (values_of (items_view (drop index ys)))) (sym same)
    ∙ ap (λ ys. option_map (before exprs) (values_of (items_view ys))) (drop_of_length-le xs end)
    ∙ ap (option_map (before exprs)) values_of-none ∙ ap Some (before-none exprs)

-- at an item
module _ (all : List (Value Global)) (index : ℕ) (x : Value Global) (exprs : List RestrictedExpr)
    (here : drop index all ≡ x ∷ drop (index + 1) all)
    (so_far : values_of (items_view all) ≡ option_map (before exprs) (values_of (items_view (drop index all)))) where
  abbrev rest : Option Trees
  rest = values_of (items_view (drop (index + 1) all))

  abbrev with_value : Option Tree → Option Trees
  with_value o = option_map (before exprs) (option_and_then (λ value. option_map (λ others. tree value others) rest) o)

  step : values_of (items_view all) ≡ with_value (value_of (value_view x))
  step = so_far ∙ ap (λ ys. option_map (before exprs) (values_of (items_view ys))) here
      ∙ ap (option_map (before exprs)) (values_of-item (value_view x) (items_view (drop (index + 1) all)))

  pub no_value : value_of (value_view x) ≡ None → values_of (items_view all) ≡ None
  no_value e = step ∙ ap with_value e

  pub value_more : (expr : RestrictedExpr) (new : List RestrictedExpr) → value_of (value_view x) ≡ Some (tree_of expr) → new ≡ exprs ++ expr ∷ []
      → values_of (items_view all) ≡ option_map (before new) rest
  value_more expr new is grown = step ∙ ap with_value is ∙ pushed exprs expr rest ∙ ap (λ es. option_map (before es) rest) (sym grown)

abbrev MaybeShared : Type 0
MaybeShared = Bor Text × Value Global

pub pairs_of-member : (key : Text) (j : Json) (others : Members) (pairs : Pairs)
    → pairs_of (member key j others) pairs ≡ option_and_then (λ value. pairs_of others (insert_entry text_cmp pairs key value)) (value_of j)
unfolding value_of
pairs_of-member key j others pairs = refl

pub pairs_of-none : (pairs : Pairs) → pairs_of no_members pairs ≡ Some pairs
unfolding value_of
pairs_of-none pairs = refl

-- over values of some form, each with the tree that it stands for
module _ {X : Type 0} (tree_for : X → Tree) where
  abbrev Entries : Type 0
  Entries = List (String Global × X)

  -- what pairs stand for
  abbrev pub shown : Entries → Pairs
  shown entries = map (λ entry. (string_bytes entry.0, tree_for entry.1)) entries

  -- where no member is left, all were read
  pub all_pairs : (xs all : List MaybeShared) (index : ℕ) (entries : Entries) → xs ≡ all → length xs ≤ index
      → pairs_of (members_view all) [] ≡ pairs_of (members_view (drop index all)) (shown entries)
      → pairs_of (members_view all) [] ≡ Some (shown entries)
  all_pairs xs all index entries same end so_far =
      so_far ∙ ap (λ ys. pairs_of (members_view (drop index ys)) (shown entries)) (sym same)
      ∙ ap (λ ys. pairs_of (members_view ys) (shown entries)) (drop_of_length-le xs end)
      ∙ pairs_of-none (shown entries)

  -- at a member
  module _ (all : List MaybeShared) (index : ℕ) (x : MaybeShared) (entries : Entries) (here : drop index all ≡ x ∷ drop (index + 1) all)
      (so_far : pairs_of (members_view all) [] ≡ pairs_of (members_view (drop index all)) (shown entries)) where
    abbrev put_before : Option Tree → Option Pairs
    put_before = option_and_then (λ value. pairs_of (members_view (drop (index + 1) all)) (insert_entry text_cmp (shown entries) x.0.now value))

    pair_step : pairs_of (members_view all) [] ≡ put_before (value_of (value_view x.1))
    pair_step = so_far ∙ ap (λ ys. pairs_of (members_view ys) (shown entries)) here
        ∙ pairs_of-member x.0.now (value_view x.1) (members_view (drop (index + 1) all)) (shown entries)

    pub no_pair : value_of (value_view x.1) ≡ None → pairs_of (members_view all) [] ≡ None
    no_pair e = pair_step ∙ ap put_before e

    pub pair_more : (key : String Global) (value : X) (new : Entries) → value_of (value_view x.1) ≡ Some (tree_for value)
        → string_bytes key ≡ x.0.now → new ≡ insert_entry string_cmp entries key value
        → pairs_of (members_view all) [] ≡ pairs_of (members_view (drop (index + 1) all)) (shown new)
    pair_more key value new is named grown =
        pair_step ∙ ap put_before is
        ∙ ap (λ name. pairs_of (members_view (drop (index + 1) all)) (insert_entry text_cmp (shown entries) name (tree_for value))) (sym named)
        ∙ ap (pairs_of (members_view (drop (index + 1) all)))
        (sym (seen-insert string_cmp text_cmp string_bytes tree_for (λ a b. refl) entries key value))
        ∙ ap (λ es. pairs_of (members_view (drop (index + 1) all)) (shown es)) (sym grown)

value_of-null : value_of null ≡ None
unfolding value_of
value_of-null = refl

value_of-boolean : (b : Bool) → value_of (boolean b) ≡ Some (truth_value b)
unfolding value_of
value_of-boolean b = refl

value_of-number : (s : Text) → value_of (number s) ≡ option_map number_value (whole_number s)
unfolding value_of
value_of-number s = refl

value_of-string : (s : Text) → value_of (string s) ≡ Some (text_value s)
unfolding value_of
value_of-string s = refl

value_of-array : (js : Items) → value_of (array js) ≡ option_map set_value (values_of js)
unfolding value_of
value_of-array js = refl

view-Null : value_view {A = Global} kit.Null ≡ null
view-Null = search (rules, the_lemmas)

view-Bool : (b : Bool) → value_view {A = Global} (kit.Bool b) ≡ boolean b
view-Bool b = search (rules, the_lemmas)

view-Number : (s : Bor Text) → value_view {A = Global} (kit.Number s) ≡ number s.now
view-Number s = search (rules, the_lemmas)

view-String : (s : Bor Text) → value_view {A = Global} (kit.String s) ≡ string s.now
view-String s = search (rules, the_lemmas)

-- the rows of values that hold no others
pub null_is : (v : Value Global) → v ≡ kit.Null → value_view v ≡ null
null_is v is = ap value_view is ∙ view-Null

pub array_is : (v : Value Global) (items : Vec (Value Global) Global) → v ≡ kit.Array items → value_view v ≡ array (items_view items.items)
array_is v items is = ap value_view is ∙ view-Array items

-- a number that is no whole one of 64 bits is so found
pub no_long : (v : Value Global) (s : Bor Text) → v ≡ kit.Number s → None ≡ option_and_then whole_number (as_number (value_view v))
    → IsSomeAnd (as_number (value_view v)) (λ text. whole_number text ≡ None)
no_long v s is none =
    let found : as_number (value_view v) ≡ Some s.now = ap as_number (ap value_view is ∙ view-Number s) in
    subst (λ o. IsSomeAnd o (λ text. whole_number text ≡ None)) (sym found) (sym (none ∙ ap (option_and_then whole_number) found))

pub null_row : (v : Value Global) → v ≡ kit.Null → value_of (value_view v) ≡ None
null_row v is = ap (λ x. value_of (value_view x)) is ∙ ap value_of view-Null ∙ value_of-null

pub truth_row : (v : Value Global) (b : Bool) → v ≡ kit.Bool b → value_of (value_view v) ≡ Some (tree_of (expr.Bool b))
truth_row v b is =
    ap (λ x. value_of (value_view x)) is ∙ ap value_of (view-Bool b) ∙ value_of-boolean b ∙ ap Some (sym (tree_of-truth b))

pub number_row : (v : Value Global) (s : Bor Text) → v ≡ kit.Number s
    → value_of (value_view v) ≡ option_map number_value (option_and_then whole_number (as_number (value_view v)))
number_row v s is =
    ap (λ x. value_of (value_view x)) is ∙ ap value_of (view-Number s) ∙ value_of-number s.now
    ∙ sym (ap (λ x. option_map number_value (option_and_then whole_number (as_number (value_view x)))) is
    ∙ ap (λ j. option_map number_value (option_and_then whole_number (as_number j))) (view-Number s))

pub text_row : (v : Value Global) (s : Bor Text) (text : String Global) → v ≡ kit.String s → string_bytes text ≡ s.now
    → value_of (value_view v) ≡ Some (tree_of (expr.String text))
text_row v s text is named =
    ap (λ x. value_of (value_view x)) is ∙ ap value_of (view-String s) ∙ value_of-string s.now
    ∙ ap (λ t. Some (text_value t)) (sym named) ∙ ap Some (sym (tree_of-text text))

pub array_row : (v : Value Global) (items : Vec (Value Global) Global) → v ≡ kit.Array items
    → value_of (value_view v) ≡ option_map set_value (values_of (items_view items.items))
array_row v items is =
    ap (λ x. value_of (value_view x)) is ∙ ap value_of (view-Array items) ∙ value_of-array (items_view items.items)

pub number_read : (whole : ℤ) → FitsSigned w64 whole → number_value whole ≡ tree_of (expr.Long (to_z w64 (of_z w64 whole)))
number_read whole fits =
    sym (ap (λ z. tree_of (expr.Long z)) (to_z-of_z fits) ∙ ap tree_of (sym (expr.rolls-Long whole))
    ∙ (let e : tree_of (roll-RestrictedExpr (layer.Long whole)) ≡ number_value whole =
    fold-roll-RestrictedExpr Tree tree_step (layer.Long whole) in e))

pub record_read : (pairs : BTreeMap (String Global) RestrictedExpr) → record_of_pairs (shown tree_of pairs.entries) ≡ tree_of (expr.Record pairs)
record_read pairs = sym (tree_of-record pairs)

-- a call by its fields
module _ (j : Json) where
  abbrev function : Option PlainName
  function = option_and_then plain_name_in (text_held (codes "fn") j)

  abbrev argument : Option Tree
  argument = option_and_then value_of (get (codes "arg") j)

  -- the name of the function, where all fields are those of a call
  abbrev called : Option PlainName
  called = if_so (has_only (known_fields OfCall j) j) function

  call_in-called : call_in j ≡ call_of called argument
  call_in-called = call_in-with j ∙ by (has_only (known_fields OfCall j) j)
    where
      by : (test : Bool) → if_so test (call_of function argument) ≡ call_of (if_so test function) argument
      by true = refl
      by false = refl

  pub call_no_function : called ≡ None → call_in j ≡ None
  call_no_function e = call_in-called ∙ ap (λ f. call_of f argument) e

  no_call : (f : Option PlainName) → call_of f None ≡ None
  no_call None = refl
  no_call (Some name) = refl

  pub call_no_argument : argument ≡ None → call_in j ≡ None
  call_no_argument e = call_in-called ∙ ap (call_of called) e ∙ no_call called

  pub call_read : (name : PlainName) (it : Tree) → called ≡ Some name → argument ≡ Some it
      → call_in j ≡ Some (call_value name (tree it no_tree))
  call_read name it named valued = call_in-called ∙ ap (λ f. call_of f argument) named ∙ ap (call_of (Some name)) valued

-- what an object that isn't one of a single member with the key holds
pub sole_held-many : (name : Text) (xs : List MaybeShared) → length xs ≢ 1 → sole_held name (members_view xs) ≡ None
sole_held-many name [] many = refl
sole_held-many name (x ∷ []) many = absurd (many refl)
sole_held-many name (x ∷ y ∷ xs) many = refl

sole_held-smaller_by : (name key : Text) (j k : Json) (test : Bool) → cond test (Some j) None ≡ Some k
    → length (json_tokens k) < length (members_tokens (member key j no_members))
sole_held-smaller_by name key j k true e =
    let same : j ≡ k = cc in
    omega (arith, length-append (json_tokens j) (members_tokens no_members), ap (λ x. length (json_tokens x)) same)
sole_held-smaller_by name key j k false e = absurd (cc)

-- what the one member holds is smaller than the members
pub sole_held-smaller : (name : Text) (ms : Members) (k : Json) → sole_held name ms ≡ Some k → length (json_tokens k) < length (members_tokens ms)
sole_held-smaller name (member key j no_members) k e = sole_held-smaller_by name key j k (bytes_eq key name) e
sole_held-smaller name _ k e = absurd (cc)
