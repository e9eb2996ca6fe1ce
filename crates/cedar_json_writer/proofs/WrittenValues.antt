-- What is written of values, row by row.
use Rattle.std.proofs.Common.{◌≡◌, ◌≢◌, ◌^◌, ℕ, ℤ, suc, List, [], ◌∷◌, ◌++◌, Bool, true, false, cond, map, length, string_cmp, Some, Contains, codes, string_bytes, get_or, refl, ap, sym, subst, ◌∙◌, append_assoc, arith}
use Rattle.std.specs.BTreeMap.{BTreeMap}
use Rattle.std.specs.Fmt.{signed_decimal}
use Rattle.std.specs.List.{slice_get}
use Rattle.std.specs.List.Sorted.{IsStrictlySortedBy}
use Rattle.std.specs.Map.{keys_of}
use Rattle.std.specs.declared.alloc.Global.{Global}
use Rattle.std.specs.declared.string.String.{String}
use Rattle.cedar_ast.proofs.NameReading.{ids_are_identifiers}
use Rattle.cedar_ast.proofs.Ordered.{IsStrictlySortedBy-map}
use Rattle.cedar_ast.specs.declared.value.RestrictedExpr.TheOpen as layer
use Rattle.cedar_ast.specs.declared.value.RestrictedExpr.TheVariants as expr
use Rattle.cedar_json_writer.proofs.WritingLemmas.{MembersShape, field_added, fields_after, flaw_left, flaw_right, none_both, object_added}
use Rattle.cedar_json_writer.specs.Words.{AddsField, AddsValue, Arguments, EntityUID, Entries, Flaw, IsFlawOf, IsFree, IsPlain, Name, PlainUid, RestrictedExpr, SoundEntries, SoundValue, SoundValues, Text, Tree, Unwritable, WriteFault, arguments, arity_flaws, call_opening, call_value, count, entries_flaws, entries_from, entries_of, entry_names, flaw_of, fold-roll-RestrictedExpr, is_among, is_long, key_flaws, lone_key, map_value, name_text, number_value, optional_member, plain_name, roll-RestrictedExpr, set_value, text_cmp, text_value, tree_of, tree_step, trees_of, truth_value, uid_document, uid_of, uid_value, value_document, value_flaws, value_items, value_keys, value_members, values_flaws}
use Rattle.cedar_json_writer.specs.declared.fault.WriteFault.TheVariants as fault
use Rattle.json.specs.Json.{boolean, number, object, string, no_members, member}
use Rattle.json.specs.Token.{Token, begin_array, begin_object, end_array, end_object, key}
use Rattle.json.specs.Tree.{items_tokens, json_tokens}

-- a name that isn't reserved is plain
pub name_plain : (name : Name) → IsPlain (plain_name name)
name_plain name =
    ((name.name.parts.value.id.identifier, ids_are_identifiers name.name.parts.value.path.items), name.unreserved)

-- a whole number stands for itself
pub tree_of-long : (z : ℤ) → tree_of (expr.Long z) ≡ number_value z
tree_of-long z =
    ap tree_of (sym (expr.rolls-Long z))
    ∙ (let e : tree_of (roll-RestrictedExpr (layer.Long z)) ≡ number_value z =
    fold-roll-RestrictedExpr Tree tree_step (layer.Long z) in
    e)

-- a value of which nothing is a flaw, and which is sound
abbrev pub FreeValue : Tree → Type 0
FreeValue value = IsFree (value_flaws value) (SoundValue value)

pub truth_free : (b : Bool) → FreeValue (truth_value b)
unfolding value_flaws SoundValue
truth_free b = record { flawless = refl; sound = tt }

pub long_free : (z : ℤ) → is_long z ≡ true → FreeValue (number_value z)
unfolding value_flaws SoundValue
long_free z fits = record { flawless = refl; sound = fits }

pub text_free : (text : Text) → FreeValue (text_value text)
unfolding value_flaws SoundValue
text_free text = record { flawless = refl; sound = tt }

pub uid_free : (uid : EntityUID) → FreeValue (uid_value (uid_of uid))
unfolding value_flaws SoundValue
uid_free uid = record { flawless = refl; sound = name_plain uid.ty.0 }

pub truth_added : (old new : List Token) (b : Bool) → AddsValue old new (boolean b) → AddsValue old new (value_document (truth_value b))
unfolding value_document
truth_added old new b added = added

pub long_added : (old new : List Token) (z : ℤ) → AddsValue old new (number (signed_decimal z)) → AddsValue old new (value_document (number_value z))
unfolding value_document
long_added old new z added = added

pub text_added : (old new : List Token) (text : Text) → AddsValue old new (string text) → AddsValue old new (value_document (text_value text))
unfolding value_document
text_added old new text added = added

-- a uid in the first field of an object
pub uid_opened : (old opened keyed new : List Token) (name : Text) (uid : PlainUid) → opened ≡ old ++ begin_object ∷ []
    → keyed ≡ opened ++ key name ∷ [] → AddsValue keyed new (uid_document uid)
    → AddsField (old ++ begin_object ∷ []) new name (Some (uid_document uid))
uid_opened old opened keyed new name uid begun is_keyed added =
    subst (λ l. AddsField l new name (Some (uid_document uid))) begun (field_added opened keyed new name (uid_document uid) is_keyed added)

pub uid_added : (old held new : List Token) (uid : PlainUid)
    → AddsField (old ++ begin_object ∷ []) held (codes "__entity") (Some (uid_document uid)) → new ≡ held ++ end_object ∷ []
    → AddsValue old new (value_document (uid_value uid))
unfolding value_document
uid_added old held new uid added ended =
    object_added old (old ++ begin_object ∷ []) held new (optional_member (codes "__entity") (Some (uid_document uid))) refl added ended

pub uid_fields_added : (old opened typed named new : List Token) (uid : PlainUid) → opened ≡ old ++ begin_object ∷ []
    → AddsField opened typed (codes "type") (Some (string (name_text uid.ty))) → AddsField typed named (codes "id") (Some (string uid.eid))
    → new ≡ named ++ end_object ∷ [] → AddsValue old new (uid_document uid)
uid_fields_added old opened typed named new uid begun first second ended =
    object_added old opened named new
    (λ rest. optional_member (codes "type") (Some (string (name_text uid.ty))) (optional_member (codes "id") (Some (string uid.eid)) rest)) begun
    (fields_after opened typed named (optional_member (codes "type") (Some (string (name_text uid.ty)))) (optional_member (codes "id") (Some (string uid.eid)))
    first second) ended

-- some values are written, and others are left
pub record ValuesSoFar (old now : List Token) (all left : List RestrictedExpr) : Type 0 where
  pub tokens : old ++ items_tokens (value_items (trees_of all)) ≡ now ++ items_tokens (value_items (trees_of left))
  pub same_flaws : values_flaws (trees_of all) ≡ values_flaws (trees_of left)
  pub sound : SoundValues (trees_of left) → SoundValues (trees_of all)

pub values_begun : (old : List Token) (all : List RestrictedExpr) → ValuesSoFar old old all all
values_begun old all = record { tokens = refl; same_flaws = refl; sound = λ it. it }

pub values_turn : (old now new : List Token) (all left rest : List RestrictedExpr) (value : RestrictedExpr) → ValuesSoFar old now all left
    → left ≡ value ∷ rest → AddsValue now new (value_document (tree_of value)) → FreeValue (tree_of value) → ValuesSoFar old new all rest
unfolding value_document value_flaws SoundValue
values_turn old now new all left rest value so_far is added free = record {
  tokens = so_far.tokens ∙ ap (λ (each : List RestrictedExpr). now ++ items_tokens (value_items (trees_of each))) is
      ∙ sym (append_assoc now (json_tokens (value_document (tree_of value))) (items_tokens (value_items (trees_of rest))))
      ∙ ap (λ l. l ++ items_tokens (value_items (trees_of rest))) (sym added);
  same_flaws = so_far.same_flaws ∙ ap (λ (each : List RestrictedExpr). values_flaws (trees_of each)) is
      ∙ ap (λ xs. xs ++ values_flaws (trees_of rest)) free.flawless;
  sound = λ it. so_far.sound (subst (λ (each : List RestrictedExpr). SoundValues (trees_of each)) (sym is) (free.sound, it));
}

pub values_added : (old opened now new : List Token) (all left : List RestrictedExpr) → ValuesSoFar opened now all left → left ≡ []
    → opened ≡ old ++ begin_array ∷ [] → new ≡ now ++ end_array ∷ [] → AddsValue old new (value_document (set_value (trees_of all)))
unfolding value_document
values_added old opened now new all left so_far none begun ended =
    ended ∙ ap (λ (each : List RestrictedExpr). now ++ items_tokens (value_items (trees_of each))) (sym none)
    ∙ sym so_far.tokens ∙ ap (λ l. l ++ items_tokens (value_items (trees_of all))) begun
    ∙ append_assoc old (begin_array ∷ []) (items_tokens (value_items (trees_of all)))

pub values_free : (opened now : List Token) (all left : List RestrictedExpr) → ValuesSoFar opened now all left → left ≡ []
    → FreeValue (set_value (trees_of all))
unfolding value_flaws SoundValue
values_free opened now all left so_far none = record {
  flawless = so_far.same_flaws ∙ ap (λ (each : List RestrictedExpr). values_flaws (trees_of each)) none;
  sound = so_far.sound (subst (λ (each : List RestrictedExpr). SoundValues (trees_of each)) (sym none) tt);
}

pub values_flaw : (opened now : List Token) (all left rest : List RestrictedExpr) (value : RestrictedExpr) (f : WriteFault)
    → ValuesSoFar opened now all left → left ≡ value ∷ rest → IsFlawOf (value_flaws (tree_of value)) f
    → IsFlawOf (value_flaws (set_value (trees_of all))) f
unfolding value_flaws
values_flaw opened now all left rest value f so_far is flawed =
    subst (λ (flaws : List Flaw). IsFlawOf flaws f)
    (sym (so_far.same_flaws ∙ ap (λ (each : List RestrictedExpr). values_flaws (trees_of each)) is))
    (flaw_left (value_flaws (tree_of value)) (values_flaws (trees_of rest)) f flawed)

-- values by text, each of which a view gives
module _ {A : Type 0} (view : A → Tree) where
  -- what pairs stand for
  abbrev pub plain : List (String Global × A) → Entries
  plain pairs = entries_from (map (λ pair. (string_bytes pair.0, view pair.1)) pairs)

  pub no_pair_members : value_members (plain []) ≡ no_members
  unfolding value_document
  no_pair_members = refl

  pub one_more_pair : (pair : String Global × A) (rest : List (String Global × A))
      → value_members (plain (pair ∷ rest)) ≡ member (string_bytes pair.0) (value_document (view pair.1)) (value_members (plain rest))
  unfolding value_document
  one_more_pair pair rest = refl

  pub no_pair_flaws : entries_flaws (plain []) ≡ []
  unfolding value_flaws
  no_pair_flaws = refl

  pub more_pair_flaws : (pair : String Global × A) (rest : List (String Global × A))
      → entries_flaws (plain (pair ∷ rest)) ≡ value_flaws (view pair.1) ++ entries_flaws (plain rest)
  unfolding value_flaws
  more_pair_flaws pair rest = refl

  pub no_pair_sound : SoundEntries (plain [])
  unfolding SoundValue
  no_pair_sound = tt

  pub more_pairs_sound : (pair : String Global × A) (rest : List (String Global × A)) → SoundValue (view pair.1)
      → SoundEntries (plain rest) → SoundEntries (plain (pair ∷ rest))
  unfolding SoundValue
  more_pairs_sound pair rest one others = (one, others)

  abbrev pub pairs_shape : MembersShape (String Global × A)
  pairs_shape = record {
    members = λ pairs. value_members (plain pairs);
    flaws = λ pairs. entries_flaws (plain pairs);
    Sound = λ pairs. SoundEntries (plain pairs);
    text = λ pair. string_bytes pair.0;
    document = λ pair. value_document (view pair.1);
    flaws_of = λ pair. value_flaws (view pair.1);
    SoundOne = λ pair. SoundValue (view pair.1);
    no_more = no_pair_members;
    no_flaws = no_pair_flaws;
    none_sound = no_pair_sound;
    one_more = one_more_pair;
    more_flaws = more_pair_flaws;
    more_sound = more_pairs_sound;
  }

  plain-names : (pairs : List (String Global × A)) → entry_names (plain pairs) ≡ map string_bytes (keys_of pairs)
  plain-names [] = refl
  plain-names (pair ∷ rest) = ap (λ names. string_bytes pair.0 ∷ names) (plain-names rest)

  -- values in order that are sound
  pub pairs_free : (pairs : List (String Global × A)) → IsStrictlySortedBy string_cmp (keys_of pairs)
      → IsFree (entries_flaws (plain pairs)) (SoundEntries (plain pairs))
      → IsFree (entries_flaws (plain pairs)) (SoundValue (map_value (plain pairs)))
  unfolding SoundValue
  pairs_free pairs sorted free = record {
    flawless = free.flawless;
    sound = (
      subst (IsStrictlySortedBy text_cmp) (sym (plain-names pairs))
          (IsStrictlySortedBy-map string_cmp text_cmp string_bytes (λ a b. refl) (keys_of pairs) sorted),
      free.sound,
    );
  }

-- a record whose keys and values are free
pub record_free : (values : Entries) → key_flaws values ≡ [] → IsFree (entries_flaws values) (SoundValue (map_value values)) → FreeValue (map_value values)
unfolding value_flaws
record_free values keys free = record { flawless = none_both (key_flaws values) (entries_flaws values) keys free.flawless; sound = free.sound }

pub record_key_flaw : (values : Entries) (what : Unwritable) → Contains (key_flaws values) (flaw_of what)
    → IsFlawOf (value_flaws (map_value values)) (fault.Unwritable what)
unfolding value_flaws
record_key_flaw values what flawed = flaw_left (key_flaws values) (entries_flaws values) (fault.Unwritable what) flawed

pub record_value_flaw : (values : Entries) (f : WriteFault) → IsFlawOf (entries_flaws values) f → IsFlawOf (value_flaws (map_value values)) f
unfolding value_flaws
record_value_flaw values f flawed = flaw_right (key_flaws values) (entries_flaws values) f flawed

pub record_document : (values : Entries) → object (value_members values) ≡ value_document (map_value values)
unfolding value_document
record_document values = refl

-- the keys of records
keys_many_of : (pairs : List (Text × Tree)) → length pairs ≢ 1 → key_flaws (entries_from pairs) ≡ []
keys_many_of [] many = refl
keys_many_of (pair ∷ []) many = absurd (many refl)
keys_many_of (pair ∷ (other ∷ rest)) many = refl

abbrev Pairs : Type 0
Pairs = List (String Global × RestrictedExpr)

length-shown : (pairs : Pairs) → length {A = Text × Tree} (map (λ pair. (string_bytes pair.0, tree_of pair.1)) pairs) ≡ length pairs
length-shown [] = refl
length-shown (pair ∷ rest) = ap suc (length-shown rest)

pub keys_many : (values : BTreeMap (String Global) RestrictedExpr) → length values.entries ≢ 1 → key_flaws (entries_of values) ≡ []
keys_many values many = keys_many_of (map (λ pair. (string_bytes pair.0, tree_of pair.1)) values.entries) (λ one. many (sym (length-shown values.entries) ∙ one))

keys_one_of : (pairs : Pairs) (name : String Global) (value : RestrictedExpr) → length pairs ≡ 1 → slice_get pairs 0 ≡ Some (name, value)
    → key_flaws (entries_from (map (λ pair. (string_bytes pair.0, tree_of pair.1)) pairs))
    ≡ cond (is_among (string_bytes name) value_keys) (lone_key (string_bytes name) ∷ []) []
keys_one_of (pair ∷ []) name value one first =
    let same : pair ≡ (name, value) = cc in
    ap (λ (it : String Global × RestrictedExpr). cond (is_among (string_bytes it.0) value_keys) (lone_key (string_bytes it.0) ∷ []) []) same
keys_one_of _ name value one first = absurd (omega (arith, one))

pub lone_free : (values : BTreeMap (String Global) RestrictedExpr) (name : String Global) (value : RestrictedExpr) → length values.entries ≡ 1
    → slice_get values.entries 0 ≡ Some (name, value) → is_among (string_bytes name) value_keys ≡ false → key_flaws (entries_of values) ≡ []
lone_free values name value one first other =
    keys_one_of values.entries name value one first ∙ ap (λ test. cond test (lone_key (string_bytes name) ∷ []) []) other

pub lone_flaw : (values : BTreeMap (String Global) RestrictedExpr) (name : String Global) (value : RestrictedExpr) (text : Text) → length values.entries ≡ 1
    → slice_get values.entries 0 ≡ Some (name, value) → is_among (string_bytes name) value_keys ≡ true → text ≡ string_bytes name
    → Contains (key_flaws (entries_of values)) (lone_key text)
lone_flaw values name value text one first word same =
    subst (λ (flaws : List Flaw). Contains flaws (lone_key text))
    (sym (keys_one_of values.entries name value one first ∙ ap (λ test. cond test (lone_key (string_bytes name) ∷ []) []) word))
    (0, omega arith, ap lone_key (sym same))

-- a list of one item
pub one_item : (args : List RestrictedExpr) (argument : RestrictedExpr) → length args ≡ 1 → argument ≡ get_or args 0 argument → args ≡ argument ∷ []
one_item (arg ∷ []) argument one is = ap (λ a. a ∷ []) (sym is)
one_item _ argument one is = absurd (omega (arith, one))

-- calls by their arguments
pub call_free : (name : Name) (argument : RestrictedExpr) → FreeValue (tree_of argument)
    → FreeValue (call_value (plain_name name) (trees_of (argument ∷ [])))
unfolding value_flaws SoundValue
call_free name argument free = record {
  flawless = none_both (value_flaws (tree_of argument)) [] free.flawless refl;
  sound = (name_plain name, (free.sound, tt));
}

pub argument_flaw : (name : Name) (argument : RestrictedExpr) (f : WriteFault) → IsFlawOf (value_flaws (tree_of argument)) f
    → IsFlawOf (value_flaws (call_value (plain_name name) (trees_of (argument ∷ [])))) f
unfolding value_flaws
argument_flaw name argument f flawed = flaw_left (value_flaws (tree_of argument)) [] f flawed

count-trees : (args : List RestrictedExpr) → count (trees_of args) ≡ length args
count-trees [] = refl
count-trees (arg ∷ args) = omega (arith, count-trees args)

arity_of : (args : List RestrictedExpr) → length args ≢ 1 → arity_flaws (trees_of args) ≡ arguments (length args) ∷ []
arity_of [] many = refl
arity_of (arg ∷ []) many = absurd (many refl)
arity_of (arg ∷ (other ∷ rest)) many = ap (λ n. arguments n ∷ []) (count-trees (arg ∷ (other ∷ rest)))

pub arity_flaw : (name : Name) (args : List RestrictedExpr) (number : ℕ) → length args ≢ 1 → number ≡ length args
    → IsFlawOf (value_flaws (call_value (plain_name name) (trees_of args))) (fault.Unwritable (Arguments number))
unfolding value_flaws
arity_flaw name args held many same =
    flaw_left (arity_flaws (trees_of args)) (values_flaws (trees_of args)) (fault.Unwritable (Arguments held))
    (subst (λ (flaws : List Flaw). Contains flaws (arguments held)) (sym (arity_of args many)) (0, omega arith, ap arguments (sym same)))

pub call_added : (old opened valued new : List Token) (name : Name) (argument : RestrictedExpr)
    → opened ≡ old ++ call_opening (name_text (plain_name name)) → AddsValue opened valued (value_document (tree_of argument))
    → new ≡ valued ++ end_object ∷ end_object ∷ []
    → AddsValue old new (value_document (call_value (plain_name name) (trees_of (argument ∷ []))))
unfolding value_document
call_added old opened valued new name argument begun added ended =
    let held = json_tokens (value_document (tree_of argument)) in
    let opening = call_opening (name_text (plain_name name)) in
    ended ∙ ap (λ l. l ++ end_object ∷ end_object ∷ []) (added ∙ ap (λ l. l ++ held) begun ∙ append_assoc old opening held)
    ∙ append_assoc old (opening ++ held) (end_object ∷ end_object ∷ [])
    ∙ ap (λ l. old ++ (opening ++ l)) (sym (append_assoc held (end_object ∷ []) (end_object ∷ [])))
