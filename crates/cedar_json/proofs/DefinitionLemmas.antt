-- Members that are read one after another into a map.
use Rattle.std.proofs.Common.{◌≡◌, ℕ, ◌+◌, ◌++◌, BTreeMap, List, [], ◌∷◌, Bool, true, false, cond, drop, map, Option, Some, None, Result, Ok, Err, MatchResult, option_and_then, Bor, Global, refl, ap, subst, sym, ◌∙◌}
use Rattle.std.proofs.lemmas.List.{drop-drop}
use Rattle.std.specs.BTreeMap.{insert_entry}
use Rattle.std.specs.Str.{bytes_eq}
use Rattle.std.specs.declared.cmp.Ordering.{Ordering}
use Rattle.cedar_json.proofs.MapLemmas.{seen-insert}
use Rattle.cedar_json.specs.Words.{CommonTypeId, Expr, Fault, IsReadFrom, IsTrueOf, RawName, Text, WrittenAction, WrittenEntity, common_type_text, common_types_in, definition_by, entries_of, field_or, raw_expr, written_common_types}
use Rattle.cedar_json.specs.declared.fault.Fault.TheVariants as fault
use Rattle.cedar_schema_ast.specs.declared.json_schema.fragment.CommonType.{CommonType}
use Rattle.json.specs.Find.{get_member, later_or}
use Rattle.json.specs.Json.{Json}
use Rattle.json.specs.Value.{members_view, value_view}
use Rattle.json.specs.declared.value.Value.{Value}

abbrev MaybeShared : Type 0
MaybeShared = Bor Text × Value Global

-- behind a member that is left are the others
pub left_after : (all left after : List MaybeShared) (i j : ℕ) (x : MaybeShared) → drop i all ≡ left → left ≡ x ∷ after → j ≡ i + 1 → drop j all ≡ after
left_after all left after i j x is first next =
    ap (λ n. drop n all) next ∙ sym (drop-drop 1 i all) ∙ ap (drop 1) (is ∙ first)

-- from a member that is left on stand the member and the others
pub left_here : (all left after : List MaybeShared) (i : ℕ) (x : MaybeShared) → drop i all ≡ left → left ≡ x ∷ after → drop i all ≡ x ∷ drop (i + 1) all
left_here all left after i x is first = is ∙ first ∙ ap (λ rest. x ∷ rest) (sym (left_after all left after i (i + 1) x is first refl))

-- the last of the members that have a name
pub get_member-push : (name : Text) (members : List MaybeShared) (x : MaybeShared)
    → get_member name (members_view (members ++ x ∷ [])) ≡ cond (bytes_eq x.0.now name) (Some (value_view x.1)) (get_member name (members_view members))
get_member-push name [] x = by (bytes_eq x.0.now name)
  where
    by : (b : Bool) → later_or None (cond b (Some (value_view x.1)) None) ≡ cond b (Some (value_view x.1)) None
    by true = refl
    by false = refl
get_member-push name (m ∷ members) x =
    ap (λ later. later_or later (cond (bytes_eq m.0.now name) (Some (value_view m.1)) None)) (get_member-push name members x)
    ∙ by (bytes_eq x.0.now name)
  where
    earlier : Option Json
    earlier = cond (bytes_eq m.0.now name) (Some (value_view m.1)) None

    by : (b : Bool) → later_or (cond b (Some (value_view x.1)) (get_member name (members_view members))) earlier
        ≡ cond b (Some (value_view x.1)) (later_or (get_member name (members_view members)) earlier)
    by true = refl
    by false = refl

-- what is filled is read, or memory runs out
pub all_taken : {T L A : Type 0} (j : Json) (described : Option A) (entries : T → L) (plain : L → A) (filled : L) (r : Result T Fault)
    → described ≡ Some (plain filled) → MatchResult r (λ it. entries it ≡ filled) (λ refusal. refusal ≡ fault.Memory)
    → IsReadFrom j described (λ it. plain (entries it)) r
all_taken j described entries plain filled (Ok it) is said = is ∙ ap (λ l. Some (plain l)) (sym said)
all_taken j described entries plain filled (Err refusal) is said =
    (λ other. absurd (other said), subst (λ it. IsTrueOf it j) (sym said) tt)

module _ {K X L Y : Type 0} (R : K → K → Ordering) (S : L → L → Ordering) (shown_key : K → L) (shown : X → Y)
    (same_order : (a b : K) → R a b ≡ S (shown_key a) (shown_key b)) (key : Text → Option L) (describes : Json → Option Y) where
  abbrev plain : List (K × X) → List (L × Y)
  plain entries = map (λ entry. (shown_key entry.0, shown entry.1)) entries

  -- where none is left, all were read
  pub none_left : (all : List MaybeShared) (index : ℕ) (entries : List (K × X)) → drop index all ≡ []
      → entries_of S key describes (members_view all) [] ≡ entries_of S key describes (members_view (drop index all)) (plain entries)
      → entries_of S key describes (members_view all) [] ≡ Some (plain entries)
  none_left all index entries end so_far = so_far ∙ ap (λ ys. entries_of S key describes (members_view ys) (plain entries)) end

  -- at a member
  module _ (all : List MaybeShared) (index : ℕ) (x : MaybeShared) (entries : List (K × X)) (here : drop index all ≡ x ∷ drop (index + 1) all)
      (so_far : entries_of S key describes (members_view all) [] ≡ entries_of S key describes (members_view (drop index all)) (plain entries)) where
    abbrev put_before : Option L → Option Y → Option (List (L × Y))
    put_before k o =
        option_and_then
        (λ l. option_and_then (λ it. entries_of S key describes (members_view (drop (index + 1) all)) (insert_entry S (plain entries) l it)) o) k

    step : entries_of S key describes (members_view all) [] ≡ put_before (key x.0.now) (describes (value_view x.1))
    step = so_far ∙ ap (λ ys. entries_of S key describes (members_view ys) (plain entries)) here

    pub no_key : key x.0.now ≡ None → entries_of S key describes (members_view all) [] ≡ None
    no_key e = step ∙ ap (λ k. put_before k (describes (value_view x.1))) e

    none_put : (k : Option L) → put_before k None ≡ None
    none_put None = refl
    none_put (Some l) = refl

    pub no_entry : describes (value_view x.1) ≡ None → entries_of S key describes (members_view all) [] ≡ None
    no_entry e = step ∙ ap (put_before (key x.0.now)) e ∙ none_put (key x.0.now)

    pub entry_more : (k : K) (it : X) (new : List (K × X)) → key x.0.now ≡ Some (shown_key k) → describes (value_view x.1) ≡ Some (shown it)
        → new ≡ insert_entry R entries k it
        → entries_of S key describes (members_view all) [] ≡ entries_of S key describes (members_view (drop (index + 1) all)) (plain new)
    entry_more k it new named is grown =
        step ∙ ap (λ l. put_before l (describes (value_view x.1))) named ∙ ap (put_before (Some (shown_key k))) is
        ∙ ap (entries_of S key describes (members_view (drop (index + 1) all)))
        (sym (seen-insert R S shown_key shown same_order entries k it))
        ∙ ap (λ es. entries_of S key describes (members_view (drop (index + 1) all)) (plain es)) (sym grown)

-- there is no definition where one of its parts is missing
pub definition_by-no_actions : (common_types : Option (List (Text × Expr))) (entity_types : Option (List (Text × WrittenEntity)))
    → definition_by common_types entity_types None ≡ None
definition_by-no_actions None entity_types = refl
definition_by-no_actions (Some c) None = refl
definition_by-no_actions (Some c) (Some e) = refl

pub definition_by-no_entity_types : (common_types : Option (List (Text × Expr))) (actions : Option (List (Text × WrittenAction)))
    → definition_by common_types None actions ≡ None
definition_by-no_entity_types None actions = refl
definition_by-no_entity_types (Some c) actions = refl

-- where common types are absent there are none
pub no_common_types : (absent : BTreeMap CommonTypeId (CommonType RawName)) (held : Option Json) → absent.entries ≡ []
    → field_or [] common_types_in held ≡ field_or (written_common_types absent) common_types_in held
no_common_types absent held empty =
    ap (λ (entries : List (CommonTypeId × CommonType RawName)).
    field_or (map (λ entry. (common_type_text entry.0, raw_expr None entry.1.ty)) entries) common_types_in held) (sym empty)
