-- Values of inhabited types, and of records with a chosen attribute.
use Rattle.std.proofs.Common.{◌≡◌, ◌≢◌, inl, inr, Bool, true, false, refl, sym, ◌∙◌, ℕ, suc, ◌+◌, ◌≤◌, pos, length, List, [], ◌∷◌, Option, Some, None, Contains, arith}
use Rattle.std.proofs.Math.Facts.{sfits_lit}
use Rattle.std.proofs.lemmas.Slice.Eq.{bytes_eq-Decides}
use Rattle.std.specs.Str.{bytes_eq}
use Rattle.std.specs.declared.cmp.Ordering.TheVariants.{Less, Equal}
use Rattle.cedar_ast.proofs.Inclusion.{Included-none, Included-cons}
use Rattle.cedar_ast.proofs.Lists.{Contains-cons, Contains-cons_cases}
use Rattle.cedar_ast.proofs.Texts.{text_cmp-Equal}
use Rattle.cedar_ast.proofs.ValueLemmas.{length-stretch, stretch, stretch_name, IsText-stretch, IsText-nil, IsName-stretch}
use Rattle.cedar_type_rules.proofs.AgreeLaws.{HasField-once}
use Rattle.cedar_type_rules.proofs.Extensional.{IsBelowEach, first_below, rest_sorted_by_name}
use Rattle.cedar_type_rules.proofs.RecordAnswers.{decide_texts}
use Rattle.cedar_type_rules.proofs.SubtypeLaws.{HasField-name}
use Rattle.cedar_type_rules.proofs.SubtypeLemmas.{chosen_first, unchosen}
use Rattle.cedar_type_rules.specs.Words.{AnyBool, AreEntries, AreInhabited, AreTexts, AreWellFormed, BoolType, ClosedAttributes, Entries, EntryFits, Extensions, False, Fields, Gives, Has, HasBy, HasField, HasFieldsBy, HasTruth, Included, IsInhabited, IsName, IsSortedByName, IsText, IsValue, IsWellFormed, NamesListed, OpenAttributes, OpenTag, PlainName, Text, Tree, Trees, True, Ty, any_entity, any_set, end, entry, entry_at, entry_names, extension_of, field, field_names, is_open, long, map_value, never, no_entry, no_tree, number_value, record_of, set_of, set_value, text, text_value, truth, truth_value, uid_value, union_of}

-- a record is a value of a type if each listed attribute fits
pub HasFields-from : (calls : PlainName → Trees → PlainName → Type 0) (values : Entries) (fields : Fields)
    → ((n : Text) (r : Bool) (t : Ty) → HasField fields n r t
    → EntryFits (λ value. HasBy calls value t) r (entry_at n values)) → HasFieldsBy calls values fields
HasFields-from calls values end each = tt
HasFields-from calls values (field name required ty rest) each =
    (each name required ty (inl (refl, refl, refl)), HasFields-from calls values rest (λ n r t has. each n r t (inr has)))

-- a value that is there fits if it is as it has to be
pub fits_some : (P : Tree → Type 0) (r : Bool) (found : Option Tree) (value : Tree) → found ≡ Some value → P value → EntryFits P r found
fits_some P r found value e holds = rw e holds

-- a value that is there and fits is as it has to be
pub some_fits : (P : Tree → Type 0) (r : Bool) (found : Option Tree) (value : Tree) → found ≡ Some value → EntryFits P r found → P value
some_fits P r found value e fits = rw e at fits

-- the value at the first name
pub entry_here : (n name : Text) (value : Tree) (rest : Entries) → n ≡ name → entry_at n (entry name value rest) ≡ Some value
entry_here n name value rest same =
    chosen_first (bytes_eq n name) (Some value) (entry_at n rest) ((bytes_eq-Decides n name).1 same)

-- the value at another name
pub entry_there : (n name : Text) (value : Tree) (rest : Entries) → n ≢ name → entry_at n (entry name value rest) ≡ entry_at n rest
entry_there n name value rest differ =
    unchosen (bytes_eq n name) (Some value) (entry_at n rest) (λ e. differ ((bytes_eq-Decides n name).0 e))

-- there is no value at a name that isn't there
pub absent_entry : (n : Text) (values : Entries) → ¬ Contains (entry_names values) n → entry_at n values ≡ None
absent_entry n no_entry absent = refl
absent_entry n (entry name value rest) absent =
    entry_there n name value rest (λ same. absent (Contains-cons name (entry_names rest) n (inl (sym same))))
    ∙ absent_entry n rest (λ there. absent (Contains-cons name (entry_names rest) n (inr there)))

-- a name with a value is there
pub entry_named : (n : Text) (values : Entries) (value : Tree) → entry_at n values ≡ Some value → Contains (entry_names values) n
entry_named n no_entry value e = absurd cc
entry_named n (entry name first rest) value e =
    elim (decide_texts n name) [
      | inl same ↦ Contains-cons name (entry_names rest) n (inl (sym same))
      | inr differ ↦
          Contains-cons name (entry_names rest) n (inr (entry_named n rest value (sym (entry_there n name first rest differ) ∙ e)))
    ]

-- how long the texts of a list are together
abbrev total : {B : Type 0} → (B → Text) → List B → ℕ
total f [] = 0
total f (x ∷ xs) = length (f x) + total f xs

-- no text of a list is longer
within_total : {B : Type 0} (f : B → Text) (xs : List B) (x : B) → Contains xs x → length (f x) ≤ total f xs
within_total f [] x among = absurd (omega (arith, among.1))
within_total f (y ∷ ys) x among =
    elim (Contains-cons_cases y ys x among) [
      | inl same ↦ rw (← same) (omega arith)
      | inr there ↦ let less = within_total f ys x there in omega (arith, less)
    ]

-- a text that is in neither of two lists
pub fresh_text : (names others : List Text) → (n : Text) × ¬ Contains names n × ¬ Contains others n × IsText n
fresh_text names others =
    let k = suc (total (λ name. name) names + total (λ name. name) others) in (
      stretch k,
      (λ among. (let less = within_total (λ name. name) names (stretch k) among in let long_enough = length-stretch k in
          omega (arith, less, long_enough))),
      (λ among. (let less = within_total (λ name. name) others (stretch k) among in let long_enough =
          length-stretch k in omega (arith, less, long_enough))),
      IsText-stretch k,
    )

-- a name that isn't in a list
pub fresh_name : (names : List PlainName) → (name : PlainName) × ¬ Contains names name × IsName name
fresh_name names =
    let k = total (λ (name : PlainName). name.base) names in (
      stretch_name k,
      (λ among. (let less = within_total (λ (name : PlainName). name.base) names (stretch_name k) among in
          let long_enough = length-stretch (suc k) in omega (arith, less, long_enough))),
      IsName-stretch k,
    )

-- a uid of that type is a value
pub uid_is_value : (name : PlainName) → IsName name → IsValue (uid_value (record { ty = name; eid = [] }))
uid_is_value name named = (named, IsText-nil)

-- zero is a value
pub zero_is_value : IsValue (number_value (pos 0))
zero_is_value = sfits_lit tt

-- a name below each of the names isn't one of them
below_isn't : (name : Text) (fields : Fields) → IsBelowEach name fields → ¬ Contains (field_names fields) name
below_isn't name end below among = omega (arith, among.1)
below_isn't name (field other required ty rest) below among =
    elim (Contains-cons_cases other (field_names rest) name among) [
      | inl same ↦ let tied : Less ≡ Equal = sym below.0 ∙ (text_cmp-Equal name other).1 (sym same) in cc
      | inr right ↦ below_isn't name rest below.1 right
    ]

-- a name isn't one of those after it, where they are sorted
pub first_absent : (name : Text) (required : Bool) (ty : Ty) (rest : Fields) → IsSortedByName (field name required ty rest)
    → ¬ Contains (field_names rest) name
first_absent name required ty rest sorted_by_name = below_isn't name rest (first_below name required ty rest sorted_by_name)

-- a value of what is known of a truth value
pub truth_sample : (known : BoolType) → (value : Bool) × HasTruth value known
truth_sample AnyBool = (true, tt)
truth_sample True = (true, refl)
truth_sample False = (false, refl)

-- a name of a list that isn't empty
pub some_name : (names : List PlainName) → names ≢ [] → (name : PlainName) × Contains names name
some_name [] some = absurd (some refl)
some_name (name ∷ rest) some = (name, Contains-cons name rest name (inl refl))

-- a record whose names are listed has only listed names
pub only_listed : (openness : OpenTag) (values : Entries) (fields : Fields)
    → Included (entry_names values) (field_names fields) → NamesListed (is_open openness) (entry_names values) (field_names fields)
only_listed OpenAttributes values fields listed = tt
only_listed ClosedAttributes values fields listed = listed

-- values of a record's attributes, but for those of one name
pub record Sample (extensions : Extensions) (fields : Fields) (without : Text) : Type 0 where
  pub values : Entries
  pub listed : Included (entry_names values) (field_names fields)
  pub absent : ¬ Contains (entry_names values) without
  pub valid : AreEntries values
  pub has : (n : Text) (r : Bool) (t : Ty) → HasField fields n r t → n ≢ without → (value : Tree)
      × (entry_at n values ≡ Some value) × Has extensions value t

-- an attribute of the name is left out
leave_out : (extensions : Extensions) (name without : Text) (required : Bool) (ty : Ty) (rest : Fields) → name ≡ without
    → Sample extensions rest without → Sample extensions (field name required ty rest) without
leave_out extensions name without required ty rest same before = record {
  values = before.values;
  listed = λ n among. Contains-cons name (field_names rest) n (inr (before.listed n among));
  absent = before.absent;
  valid = before.valid;
  has = λ n r t has differ. elim has [ inl here ↦ absurd (differ (sym here.0 ∙ same)) | inr there ↦ before.has n r t there differ ];
}

-- an attribute of another name gets a value
put_in : (extensions : Extensions) (name without : Text) (required : Bool) (ty : Ty) (rest : Fields) (value : Tree)
    → IsSortedByName (field name required ty rest) → IsText name → name ≢ without → IsValue value → Has extensions value ty
    → Sample extensions rest without → Sample extensions (field name required ty rest) without
put_in extensions name without required ty rest value sorted_by_name named differ real holds before = record {
  values = entry name value before.values;
  listed = Included-cons name (entry_names before.values) (name ∷ field_names rest) (Contains-cons name (field_names rest) name (inl refl))
      (λ n among. Contains-cons name (field_names rest) n (inr (before.listed n among)));
  absent = λ among. elim (Contains-cons_cases name (entry_names before.values) without among) [
    | inl left ↦ differ left
    | inr right ↦ before.absent right
  ];
  valid = (named, real, before.valid, (λ among. first_absent name required ty rest sorted_by_name (before.listed name among)));
  has = λ n r t has apart. elim (decide_texts n name) [
    | inl same ↦
        let first : HasField (field name required ty rest) n required ty = inl (sym same, refl, refl) in (
          value,
          entry_here n name value before.values same,
          rw (HasField-once (field name required ty rest) n required r ty t sorted_by_name first has).1 at holds,
        )
    | inr other ↦
        elim has [
          | inl here ↦ absurd (other (sym here.0))
          | inr there ↦
              let found = before.has n r t there apart in
              (found.0, entry_there n name value before.values other ∙ found.1, found.2)
        ]
  ];
}

mutual
  -- an inhabited type has a value
  pub inhabitant : (extensions : Extensions) (ty : Ty) → IsWellFormed ty → IsInhabited extensions ty → (value : Tree)
      × IsValue value × Has extensions value ty
  inhabitant extensions never formed lives = elim lives [ ]
  inhabitant extensions (truth known) formed lives = (let it = truth_sample known in (truth_value it.0, tt, it.1))
  inhabitant extensions long formed lives = (number_value (pos 0), zero_is_value, tt)
  inhabitant extensions text formed lives = (text_value [], IsText-nil, tt)
  inhabitant extensions any_entity formed lives =
      (uid_value (record { ty = stretch_name 0; eid = [] }), uid_is_value (stretch_name 0) (IsName-stretch 0), tt)
  inhabitant extensions (union_of names) formed lives =
      (let it = some_name names formed.0 in (uid_value (record { ty = it.0; eid = [] }), uid_is_value it.0 (formed.2 it.0 it.1), it.1))
  inhabitant extensions any_set formed lives = (set_value no_tree, tt, tt)
  inhabitant extensions (set_of ty) formed lives = (set_value no_tree, tt, tt)
  inhabitant extensions (record_of fields openness) formed lives =
      let fresh = fresh_text (field_names fields) [] in
      let it = sample extensions fields fresh.0 formed.0 formed.1 formed.2 lives in (
        map_value it.values,
        it.valid,
        (
          only_listed openness it.values fields it.listed,
          HasFields-from (Gives extensions) it.values fields (λ n r t has. (let found =
              it.has n r t has (λ same. fresh.1 (rw same at (HasField-name fields n r t has))) in
              fits_some (λ value. Has extensions value t) r (entry_at n it.values) found.0 found.1 found.2)),
        ),
      )
  inhabitant extensions (extension_of name) formed lives = lives

  -- inhabited attributes have values
  pub sample : (extensions : Extensions) (fields : Fields) (without : Text) → IsSortedByName fields → AreWellFormed fields
      → AreTexts (field_names fields) → AreInhabited extensions fields → Sample extensions fields without
  sample extensions end without sorted_by_name formed texts lives = record {
    values = no_entry;
    listed = Included-none [];
    absent = λ among. omega (arith, among.1);
    valid = tt;
    has = λ n r t has differ. absurd has;
  }
  sample extensions (field name required ty rest) without sorted_by_name formed texts lives =
      let before = sample extensions rest without (rest_sorted_by_name name required ty rest sorted_by_name) formed.1
      (λ n among. texts n (Contains-cons name (field_names rest) n (inr among))) lives.1 in
      let value = inhabitant extensions ty formed.0 lives.0 in
      elim (decide_texts name without) [
        | inl same ↦ leave_out extensions name without required ty rest same before
        | inr differ ↦
            put_in extensions name without required ty rest value.0 sorted_by_name
            (texts name (Contains-cons name (field_names rest) name (inl refl))) differ value.1 value.2 before
      ]
