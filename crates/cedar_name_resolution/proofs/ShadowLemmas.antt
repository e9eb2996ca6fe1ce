-- Names that would shadow others.
use Rattle.std.proofs.Common.{◌≡◌, ◌⊎◌, Bool, true, false, List, [], ◌∷◌, ◌++◌, None, Some, map, ap, sym, subst, ◌∙◌, refl, inl, inr, append_assoc, Contains, string_bytes, arith, cond}
use Rattle.std.proofs.lemmas.Bool.{false≢true}
use Rattle.std.proofs.lemmas.List.{append-nil, map-append}
use Rattle.std.proofs.lemmas.List.Elements.{Contains-append_right, Contains-append_cases}
use Rattle.std.proofs.lemmas.Option.{none-some, same_Some}
use Rattle.std.specs.BTreeMap.{insert_entry}
use Rattle.std.specs.List.{AllByRecursion}
use Rattle.std.specs.Map.{lookup}
use Rattle.std.specs.Ordering.{is_eq, match_ordering}
use Rattle.std.specs.String.{string_cmp}
use Rattle.std.specs.declared.alloc.Global.{Global}
use Rattle.std.specs.declared.cmp.Ordering.{Ordering}
use Rattle.std.specs.declared.cmp.Ordering.TheVariants.{Less, Equal, Greater}
use Rattle.std.specs.declared.string.String.{String}
use Rattle.cedar_ast.proofs.Basics.{Contains-image, Contains-single, is_eq-Equal}
use Rattle.cedar_ast.proofs.Lists.{Contains-cons, Contains-cons_cases}
use Rattle.cedar_ast.proofs.Texts.{text_cmp-Equal}
use Rattle.cedar_name_resolution.specs.Words.{EntityUID, IsPlainAction, IsUnqualified, PlainName, PlainUid, ShadowsAction, ShadowsType, Text, text_cmp, uid_of}

-- the actions with unqualified types, by id
abbrev pub Entries : Type 0
Entries = List (String Global × EntityUID)

-- the ids of the entries
abbrev pub ids_of : Entries → List Text
ids_of entries = map (λ entry. string_bytes entry.0) entries

-- the entries with one more have its id too
ids_inserted : (entries : Entries) (id : String Global) (uid : EntityUID) (text : Text)
    → (Contains (ids_of entries) text ⊎ (string_bytes id ≡ text)) → Contains (ids_of (insert_entry string_cmp entries id uid)) text
ids_inserted [] id uid text has = elim has [
  | inl nothing ↦ absurd (omega (arith, nothing.1))
  | inr same ↦ Contains-cons (string_bytes id) [] text (inl same)
]
ids_inserted (first ∷ rest) id uid text has = placed (string_cmp id first.0) refl (ids_inserted rest id uid text)
  where
    placed : (answer : Ordering) → string_cmp id first.0 ≡ answer
        → ((Contains (ids_of rest) text ⊎ (string_bytes id ≡ text)) → Contains (ids_of (insert_entry string_cmp rest id uid)) text)
        → Contains (ids_of (match_ordering answer ((id, uid) ∷ first ∷ rest) ((first.0, uid) ∷ rest)
        (first ∷ insert_entry string_cmp rest id uid))) text
    placed Less is later = elim has [
      | inl here ↦ Contains-cons (string_bytes id) (ids_of (first ∷ rest)) text (inr here)
      | inr same ↦ Contains-cons (string_bytes id) (ids_of (first ∷ rest)) text (inl same)
    ]
    placed Equal is later = elim has [
      | inl here ↦ here
      | inr same ↦ Contains-cons (string_bytes first.0) (ids_of rest) text
          (inl (sym ((text_cmp-Equal (string_bytes id) (string_bytes first.0)).0 is) ∙ same))
    ]
    placed Greater is later = elim has [
      | inl here ↦ elim (Contains-cons_cases (string_bytes first.0) (ids_of rest) text here) [
        | inl same ↦ Contains-cons (string_bytes first.0) (ids_of (insert_entry string_cmp rest id uid)) text (inl same)
        | inr there ↦ Contains-cons (string_bytes first.0) (ids_of (insert_entry string_cmp rest id uid)) text (inr (later (inl there)))
      ]
      | inr same ↦ Contains-cons (string_bytes first.0) (ids_of (insert_entry string_cmp rest id uid)) text (inr (later (inr same)))
    ]

-- each entry is that of a plain action
abbrev pub ArePlain : List PlainUid → Entries → Type 0
ArePlain actions entries = AllByRecursion (λ entry. IsPlainAction actions (string_bytes entry.0) (uid_of entry.1)) entries

-- with one more that is
plain_inserted : (actions : List PlainUid) (entries : Entries) (id : String Global) (uid : EntityUID) → ArePlain actions entries
    → IsPlainAction actions (string_bytes id) (uid_of uid) → ArePlain actions (insert_entry string_cmp entries id uid)
plain_inserted actions [] id uid all one = (one, tt)
plain_inserted actions (first ∷ rest) id uid all one = placed (string_cmp id first.0) refl (plain_inserted actions rest id uid all.1 one)
  where
    placed : (answer : Ordering) → string_cmp id first.0 ≡ answer → ArePlain actions (insert_entry string_cmp rest id uid)
        → ArePlain actions (match_ordering answer ((id, uid) ∷ first ∷ rest) ((first.0, uid) ∷ rest)
        (first ∷ insert_entry string_cmp rest id uid))
    placed Less is later = (one, all)
    placed Equal is later =
        (rw ((text_cmp-Equal (string_bytes id) (string_bytes first.0)).0 is) at one, all.1)
    placed Greater is later = (all.0, later)

-- of some actions those with unqualified types are listed by id, and others are left
pub record PlainSoFar (all : List EntityUID) (entries : Entries) (left : List EntityUID) : Type 0 where
  pub done : List EntityUID
  pub split : all ≡ done ++ left
  pub each : ArePlain (map uid_of all) entries
  pub listed : (uid : PlainUid) → Contains (map uid_of done) uid → IsUnqualified uid.ty → Contains (ids_of entries) uid.eid

-- what is done with one more
done_cases : (done : List EntityUID) (x : EntityUID) (uid : PlainUid) → Contains (map uid_of (done ++ x ∷ [])) uid
    → Contains (map uid_of done) uid ⊎ (uid_of x ≡ uid)
done_cases done x uid among =
    elim (Contains-append_cases (map uid_of done) (uid_of x ∷ []) uid (rw (map-append uid_of done (x ∷ [])) at among)) [
      | inl here ↦ inl here
      | inr one ↦ inr (Contains-single (uid_of x) uid one)
    ]

-- one more that is left is among all
pub left_among : (all done left rest : List EntityUID) (x : EntityUID) → all ≡ done ++ left → left ≡ x ∷ rest → Contains (map uid_of all) (uid_of x)
left_among all done left rest x split is =
    rw (split, ap (λ others. done ++ others) is)
    (Contains-image uid_of (done ++ x ∷ rest) x (Contains-append_right done (x ∷ rest) x (0, omega arith, refl)))

-- one more that is plain is listed
pub PlainSoFar-listed : (all left rest : List EntityUID) (entries more : Entries) (x copy : EntityUID) (id : String Global)
    → left ≡ x ∷ rest → IsUnqualified (uid_of x).ty → uid_of copy ≡ uid_of x → string_bytes id ≡ (uid_of x).eid
    → more ≡ insert_entry string_cmp entries id copy → PlainSoFar all entries left → PlainSoFar all more rest
PlainSoFar-listed all left rest entries more x copy id is plain same named pushed so_far =
    let IsSoFar : Entries → Type 0 = λ each. PlainSoFar all each rest in
    let IsPlain : PlainUid → Type 0 = IsPlainAction (map uid_of all) (string_bytes id) in
    subst IsSoFar (sym pushed) (record {
      done = so_far.done ++ x ∷ [];
      split = so_far.split ∙ (ap (λ others. so_far.done ++ others) is ∙ sym (append_assoc so_far.done (x ∷ []) rest));
      each = plain_inserted (map uid_of all) entries id copy so_far.each
          (subst IsPlain (sym same) (left_among all so_far.done left rest x so_far.split is, plain, sym named));
      listed = λ uid among unqualified. ids_inserted entries id copy uid.eid
          (elim (done_cases so_far.done x uid among) [
            | inl here ↦ inl (so_far.listed uid here unqualified)
            | inr this ↦ inr (named ∙ ap (λ (each : PlainUid). each.eid) this)
          ]);
    })

-- one more that isn't plain is passed
pub PlainSoFar-passed : (all left rest : List EntityUID) (entries : Entries) (x : EntityUID) → left ≡ x ∷ rest
    → ¬ IsUnqualified (uid_of x).ty → PlainSoFar all entries left → PlainSoFar all entries rest
PlainSoFar-passed all left rest entries x is qualified so_far =
    record {
      done = so_far.done ++ x ∷ [];
      split = so_far.split ∙ (ap (λ others. so_far.done ++ others) is ∙ sym (append_assoc so_far.done (x ∷ []) rest));
      each = so_far.each;
      listed = λ uid among unqualified. elim (done_cases so_far.done x uid among) [
        | inl here ↦ so_far.listed uid here unqualified
        | inr this ↦ absurd (qualified (rw (← this) at unqualified))
      ];
    }

-- where none is left, all are listed
pub plain_listed : (all left : List EntityUID) (entries : Entries) → left ≡ [] → PlainSoFar all entries left
    → (uid : PlainUid) → Contains (map uid_of all) uid → IsUnqualified uid.ty → Contains (ids_of entries) uid.eid
plain_listed all left entries nothing so_far =
    rw (so_far.split, ap (λ others. so_far.done ++ others) nothing, append-nil so_far.done) so_far.listed

-- what a look-up by id finds is plain and has the id
pub looked_up : (actions : List PlainUid) (entries : Entries) (text : Text) (uid : EntityUID) → ArePlain actions entries
    → lookup (λ key. is_eq (text_cmp text (string_bytes key))) entries ≡ Some uid → IsPlainAction actions text (uid_of uid)
looked_up actions [] text uid all found = absurd (none-some uid found)
looked_up actions (entry ∷ rest) text uid all found =
    decided (is_eq (text_cmp text (string_bytes entry.0))) refl found (looked_up actions rest text uid all.1)
  where
    decided : (answer : Bool) → is_eq (text_cmp text (string_bytes entry.0)) ≡ answer
        → cond answer (Some entry.1) (lookup (λ key. is_eq (text_cmp text (string_bytes key))) rest) ≡ Some uid
        → (lookup (λ key. is_eq (text_cmp text (string_bytes key))) rest ≡ Some uid → IsPlainAction actions text (uid_of uid))
        → IsPlainAction actions text (uid_of uid)
    decided true is here later =
        let same : string_bytes entry.0 ≡ text =
        sym ((text_cmp-Equal text (string_bytes entry.0)).0 (is_eq-Equal (text_cmp text (string_bytes entry.0)) is)) in
        let this : entry.1 ≡ uid = same_Some entry.1 uid here in
        rw (this, same) at all.0
    decided false is there later = later there

-- an id that a look-up doesn't find is none of theirs
pub not_looked_up : (entries : Entries) (text : Text) → lookup (λ key. is_eq (text_cmp text (string_bytes key))) entries ≡ None
    → ¬ Contains (ids_of entries) text
not_looked_up [] text found among = omega (arith, among.1)
not_looked_up (entry ∷ rest) text found among =
    decided (is_eq (text_cmp text (string_bytes entry.0))) refl found (not_looked_up rest text)
  where
    decided : (answer : Bool) → is_eq (text_cmp text (string_bytes entry.0)) ≡ answer
        → cond answer (Some entry.1) (lookup (λ key. is_eq (text_cmp text (string_bytes key))) rest) ≡ None
        → (lookup (λ key. is_eq (text_cmp text (string_bytes key))) rest ≡ None → ¬ Contains (ids_of rest) text) → ⊥
    decided true is here later = let wrong : Some entry.1 ≡ None = here in cc
    decided false is there later = elim (Contains-cons_cases (string_bytes entry.0) (ids_of rest) text among) [
      | inl same ↦ false≢true (sym is ∙ ap is_eq ((text_cmp-Equal text (string_bytes entry.0)).1 (sym same)))
      | inr right ↦ later there right
    ]

-- of some items a fact holds, and others are left
pub record PassedSoFar {A B : Type 0} (P : B → Type 0) (f : A → B) (all left : List A) : Type 0 where
  pub done : List A
  pub split : all ≡ done ++ left
  pub each : (x : B) → Contains (map f done) x → P x

module _ {A B : Type 0} (P : B → Type 0) (f : A → B) where
  -- it holds of one more
  pub PassedSoFar-more : (all left rest : List A) (x : A) → left ≡ x ∷ rest → P (f x) → PassedSoFar P f all left → PassedSoFar P f all rest
  PassedSoFar-more all left rest x is holds so_far =
      record {
        done = so_far.done ++ x ∷ [];
        split = so_far.split ∙ (ap (λ others. so_far.done ++ others) is ∙ sym (append_assoc so_far.done (x ∷ []) rest));
        each = λ y among. elim (Contains-append_cases (map f so_far.done) (f x ∷ []) y
            (rw (map-append f so_far.done (x ∷ [])) at among)) [
              | inl here ↦ so_far.each y here
              | inr one ↦ rw (Contains-single (f x) y one) at holds
            ];
      }

  -- where none is left, it holds of all
  pub passed_all : (all left : List A) → left ≡ [] → PassedSoFar P f all left → (x : B) → Contains (map f all) x → P x
  passed_all all left nothing so_far =
      rw (so_far.split, ap (λ others. so_far.done ++ others) nothing, append-nil so_far.done) so_far.each

  -- the next one is among all
  pub passed_next : (all left rest : List A) (x : A) → left ≡ x ∷ rest → PassedSoFar P f all left → Contains (map f all) (f x)
  passed_next all left rest x is so_far =
      rw (so_far.split, ap (λ others. so_far.done ++ others) is)
      (Contains-image f (so_far.done ++ x ∷ rest) x (Contains-append_right so_far.done (x ∷ rest) x (0, omega arith, refl)))

-- an action of an unqualified type is shadowed by none
pub unqualified_is_not_shadowed : (actions : List PlainUid) (uid : PlainUid) → IsUnqualified uid.ty
    → (plain : PlainUid) → Contains actions plain → ¬ ShadowsAction plain uid
unqualified_is_not_shadowed actions uid unqualified plain among shadows = shadows.1 unqualified

-- neither is one whose id no plain action has
pub not_shadowed : (actions : List PlainUid) (entries : Entries) (uid : PlainUid)
    → ((plain : PlainUid) → Contains actions plain → IsUnqualified plain.ty → Contains (ids_of entries) plain.eid)
    → ¬ Contains (ids_of entries) uid.eid → (plain : PlainUid) → Contains actions plain → ¬ ShadowsAction plain uid
not_shadowed actions entries uid all absent plain among shadows =
    absent (rw shadows.2 at (all plain among shadows.0))

-- the unqualified name that would shadow a name is the one of its base name
pub shadow_is : (plain made name : PlainName) → made.base ≡ name.base → made.path ≡ [] → ShadowsType plain name → plain ≡ made
shadow_is plain made name base path shadows = λ i. record { base = (shadows.3 ∙ sym base) i; path = (shadows.0 ∙ sym path) i }
