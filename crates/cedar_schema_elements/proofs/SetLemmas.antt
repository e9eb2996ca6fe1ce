-- Sets of entity types, of uids and of references, by the plain data that these stand for.
use Rattle.std.proofs.Common.{◌≡◌, ◌≢◌, ◌↔◌, Bool, true, false, IsTrue, IfOk, Result, Ok, Err, cond, ◌||◌, List, [], ◌∷◌, ◌++◌, map, refl, sym, ap, ◌∙◌, AllPairs, Contains, arith, subst}
use Rattle.std.proofs.lemmas.Bool.{false≢true}
use Rattle.std.proofs.lemmas.Bool.Decides.{Decides-like}
use Rattle.std.proofs.lemmas.List.Elements.{All-from_recursion}
use Rattle.std.proofs.lemmas.List.Folds.{list_any-append}
use Rattle.std.proofs.lemmas.List.Kept.{AllPairs-cons}
use Rattle.std.proofs.lemmas.Map.Lookups.{hash_set_eq_decides}
use Rattle.std.proofs.lemmas.Result.{IfOk-weaker}
use Rattle.std.specs.BTreeMap.{is_at}
use Rattle.std.specs.BTreeSet.{BTreeSet, IsFromIterResult}
use Rattle.std.specs.Bool.{Decides}
use Rattle.std.specs.Cmp.{Equal-is, IsEquivalence, IsTotalOrder}
use Rattle.std.specs.Cmp.Lexicographic.{pointwise}
use Rattle.std.specs.HashSet.{HashSet, hash_set_eq}
use Rattle.std.specs.List.{list_any}
use Rattle.std.specs.List.Sorted.{IsStrictlySortedBy}
use Rattle.std.specs.declared.cmp.Ordering.{Ordering}
use Rattle.std.specs.declared.cmp.Ordering.TheVariants.{Equal, Less}
use Rattle.cedar_ast.proofs.Lists.{list_any-Contains, Contains-preimage}
use Rattle.cedar_ast.proofs.Names.{entity_type_eq-same, entity_type_ord-Equal, entity_type_ord-name_cmp}
use Rattle.cedar_ast.proofs.Ordered.{IsStrictlySortedBy-map, not_itself}
use Rattle.cedar_ast.proofs.PlainNames.{name_cmp-total, uid_cmp-total}
use Rattle.cedar_ast.proofs.Uids.{entity_uid_eq-same, entity_uid_ord-Equal, entity_uid_ord-uid_cmp}
use Rattle.cedar_ast.specs.contracts.entity_type.EntityTypeEq.TheImpl as entity_type_equal
use Rattle.cedar_ast.specs.contracts.entity_type.EntityTypeOrd.TheImpl as entity_type_ord
use Rattle.cedar_ast.specs.contracts.entity_type.EntityTypePartialEq.TheImpl as entity_type_eq
use Rattle.cedar_ast.specs.contracts.entity_uid.EntityUIDEq.TheImpl as uid_equal
use Rattle.cedar_ast.specs.contracts.entity_uid.EntityUIDOrd.TheImpl as uid_ord
use Rattle.cedar_ast.specs.contracts.entity_uid.EntityUIDPartialEq.TheImpl as uid_eq
use Rattle.cedar_name_resolution.proofs.SetLemmas.{collected, found-Decides}
use Rattle.cedar_schema_ast.proofs.Equality.{conditional_name-Decides}
use Rattle.cedar_schema_ast.specs.contracts.json_schema.conditional_name.ConditionalNameEq.TheImpl as conditional_name_equal
use Rattle.cedar_schema_ast.specs.contracts.json_schema.conditional_name.ConditionalNamePartialEq.TheImpl as conditional_name_eq
use Rattle.cedar_schema_elements.specs.Words.{ConditionalName, EntityType, EntityUID, Reference, SameItems, conditional_reference, name_cmp, possibilities_of, reference_type_of, type_name, uid_cmp, uid_of}
use Rattle.cedar_type_rules.proofs.AntisymmetryLaws.{Included-same}
use Rattle.cedar_type_rules.proofs.SubtypeLemmas.{pointwise-map_Decides}

-- where a set is asked for an item that was inserted or for another
pub cond-first : (b c : Bool) → cond b true c ≡ (b || c)
cond-first true c = refl
cond-first false c = refl

-- a test that is asked first may be asked last
cond-last : (b c : Bool) → cond b true c ≡ (c || (b || false))
cond-last true true = refl
cond-last true false = refl
cond-last false true = refl
cond-last false false = refl

-- tests of facts that hold together answer alike
pub alike : {P Q : Type 0} (a b : Bool) → Decides a P → Decides b Q → (P → Q) → (Q → P) → a ≡ b
alike true true first second forth back = refl
alike true false first second forth back = absurd (false≢true (second.1 (forth (first.0 refl))))
alike false true first second forth back = absurd (false≢true (first.1 (back (second.0 refl))))
alike false false first second forth back = refl

-- two lists answer each search by equality alike
abbrev pub AnswersAlike : {K : Type 0} → (K → K → Bool) → List K → List K → Type 0
AnswersAlike {K = K} eq xs ys = (q : K) → list_any (eq q) xs ≡ list_any (eq q) ys

-- where an equal item is inserted, the lists still answer alike
pub AnswersAlike-insert : {K : Type 0} {eq : K → K → Bool} → IsEquivalence eq → (before old new : List K) (x copy : K)
    → AnswersAlike eq old before → eq copy x ≡ true
    → ((q : K) → list_any (eq q) new ≡ cond (eq copy q) true (list_any (eq q) old)) → AnswersAlike eq new (before ++ x ∷ [])
AnswersAlike-insert {eq = eq} laws before old new x copy answers same inserted q =
    inserted q ∙ ap (λ b. cond b true (list_any (eq q) old)) (laws.congr copy x q same ∙ laws.symm x q)
    ∙ ap (cond (eq q x) true) (answers q) ∙ cond-last (eq q x) (list_any (eq q) before)
    ∙ sym (list_any-append (eq q) before (x ∷ []))

-- where an equal item is pushed, the lists still answer alike
pub AnswersAlike-push : {K : Type 0} {eq : K → K → Bool} → IsEquivalence eq → (before all : List K) (x copy : K)
    → AnswersAlike eq all before → eq copy x ≡ true → AnswersAlike eq (all ++ copy ∷ []) (before ++ x ∷ [])
AnswersAlike-push {eq = eq} laws before all x copy answers same q =
    let equal : eq q copy ≡ eq q x = laws.symm q copy ∙ laws.congr copy x q same ∙ laws.symm x q in
    list_any-append (eq q) all (copy ∷ []) ∙ (λ i. answers q i || (equal i || false))
    ∙ sym (list_any-append (eq q) before (x ∷ []))

-- items that are equal exactly where they stand for the same
module _ {K B : Type 0} (eq : K → K → Bool) (f : K → B) (laws : IsEquivalence eq)
    (same : (a b : K) → Decides (eq a b) (f a ≡ f b)) where
  -- a search by equality decides whether what the item stands for is among what the others do
  pub list_any-items : (x : K) (xs : List K) → Decides (list_any (eq x) xs) (Contains (map f xs) (f x))
  list_any-items x xs = list_any-Contains f (f x) (eq x) (λ y. (λ e. sym ((same x y).0 e), λ e. (same x y).1 (sym e))) xs

  -- where two lists answer alike, what the one stands for is among what the other does
  within : (xs ys : List K) → AnswersAlike eq xs ys → (b : B) → Contains (map f xs) b → Contains (map f ys) b
  within xs ys answers b among =
      let found = Contains-preimage f xs b among in
      let x = found.0 in
      let searched : list_any (eq x) ys ≡ true =
      sym (answers x) ∙ (list_any-items x xs).1 (rw found.2 among) in
      rw found.2 at ((list_any-items x ys).0 searched)

  -- where two lists answer alike, they stand for the same items
  pub SameItems-searches : (xs ys : List K) → AnswersAlike eq xs ys → SameItems (map f xs) (map f ys)
  SameItems-searches xs ys answers b = (within xs ys answers b, within ys xs (λ q. sym (answers q)) b)

  -- a copy that stands for the same is equal
  pub equal-copy : {E : Type 0} (x shown : K) (answer : Result K E) → shown ≡ x → IfOk answer (λ copy. f copy ≡ f shown)
      → IfOk answer (λ copy. IsTrue (eq copy x))
  equal-copy x shown answer shows copied = IfOk-weaker answer _ _ (λ copy e. (same copy x).1 (e ∙ ap f shows)) copied

  -- sets are equal exactly where they stand for the same items
  pub sets-Decides : {S : Type 0} (s t : HashSet K S)
      → Decides (hash_set_eq eq s t) (SameItems (map f s.keys) (map f t.keys))
  sets-Decides s t =
      Decides-like
      _ (λ answers. SameItems-searches s.keys t.keys answers)
      (λ items q. alike _ _ (list_any-items q s.keys) (list_any-items q t.keys) (items (f q)).0 (items (f q)).1)
      (hash_set_eq_decides laws s t)

-- lists that are equal have the same items
pub SameItems-equal : {A : Type 0} (items others : List A) → items ≡ others → SameItems items others
SameItems-equal {A = A} items others same =
    let P : List A → Type 0 = SameItems items in subst P same (λ item. (λ is. is, λ is. is))

-- what stands in order is there once
pub once : {B : Type 0} (order : B → B → Ordering) → IsTotalOrder order → (items : List B) → IsStrictlySortedBy order items
    → AllPairs (λ a b. a ≢ b) items
unfolding IsStrictlySortedBy
once order total [] sorted = λ i j d before below. absurd (omega arith)
once order total (item ∷ items) sorted =
    AllPairs-cons (λ a b. a ≢ b) item items (λ k d below same. not_itself order total item _ same
    (All-from_recursion (λ other. order item other ≡ Less) items sorted.0 k d below)) (once order total items sorted.1)

-- keys that tie, and are equal, exactly where they stand for the same
module _ {K B : Type 0} (cmp : K → K → Ordering) (eq : K → K → Bool) (f : K → B)
    (same : (a b : K) → Decides (eq a b) (f a ≡ f b)) (tied : (a b : K) → (cmp a b ≡ Equal) ↔ (f a ≡ f b)) where
  -- a key is found at another exactly where it equals it
  at_equal : (q key : K) → is_at (cmp q) key ≡ eq q key
  at_equal q key =
      alike (is_at (cmp q) key) (eq q key)
      (λ at. (tied q key).0 ((Equal-is (cmp q key)).0 at), λ is. (Equal-is (cmp q key)).1 ((tied q key).1 is)) (same q key) (λ is. is) (λ is. is)

  -- so a search by the order answers as one by equality
  pub searches_alike : (q : K) (keys : List K) → list_any (is_at (cmp q)) keys ≡ list_any (eq q) keys
  searches_alike q keys = λ i. list_any (λ key. at_equal q key i) keys

  -- after an insertion one finds what was inserted, and what it found before
  pub inserted_search : (old new : List K) (key q : K)
      → list_any (is_at (cmp q)) new ≡ cond (is_at (cmp key) q) true (list_any (is_at (cmp q)) old)
      → list_any (eq q) new ≡ cond (eq key q) true (list_any (eq q) old)
  inserted_search old new key q updated =
      sym (searches_alike q new) ∙ updated ∙ (λ i. cond (at_equal key q i) true (searches_alike q old i))

  module _ (order : B → B → Ordering) (total : IsTotalOrder order) (agree : (a b : K) → cmp a b ≡ order (f a) (f b)) where
    -- keys in order stand for something else each
    pub keys_once : (keys : List K) → IsStrictlySortedBy cmp keys → AllPairs (λ a b. a ≢ b) (map f keys)
    keys_once keys sorted = once order total (map f keys) (IsStrictlySortedBy-map cmp order f agree keys sorted)

    -- keys in order are equal one by one exactly where they stand for the same items
    pub ordered-Decides : (xs ys : List K) → IsStrictlySortedBy cmp xs → IsStrictlySortedBy cmp ys
        → Decides (pointwise eq xs ys) (SameItems (map f xs) (map f ys))
    ordered-Decides xs ys first second =
        Decides-like
        _ (SameItems-equal (map f xs) (map f ys))
        (λ items. Included-same order total (map f xs) (map f ys) (IsStrictlySortedBy-map cmp order f agree xs first)
        (IsStrictlySortedBy-map cmp order f agree ys second) (λ it. (items it).0) (λ it. (items it).1))
        (pointwise-map_Decides f eq same xs ys)

-- entity types that answer alike have the same names
pub SameItems-types : (types others : List EntityType) → AnswersAlike (entity_type_eq.ghosts).eq types others
    → SameItems (map type_name types) (map type_name others)
SameItems-types = SameItems-searches (entity_type_eq.ghosts).eq type_name entity_type_equal.Laws.laws-law entity_type_eq-same

-- a copy of an entity type ties with it
pub tied-type : {E : Type 0} (ty shown : EntityType) (answer : Result EntityType E) → shown ≡ ty
    → IfOk answer (λ copy. type_name copy ≡ type_name shown)
    → IfOk answer (λ copy. (entity_type_ord.ghosts).cmp copy ty ≡ Equal)
tied-type ty shown answer shows copied =
    IfOk-weaker answer _ _ (λ copy e. (entity_type_ord-Equal copy ty).1 (e ∙ ap type_name shows)) copied

-- a copy of an entity type is equal
pub equal-type : {E : Type 0} (ty shown : EntityType) (answer : Result EntityType E) → shown ≡ ty
    → IfOk answer (λ copy. type_name copy ≡ type_name shown)
    → IfOk answer (λ copy. IsTrue ((entity_type_eq.ghosts).eq copy ty))
equal-type = equal-copy (entity_type_eq.ghosts).eq type_name entity_type_equal.Laws.laws-law entity_type_eq-same

-- a copy of a uid ties with it
pub tied-uid : {E : Type 0} (uid shown : EntityUID) (answer : Result EntityUID E) → shown ≡ uid
    → IfOk answer (λ copy. uid_of copy ≡ uid_of shown) → IfOk answer (λ copy. (uid_ord.ghosts).cmp copy uid ≡ Equal)
tied-uid uid shown answer shows copied =
    IfOk-weaker answer _ _ (λ copy e. (entity_uid_ord-Equal copy uid).1 (e ∙ ap uid_of shows)) copied

-- references are equal exactly where they stand for the same
pub reference-Decides : (a b : ConditionalName)
    → Decides ((conditional_name_eq.ghosts).eq a b) (conditional_reference a ≡ conditional_reference b)
reference-Decides a b =
    Decides-like
    _ (λ both i. record { possibilities = both.0 i; kind = both.1 i })
    (λ e. (ap (λ (it : Reference). it.possibilities) e, ap (λ (it : Reference). it.kind) e)) (conditional_name-Decides a b)

-- references that answer alike stand for the same
pub SameItems-references : (references others : List ConditionalName)
    → AnswersAlike (conditional_name_eq.ghosts).eq references others
    → SameItems (map conditional_reference references) (map conditional_reference others)
SameItems-references =
    SameItems-searches (conditional_name_eq.ghosts).eq conditional_reference conditional_name_equal.Laws.laws-law
    reference-Decides

-- a copy of a reference is equal
pub equal-reference : {E : Type 0} (reference shown : ConditionalName) (answer : Result ConditionalName E)
    → shown ≡ reference → IfOk answer (λ copy. possibilities_of copy ≡ possibilities_of shown)
    → IfOk answer (λ copy. reference_type_of copy ≡ reference_type_of shown)
    → IfOk answer (λ copy. IsTrue ((conditional_name_eq.ghosts).eq copy reference))
equal-reference reference shown (Ok copy) shows names kind =
    (conditional_name-Decides copy reference).1 (names ∙ ap possibilities_of shows, kind ∙ ap reference_type_of shows)
equal-reference reference shown (Err refused) shows names kind = tt

-- a search among uids by equality decides whether the uid is among them
pub list_any-uids : (uid : EntityUID) (uids : List EntityUID)
    → Decides (list_any ((uid_eq.ghosts).eq uid) uids) (Contains (map uid_of uids) (uid_of uid))
list_any-uids = list_any-items (uid_eq.ghosts).eq uid_of uid_equal.Laws.laws-law entity_uid_eq-same

-- entity types in order have a name each
pub types_once : (types : List EntityType) → IsStrictlySortedBy (entity_type_ord.ghosts).cmp types
    → AllPairs (λ a b. a ≢ b) (map type_name types)
types_once =
    keys_once (entity_type_ord.ghosts).cmp (entity_type_eq.ghosts).eq type_name entity_type_eq-same entity_type_ord-Equal
    name_cmp name_cmp-total entity_type_ord-name_cmp

-- uids in order are each listed once
pub uids_once : (uids : List EntityUID) → IsStrictlySortedBy (uid_ord.ghosts).cmp uids
    → AllPairs (λ a b. a ≢ b) (map uid_of uids)
uids_once =
    keys_once (uid_ord.ghosts).cmp (uid_eq.ghosts).eq uid_of entity_uid_eq-same entity_uid_ord-Equal
    uid_cmp uid_cmp-total entity_uid_ord-uid_cmp

-- a search for a type in order answers as one by equality
pub type_search : (ty : EntityType) (types : List EntityType)
    → list_any (is_at ((entity_type_ord.ghosts).cmp ty)) types ≡ list_any ((entity_type_eq.ghosts).eq ty) types
type_search =
    searches_alike (entity_type_ord.ghosts).cmp (entity_type_eq.ghosts).eq type_name entity_type_eq-same entity_type_ord-Equal

-- so does one for a uid
pub uid_search : (uid : EntityUID) (uids : List EntityUID)
    → list_any (is_at ((uid_ord.ghosts).cmp uid)) uids ≡ list_any ((uid_eq.ghosts).eq uid) uids
uid_search = searches_alike (uid_ord.ghosts).cmp (uid_eq.ghosts).eq uid_of entity_uid_eq-same entity_uid_ord-Equal

-- and it decides whether the name is among those of the types
pub type_found : (ty : EntityType) (types : List EntityType)
    → Decides (list_any (is_at ((entity_type_ord.ghosts).cmp ty)) types) (Contains (map type_name types) (type_name ty))
type_found ty types = found-Decides (entity_type_ord.ghosts).cmp type_name entity_type_ord-Equal types ty

-- a type that was inserted is found, and what was found before
pub type_inserted : (old new : List EntityType) (ty q : EntityType)
    → list_any (is_at ((entity_type_ord.ghosts).cmp q)) new
    ≡ cond (is_at ((entity_type_ord.ghosts).cmp ty) q) true (list_any (is_at ((entity_type_ord.ghosts).cmp q)) old)
    → list_any ((entity_type_eq.ghosts).eq q) new
    ≡ cond ((entity_type_eq.ghosts).eq ty q) true (list_any ((entity_type_eq.ghosts).eq q) old)
type_inserted =
    inserted_search (entity_type_ord.ghosts).cmp (entity_type_eq.ghosts).eq type_name entity_type_eq-same entity_type_ord-Equal

-- so it is with a uid
pub uid_inserted : (old new : List EntityUID) (uid q : EntityUID)
    → list_any (is_at ((uid_ord.ghosts).cmp q)) new
    ≡ cond (is_at ((uid_ord.ghosts).cmp uid) q) true (list_any (is_at ((uid_ord.ghosts).cmp q)) old)
    → list_any ((uid_eq.ghosts).eq q) new ≡ cond ((uid_eq.ghosts).eq uid q) true (list_any ((uid_eq.ghosts).eq q) old)
uid_inserted = inserted_search (uid_ord.ghosts).cmp (uid_eq.ghosts).eq uid_of entity_uid_eq-same entity_uid_ord-Equal

-- a set that was made of some types has their names
pub types_collected : (set : BTreeSet EntityType) (types : List EntityType)
    → IsFromIterResult (entity_type_ord.ghosts).cmp types set → SameItems (map type_name set.keys) (map type_name types)
types_collected = collected (entity_type_ord.ghosts).cmp type_name entity_type_ord-Equal

-- and one that was made of some uids has these
pub uids_collected : (set : BTreeSet EntityUID) (uids : List EntityUID)
    → IsFromIterResult (uid_ord.ghosts).cmp uids set → SameItems (map uid_of set.keys) (map uid_of uids)
uids_collected = collected (uid_ord.ghosts).cmp uid_of entity_uid_ord-Equal

-- sets of types are equal exactly where they have the same names
pub ordered_types-Decides : (types others : List EntityType) → IsStrictlySortedBy (entity_type_ord.ghosts).cmp types
    → IsStrictlySortedBy (entity_type_ord.ghosts).cmp others
    → Decides (pointwise (entity_type_eq.ghosts).eq types others) (SameItems (map type_name types) (map type_name others))
ordered_types-Decides =
    ordered-Decides (entity_type_ord.ghosts).cmp (entity_type_eq.ghosts).eq type_name entity_type_eq-same entity_type_ord-Equal
    name_cmp name_cmp-total entity_type_ord-name_cmp

-- sets of uids are exactly where they have the same
pub ordered_uids-Decides : (uids others : List EntityUID) → IsStrictlySortedBy (uid_ord.ghosts).cmp uids
    → IsStrictlySortedBy (uid_ord.ghosts).cmp others
    → Decides (pointwise (uid_eq.ghosts).eq uids others) (SameItems (map uid_of uids) (map uid_of others))
ordered_uids-Decides =
    ordered-Decides (uid_ord.ghosts).cmp (uid_eq.ghosts).eq uid_of entity_uid_eq-same entity_uid_ord-Equal
    uid_cmp uid_cmp-total entity_uid_ord-uid_cmp
