-- Keys that are put into a map one after another, each with its index.
use Rattle.std.proofs.Common.{◌≡◌, ◌≢◌, ℕ, ◌+◌, ◌<◌, ◌≤◌, List, [], ◌∷◌, length, get_or, map, Bool, true, false, cond, BTreeMap, Option, Some, None, IsSomeAnd, is_some, Bor, Global, bytes_eq, nat_cmp, refl, ap, sym, subst, ◌∙◌, arith, below_more}
use Rattle.std.proofs.lemmas.List.{get_or-map, get_or_default, length-map}
use Rattle.std.proofs.lemmas.Slice.Eq.{bytes_eq-Decides}
use Rattle.std.specs.BTreeMap.{get_by}
use Rattle.std.specs.Cmp.Lexicographic.{slice_cmp}
use Rattle.cedar_json.proofs.FieldLemmas.{nth_member-view}
use Rattle.cedar_json.specs.Words.{IsRepeated, Text, nth_member}
use Rattle.json.specs.Json.{object}
use Rattle.json.specs.Strict.{AreDistinct, keys}
use Rattle.json.specs.Value.{members_view, value_view}
use Rattle.json.specs.declared.value.Value.{Value}

abbrev pub MaybeShared : Type 0
MaybeShared = Bor Text × Value Global

abbrev pub Indices : Type 0
Indices = BTreeMap (Bor Text) ℕ

-- the index that a map has for a key
abbrev pub index_of : Indices → Text → Option ℕ
index_of seen key = get_by (λ k. slice_cmp nat_cmp key k.now) seen

-- the key of the member at an index
abbrev pub key_at : List MaybeShared → ℕ → MaybeShared → Text
key_at members i d = (get_or members i d).0.now

-- the map has the keys of the members before the index, each with its own, and no two are equal
pub record Seen (members : List MaybeShared) (seen : Indices) (index : ℕ) : Type 0 where
  pub found : (key : Text) (i : ℕ) → index_of seen key ≡ Some i → (i < index) × ((d : MaybeShared) → key_at members i d ≡ key)
  pub absent : (key : Text) → index_of seen key ≡ None → (i : ℕ) → i < index → (d : MaybeShared) → key_at members i d ≢ key
  pub apart : (i j : ℕ) → i < j → j < index → (d : MaybeShared) → key_at members i d ≢ key_at members j d

-- no key has been seen before the first member
pub none_seen : (members : List MaybeShared) (seen : Indices) → ((key : Text) → index_of seen key ≡ None) → Seen members seen 0
none_seen members seen empty = record {
  found = λ key i e. absurd (let none = empty key in cc);
  absent = λ key e i less d. absurd (omega (arith, less));
  apart = λ i j below less d. absurd (omega (arith, less));
}

-- the key of a member was seen before: the member before it has it too
pub seen_before : (members : List MaybeShared) (seen : Indices) (index earlier : ℕ) (x : MaybeShared) → index < length members
    → nth_member index (members_view members) ≡ Some (x.0.now, value_view x.1) → Seen members seen index
    → index_of seen x.0.now ≡ Some earlier → IsRepeated index (object (members_view members))
seen_before members seen index earlier x within here so_far e =
    let before = so_far.found x.0.now earlier e in
    let there = nth_member-view members earlier x (omega (arith, before.0, within)) in
    subst (λ m. IsSomeAnd m (λ n. (i : ℕ) × (i < index) × IsSomeAnd (nth_member i (members_view members)) (λ other. other.0 ≡ n.0))) (sym here)
    (earlier, before.0, subst (λ m. IsSomeAnd m (λ other. other.0 ≡ x.0.now)) (sym there) (before.1 x))

differ : (a b : Text) → bytes_eq a b ≡ false → a ≢ b
differ a b other e = let same = (bytes_eq-Decides a b).1 e in cc

-- what is seen behind a member that wasn't seen before
module _ (members : List MaybeShared) (seen new : Indices) (index : ℕ) (x : MaybeShared) (within : index < length members)
    (is : (d : MaybeShared) → key_at members index d ≡ x.0.now) (so_far : Seen members seen index)
    (fresh : index_of seen x.0.now ≡ None)
    (after : (key : Text) → index_of new key ≡ cond (bytes_eq x.0.now key) (Some index) (index_of seen key)) where
  found_by : (b : Bool) (key : Text) (i : ℕ) → bytes_eq x.0.now key ≡ b → cond b (Some index) (index_of seen key) ≡ Some i
      → (i < index + 1) × ((d : MaybeShared) → key_at members i d ≡ key)
  found_by true key i same e =
      let at_index : index ≡ i = cc in
      let named = (bytes_eq-Decides x.0.now key).0 same in
      (omega arith, λ d. subst (λ k. key_at members k d ≡ key) at_index (is d ∙ named))
  found_by false key i other e = let before = so_far.found key i e in (omega (arith, before.0), before.1)

  absent_at : (i : ℕ) → i < index + 1 → (key : Text) → ((d : MaybeShared) → x.0.now ≢ key)
      → ((j : ℕ) → j < index → (d : MaybeShared) → key_at members j d ≢ key) → (d : MaybeShared) → key_at members i d ≢ key
  absent_at i less key other before d =
      below_more (λ j. key_at members j d ≢ key) index (λ j below. before j below d) (λ e. other d (sym (is d) ∙ e)) i less

  absent_by : (b : Bool) (key : Text) → bytes_eq x.0.now key ≡ b → cond b (Some index) (index_of seen key) ≡ None
      → (i : ℕ) → i < index + 1 → (d : MaybeShared) → key_at members i d ≢ key
  absent_by true key same e i less d = absurd (cc)
  absent_by false key other e i less d = absent_at i less key (λ _. differ x.0.now key other) (so_far.absent key e) d

  apart_at : (i j : ℕ) → i < j → j < index + 1 → (d : MaybeShared) → key_at members i d ≢ key_at members j d
  apart_at i j below less d =
      below_more (λ k. i < k → key_at members i d ≢ key_at members k d) index (λ k lower ahead. so_far.apart i k ahead lower d)
      (λ ahead e. so_far.absent x.0.now fresh i ahead d (e ∙ is d)) j less below

  pub seen_more : Seen members new (index + 1)
  seen_more = record {
    found = λ key i e. found_by (bytes_eq x.0.now key) key i refl (sym (after key) ∙ e);
    absent = λ key e i less d. absent_by (bytes_eq x.0.now key) key refl (sym (after key) ∙ e) i less d;
    apart = apart_at;
  }

keys-view : (members : List MaybeShared) → keys (members_view members) ≡ map (λ m. m.0.now) members
keys-view [] = refl
keys-view (m ∷ rest) = ap (λ names. m.0.now ∷ names) (keys-view rest)

key_at-map : (members : List MaybeShared) (i : ℕ) (d : Text) (h : MaybeShared) → i < length members
    → get_or (map (λ (m : MaybeShared). m.0.now) members) i d ≡ key_at members i h
key_at-map members i d h within = get_or-map (λ (m : MaybeShared). m.0.now) members i h d within

distinct : (members : List MaybeShared) → ((i j : ℕ) → i < j → j < length members → (d : MaybeShared) → key_at members i d ≢ key_at members j d)
    → AreDistinct (map (λ (m : MaybeShared). m.0.now) members)
distinct [] apart i j d below within e = absurd (omega (arith, within))
distinct (m ∷ rest) apart i j d below within e =
    let all : List MaybeShared = m ∷ rest in
    let inside : j < length all = omega (arith, length-map all (λ (x : MaybeShared). x.0.now)) in
    apart i j below inside m (sym (key_at-map all i d m (omega arith)) ∙ e ∙ key_at-map all j d m inside)

-- where all members were gone over, no two keys are equal
pub all_seen : (members : List MaybeShared) (seen : Indices) (index : ℕ) → length members ≤ index → Seen members seen index
    → AreDistinct (keys (members_view members))
all_seen members seen index end so_far =
    subst AreDistinct (sym (keys-view members))
    (distinct members (λ i j below within d. so_far.apart i j below (omega (arith, end, within)) d))

-- the key of the member at an index
pub key_here : (xs members : List MaybeShared) (index : ℕ) (x : MaybeShared) → xs ≡ members → index < length xs → x ≡ get_or xs index x
    → (d : MaybeShared) → key_at members index d ≡ x.0.now
key_here xs members index x same within is d =
    ap (λ ys. key_at ys index d) (sym same) ∙ ap (λ (m : MaybeShared). m.0.now) (get_or_default xs index d x within) ∙ ap (λ (m : MaybeShared). m.0.now) (sym is)

pub held : {A : Type 0} (o : Option A) → is_some o ≡ true → (x : A) × (o ≡ Some x)
held None e = absurd (cc)
held (Some x) e = (x, refl)
