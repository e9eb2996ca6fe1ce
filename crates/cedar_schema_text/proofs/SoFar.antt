-- Things that are gone through one after another.
use Rattle.std.proofs.Common.{◌≡◌, ℕ, ◌+◌, ◌<◌, ◌≤◌, List, [], ◌∷◌, ◌++◌, length, map, take, get_or, refl, ap, ap₂, sym, subst, ◌∙◌}
use Rattle.std.specs.BTreeMap.{insert_entry}
use Rattle.std.specs.List.{flat_map, fold}
use Rattle.std.specs.Ordering.{match_ordering}
use Rattle.std.specs.declared.cmp.Ordering.{Ordering}
use Rattle.std.specs.declared.cmp.Ordering.TheVariants.{Less, Equal, Greater}
use Rattle.std.proofs.lemmas.List.{flat_map_more, map-append, map_more, take_all}
use Rattle.std.proofs.lemmas.List.Sums.{fold_push}
use Rattle.cedar_schema_text.specs.Faults.{Fault}
use Rattle.cedar_schema_text.specs.Meaning.{in_order}

-- the plain data of the things up to one
pub plain_more : {X A : Type 0} (v : X → A) (xs : List X) (i : ℕ) (x : X) → i < length xs → x ≡ get_or xs i x
    → map v (take (i + 1) xs) ≡ map v (take i xs) ++ v x ∷ []
plain_more v xs i x lt is = map_more v xs i x lt ∙ ap (λ y. map v (take i xs) ++ v y ∷ []) (sym is)

-- the faults of some things and of one more
faults_more : {A : Type 0} (faults : A → List Fault) (done : List A) (p : A) → flat_map faults done ≡ [] → faults p ≡ []
    → flat_map faults (done ++ p ∷ []) ≡ []
faults_more faults done p none one = sym (flat_map_more faults [] done p) ∙ ap₂ (λ a b. a ++ b) none one

-- things have given others, and none of them is at fault
pub record ListedSoFar {A B C : Type 0} (faults : A → List Fault) (meant : A → C) (shown : B → C) (done : List A) (made : List B) : Type 0 where
  pub none : flat_map faults done ≡ []
  pub same : map shown made ≡ map meant done

module _ {X A B C : Type 0} (v : X → A) (faults : A → List Fault) (meant : A → C) (shown : B → C) where
  abbrev Listed : List X → List B → Type 0
  Listed xs made = ListedSoFar faults meant shown (map v xs) made

  -- at first none has
  pub listed_none : (made : List B) → made ≡ [] → ListedSoFar faults meant shown [] made
  listed_none made e = record { none = refl; same = ap (map shown) e }

  -- one more has
  pub listed_more : (xs : List X) (i : ℕ) (x : X) (made new : List B) (b : B) → i < length xs → x ≡ get_or xs i x
      → faults (v x) ≡ [] → shown b ≡ meant (v x) → new ≡ made ++ b ∷ [] → Listed (take i xs) made → Listed (take (i + 1) xs) new
  listed_more xs i x made new b lt is none same pushed so_far =
      let done = map v (take i xs) in
      subst (λ ps. ListedSoFar faults meant shown ps new) (sym (plain_more v xs i x lt is)) (record {
        none = faults_more faults done (v x) so_far.none none;
        same = ap (map shown) pushed ∙ map-append shown made (b ∷ []) ∙ ap₂ (λ a c. a ++ c ∷ []) so_far.same same
            ∙ sym (map-append meant done (v x ∷ []));
      })

  -- where none is left, all have
  pub listed_all : (xs : List X) (i : ℕ) (made : List B) → length xs ≤ i → Listed (take i xs) made → Listed xs made
  listed_all xs i made end so_far = subst (λ ys. Listed ys made) (take_all i xs end) so_far

-- an entry that is put behind others, in the order of keys
pub in_order_more : {K V : Type 0} (cmp : K → K → Ordering) (entries : List (K × V)) (entry : K × V)
    → in_order cmp (entries ++ entry ∷ []) ≡ insert_entry cmp (in_order cmp entries) entry.0 entry.1
in_order_more cmp entries entry = fold_push (λ done e. insert_entry cmp done e.0 e.1) [] entries entry

module _ {K V L C : Type 0} (R : K → K → Ordering) (cmp : L → L → Ordering) (key : K → L) (shown : V → C)
    (order : (a b : K) → R a b ≡ cmp (key a) (key b)) where
  -- what entries stand for
  abbrev pub seen : List (K × V) → List (L × C)
  seen entries = map (λ entry. (key entry.0, shown entry.1)) entries

  -- an entry that is put into a map is put among those that the map stands for
  pub seen-insert : (entries : List (K × V)) (k : K) (x : V)
      → seen (insert_entry R entries k x) ≡ insert_entry cmp (seen entries) (key k) (shown x)
  seen-insert [] k x = refl
  seen-insert (entry ∷ entries) k x = by (R k entry.0) (seen-insert entries k x) ∙ ap choice (order k entry.0)
    where
      choice : Ordering → List (L × C)
      choice o = match_ordering o ((key k, shown x) ∷ seen (entry ∷ entries)) ((key entry.0, shown x) ∷ seen entries)
          ((key entry.0, shown entry.1) ∷ insert_entry cmp (seen entries) (key k) (shown x))

      by : (o : Ordering) → seen (insert_entry R entries k x) ≡ insert_entry cmp (seen entries) (key k) (shown x)
          → seen (match_ordering o ((k, x) ∷ entry ∷ entries) ((entry.0, x) ∷ entries) (entry ∷ insert_entry R entries k x)) ≡ choice o
      by Less rest = refl
      by Equal rest = refl
      by Greater rest = ap (λ others. (key entry.0, shown entry.1) ∷ others) rest

-- things were put into a map, and none of them is at fault
pub record PutSoFar {A K V L C : Type 0} (faults : A → List Fault) (meant : A → L × C) (cmp : L → L → Ordering) (key : K → L) (shown : V → C) (done : List A) (entries : List (K × V)) : Type 0 where
  pub none : flat_map faults done ≡ []
  pub same : map (λ entry. (key entry.0, shown entry.1)) entries ≡ in_order cmp (map meant done)

module _ {X A K V L C : Type 0} (v : X → A) (faults : A → List Fault) (meant : A → L × C) (R : K → K → Ordering) (cmp : L → L → Ordering)
    (key : K → L) (shown : V → C) (order : (a b : K) → R a b ≡ cmp (key a) (key b)) where
  abbrev Put : List X → List (K × V) → Type 0
  Put xs entries = PutSoFar faults meant cmp key shown (map v xs) entries

  -- at first none was
  pub put_none : (entries : List (K × V)) → entries ≡ [] → PutSoFar faults meant cmp key shown [] entries
  put_none entries e = record { none = refl; same = ap (map (λ entry. (key entry.0, shown entry.1))) e }

  -- one more was
  pub put_more : (xs : List X) (i : ℕ) (x : X) (entries new : List (K × V)) (k : K) (b : V) → i < length xs → x ≡ get_or xs i x
      → faults (v x) ≡ [] → key k ≡ (meant (v x)).0 → shown b ≡ (meant (v x)).1 → new ≡ insert_entry R entries k b
      → Put (take i xs) entries → Put (take (i + 1) xs) new
  put_more xs i x entries new k b lt is none named same pushed so_far =
      let done = map v (take i xs) in
      let p = v x in
      subst (λ ps. PutSoFar faults meant cmp key shown ps new) (sym (plain_more v xs i x lt is)) (record {
        none = faults_more faults done p so_far.none none;
        same = ap (seen R cmp key shown order) pushed ∙ seen-insert R cmp key shown order entries k b
            ∙ ap (λ all. insert_entry cmp all (key k) (shown b)) so_far.same
            ∙ ap₂ (λ a c. insert_entry cmp (in_order cmp (map meant done)) a c) named same
            ∙ sym (in_order_more cmp (map meant done) (meant p))
            ∙ ap (in_order cmp) (sym (map-append meant done (p ∷ [])));
      })

  -- where none is left, all were
  pub put_all : (xs : List X) (i : ℕ) (entries : List (K × V)) → length xs ≤ i → Put (take i xs) entries → Put xs entries
  put_all xs i entries end so_far = subst (λ ys. Put ys entries) (take_all i xs end) so_far

module _ {X A B C : Type 0} (v : X → A) (shown : B → C) (given : A → List C) where
  -- what the things up to one give, and what it gives
  pub given_more : (xs : List X) (i : ℕ) (x : X) (made new : List B) → i < length xs → x ≡ get_or xs i x
      → map shown new ≡ map shown made ++ given (v x) → map shown made ≡ flat_map given (map v (take i xs))
      → map shown new ≡ flat_map given (map v (take (i + 1) xs))
  given_more xs i x made new lt is pushed so_far =
      let done = map v (take i xs) in
      pushed ∙ ap (λ ys. ys ++ given (v x)) so_far ∙ flat_map_more given [] done (v x) ∙ ap (flat_map given) (sym (plain_more v xs i x lt is))
