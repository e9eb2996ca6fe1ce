-- Entries of maps that are put in or taken out, and what they declare.
use Rattle.std.proofs.Common.{◌≡◌, ◌≢◌, ◌++◌, Bool, true, false, cond, List, [], ◌∷◌, Option, Some, None, map, ap, sym, ◌∙◌, refl, inl, inr, append_assoc, Contains, All}
use Rattle.std.proofs.lemmas.Bool.{false≢true}
use Rattle.std.proofs.lemmas.List.Concat.{flat_map_single}
use Rattle.std.proofs.lemmas.List.Elements.{All-cons, All-head, All-tail, Contains-append_left}
use Rattle.std.proofs.lemmas.List.Sorted.{Contains-permutation, IsPermutation-append_comm, IsPermutation-append_left, IsPermutation-append_right, IsPermutation-cons, IsPermutation-middle, IsPermutation-refl, IsPermutation-sym, IsPermutation-to_front, IsPermutation-trans}
use Rattle.std.specs.BTreeMap.{insert_entry, is_at}
use Rattle.std.specs.List.{flat_map}
use Rattle.std.specs.List.Sorted.{IsPermutation}
use Rattle.std.specs.Map.{lookup, remove_entry}
use Rattle.std.specs.Option.{option_cmp}
use Rattle.std.specs.Ordering.{is_eq, match_ordering}
use Rattle.std.specs.declared.cmp.Ordering.{Ordering}
use Rattle.std.specs.declared.cmp.Ordering.TheVariants.{Less, Equal, Greater}
use Rattle.cedar_ast.proofs.Lists.{Contains-cons}
use Rattle.cedar_ast.proofs.Names.{name_ord-name_cmp}
use Rattle.cedar_ast.specs.contracts.name.NameOrd.TheImpl as name_ord
use Rattle.cedar_schema_semantics.proofs.OccurrenceLemmas.{name_test}
use Rattle.cedar_schema_writer.specs.Words.{Declaration, Definitions, Name, NamespaceDefinition, RawName, definitions_bag, plain_name, plain_namespace, raw_declarations}

-- namespaces tie where they stand for one
pub namespace_tie : (namespace other : Option Name) → is_at (option_cmp ((name_ord.ghosts).cmp) namespace) other ≡ true
    → plain_namespace other ≡ plain_namespace namespace
namespace_tie None None tie = refl
namespace_tie (Some namespace) (Some other) tie =
    ap Some (sym ((name_test (plain_name namespace) (plain_name other)).0 (sym (ap is_eq (name_ord-name_cmp namespace other)) ∙ tie)))
namespace_tie _ _ tie = absurd (false≢true tie)

-- two lists before a third may change places
pub moved_before : {A : Type 0} (xs ys zs : List A) → IsPermutation (xs ++ (ys ++ zs)) (ys ++ (xs ++ zs))
moved_before {A} xs ys zs =
    rw (append_assoc ys xs zs, append_assoc xs ys zs) at (IsPermutation-append_left zs (xs ++ ys) (ys ++ xs)
    (IsPermutation-append_comm xs ys))

module _ {K X : Type 0} where
  -- what is found stands under a key that passes
  pub found_there : (test : K → Bool) (es : List (K × X)) (v : X) → lookup test es ≡ Some v
      → (k : K) × (test k ≡ true) × Contains es (k, v)
  found_there test [] v found = cc
  found_there test (e ∷ es) v found = by (test e.0) refl found (found_there test es v) where
    by : (b : Bool) → test e.0 ≡ b → cond b (Some e.1) (lookup test es) ≡ Some v
        → (lookup test es ≡ Some v → (k : K) × (test k ≡ true) × Contains es (k, v))
        → (k : K) × (test k ≡ true) × Contains (e ∷ es) (k, v)
    by true is first others =
        let value : e.1 ≡ v = cc in
        (e.0, is, Contains-cons e es (e.0, v) (inl (λ i. (e.0, value i))))
    by false is later others =
        let there = others later in
        (there.0, there.1, Contains-cons e es (there.0, v) (inr there.2))

  module _ {A : Type 0} (f : K × X → List A) where
    -- what entries give, with one of them taken out
    pub given_removed : (test : K → Bool) (es : List (K × X)) (v : X) → lookup test es ≡ Some v
        → (k : K) × (test k ≡ true) × IsPermutation (f (k, v) ++ flat_map f (remove_entry test es)) (flat_map f es)
    given_removed test [] v found = cc
    given_removed test (e ∷ es) v found = by (test e.0) refl found (given_removed test es v) where
      by : (b : Bool) → test e.0 ≡ b → cond b (Some e.1) (lookup test es) ≡ Some v
          → (lookup test es ≡ Some v → (k : K) × (test k ≡ true) × IsPermutation (f (k, v) ++ flat_map f (remove_entry test es))
          (flat_map f es))
          → (k : K) × (test k ≡ true) × IsPermutation (f (k, v) ++ flat_map f (cond b es (e ∷ remove_entry test es))) (f e ++ flat_map f es)
      by true is first others =
          let value : e.1 ≡ v = cc in
          (e.0, is, rw (← value) (IsPermutation-refl (f e ++ flat_map f es)))
      by false is later others =
          let there = others later in (
            there.0,
            there.1,
            IsPermutation-trans _ _ _ (moved_before (f (there.0, v)) (f e) (flat_map f (remove_entry test es)))
                (IsPermutation-append_right (f e) _ _ there.2),
          )

    -- what entries give, with one put in under a key that wasn't there
    pub given_inserted : (cmp : K → K → Ordering) (es : List (K × X)) (k : K) (v : X) → lookup (is_at (cmp k)) es ≡ None
        → IsPermutation (f (k, v) ++ flat_map f es) (flat_map f (insert_entry cmp es k v))
    given_inserted cmp [] k v absent = IsPermutation-refl (f (k, v) ++ [])
    given_inserted cmp (e ∷ es) k v absent = by (cmp k e.0) (given_inserted cmp es k v) absent where
      by : (r : Ordering) → (lookup (is_at (cmp k)) es ≡ None → IsPermutation (f (k, v) ++ flat_map f es) (flat_map f
          (insert_entry cmp es k v)))
          → cond (is_eq r) (Some e.1) (lookup (is_at (cmp k)) es) ≡ None
          → IsPermutation (f (k, v) ++ (f e ++ flat_map f es))
          (flat_map f (match_ordering r ((k, v) ∷ e ∷ es) ((e.0, v) ∷ es) (e ∷ insert_entry cmp es k v)))
      by Less later none = IsPermutation-refl (f (k, v) ++ (f e ++ flat_map f es))
      by Equal later none = cc
      by Greater later none =
          IsPermutation-trans _ _ _ (moved_before (f (k, v)) (f e) (flat_map f es)) (IsPermutation-append_right (f e) _ _ (later none))

  -- what holds of each value holds of those that are left
  pub values_left : (P : X → Type 0) (test : K → Bool) (es : List (K × X)) → All P (map (λ e. e.1) es)
      → All P (map (λ e. e.1) (remove_entry test es))
  values_left P test [] all = all
  values_left P test (e ∷ es) all = by (test e.0) (values_left P test es (All-tail P e.1 (map (λ (it : K × X). it.1) es) all)) where
    by : (b : Bool) → All P (map (λ (it : K × X). it.1) (remove_entry test es))
        → All P (map (λ (it : K × X). it.1) (cond b es (e ∷ remove_entry test es)))
    by true others = All-tail P e.1 (map (λ (it : K × X). it.1) es) all
    by false others =
        All-cons P e.1 (map (λ (it : K × X). it.1) (remove_entry test es)) (All-head P e.1 (map (λ (it : K × X). it.1) es) all) others

  -- it holds of what is found
  pub value_found : (P : X → Type 0) (test : K → Bool) (es : List (K × X)) (v : X) → lookup test es ≡ Some v → All P (map
      (λ e. e.1) es) → P v
  value_found P test [] v found all = cc
  value_found P test (e ∷ es) v found all =
      by (test e.0) found (λ later. value_found P test es v later (All-tail P e.1 (map (λ (it : K × X). it.1) es) all))
    where
      by : (b : Bool) → cond b (Some e.1) (lookup test es) ≡ Some v → (lookup test es ≡ Some v → P v) → P v
      by true first others = let value : e.1 ≡ v = cc in rw value at (All-head P e.1 (map (λ (it : K × X). it.1) es) all)
      by false later others = others later

-- lists with a part in the middle that has one item more have one item more
pub one_more : {A : Type 0} (front : List A) (item : A) (middle more back : List A) → IsPermutation (item ∷ middle) more
    → IsPermutation (item ∷ ((front ++ middle) ++ back)) ((front ++ more) ++ back)
one_more front item middle more back grown =
    IsPermutation-append_left back (item ∷ (front ++ middle)) (front ++ more)
    (IsPermutation-trans _ _ _ (IsPermutation-sym _ _ (IsPermutation-middle front item middle))
    (IsPermutation-append_right front _ _ grown))

-- the same at the end
pub one_more_end : {A : Type 0} (front : List A) (item : A) (middle more : List A) → IsPermutation (item ∷ middle) more
    → IsPermutation (item ∷ (front ++ middle)) (front ++ more)
one_more_end front item middle more grown =
    IsPermutation-trans _ _ _ (IsPermutation-sym _ _ (IsPermutation-middle front item middle)) (IsPermutation-append_right front _ _ grown)

-- entries that are shown one by one show one more, where one is put in under a key that wasn't
-- there
pub shown_inserted : {K X A : Type 0} (f : K × X → A) (cmp : K → K → Ordering) (es : List (K × X)) (k : K) (v : X)
    → lookup (is_at (cmp k)) es ≡ None → IsPermutation (f (k, v) ∷ map f es) (map f (insert_entry cmp es k v))
shown_inserted {A = A} f cmp es k v absent =
    rw (flat_map_single f (insert_entry cmp es k v), flat_map_single f es) at (given_inserted (λ entry. f entry ∷ []) cmp es k v absent)

-- something is there after an insertion
pub inserted-some : {K X : Type 0} (cmp : K → K → Ordering) (es : List (K × X)) (k : K) (v : X) → insert_entry cmp es k v ≢ []
inserted-some cmp [] k v = λ same. cc
inserted-some cmp (e ∷ es) k v = by (cmp k e.0) where
  by : (r : Ordering) → match_ordering r ((k, v) ∷ e ∷ es) ((e.0, v) ∷ es) (e ∷ insert_entry cmp es k v) ≢ []
  by Less = λ same. cc
  by _ = λ same. cc

-- what something shows is something, with whatever before and behind it
pub middle-some : {X A : Type 0} (f : X → A) (front back : List A) (xs : List X) → xs ≢ [] → (front ++ map f xs) ++ back ≢ []
middle-some f [] back [] some = λ same. some refl
middle-some f _ back _ some = λ same. cc

-- the same at the end
pub end-some : {X A : Type 0} (f : X → A) (front : List A) (xs : List X) → xs ≢ [] → front ++ map f xs ≢ []
end-some f [] [] some = λ same. some refl
end-some f _ _ some = λ same. cc

-- a key under which nothing is shown that is there finds nothing
pub absent_key : {K X : Type 0} (test : K → Bool) (es : List (K × X)) → ((k : K) (v : X) → test k ≡ true → ¬ Contains es (k, v))
    → lookup test es ≡ None
absent_key {X = X} test es none = by (lookup test es) refl where
  by : (found : Option X) → lookup test es ≡ found → lookup test es ≡ None
  by None is = is
  by (Some v) is = let there = found_there test es v is in absurd (none there.0 v there.1 there.2)

-- definitions from which one was taken, and into which it was put again with one declaration more
module _ (old taken new : Definitions) (namespace : Option Name) (definition changed : NamespaceDefinition RawName) (item : Declaration)
    (was : IsPermutation (raw_declarations (plain_namespace namespace) definition ++ definitions_bag taken) (definitions_bag old)) where
  -- it has one declaration more
  pub put_again : lookup (is_at (option_cmp ((name_ord.ghosts).cmp) namespace)) taken ≡ None
      → new ≡ insert_entry (option_cmp ((name_ord.ghosts).cmp)) taken namespace changed
      → IsPermutation (item ∷ raw_declarations (plain_namespace namespace) definition) (raw_declarations
      (plain_namespace namespace) changed)
      → IsPermutation (definitions_bag old ++ item ∷ []) (definitions_bag new)
  put_again absent is grown =
      let show : Option Name × NamespaceDefinition RawName → List Declaration =
      λ entry. raw_declarations (plain_namespace entry.0) entry.1 in
      rw is (IsPermutation-trans _ _ _ (IsPermutation-to_front (definitions_bag old) item)
      (IsPermutation-trans _ _ _ (IsPermutation-cons item _ _ (IsPermutation-sym _ _ was))
      (IsPermutation-trans _ _ _
      (IsPermutation-append_left (definitions_bag taken) (item ∷ raw_declarations (plain_namespace namespace) definition)
      (raw_declarations (plain_namespace namespace) changed) grown)
      (given_inserted show (option_cmp ((name_ord.ghosts).cmp)) taken namespace changed absent))))

  -- what the definition declares was declared before
  pub was_declared : (it : Declaration) → Contains (raw_declarations (plain_namespace namespace) definition) it → Contains
      (definitions_bag old) it
  was_declared it among =
      Contains-permutation _ _ it was
      (Contains-append_left (raw_declarations (plain_namespace namespace) definition) (definitions_bag taken) it among)
