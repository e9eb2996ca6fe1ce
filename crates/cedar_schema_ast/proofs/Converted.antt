-- Maps whose values are converted one after another, each under its own key.
use Rattle.std.proofs.Common.{◌≡◌, List, [], ◌∷◌, ◌++◌, map, ap, sym, subst, ◌∙◌, refl, append_assoc}
use Rattle.std.proofs.lemmas.List.{map-append, append-nil}
use Rattle.std.specs.BTreeMap.{insert_entry}
use Rattle.std.specs.Cmp.{IsTotalOrder}
use Rattle.std.specs.List.{AllByRecursion}
use Rattle.std.specs.List.Sorted.{IsStrictlySortedBy}
use Rattle.std.specs.Map.{keys_of}
use Rattle.std.specs.declared.cmp.Ordering.{Ordering}
use Rattle.std.specs.declared.cmp.Ordering.TheVariants.{Greater}
use Rattle.cedar_ast.proofs.Ordered.{above_front, insert_entry-end}

-- entries whose values are seen through a function
abbrev pub seen_by : {K V X : Type 0} → (V → X) → List (K × V) → List (K × X)
seen_by f entries = map (λ entry. (entry.0, f entry.1)) entries

-- the keys stay as values are seen through a function
keys_of-seen_by : {K V X : Type 0} (f : V → X) (entries : List (K × V)) → keys_of (seen_by f entries) ≡ keys_of entries
keys_of-seen_by f [] = refl
keys_of-seen_by f (entry ∷ entries) = ap (λ keys. entry.0 ∷ keys) (keys_of-seen_by f entries)

-- some entries have given others, which show the same under the same keys, and others are left
pub record ConvertedSoFar {K V W X : Type 0} (f : V → X) (g : W → X) (all : List (K × V)) (made : List (K × W)) (left : List (K × V)) : Type 0 where
  pub done : List (K × V)
  pub split : all ≡ done ++ left
  pub same : seen_by g made ≡ seen_by f done

module _ {K V W X : Type 0} (f : V → X) (g : W → X) where
  -- at first none has
  pub ConvertedSoFar-none : (all left : List (K × V)) (made : List (K × W)) → all ≡ left → made ≡ [] → ConvertedSoFar f g all made left
  ConvertedSoFar-none all left made same nothing = record { done = []; split = same; same = ap (seen_by g) nothing }

  -- the next entry is above all that were made
  above_made : {R : K → K → Ordering} → IsTotalOrder R → (all left rest : List (K × V)) (made : List (K × W)) (key : K) (value : V)
      → IsStrictlySortedBy R (keys_of all) → left ≡ (key, value) ∷ rest → ConvertedSoFar f g all made left
      → AllByRecursion (λ other. R key other ≡ Greater) (keys_of made)
  above_made {R = R} total all left rest made key value ordered is so_far =
      let P : List K → Type 0 = IsStrictlySortedBy R in
      let Q : List K → Type 0 = AllByRecursion (λ other. R key other ≡ Greater) in
      let keys : keys_of all ≡ keys_of so_far.done ++ key ∷ keys_of rest =
      ap keys_of (so_far.split ∙ ap (λ others. so_far.done ++ others) is) ∙ map-append (λ entry. entry.0) so_far.done ((key, value) ∷ rest) in
      let same : keys_of so_far.done ≡ keys_of made =
      sym (keys_of-seen_by f so_far.done) ∙ (ap keys_of (sym so_far.same) ∙ keys_of-seen_by g made) in
      subst Q same (above_front total (keys_of so_far.done) key (keys_of rest) (subst P keys ordered))

  -- one more has, which goes to the end of the map
  pub ConvertedSoFar-more : {R : K → K → Ordering} → IsTotalOrder R → (all left rest : List (K × V)) (made : List (K × W)) (key : K) (value : V) (other : W)
      → IsStrictlySortedBy R (keys_of all) → left ≡ (key, value) ∷ rest → g other ≡ f value → ConvertedSoFar f g all made left
      → ConvertedSoFar f g all (insert_entry R made key other) rest
  ConvertedSoFar-more {R = R} total all left rest made key value other ordered is one so_far =
      let P : List (K × W) → Type 0 = λ entries. ConvertedSoFar f g all entries rest in
      let at_end : insert_entry R made key other ≡ made ++ (key, other) ∷ [] =
      insert_entry-end R made key other (above_made total all left rest made key value ordered is so_far) in
      subst P (sym at_end) (record {
        done = so_far.done ++ (key, value) ∷ [];
        split = so_far.split ∙ (ap (λ others. so_far.done ++ others) is ∙ sym (append_assoc so_far.done ((key, value) ∷ []) rest));
        same = map-append (λ entry. (entry.0, g entry.1)) made ((key, other) ∷ [])
            ∙ (ap (λ entries. entries ++ (key, g other) ∷ []) so_far.same
            ∙ (ap (λ shown. seen_by f so_far.done ++ (key, shown) ∷ []) one
            ∙ sym (map-append (λ entry. (entry.0, f entry.1)) so_far.done ((key, value) ∷ []))));
      })

  -- where none is left, all have
  pub converted_all : (all left : List (K × V)) (made : List (K × W)) → left ≡ [] → ConvertedSoFar f g all made left
      → seen_by g made ≡ seen_by f all
  converted_all all left made nothing so_far =
      so_far.same ∙ ap (seen_by f) (sym (so_far.split ∙ (ap (λ others. so_far.done ++ others) nothing ∙ append-nil so_far.done)))
