-- A table whose nodes have gained edges, against the chains of what its keys lead to.
use Rattle.std.proofs.Common.{◌≡◌, ◌↔◌, ℕ, zero, suc, ◌<◌, Bool, Contains, Err, Ok, OnOk, Result, List, [], ◌∷◌, Some, Vec, length, slice_get, option_map, refl, sym, ◌∙◌, ap, subst, arith, inl, inr}
use Rattle.std.proofs.lemmas.List.{length-map}
use Rattle.std.proofs.lemmas.Map.Keys.{IsDistinct-from_sorted}
use Rattle.std.proofs.lemmas.Map.Made.{keys_of-zip}
use Rattle.std.proofs.lemmas.Option.{get_or_from_slice_get, same_Some, slice_get-map, slice_get_within}
use Rattle.std.proofs.lemmas.Slice.Zip.{seconds-zip}
use Rattle.std.specs.Cmp.{IsEquivalence}
use Rattle.std.specs.List.{IsDistinct, zip}
use Rattle.std.specs.List.Sorted.{IsStrictlySortedBy}
use Rattle.std.specs.Map.{keys_of, values_of}
use Rattle.std.specs.Ordering.{is_eq}
use Rattle.std.specs.declared.cmp.Ordering.{Ordering}
use Rattle.cedar_ast.proofs.Chains.{refined}
use Rattle.cedar_graph.proofs.Growing.{grows_weaker}
use Rattle.cedar_graph.proofs.TableEdges.{chain_of_keys, chain_of_numbers, entry_numbered, one_place}
use Rattle.cedar_graph.specs.Words.{AreInTurn, Chain, HasCycle, HoldsPairwise, IsClosedTo, IsCycle, IsGrown, IsLack, IsTableFault, IsTarget, Lacks, ListHas, Memory, StandsIn, StepsTo, TableFault, items_at, one}

-- keys that rise differ
pub distinct_keys : {K : Type 0} {eq : K → K → Bool} (cmp : K → K → Ordering) → ((a b : K) → eq a b ≡ is_eq (cmp a b))
    → (keys : List K) → IsStrictlySortedBy cmp keys → IsDistinct eq keys
distinct_keys {K = K} {eq = eq} cmp ties keys sorted =
    subst (λ test. IsDistinct test keys) (λ i a b. sym (ties a b) i) (IsDistinct-from_sorted cmp keys sorted)

module _ {K V Z Y : Type 0} {eq : K → K → Bool} (laws : IsEquivalence eq) (has_edge : V → K → Bool)
    (is_alike : V → V → Type 0) (entries : List (K × V)) (distinct : IsDistinct eq (keys_of entries))
    (targets : List (Vec ℕ Z)) (within : (i j : ℕ) → IsTarget targets i j → j < length (keys_of entries))
    (lists : List (Vec ℕ Y)) (closed : (i j : ℕ) → IsTarget lists i j ↔ Chain (IsTarget targets) i j) where
  -- what stands in the list of a key is what chains lead to from it
  led : (i : ℕ) (e : K × V) → slice_get entries i ≡ Some e → (to : K)
      → StandsIn eq (keys_of entries) (items_at lists i) to ↔ Chain (ListHas eq (keys_of entries) targets) e.0 to
  led i e there to = (
    λ stands. chain_of_keys laws (keys_of entries) distinct targets within ((closed i stands.0).0 stands.1) e.0 to
        (entry_numbered laws entries i e there) stands.2,
    λ chain.
        let it = chain_of_numbers laws (keys_of entries) distinct targets within chain in
        let same : it.0 ≡ i = one_place laws (keys_of entries) distinct targets within e.0 it.0 i it.2
        (entry_numbered laws entries i e there) in
        (it.1, (closed i it.1).1 (subst (λ n. Chain (IsTarget targets) n it.1) same it.4), it.3),
  )

  -- the grown nodes beside their keys have gained what chains lead to
  pub grown_entries : (linked : List V)
      → AreInTurn (λ i. IsGrown has_edge is_alike (StandsIn eq (keys_of entries) (items_at lists i))) (values_of entries) linked
      → AreInTurn (λ i it other. (other.0 ≡ it.0)
      × IsGrown has_edge is_alike (Chain (ListHas eq (keys_of entries) targets) it.0) it.1 other.1)
      entries (zip (keys_of entries) linked)
  grown_entries linked are = record {
    len = sym (length-map (zip (keys_of entries) linked) (λ e. e.0)) ∙ (ap length keys ∙ length-map entries (λ e. e.0));
    each = λ i x y there also.
        let x_key = slice_get-map (λ (e : K × V). e.0) entries i ∙ ap (option_map (λ (e : K × V). e.0)) there in
        let x_value = slice_get-map (λ (e : K × V). e.1) entries i ∙ ap (option_map (λ (e : K × V). e.1)) there in
        let y_key = slice_get-map (λ (e : K × V). e.0) (zip (keys_of entries) linked) i ∙ ap (option_map (λ (e : K × V). e.0)) also in
        let y_value = slice_get-map (λ (e : K × V). e.1) (zip (keys_of entries) linked) i ∙ ap (option_map (λ (e : K × V). e.1)) also in
        let grown = are.each i x.1 y.1 x_value (ap (λ es. slice_get es i) (sym values) ∙ y_value) in (
          same_Some y.0 x.0 (sym y_key ∙ (ap (λ ks. slice_get ks i) keys ∙ x_key)),
          record {
            grows = grows_weaker has_edge is_alike (StandsIn eq (keys_of entries) (items_at lists i))
                (Chain (ListHas eq (keys_of entries) targets) x.0) (λ to stands. (led i x there to).0 stands) x.1 y.1 grown.grows;
            complete = λ to chain. grown.complete to ((led i x there to).1 chain);
          },
        );
  }
    where
      counts : length linked ≡ length (keys_of entries)
      counts = let one = are.len in omega (arith, one, length-map entries (λ (e : K × V). e.0), length-map entries (λ (e : K × V). e.1))

      keys : keys_of (zip (keys_of entries) linked) ≡ keys_of entries
      keys = keys_of-zip (keys_of entries) linked counts

      values : values_of (zip (keys_of entries) linked) ≡ linked
      values = seconds-zip (keys_of entries) linked counts

-- what holds of the items at each place holds pairwise
pub pairwise_in_turn : {A B : Type 0} (R : A → B → Type 0) (xs : List A) (ys : List B) → length ys ≡ length xs
    → ((i : ℕ) (x : A) (y : B) → slice_get xs i ≡ Some x → slice_get ys i ≡ Some y → R x y) → HoldsPairwise R xs ys
pairwise_in_turn R [] [] len each = tt
pairwise_in_turn R (x ∷ xs) (y ∷ ys) len each =
    (each zero x y refl refl, pairwise_in_turn R xs ys (omega (arith, len)) (λ i. each (suc i)))
pairwise_in_turn R _ _ len each = absurd (omega (arith, len))

module _ {K V : Type 0} {eq : K → K → Bool} (laws : IsEquivalence eq) (has_edge : V → K → Bool) (is_alike : V → V → Type 0)
    (entries closed : List (K × V)) (Leads : K → K → Type 0)
    (step : (a b : K) → Leads a b ↔ StepsTo eq has_edge entries a b) where
  -- where a table has gained what chains lead to from its own edges, it is closed
  pub closed_pairwise : AreInTurn (λ i it other. (other.0 ≡ it.0) × IsGrown has_edge is_alike (Chain Leads it.0) it.1 other.1) entries closed
      → HoldsPairwise (IsClosedTo has_edge is_alike (StepsTo eq has_edge entries)) entries closed
  closed_pairwise are =
      pairwise_in_turn (IsClosedTo has_edge is_alike (StepsTo eq has_edge entries)) entries closed are.len
      (λ i x y there also.
      let it = are.each i x y there also in
      let among : Contains entries x = (i, slice_get_within entries i x there, get_or_from_slice_get entries i x x there) in
      record {
        key = it.0;
        alike = it.1.grows.alike;
        edges = λ to. (
          λ edge. elim (it.1.grows.sound to edge) [
            | inl old ↦ one (x, among, laws.refl x.0, old)
            | inr chain ↦ refined (λ a b leads. one ((step a b).0 leads)) chain
          ],
          λ chain. it.1.complete to (refined (λ a b steps. one ((step a b).1 steps)) chain),
        );
      })

-- what holds anyway holds on success
pub on_ok_anyway : {T E P : Type 0} (result : Result T E) → P → OnOk result P
on_ok_anyway (Ok value) holds = holds
on_ok_anyway (Err error) holds = tt

-- a cycle by numbers is one of the edges, and nothing else is at fault
pub fault_of_steps : {K : Type 0} (Leads Steps : K → K → Type 0) (There : K → Type 0) → ((a b : K) → Leads a b → Steps a b)
    → (enforce_dag : Bool) (fault : TableFault K) → IsCycle Leads enforce_dag fault
    → IsTableFault Steps There enforce_dag fault
fault_of_steps Leads Steps There each enforce_dag (HasCycle key) at_fault =
    (at_fault.0, refined (λ a b leads. one (each a b leads)) at_fault.1)
fault_of_steps Leads Steps There each enforce_dag (Lacks key) at_fault = absurd at_fault
fault_of_steps Leads Steps There each enforce_dag Memory at_fault = tt

-- a key that is lacked is at fault
pub fault_of_lack : {K : Type 0} (Steps : K → K → Type 0) (There : K → Type 0) (enforce_dag : Bool) (fault : TableFault K)
    → IsLack There (λ key. (from : K) × Steps from key) fault → IsTableFault Steps There enforce_dag fault
fault_of_lack Steps There enforce_dag (HasCycle key) lack = absurd lack
fault_of_lack Steps There enforce_dag (Lacks key) lack = lack
fault_of_lack Steps There enforce_dag Memory lack = tt
