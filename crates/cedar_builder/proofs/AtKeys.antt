-- What stands at keys among entries, and what entries stand there.
use Rattle.std.proofs.Common.{◌≡◌, Bool, true, IsTrue, List, Option, None, Some, IsSome, map, ap, sym, ◌∙◌, refl, Contains, subst}
use Rattle.std.proofs.lemmas.Bool.{false≢true}
use Rattle.std.proofs.lemmas.Map.Entries.{lookup_from_place, place_from_lookup}
use Rattle.std.proofs.lemmas.Option.{get_or_from_slice_get, slice_get-get_or, slice_get_within}
use Rattle.std.specs.BTreeMap.{is_at}
use Rattle.std.specs.Cmp.{IsEquivalence}
use Rattle.std.specs.Map.{lookup}
use Rattle.std.specs.Ordering.{is_eq}
use Rattle.std.specs.declared.cmp.Ordering.{Ordering}
use Rattle.cedar_ast.proofs.Basics.{Contains-image}
use Rattle.cedar_builder.specs.Words.{IsDistinct, at_key, keys_of}
use Rattle.cedar_graph.proofs.Numbers.{lookup_agree}

module _ {K : Type 0} {eq : K → K → Bool} (cmp : K → K → Ordering) (ties : (a b : K) → eq a b ≡ is_eq (cmp a b)) where
  -- what holds of look-ups by the order holds of those by equality
  pub by_equality : (P : (K → K → Bool) → Type 0) → P (λ a. is_at (cmp a)) → P eq
  by_equality P holds = subst P (λ i a b. sym (ties a b) i) holds

  -- what is found by the order stands at the key
  pub found_at_key : {Node : Type 0} (entries : List (K × Node)) (key : K) → lookup (is_at (cmp key)) entries ≡ at_key eq entries key
  found_at_key entries key = lookup_agree (is_at (cmp key)) (eq key) (λ other. sym (ties key other)) entries

module _ {K Node : Type 0} {eq : K → K → Bool} (laws : IsEquivalence eq) (entries : List (K × Node)) where
  -- at equal keys stands the same
  pub at_equal_keys : (a b : K) → eq a b ≡ true → at_key eq entries a ≡ at_key eq entries b
  at_equal_keys a b same = lookup_agree (eq a) (eq b) (λ key. laws.congr a b key same) entries

  -- an entry is what stands at its key, where no two keys are equal
  pub entry_at_key : IsDistinct eq (keys_of entries) → (key : K) (it : Node) → Contains entries (key, it) → at_key eq entries key ≡ Some it
  entry_at_key distinct key it among =
      lookup_from_place laws entries among.0 key it distinct
      (slice_get-get_or entries among.0 (key, it) among.1 ∙ ap Some among.2)

module _ {K Node : Type 0} (eq : K → K → Bool) (entries : List (K × Node)) where
  -- what stands at a key is the node of an entry of an equal key
  pub entry_standing : (key : K) (it : Node) → at_key eq entries key ≡ Some it
      → (other : K) × Contains entries (other, it) × IsTrue (eq key other)
  entry_standing key it found =
      let place = place_from_lookup (eq key) entries it found in
      let entry : K × Node = (place.1, it) in (
        place.1,
        (
          place.0,
          slice_get_within entries place.0 entry place.2,
          get_or_from_slice_get entries place.0 entry entry place.2,
        ),
        place.3,
      )

  -- where something stands there is an entry of an equal key
  pub entry_where : (key : K) → IsSome (at_key eq entries key) → (entry : K × Node) × Contains entries entry × IsTrue (eq key entry.0)
  entry_where key there = by (at_key eq entries key) refl there where
    by : (o : Option Node) → at_key eq entries key ≡ o → IsSome o → (entry : K × Node) × Contains entries entry × IsTrue (eq key entry.0)
    by None is there = absurd (false≢true there)
    by (Some it) is there = let found = entry_standing key it is in ((found.0, it), found.1, found.2)

  -- so there is one of the same name
  pub has_entry : {Name : Type 0} (key_name : K → Name) → ((a b : K) → IsTrue (eq a b) → key_name a ≡ key_name b) → (key : K)
      → IsSome (at_key eq entries key) → Contains (map (λ (it : K × Node). key_name it.0) entries) (key_name key)
  has_entry {Name = Name} key_name same_name key there =
      let it = entry_where key there in
      subst (λ (name : Name). Contains (map (λ (each : K × Node). key_name each.0) entries) name) (sym (same_name key it.0.0 it.2))
      (Contains-image (λ (each : K × Node). key_name each.0) entries it.0 it.1)
