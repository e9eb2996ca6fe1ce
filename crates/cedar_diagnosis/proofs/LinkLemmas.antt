-- Names by numbers, and chains of links between them.
use Rattle.std.proofs.Common.{◌≡◌, ◌↔◌, ◌+◌, ◌<◌, ◌++◌, ℕ, zero, suc, Bool, true, false, List, [], ◌∷◌, Vec, Some, Contains, length, map, get_or, set, slice_get, arith, ap, inl, inr, refl, sym, ◌∙◌, subst, Result, Ok, Err, IfOk}
use Rattle.std.proofs.lemmas.Bool.{cases_lt}
use Rattle.std.proofs.lemmas.List.{length-set}
use Rattle.std.proofs.lemmas.List.Elements.{Contains-append_left, Contains-append_right, Contains-append_cases}
use Rattle.std.proofs.lemmas.List.Sorted.{searchable_from_sorted}
use Rattle.std.proofs.lemmas.Map.Keys.{Less-from_sorted}
use Rattle.std.proofs.lemmas.Option.{get_or_from_slice_get, slice_get-get_or, slice_get-map, slice_get_within}
use Rattle.std.specs.Cmp.{IsTotalOrder}
use Rattle.std.specs.List.Sorted.{IsNonDecreasingBy, IsPartitionPoint, IsSortedBy, IsStrictlySortedBy}
use Rattle.std.specs.Option.{option_map}
use Rattle.std.specs.Ordering.{is_lt, ordering_index, ordering_reverse}
use Rattle.std.specs.declared.cmp.Ordering.{Ordering}
use Rattle.std.specs.declared.cmp.Ordering.TheVariants.{Equal, Greater, Less}
use Rattle.cedar_ast.proofs.Basics.{Contains-single}
use Rattle.cedar_ast.proofs.Chains.{first_step, refined}
use Rattle.cedar_ast.proofs.Lists.{Contains-preimage}
use Rattle.cedar_ast.specs.Chain.{Chain, one, more}
use Rattle.cedar_ast.specs.Words.{Twice}
use Rattle.cedar_diagnosis.proofs.AddingLemmas.{adds_like, members_of}
use Rattle.cedar_diagnosis.specs.Adding.{Adds, SomeGives}
use Rattle.cedar_diagnosis.specs.Links.{AddsTarget, AreLinkTargets, IsAt, IsFlagged, IsLinked, LinksIn}
use Rattle.cedar_graph.proofs.TableLinking.{target_added, target_cases, target_kept}
use Rattle.cedar_graph.specs.Words.{IsTarget, items_at}
use Rattle.cedar_schema_ast.specs.Words.{Declaration}
use Rattle.cedar_schema_semantics.specs.Words.{Bag, Fault}

-- what stands at a number is one of the names
at_among : (names : List Fault) (number : ℕ) (name : Fault) → IsAt names number name → Contains names name
at_among names number name at = (number, slice_get_within names number name at, get_or_from_slice_get names number name name at)

-- and each of the names stands at one
among_at : (names : List Fault) (name : Fault) → Contains names name → (number : ℕ) × IsAt names number name
among_at names name among = (among.0, slice_get-get_or names among.0 name among.1 ∙ ap Some among.2)

-- at a number one name stands
at_same : (names : List Fault) (number : ℕ) (name other : Fault) → IsAt names number name → IsAt names number other → name ≡ other
at_same names number name other at at' = cc

-- and where none stands twice, a name stands at one number
pub at_once : (names : List Fault) (i j : ℕ) (name : Fault) → (¬ Twice names name) → IsAt names i name → IsAt names j name → i ≡ j
at_once [] i j name once at at' = absurd (omega (arith, slice_get_within [] i name at))
at_once (first ∷ names) zero zero name once at at' = refl
at_once (first ∷ names) zero (suc j) name once at at' =
    let same : first ≡ name = cc in absurd (once (inl (same, at_among names j name at')))
at_once (first ∷ names) (suc i) zero name once at at' =
    let same : first ≡ name = cc in absurd (once (inl (same, at_among names i name at)))
at_once (first ∷ names) (suc i) (suc j) name once at at' = ap suc (at_once names i j name (λ twice. once (inr twice)) at at')

module _ {K P : Type 0} (R : K → K → Ordering) (f : K → P) (tie : (a b : K) → (R a b ≡ Equal) ↔ (f a ≡ f b)) (total : IsTotalOrder R)
    (keys : List K) (sorted : IsStrictlySortedBy R keys) (key : K) where
  -- where a key ties, what it stands for stands
  pub found_there : (place : ℕ) → place < length keys → ((d : K) → R (get_or keys place d) key ≡ Equal)
      → slice_get (map f keys) place ≡ Some (f key)
  found_there place within ties =
      slice_get-map f keys place ∙ (ap (λ found. option_map f found) (slice_get-get_or keys place key within)
      ∙ ap Some ((tie (get_or keys place key) key).0 (ties key)))

  -- each key is below the next one
  in_turn : IsSortedBy (λ a b. is_lt (R a b)) keys
  in_turn k d low high =
      ap is_lt (total.antisymm (get_or keys (k + 1) d) (get_or keys k d)
      ∙ ap ordering_reverse (Less-from_sorted R keys k (k + 1) d sorted (omega arith) high))

  -- where halving ends without a place, none of the keys stands for the same
  pub found_nowhere : (split : ℕ)
      → (IsNonDecreasingBy (λ other. ordering_index (R other key)) keys
      → IsPartitionPoint (λ other. R other key ≡ Less) (λ other. R other key ≡ Greater) keys split)
      → ¬ Contains (map f keys) (f key)
  found_nowhere split parts among =
      let found = Contains-preimage f keys (f key) among in
      let place = found.1.0 in
      let halves = parts (searchable_from_sorted total (λ other. other) keys key in_turn) in
      let ties : R found.0 key ≡ Equal = (tie found.0 key).1 found.2 in
      elim (cases_lt place split) [
        | inl below ↦
            let less : R found.0 key ≡ Less = subst (λ each. R each key ≡ Less) found.1.2 (halves.0 place found.0 (omega arith) below) in
            absurd cc
        | inr above ↦
            let greater : R found.0 key ≡ Greater = subst (λ each. R each key ≡ Greater) found.1.2 (halves.1 place found.0 (omega (arith, above)) found.1.1) in
            absurd cc
      ]

-- what is none of the names stands at no number
pub lacks_number : (names : List Fault) (name : Fault) → (¬ Contains names name) → (number : ℕ) → ¬ IsAt names number name
lacks_number names name lacks number at = lacks (at_among names number name at)

module _ {Z : Type 0} (names : List Fault) where
  -- a link one of whose names has no number adds no target
  pub no_target : (link : Fault × Fault) (targets : List (Vec ℕ Z)) → ((i j : ℕ) → IsAt names i link.0 → ¬ IsAt names j link.1)
      → AddsTarget names link targets targets
  no_target link targets none = record {
    len = refl;
    kept = λ i j target. target;
    added = λ i j at at'. absurd (none i j at at');
    only = λ i j target. inl target;
  }

  -- one both of whose names have numbers does
  pub one_target : (link : Fault × Fault) (targets : List (Vec ℕ Z)) (from to : ℕ) (v : Vec ℕ Z) → ((name : Fault) → ¬ Twice names name)
      → from < length targets → v.items ≡ items_at targets from ++ to ∷ [] → IsAt names from link.0 → IsAt names to link.1
      → AddsTarget names link targets (set targets from v)
  one_target link targets from to v once within is at at' = record {
    len = length-set targets from v;
    kept = target_kept targets from to v within is;
    added = λ i j there there'.
        let same : from ≡ i = at_once names from i link.0 (once link.0) at there in
        let same' : to ≡ j = at_once names to j link.1 (once link.1) at' there' in
        subst (λ k. IsTarget (set targets from v) k j) same (subst (IsTarget (set targets from v) from) same' (target_added targets from to v within is));
    only = λ i j target. elim (target_cases targets from to v within is i j target) [
      | inl old ↦ inl old
      | inr new ↦ inr (subst (λ k. IsAt names k link.0) (sym new.0) at, subst (λ k. IsAt names k link.1) (sym new.1) at')
    ];
  }

  -- no links have no targets
  pub targets_none : (targets : List (Vec ℕ Z)) → ((i j : ℕ) → ¬ IsTarget targets i j) → AreLinkTargets names [] targets
  targets_none targets empty = record {
    sound = λ i j target. absurd (empty i j target);
    complete = λ link none. absurd (omega (arith, none.1));
  }

  -- with one link more they have its target too
  pub targets_more : (links : List (Fault × Fault)) (link : Fault × Fault) (before after : List (Vec ℕ Z)) → AreLinkTargets names links before
      → AddsTarget names link before after → AreLinkTargets names (links ++ link ∷ []) after
  targets_more links link before after are adds = record {
    sound = λ i j target. elim (adds.only i j target) [
      | inl old ↦ let found = are.sound i j old in (found.0, Contains-append_left links (link ∷ []) found.0 found.1, found.2, found.3)
      | inr new ↦ (link, Contains-append_right links (link ∷ []) link (0, omega arith, refl), new.0, new.1)
    ];
    complete = λ other among i j at at'. elim (Contains-append_cases links (link ∷ []) other among) [
      | inl there ↦ adds.kept i j (are.complete other there i j at at')
      | inr last ↦
          let same : link ≡ other = Contains-single link other last in
          adds.added i j (subst (λ (each : Fault × Fault). IsAt names i each.0) (sym same) at) (subst (λ (each : Fault × Fault). IsAt names j each.1) (sym same) at')
    ];
  }

  module _ (links : List (Fault × Fault)) (targets : List (Vec ℕ Z)) (are : AreLinkTargets names links targets) where
    -- a link where a target is
    link_of : (i j : ℕ) (a b : Fault) → IsTarget targets i j → IsAt names i a → IsAt names j b → IsLinked links a b
    link_of i j a b target at at' =
        let found = are.sound i j target in
        let from : found.0.0 ≡ a = at_same names i found.0.0 a found.2 at in
        let to : found.0.1 ≡ b = at_same names j found.0.1 b found.3 at' in
        subst (λ each. Contains links (each, b)) from (subst (λ each. Contains links (found.0.0, each)) to found.1)

    -- chains of targets are chains of links
    chain_of_numbers : (i j : ℕ) (a b : Fault) → Chain (IsTarget targets) i j → IsAt names i a → IsAt names j b → Chain (IsLinked links) a b
    chain_of_numbers i j a b (one target) at at' = one (link_of i j a b target at at')
    chain_of_numbers i j a b (more {b = k} target rest) at at' =
        let found = are.sound i k target in
        more (link_of i k a found.0.1 target at found.3) (chain_of_numbers k j found.0.1 b rest found.3 at')

    module _ (once : (name : Fault) → ¬ Twice names name) (have : (link : Fault × Fault) → Contains links link → Contains names link.0) where
      -- and the other way
      numbers_of_chain : (a b : Fault) (j : ℕ) → Chain (IsLinked links) a b → IsAt names j b
          → (i : ℕ) × IsAt names i a × Chain (IsTarget targets) i j
      numbers_of_chain a b j (one link) at' =
          let at = among_at names a (have (a, b) link) in (at.0, at.1, one (are.complete (a, b) link at.0 j at.1 at'))
      numbers_of_chain a b j (more {b = c} link rest) at' =
          let onwards = numbers_of_chain c b j rest at' in
          let at = among_at names a (have (a, c) link) in
          (at.0, at.1, more (are.complete (a, c) link at.0 onwards.0 at.1 onwards.1) onwards.2)

      -- the names whose flags are set are those on cycles
      pub flagged_on_cycle : (flags : List Bool) → length targets ≡ length names
          → ((number : ℕ) → number < length targets → (get_or flags number false ≡ true) ↔ Chain (IsTarget targets) number number)
          → (fault : Fault) → SomeGives (IsFlagged names flags) links fault ↔ Chain (IsLinked links) fault fault
      flagged_on_cycle flags len right fault = (
        λ some.
            let flagged = some.2 in
            let within = slice_get_within names flagged.1 fault flagged.2 in
            chain_of_numbers flagged.1 flagged.1 fault fault ((right flagged.1 (omega (arith, within, len))).0 flagged.3) flagged.2 flagged.2,
        λ chain.
            let first = first_step (IsLinked links) fault fault chain in
            let at = among_at names fault (have (fault, first.0) first.1) in
            let back = numbers_of_chain fault fault at.0 chain at.1 in
            let same : back.0 ≡ at.0 = at_once names back.0 at.0 fault (once fault) back.1 at.1 in
            let within = slice_get_within names at.0 fault at.1 in
            let flag = (right at.0 (omega (arith, within, len))).1 (subst (λ each. Chain (IsTarget targets) each at.0) same back.2) in
            ((fault, first.0), first.1, (refl, at.0, at.1, flag)),
      )

-- links that are those of the declarations of a bag make the same chains
pub chains_in : (Links : Declaration → Fault × Fault → Type 0) (bag : Bag) (links : List (Fault × Fault)) → Adds (SomeGives Links bag) [] links
    → (a b : Fault) → Chain (IsLinked links) a b ↔ Chain (LinksIn Links bag) a b
chains_in Links bag links are a b =
    let members = members_of (SomeGives Links bag) links are in (
      λ chain. refined (λ k l link. one ((members (k, l)).0 link)) chain,
      λ chain. refined (λ k l link. one ((members (k, l)).1 link)) chain,
    )

-- keys that stand for what one fact holds of stand for what another does that holds of the same
pub keys_like : {X E : Type 0} (result : Result X E) (seen : X → List Fault) (One Other : Fault → Type 0)
    → ((fault : Fault) → One fault ↔ Other fault) → IfOk result (λ keys. Adds One [] (seen keys)) → IfOk result (λ keys. Adds Other [] (seen keys))
keys_like (Ok keys) seen One Other same adds = adds_like One Other [] (seen keys) (λ fault. (same fault).0) (λ fault. (same fault).1) adds
keys_like (Err e) seen One Other same adds = tt

-- where each step is one of what things stand for, so is a chain
pub mapped : {A B : Type 0} {Step : A → A → Type 0} {Other : B → B → Type 0} (f : A → B) → ((k l : A) → Step k l → Other (f k) (f l)) → {a b : A}
    → Chain Step a b → Chain Other (f a) (f b)
mapped f each {a = a} {b = b} (one step) = one (each a b step)
mapped f each {a = a} (more step rest) = more (each a _ step) (mapped f each rest)
