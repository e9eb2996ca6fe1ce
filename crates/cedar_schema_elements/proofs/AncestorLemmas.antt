-- Sets of what stands above nodes, as they are filled and taken out.
use Rattle.std.proofs.Common.{◌≡◌, ◌≢◌, ◌⊎◌, ◌↔◌, ◌++◌, append_assoc, Bool, true, false, cond, List, [], ◌∷◌, Option, Some, None, map, ap, sym, subst, ◌∙◌, refl, inl, inr, Contains, IsSomeAnd, arith}
use Rattle.std.proofs.lemmas.Bool.{false≢true, cond-true, cond-false}
use Rattle.std.proofs.lemmas.List.{append-nil}
use Rattle.std.proofs.lemmas.List.Elements.{Contains-append_cases, Contains-append_left, Contains-append_right}
use Rattle.std.specs.BTreeMap.{BTreeMap, is_at}
use Rattle.std.specs.BTreeSet.{BTreeSet}
use Rattle.std.specs.Bool.{Decides}
use Rattle.std.specs.Cmp.{Equal-is}
use Rattle.std.specs.List.{list_any}
use Rattle.std.specs.Map.{lookup}
use Rattle.std.specs.declared.cmp.Ordering.{Ordering}
use Rattle.std.specs.declared.cmp.Ordering.TheVariants.{Equal}
use Rattle.cedar_ast.proofs.Basics.{Contains-image, Contains-single}
use Rattle.cedar_ast.proofs.Lists.{Contains-cons, Contains-preimage, list_any-Contains}
use Rattle.cedar_schema_elements.proofs.SetLemmas.{alike}
use Rattle.cedar_schema_elements.specs.Ancestors.{HasNode, IsAncestor, ListsBelow, upper_set}

-- what sets have, by what their keys stand for
module _ {K P : Type 0} (name : K → P) where
  -- a set that was there has what it had
  pub some_above : (before : Option (BTreeSet K)) (set : BTreeSet K) → before ≡ Some set
      → (it : P) → IsSomeAnd before (λ each. Contains (map name each.keys) it) ↔ Contains (map name set.keys) it
  some_above before set is it = rw is (λ among. among, λ among. among)

  -- where there was none, an empty one has as much
  pub none_above : (before : Option (BTreeSet K)) (keys : List K) → before ≡ None → keys ≡ []
      → (it : P) → IsSomeAnd before (λ each. Contains (map name each.keys) it) ↔ Contains (map name keys) it
  none_above before keys is nothing it = rw is (λ none. absurd none, λ among. absurd (omega (arith, (rw nothing at among).1)))

-- keys that tie exactly where they stand for the same
module _ {K P : Type 0} (cmp : K → K → Ordering) (name : K → P) (tied : (a b : K) → (cmp a b ≡ Equal) ↔ (name a ≡ name b)) where
  -- a key is found at another exactly where they stand for the same
  pub key_tie : (q key : K) → Decides (is_at (cmp q) key) (name key ≡ name q)
  key_tie q key = (
    λ tie. sym ((tied q key).0 ((Equal-is (cmp q key)).0 tie)),
    λ same. (Equal-is (cmp q key)).1 ((tied q key).1 (sym same)),
  )

  -- keys that stand for the same find the same
  pub same_set : (ancestors : BTreeMap K (BTreeSet K)) (key other : K) → name key ≡ name other
      → upper_set cmp ancestors key ≡ upper_set cmp ancestors other
  same_set ancestors key other same =
      let tests : is_at (cmp key) ≡ is_at (cmp other) = λ i each.
      alike (is_at (cmp key) each) (is_at (cmp other) each) (key_tie key each) (key_tie other each)
      (λ is. is ∙ same) (λ is. is ∙ sym same) i in
      ap (λ test. lookup test ancestors.entries) tests

  -- a set has a key exactly where one of its keys stands for the same
  held : (keys : List K) (q : K) → Decides (list_any (is_at (cmp q)) keys) (Contains (map name keys) (name q))
  held keys q = list_any-Contains name (name q) (is_at (cmp q)) (key_tie q) keys

  -- after an insertion a set has what it had, and what was put in
  pub inserted_key : (old new : List K) (key : K)
      → ((q : K) → list_any (is_at (cmp q)) new ≡ cond (is_at (cmp key) q) true (list_any (is_at (cmp q)) old))
      → (it : P) → Contains (map name new) it ↔ (Contains (map name old) it ⊎ Contains (name key ∷ []) it)
  inserted_key old new key updates it = (
    λ among.
        let found = Contains-preimage name new it among in
        rw found.2 at (was (is_at (cmp key) found.0) found.0 refl
        (sym (updates found.0) ∙ (held new found.0).1 (Contains-image name new found.0 found.1))),
    elim [
      | inl before ↦
          let found = Contains-preimage name old it before in
          rw found.2 at ((held new found.0).0 (updates found.0
          ∙ (ap (cond (is_at (cmp key) found.0) true) ((held old found.0).1 (Contains-image name old found.0 found.1))
          ∙ either (is_at (cmp key) found.0))))
      | inr one ↦
          rw (Contains-single (name key) it one) at ((held new key).0 (updates key
          ∙ cond-true (is_at (cmp key) key) true (list_any (is_at (cmp key)) old) ((key_tie key key).1 refl)))
    ],
  )
    where
      either : (b : Bool) → cond b true true ≡ true
      either true = refl
      either false = refl

      was : (b : Bool) (q : K) → is_at (cmp key) q ≡ b → cond (is_at (cmp key) q) true (list_any (is_at (cmp q)) old) ≡ true
          → Contains (map name old) (name q) ⊎ Contains (name key ∷ []) (name q)
      was true q is answer = inr (Contains-cons (name key) [] (name q) (inl (sym ((key_tie key q).0 is))))
      was false q is answer =
          inl ((held old q).0 (sym (cond-false (is_at (cmp key) q) true (list_any (is_at (cmp q)) old) is) ∙ answer))

  -- in a set with one more stand those that were above, and the one more
  pub one_more_above : (before : Option (BTreeSet K)) (old new : List K) (copy : K) (upper : P)
      → ((it : P) → IsSomeAnd before (λ set. Contains (map name set.keys) it) ↔ Contains (map name old) it)
      → name copy ≡ upper
      → ((q : K) → list_any (is_at (cmp q)) new ≡ cond (is_at (cmp copy) q) true (list_any (is_at (cmp q)) old))
      → (it : P) → Contains (map name new) it ↔ (IsSomeAnd before (λ set. Contains (map name set.keys) it) ⊎ (upper ≡ it))
  one_more_above before old new copy upper were same updates it =
      let also = inserted_key old new copy updates it in (
        λ among. elim (also.0 among) [
          | inl there ↦ inl ((were it).1 there)
          | inr one ↦ inr (sym same ∙ Contains-single (name copy) it one)
        ],
        elim [
          | inl there ↦ also.1 (inl ((were it).0 there))
          | inr one ↦ also.1 (inr (Contains-cons (name copy) [] it (inl (same ∙ one))))
        ],
      )

  -- a set is put under a key
  module _ (before after : BTreeMap K (BTreeSet K)) (lower : K) (set : BTreeSet K)
      (updated : (q : K) → upper_set cmp after q ≡ cond (is_at (cmp lower) q) (Some set) (upper_set cmp before q)) where
    pub put_above : (upper : P)
        → ((it : P) → Contains (map name set.keys) it ↔ (IsAncestor cmp name before lower it ⊎ (upper ≡ it)))
        → (key : K) (it : P)
        → IsAncestor cmp name after key it ↔ (IsAncestor cmp name before key it ⊎ ((name lower ≡ name key) × (upper ≡ it)))
    put_above upper has key it = by (is_at (cmp lower) key) refl where
      S : Option (BTreeSet K) → Type 0
      S o = IsSomeAnd o (λ each. Contains (map name each.keys) it)

      by : (b : Bool) → is_at (cmp lower) key ≡ b
          → IsAncestor cmp name after key it ↔ (IsAncestor cmp name before key it ⊎ ((name lower ≡ name key) × (upper ≡ it)))
      by true tie =
          let same = (key_tie lower key).0 tie in
          let now : upper_set cmp after key ≡ Some set =
          updated key ∙ cond-true (is_at (cmp lower) key) (Some set) (upper_set cmp before key) tie in
          let were : upper_set cmp before lower ≡ upper_set cmp before key = sym (same_set before key lower same) in (
            λ above. elim ((has it).0 (subst S now above)) [ inl there ↦ inl (subst S were there) | inr one ↦ inr (sym same, one) ],
            λ either. subst S (sym now)
                ((has it).1 (elim either [ inl there ↦ inl (subst S (sym were) there) | inr one ↦ inr one.1 ])),
          )
      by false apart =
          let now : upper_set cmp after key ≡ upper_set cmp before key =
          updated key ∙ cond-false (is_at (cmp lower) key) (Some set) (upper_set cmp before key) apart in (
            λ above. inl (subst S now above),
            elim [ inl there ↦ subst S (sym now) there | inr one ↦ absurd (false≢true (sym apart ∙ (key_tie lower key).1 (sym one.0))) ],
          )

  -- what is under another key than the one that was taken out is still there
  pub others_stay : (before after : BTreeMap K (BTreeSet K)) (lower : K)
      → ((q : K) → is_at (cmp lower) q ≡ false → upper_set cmp after q ≡ upper_set cmp before q)
      → (key : K) → name key ≢ name lower → upper_set cmp after key ≡ upper_set cmp before key
  others_stay before after lower updated key other = by (is_at (cmp lower) key) refl where
    by : (b : Bool) → is_at (cmp lower) key ≡ b → upper_set cmp after key ≡ upper_set cmp before key
    by true tie = absurd (other ((key_tie lower key).0 tie))
    by false apart = updated key apart

-- nodes below one have it above them, and others are left
pub record BelowSoFar {K P : Type 0} (cmp : K → K → Ordering) (name : K → P) (initial : BTreeMap K (BTreeSet K)) (upper : P)
    (all : List P) (ancestors : BTreeMap K (BTreeSet K)) (left : List P) : Type 0 where
  pub done : List P
  pub split : all ≡ done ++ left
  pub same : (key : K) (above : P)
      → IsAncestor cmp name ancestors key above ↔ (IsAncestor cmp name initial key above ⊎ ((upper ≡ above) × Contains done (name key)))

module _ {K P : Type 0} (cmp : K → K → Ordering) (name : K → P) (initial : BTreeMap K (BTreeSet K)) (upper : P) (all : List P) where
  -- at first none has
  pub below_none : (left : List P) → left ≡ all → BelowSoFar cmp name initial upper all initial left
  below_none left same = record {
    done = [];
    split = sym same;
    same = λ key above. (λ stands. inl stands, elim [ inl stands ↦ stands | inr none ↦ absurd (omega (arith, none.1.1)) ]);
  }

  -- one more has
  pub below_more : (left rest : List P) (middle after : BTreeMap K (BTreeSet K)) (lower : P) → left ≡ lower ∷ rest
      → ((key : K) (above : P)
      → IsAncestor cmp name after key above ↔ (IsAncestor cmp name middle key above ⊎ ((lower ≡ name key) × (upper ≡ above))))
      → BelowSoFar cmp name initial upper all middle left → BelowSoFar cmp name initial upper all after rest
  below_more left rest middle after lower is also so_far = record {
    done = so_far.done ++ lower ∷ [];
    split = so_far.split ∙ (ap (λ others. so_far.done ++ others) is ∙ sym (append_assoc so_far.done (lower ∷ []) rest));
    same = λ key above. (
      λ stands. elim ((also key above).0 stands) [
        | inl before ↦
            elim ((so_far.same key above).0 before) [
              | inl first ↦ inl first
              | inr those ↦ inr (those.0, Contains-append_left so_far.done (lower ∷ []) (name key) those.1)
            ]
        | inr one ↦
            inr (
              one.1,
              Contains-append_right so_far.done (lower ∷ []) (name key) (Contains-cons lower [] (name key) (inl one.0)),
            )
      ],
      elim [
        | inl first ↦ (also key above).1 (inl ((so_far.same key above).1 (inl first)))
        | inr those ↦
            elim (Contains-append_cases so_far.done (lower ∷ []) (name key) those.1) [
              | inl before ↦ (also key above).1 (inl ((so_far.same key above).1 (inr (those.0, before))))
              | inr one ↦ (also key above).1 (inr (Contains-single lower (name key) one, those.0))
            ]
      ],
    );
  }

  -- where none is left, all have
  pub below_all : (left : List P) (ancestors : BTreeMap K (BTreeSet K)) → left ≡ [] → BelowSoFar cmp name initial upper all ancestors left
      → (key : K) (above : P)
      → IsAncestor cmp name ancestors key above ↔ (IsAncestor cmp name initial key above ⊎ ((upper ≡ above) × Contains all (name key)))
  below_all left ancestors nothing so_far =
      rw (so_far.split ∙ (ap (λ others. so_far.done ++ others) nothing ∙ append-nil so_far.done)) so_far.same

module _ {K V P : Type 0} (name : K → P) (Holds : V → Type 0) where
  -- among one more is a node of a name where another was, or it is the new one
  pub node_more : (done : List (K × V)) (key : K) (it : V) (named : P) → HasNode name Holds (done ++ (key, it) ∷ []) named
      ↔ (HasNode name Holds done named ⊎ ((name key ≡ named) × Holds it))
  node_more done key it named = (
    λ of. elim (Contains-append_cases done ((key, it) ∷ []) of.0 of.1) [
      | inl before ↦ inl (of.0, before, of.2, of.3)
      | inr last ↦
          let same = Contains-single (key, it) of.0 last in
          inr (ap (λ (entry : K × V). name entry.0) same ∙ of.2, subst Holds (sym (ap (λ (entry : K × V). entry.1) same)) of.3)
    ],
    elim [
      | inl before ↦ (before.0, Contains-append_left done ((key, it) ∷ []) before.0 before.1, before.2, before.3)
      | inr last ↦ (
        (key, it),
        Contains-append_right done ((key, it) ∷ []) (key, it) (Contains-cons (key, it) [] (key, it) (inl refl)),
        last.0,
        last.1,
      )
    ],
  )

  -- so it is where the nodes are shown as plain data
  pub node_plain : {D : Type 0} (plain : K × V → P × D) (R : D → Type 0) → ((entry : K × V) → (plain entry).0 ≡ name entry.0)
      → ((entry : K × V) → Holds entry.1 ↔ R (plain entry).1) → (nodes : List (K × V)) (named : P)
      → HasNode name Holds nodes named ↔ ((it : D) × Contains (map plain nodes) (named, it) × R it)
  node_plain {D = D} plain R keyed same nodes named = (
    λ of.
        let shown = plain of.0 in
        (shown.1, rw (keyed of.0 ∙ of.2) at (Contains-image plain nodes of.0 of.1), (same of.0).0 of.3),
    λ of.
        let found = Contains-preimage plain nodes (named, of.0) of.1 in (
          found.0,
          found.1,
          sym (keyed found.0) ∙ ap (λ (it : P × D). it.0) found.2,
          (same found.0).1 (subst R (sym (ap (λ (it : P × D). it.1) found.2)) of.2),
        ),
  )

-- of some nodes each stands above those that it lists, and others are left
pub record AncestorsSoFar {K V P : Type 0} (cmp : K → K → Ordering) (name : K → P) (below : V → List P) (all : List (K × V))
    (ancestors : BTreeMap K (BTreeSet K)) (left : List (K × V)) : Type 0 where
  pub done : List (K × V)
  pub split : all ≡ done ++ left
  pub same : (key : K) (above : P) → IsAncestor cmp name ancestors key above ↔ ListsBelow name below done (name key) above

module _ {K V P : Type 0} (cmp : K → K → Ordering) (name : K → P) (below : V → List P) (all : List (K × V)) where
  -- at first none does
  pub ancestors_none : (left : List (K × V)) (ancestors : BTreeMap K (BTreeSet K)) → left ≡ all → ancestors.entries ≡ []
      → AncestorsSoFar cmp name below all ancestors left
  ancestors_none left ancestors same nothing = record {
    done = [];
    split = sym same;
    same = λ key above. (
      λ upper. absurd (rw (ap (lookup (is_at (cmp key))) nothing) at upper),
      λ lists. absurd (omega (arith, lists.1.1)),
    );
  }

  -- one more does
  pub ancestors_more : (left rest : List (K × V)) (middle after : BTreeMap K (BTreeSet K)) (upper : K) (it : V)
      → left ≡ (upper, it) ∷ rest → ((key : K) (above : P) → IsAncestor cmp name after key above
      ↔ (IsAncestor cmp name middle key above ⊎ ((name upper ≡ above) × Contains (below it) (name key))))
      → AncestorsSoFar cmp name below all middle left → AncestorsSoFar cmp name below all after rest
  ancestors_more left rest middle after upper it is also so_far = record {
    done = so_far.done ++ (upper, it) ∷ [];
    split = so_far.split ∙ (ap (λ others. so_far.done ++ others) is ∙ sym (append_assoc so_far.done ((upper, it) ∷ []) rest));
    same = λ key above. (
      λ stands. (node_more name (λ node. Contains (below node) (name key)) so_far.done upper it above).1
          (elim ((also key above).0 stands) [ inl before ↦ inl ((so_far.same key above).0 before) | inr last ↦ inr last ]),
      λ lists. (also key above).1
          (elim ((node_more name (λ node. Contains (below node) (name key)) so_far.done upper it above).0 lists) [
            | inl before ↦ inl ((so_far.same key above).1 before)
            | inr last ↦ inr last
          ]),
    );
  }

  -- where none is left, all do
  pub ancestors_all : (left : List (K × V)) (ancestors : BTreeMap K (BTreeSet K)) → left ≡ []
      → AncestorsSoFar cmp name below all ancestors left
      → (key : K) (above : P) → IsAncestor cmp name ancestors key above ↔ ListsBelow name below all (name key) above
  ancestors_all left ancestors nothing so_far =
      rw (so_far.split ∙ (ap (λ others. so_far.done ++ others) nothing ∙ append-nil so_far.done)) so_far.same
