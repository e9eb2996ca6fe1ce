-- Sets of names and of uids, by what they stand for.
use Rattle.std.proofs.Common.{◌≡◌, ◌⊎◌, ◌↔◌, true, Option, Some, None, IfSome, is_some, List, [], ◌∷◌, ◌++◌, map, ap, sym, ◌∙◌, refl, inl, inr, Contains, arith, ℕ, ◌+◌, ◌<◌, ◌≤◌, length, get_or, take, append_assoc}
use Rattle.std.proofs.lemmas.Bool.{false≢true}
use Rattle.std.proofs.lemmas.List.{map_more, take_more, take_all, flat_map_more, map-append, append-nil}
use Rattle.std.proofs.lemmas.List.Elements.{Contains-append_left, Contains-append_right, Contains-append_cases}
use Rattle.std.specs.BTreeSet.{BTreeSet, IsFromIterResult, insert_key}
use Rattle.std.specs.Bool.{Decides}
use Rattle.std.specs.List.{list_any, flat_map}
use Rattle.std.specs.Ordering.{eq_by_cmp, is_eq, match_ordering}
use Rattle.std.specs.declared.cmp.Ordering.{Ordering}
use Rattle.std.specs.declared.cmp.Ordering.TheVariants.{Less, Equal, Greater}
use Rattle.cedar_ast.proofs.Basics.{Contains-single, is_eq-Equal}
use Rattle.cedar_ast.proofs.Lists.{Contains-cons, Contains-cons_cases, Contains-preimage, list_any-Contains}
use Rattle.cedar_name_resolution.specs.Words.{HasAlso, SameItems, StandsWhere}

-- keys that tie exactly where they stand for the same
module _ {K P : Type 0} (R : K → K → Ordering) (f : K → P) (tie : (a b : K) → (R a b ≡ Equal) ↔ (f a ≡ f b)) where
  -- a look-up finds a key exactly where one stands for the same
  pub found-Decides : (keys : List K) (key : K) → Decides (list_any (λ other. is_eq (R key other)) keys) (Contains (map f keys) (f key))
  found-Decides keys key =
      list_any-Contains f (f key) (λ other. is_eq (R key other))
      (λ other. (
        λ e. sym ((tie key other).0 (is_eq-Equal (R key other) e)),
        λ same. ap is_eq ((tie key other).1 (sym same)),
      )) keys

  -- and what it finds stands for the same
  pub stands_where : {R' : Type 0} (now : R' → K) (keys : List K) (key : K) (found : Option R')
      → is_some found ≡ list_any (λ other. is_eq (R key other)) keys → IfSome found (λ one. R key (now one) ≡ Equal)
      → StandsWhere (λ one. f (now one)) (f key) (Contains (map f keys) (f key)) found
  stands_where now keys key None none same = λ among. false≢true (none ∙ (found-Decides keys key).1 among)
  stands_where now keys key (Some one) some same = (sym ((tie key (now one)).0 same), (found-Decides keys key).0 (sym some))

  -- what an insertion leaves
  pub inserted : (keys : List K) (key : K) → HasAlso (map f (insert_key R keys key)) (map f keys) (f key ∷ [])
  inserted [] key item = (
    λ among. inr among,
    elim [ inl nothing ↦ absurd (omega (arith, nothing.1)) | inr among ↦ among ],
  )
  inserted (first ∷ rest) key item = placed (R key first) refl (inserted rest key item)
    where
      placed : (answer : Ordering) → R key first ≡ answer
          → (Contains (map f (insert_key R rest key)) item ↔ (Contains (map f rest) item ⊎ Contains (f key ∷ []) item))
          → (Contains (map f (match_ordering answer (key ∷ first ∷ rest) (first ∷ rest) (first ∷ insert_key R rest key))) item
          ↔ (Contains (f first ∷ map f rest) item ⊎ Contains (f key ∷ []) item))
      placed Less is later = (
        λ among. elim (Contains-cons_cases (f key) (f first ∷ map f rest) item among) [
          | inl same ↦ inr (Contains-cons (f key) [] item (inl same))
          | inr others ↦ inl others
        ],
        elim [
          | inl others ↦ Contains-cons (f key) (f first ∷ map f rest) item (inr others)
          | inr one ↦ Contains-cons (f key) (f first ∷ map f rest) item (inl (Contains-single (f key) item one))
        ],
      )
      placed Equal is later = (
        λ among. inl among,
        elim [
          | inl others ↦ others
          | inr one ↦ Contains-cons (f first) (map f rest) item (inl (sym ((tie key first).0 is) ∙ Contains-single (f key) item one))
        ],
      )
      placed Greater is later = (
        λ among. elim (Contains-cons_cases (f first) (map f (insert_key R rest key)) item among) [
          | inl same ↦ inl (Contains-cons (f first) (map f rest) item (inl same))
          | inr there ↦ elim (later.0 there) [
            | inl others ↦ inl (Contains-cons (f first) (map f rest) item (inr others))
            | inr one ↦ inr one
          ]
        ],
        elim [
          | inl others ↦ elim (Contains-cons_cases (f first) (map f rest) item others) [
            | inl same ↦ Contains-cons (f first) (map f (insert_key R rest key)) item (inl same)
            | inr there ↦ Contains-cons (f first) (map f (insert_key R rest key)) item (inr (later.1 (inl there)))
          ]
          | inr one ↦ Contains-cons (f first) (map f (insert_key R rest key)) item (inr (later.1 (inr one)))
        ],
      )

  -- keys of which a search finds just those that it finds of others stand for some of what these do
  searched_within : (keys others : List K) → ((key : K) → list_any (eq_by_cmp R key) keys ≡ list_any (eq_by_cmp R key) others) → (item : P)
      → Contains (map f keys) item → Contains (map f others) item
  searched_within keys others answers item among =
      let found = Contains-preimage f keys item among in
      rw found.2 at ((found-Decides others found.0).0 (sym (answers found.0) ∙ (found-Decides keys found.0).1 (rw found.2 among)))

  -- a set of some items has just what these stand for
  pub collected : (set : BTreeSet K) (items : List K) → IsFromIterResult R items set → SameItems (map f set.keys) (map f items)
  collected set items made item = (
    searched_within set.keys items made.0 item,
    searched_within items set.keys (λ key. sym (made.0 key)) item,
  )

-- nothing more
pub HasAlso-none : {P : Type 0} (items : List P) → HasAlso items items []
HasAlso-none items item = (λ among. inl among, elim [ inl among ↦ among | inr nothing ↦ absurd (omega (arith, nothing.1)) ])

-- one more at the end
pub HasAlso-pushed : {K P : Type 0} (f : K → P) (before after : List K) (item : K) → after ≡ before ++ item ∷ []
    → HasAlso (map f after) (map f before) (f item ∷ [])
HasAlso-pushed f before after item is =
    rw (ap (map f) is ∙ map-append f before (item ∷ [])) (λ name. (
      λ among. Contains-append_cases (map f before) (f item ∷ []) name among,
      elim [
        | inl here ↦ Contains-append_left (map f before) (f item ∷ []) name here
        | inr there ↦ Contains-append_right (map f before) (f item ∷ []) name there
      ],
    ))

-- some more, and then others
pub HasAlso-more : {P : Type 0} (before middle after more others : List P) → HasAlso middle before more → HasAlso after middle others
    → HasAlso after before (more ++ others)
HasAlso-more before middle after more others first second item = (
  λ among. elim ((second item).0 among) [
    | inl there ↦ elim ((first item).0 there) [ inl here ↦ inl here | inr here ↦ inr (Contains-append_left more others item here) ]
    | inr here ↦ inr (Contains-append_right more others item here)
  ],
  elim [
    | inl here ↦ (second item).1 (inl ((first item).1 (inl here)))
    | inr here ↦ elim (Contains-append_cases more others item here) [
      | inl there ↦ (second item).1 (inl ((first item).1 (inr there)))
      | inr there ↦ (second item).1 (inr there)
    ]
  ],
)

module _ {D P : Type 0} (f : D → P) (before : List P) (items : List D) where
  -- the next one more
  pub HasAlso-next : (middle after : List P) (i : ℕ) (item : D) (name : P) → i < length items → item ≡ get_or items i item
      → name ≡ f item → HasAlso middle before (map f (take i items)) → HasAlso after middle (name ∷ [])
      → HasAlso after before (map f (take (i + 1) items))
  HasAlso-next middle after i item name lt is named so_far added =
      rw ((λ j. map f (take i items) ++ (named ∙ ap f is) j ∷ []) ∙ sym (map_more f items i item lt)) at
      (HasAlso-more before middle after (map f (take i items)) (name ∷ []) so_far added)

  -- all of them
  pub HasAlso-all : (after : List P) (i : ℕ) → length items ≤ i → HasAlso after before (map f (take i items)) → HasAlso after before (map f items)
  HasAlso-all after i le so_far =
      rw (ap (map f) (take_all i items le)) at so_far

module _ {D P : Type 0} (f : D → List P) (before : List P) (items : List D) where
  -- the next ones more
  pub HasAlso-next_ones : (middle after : List P) (i : ℕ) (item : D) → i < length items → item ≡ get_or items i item
      → HasAlso middle before (flat_map f (take i items)) → HasAlso after middle (f item)
      → HasAlso after before (flat_map f (take (i + 1) items))
  HasAlso-next_ones middle after i item lt is so_far added =
      let more : flat_map f (take i items) ++ f item ≡ flat_map f (take (i + 1) items) =
      flat_map_more f [] (take i items) item
      ∙ ap (flat_map f) (ap (λ one. take i items ++ one ∷ []) is ∙ sym (take_more items i item lt)) in
      rw more at (HasAlso-more before middle after (flat_map f (take i items)) (f item) so_far added)

  -- all of them
  pub HasAlso-all_ones : (after : List P) (i : ℕ) → length items ≤ i → HasAlso after before (flat_map f (take i items))
      → HasAlso after before (flat_map f items)
  HasAlso-all_ones after i le so_far =
      rw (ap (flat_map f) (take_all i items le)) at so_far

-- more than nothing
pub SameItems-from_none : {P : Type 0} (after before more : List P) → before ≡ [] → HasAlso after before more → SameItems after more
SameItems-from_none {P = P} after before more nothing also item = (
  λ among. elim ((also item).0 among) [
    | inl here ↦ absurd (omega (arith, (rw nothing at here).1))
    | inr there ↦ there
  ],
  λ there. (also item).1 (inr there),
)

-- items that are those of a second list, which are those of a third
pub SameItems-through : {P : Type 0} (items middle others : List P) → SameItems items middle → SameItems middle others → SameItems items others
SameItems-through items middle others first second item = (
  λ among. (second item).0 ((first item).0 among),
  λ among. (first item).1 ((second item).1 among),
)

-- what some items give was added, and others are left
pub record AddedSoFar {D P : Type 0} (f : D → P) (before : List P) (all : List D) (after : List P) (left : List D) : Type 0 where
  pub done : List D
  pub split : all ≡ done ++ left
  pub added : HasAlso after before (map f done)

module _ {D P : Type 0} (f : D → P) (before : List P) where
  -- at first nothing was
  pub added_none : (all left : List D) → all ≡ left → AddedSoFar f before all before left
  added_none all left same = record { done = []; split = same; added = HasAlso-none before }

  -- one more was
  pub added_more : (all left rest : List D) (middle after : List P) (item : D) (name : P) → left ≡ item ∷ rest → name ≡ f item
      → HasAlso after middle (name ∷ []) → AddedSoFar f before all middle left → AddedSoFar f before all after rest
  added_more all left rest middle after item name is named also so_far =
      record {
        done = so_far.done ++ item ∷ [];
        split = so_far.split ∙ (ap (λ others. so_far.done ++ others) is ∙ sym (append_assoc so_far.done (item ∷ []) rest));
        added = rw ((λ i. map f so_far.done ++ named i ∷ []) ∙ sym (map-append f so_far.done (item ∷ []))) at
            (HasAlso-more before middle after (map f so_far.done) (name ∷ []) so_far.added also);
      }

  -- where none is left, all were
  pub added_all : (all left : List D) (after : List P) → left ≡ [] → AddedSoFar f before all after left → HasAlso after before (map f all)
  added_all all left after nothing so_far =
      rw (so_far.split, ap (λ others. so_far.done ++ others) nothing, append-nil so_far.done) so_far.added
