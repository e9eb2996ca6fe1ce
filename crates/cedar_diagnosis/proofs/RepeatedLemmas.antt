-- What stands twice among what declarations give.
use Rattle.std.proofs.Common.{◌≡◌, ◌<◌, ◌+◌, ℕ, OnOk, Result, Ok, Err, List, [], ◌∷◌, ◌++◌, map, ap, sym, ◌∙◌, subst, inl, inr, Contains, Option, None, Some, arith, length, take, get_or}
use Rattle.std.proofs.lemmas.List.{map_more}
use Rattle.std.proofs.lemmas.List.Elements.{Contains-append_left, Contains-append_right, Contains-append_cases}
use Rattle.std.specs.List.{flat_map}
use Rattle.cedar_ast.proofs.Basics.{Contains-none, Contains-single}
use Rattle.cedar_ast.proofs.Lists.{Contains-cons}
use Rattle.cedar_ast.specs.Words.{Twice}
use Rattle.cedar_diagnosis.proofs.AddingLemmas.{adds_like, adds_nothing, members_of}
use Rattle.cedar_diagnosis.proofs.ListedSoFar.{given_more}
use Rattle.cedar_diagnosis.specs.Adding.{Adds, optional}
use Rattle.cedar_schema_semantics.proofs.OccurrenceLemmas.{Twice-append, Twice-both, Twice-left}

-- what is there once or not at all doesn't stand twice
pub optional_once : {X P : Type 0} (f : X → P) (it : Option X) (items : List P) → optional f it ≡ items → (item : P) → ¬ Twice items item
optional_once {P = P} f None items same item twice =
    let TwiceIn : List P → Type 0 = λ each. Twice each item in subst TwiceIn (sym same) twice
optional_once {P = P} f (Some x) items same item twice =
    let TwiceIn : List P → Type 0 = λ each. Twice each item in
    elim (subst TwiceIn (sym same) twice) [ inl both ↦ omega (arith, both.1.1) | inr none ↦ none ]

module _ {P : Type 0} where
  -- what was seen stays as it is where it comes again
  pub seen_again : (items : List P) (one : P) → Contains items one → Adds (λ item. one ≡ item) items items
  seen_again items one among item = (
    λ there. inl there,
    elim [ inl there ↦ there | inr same ↦ subst (Contains items) same among ],
  )

  -- where one is seen, and comes again, it stands twice
  pub twice_seen : {E : Type 0} (result : Result Unit E) (items before after : List P) (one : P) → Contains items one
      → OnOk result (Adds (λ item. one ≡ item) before after) → OnOk result (Adds (λ item. (one ≡ item) × Contains items item) before after)
  twice_seen (Ok x) items before after one among adds =
      adds_like (λ item. one ≡ item) (λ item. (one ≡ item) × Contains items item) before after
      (λ item same. (same, subst (Contains items) same among)) (λ item both. both.0) adds
  twice_seen (Err x) items before after one among adds = tt

  -- where it isn't, nothing does
  pub twice_unseen : (items before : List P) (one : P) → ¬ Contains items one → Adds (λ item. (one ≡ item) × Contains items item) before before
  twice_unseen items before one fresh =
      adds_nothing (λ item. (one ≡ item) × Contains items item) before (λ item both. fresh (subst (Contains items) (sym both.0) both.1))

  -- what one that is there adds, the list of it adds
  pub one_given : {E X : Type 0} (result : Result Unit E) (f : X → P) (it : X) (given : List P) (Holds : P → Type 0) (before after : List P)
      → optional f (Some it) ≡ given → OnOk result (Adds (λ item. (f it ≡ item) × Holds item) before after)
      → OnOk result (Adds (λ item. Contains given item × Holds item) before after)
  one_given (Ok x) f it given Holds before after same adds =
      adds_like (λ item. (f it ≡ item) × Holds item) (λ item. Contains given item × Holds item) before after
      (λ item both. (subst (λ each. Contains each item) same (Contains-cons (f it) [] item (inl both.0)), both.1))
      (λ item both. (Contains-single (f it) item (subst (λ each. Contains each item) (sym same) both.0), both.1)) adds
  one_given (Err x) f it given Holds before after same adds = tt

  pub only_given : {E X : Type 0} (result : Result Unit E) (f : X → P) (it : X) (given : List P) (before after : List P)
      → optional f (Some it) ≡ given → OnOk result (Adds (λ item. f it ≡ item) before after)
      → OnOk result (Adds (Contains given) before after)
  only_given (Ok x) f it given before after same adds =
      adds_like (λ item. f it ≡ item) (Contains given) before after
      (λ item is. subst (λ each. Contains each item) same (Contains-cons (f it) [] item (inl is)))
      (λ item among. Contains-single (f it) item (subst (λ each. Contains each item) (sym same) among)) adds
  only_given (Err x) f it given before after same adds = tt

  module _ {L D : Type 0} (see : L → D) (given : D → List P) (items : List L) where
    -- of some items all that they give is seen, and what stands twice among it is noted
    pub record NotedSoFar (done : List L) (seen twice : List P) : Type 0 where
      pub seen_all : Adds (Contains (flat_map given (map see done))) [] seen
      pub twice_all : Adds (Twice (flat_map given (map see done))) [] twice

    -- at first nothing is
    pub noted_none : (seen twice : List P) → seen ≡ [] → twice ≡ [] → NotedSoFar (take 0 items) seen twice
    noted_none seen twice no_seen no_twice =
        let Both : List P → List P → Type 0 = NotedSoFar [] in
        subst (λ each. NotedSoFar (take 0 items) each twice) (sym no_seen)
        (subst (NotedSoFar (take 0 items) []) (sym no_twice) (record {
          seen_all = adds_nothing (Contains []) [] (λ item among. omega (arith, among.1));
          twice_all = adds_nothing (Twice []) [] (λ item none. none);
        }))

    -- and then those of one more
    pub noted_more : (i : ℕ) (one : L) (seen seen' twice twice' : List P) → i < length items → one ≡ get_or items i one
        → ((item : P) → ¬ Twice (given (see one)) item) → Adds (Contains (given (see one))) seen seen'
        → Adds (λ item. Contains (given (see one)) item × Contains seen item) twice twice'
        → NotedSoFar (take i items) seen twice → NotedSoFar (take (i + 1) items) seen' twice'
    noted_more i one seen seen' twice twice' lt is single sees repeats so_far =
        let front = flat_map given (map see (take i items)) in
        let last = given (see one) in
        let all : flat_map given (map see (take (i + 1) items)) ≡ front ++ last =
        ap (flat_map given) (map_more see items i one lt ∙ ap (λ each. map see (take i items) ++ see each ∷ []) (sym is))
        ∙ given_more given (map see (take i items)) (see one) in
        let was = members_of (Contains front) seen so_far.seen_all in
        let twice_was = members_of (Twice front) twice so_far.twice_all in
        record {
          seen_all = λ item. (
            λ among. inr (subst (λ each. Contains each item) (sym all) (elim ((sees item).0 among) [
              | inl old ↦ Contains-append_left front last item ((was item).0 old)
              | inr new ↦ Contains-append_right front last item new
            ])),
            elim [
              | inl none ↦ absurd (Contains-none item none)
              | inr among ↦ elim (Contains-append_cases front last item (subst (λ each. Contains each item) all among)) [
                | inl old ↦ (sees item).1 (inl ((was item).1 old))
                | inr new ↦ (sees item).1 (inr new)
              ]
            ],
          );
          twice_all = λ item. (
            λ among. inr (subst (λ each. Twice each item) (sym all) (elim ((repeats item).0 among) [
              | inl old ↦ Twice-left front last item ((twice_was item).0 old)
              | inr both ↦ Twice-both front last item ((was item).0 both.1) both.0
            ])),
            elim [
              | inl none ↦ absurd (Contains-none item none)
              | inr stands ↦ elim (Twice-append front last item (subst (λ each. Twice each item) all stands)) [
                | inl old ↦ (repeats item).1 (inl ((twice_was item).1 old))
                | inr (inl new) ↦ absurd (single item new)
                | inr (inr both) ↦ (repeats item).1 (inr (both.1, (was item).1 both.0))
              ]
            ],
          );
        }

-- the same where a step that may fail comes between
pub seen_also : {P E : Type 0} (result : Result Unit E) (items : List P) (one : P) → Contains items one
    → OnOk result (Adds (λ item. one ≡ item) items items)
seen_also (Ok x) items one among = seen_again items one among
seen_also (Err x) items one among = tt

pub unseen_twice : {P E : Type 0} (result : Result Unit E) (items before : List P) (one : P) → ¬ Contains items one
    → OnOk result (Adds (λ item. (one ≡ item) × Contains items item) before before)
unseen_twice (Ok x) items before one fresh = twice_unseen items before one fresh
unseen_twice (Err x) items before one fresh = tt

pub optional_once_ok : {X P E : Type 0} (result : Result Unit E) (f : X → P) (it : Option X) (items : List P) → optional f it ≡ items
    → OnOk result ((item : P) → ¬ Twice items item)
optional_once_ok (Ok x) f it items same = optional_once f it items same
optional_once_ok (Err x) f it items same = tt
