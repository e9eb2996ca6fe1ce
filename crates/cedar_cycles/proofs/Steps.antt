-- What each step of a search makes of it.
use Rattle.std.proofs.Common.{◌≡◌, ◌≢◌, ◌↔◌, ◌++◌, ◌+◌, ◌-◌, ◌<◌, ◌≤◌, ℕ, zero, suc, List, [], ◌∷◌, Contains, Vec, length, get_or, set, arith, ap, inl, inr, refl, sym, ◌∙◌, subst}
use Rattle.std.proofs.Math.ListN.{get_or-append}
use Rattle.std.proofs.Math.Seq.{get_or-append_seam}
use Rattle.std.proofs.lemmas.Bool.{cases_eq}
use Rattle.std.proofs.lemmas.List.{get_or-append_right, get_or-set_same, get_or-set_other, length-append, length-set}
use Rattle.std.proofs.lemmas.List.Elements.{Contains-append_left, Contains-append_right, Contains-get_or}
use Rattle.cedar_ast.proofs.Basics.{Contains-single}
use Rattle.cedar_ast.proofs.Chains.{joined}
use Rattle.cedar_ast.specs.Chain.{one}
use Rattle.cedar_cycles.proofs.Reading.{below_or_not, order_snoc, snoc_member, snoc_read, stands_after, stands_still}
use Rattle.cedar_cycles.specs.Search.{IsDone, IsNext, IsOrReaches, IsUnderWay, mark_of}
use Rattle.cedar_cycles.specs.declared.search.Group.{Group}
use Rattle.cedar_cycles.specs.declared.search.Mark.{Mark}
use Rattle.cedar_cycles.specs.declared.search.Mark.TheVariants.{Fresh, OnCycle, Open, Passed}
use Rattle.cedar_graph.specs.Numbered.{IsTarget}

-- a mark that was set is that of its number
mark_here : (marks : List Mark) (number : ℕ) (mark : Mark) → number < length marks → mark_of (set marks number mark) number ≡ mark
mark_here marks number mark within = get_or-set_same marks number mark Fresh within

-- and others stay
mark_there : (marks : List Mark) (number other : ℕ) (mark : Mark) → other ≢ number → mark_of (set marks number mark) other ≡ mark_of marks other
mark_there marks number other mark apart = get_or-set_other marks number other mark Fresh apart

-- only a number that has a mark can be more than fresh
pub marked_within : (marks : List Mark) (number : ℕ) → mark_of marks number ≢ Fresh → number < length marks
marked_within [] number marked = absurd (marked refl)
marked_within (first ∷ rest) zero marked = omega arith
marked_within (first ∷ rest) (suc number) marked = let within = marked_within rest number marked in omega (arith, within)

-- a number that has a mark other than fresh isn't one that is fresh
apart_from : (marks : List Mark) (number other : ℕ) (mark : Mark) → mark_of marks number ≡ Fresh → mark_of marks other ≡ mark → mark ≢ Fresh
    → other ≢ number
apart_from marks number other mark fresh is isnt same = isnt (sym is ∙ (ap (mark_of marks) same ∙ fresh))

pub open_isnt_fresh : (place : ℕ) → Open place ≢ Fresh
open_isnt_fresh place same = cc

pub open_same : (place other : ℕ) → Open place ≡ Open other → place ≡ other
open_same place other same = cc

-- a number that is done isn't fresh, nor open
pub done_isnt_fresh : (mark : Mark) → IsDone mark → mark ≢ Fresh
done_isnt_fresh Passed done same = cc
done_isnt_fresh OnCycle done same = cc
done_isnt_fresh Fresh done same = absurd done
done_isnt_fresh (Open place) done same = absurd done

pub done_isnt_open : (mark : Mark) (place : ℕ) → IsDone mark → mark ≢ Open place
done_isnt_open Passed place done same = cc
done_isnt_open OnCycle place done same = cc
done_isnt_open Fresh place done same = absurd done
done_isnt_open (Open other) place done same = absurd done

module _ {Z : Type 0} (targets : List (Vec ℕ Z)) where
  -- a search that is the same is as far
  pub same_search : (marks marks' : List Mark) (path path' pending pending' : List ℕ) (groups groups' : List Group) → marks ≡ marks'
      → path ≡ path' → pending ≡ pending' → groups ≡ groups'
      → IsUnderWay targets [] marks path pending groups → IsUnderWay targets [] marks' path' pending' groups'
  same_search marks marks' path path' pending pending' groups groups' m p e g s =
      subst (λ each. IsUnderWay targets [] each path' pending' groups') m
      (subst (λ each. IsUnderWay targets [] marks each pending' groups') p
      (subst (λ each. IsUnderWay targets [] marks path each groups') e (subst (λ each. IsUnderWay targets [] marks path pending each) g s)))

  -- at first all is fresh
  pub at_first : (marks : List Mark) → length marks ≡ length targets → ((number : ℕ) → mark_of marks number ≡ Fresh)
      → IsUnderWay targets [] marks [] [] []
  at_first marks len fresh = record {
    len = len;
    opened = λ place none. absurd (omega (arith, none));
    on_path = λ number place is. absurd (open_isnt_fresh place (sym is ∙ fresh number));
    parts = record {
      within = λ group none. absurd (omega (arith, none.1));
      in_order = tt;
      whole = λ place none. absurd (omega (arith, none));
    };
    passed = λ number to done. absurd (done_isnt_fresh _ done (fresh number));
    sound = λ number is. absurd (done_isnt_fresh OnCycle tt (sym is ∙ fresh number));
    complete = λ number is. absurd (done_isnt_fresh Passed tt (sym is ∙ fresh number));
    reach = λ i j none. absurd (omega (arith, none));
    source = λ k none. absurd (omega (arith, none));
    explored = λ group none. absurd (omega (arith, none.1));
  }

  module _ (number : ℕ) (marks : List Mark) (path pending : List ℕ) (groups : List Group) where
    -- what is left over may be more
    pub left_more : IsUnderWay targets [] marks path pending groups → IsUnderWay targets (number ∷ []) marks path pending groups
    left_more s = record {
      len = s.len;
      opened = s.opened;
      on_path = s.on_path;
      parts = s.parts;
      passed = s.passed;
      sound = s.sound;
      complete = s.complete;
      reach = s.reach;
      source = s.source;
      explored = λ group among i to from below edge. elim (s.explored group among i to from below edge) [
        | inl done ↦ inl done
        | inr (inl opens) ↦ inr (inl opens)
        | inr (inr (inl waits)) ↦ inr (inr (inl waits))
        | inr (inr (inr none)) ↦ absurd (omega (arith, none.1))
      ];
    }

    -- the last that is pending is left over
    pub popped : IsUnderWay targets [] marks path (pending ++ number ∷ []) groups
        → ((group : Group) → Contains groups group → group.pending ≤ length pending)
        → IsUnderWay targets (number ∷ []) marks path pending groups
    popped s of_last = record {
      len = s.len;
      opened = s.opened;
      on_path = s.on_path;
      passed = s.passed;
      sound = s.sound;
      complete = s.complete;
      reach = s.reach;
      parts = record {
        within = λ group among. ((s.parts.within group among).0, of_last group among);
        in_order = s.parts.in_order;
        whole = s.parts.whole;
      };
      source = λ k below.
          let from = s.source k (omega (arith, below, length-append pending (number ∷ []))) in
          (from.0, from.1, subst (IsTarget targets (get_or path from.0 0)) (get_or-append pending (number ∷ []) 0 k below) from.2, from.3);
      explored = λ group among i to from below edge. elim (s.explored group among i to from below edge) [
        | inl done ↦ inl done
        | inr (inl opens) ↦ inr (inl opens)
        | inr (inr (inl waits)) ↦ elim (snoc_read pending number waits.0 waits.2) [
          | inl before ↦ inr (inr (inl (waits.0, waits.1, before.0, sym before.1 ∙ waits.3)))
          | inr last ↦ inr (inr (inr (0, omega arith, sym last.1 ∙ waits.3)))
        ]
        | inr (inr (inr none)) ↦ absurd (omega (arith, none.1))
      ];
    }

    -- and is a target of the last group
    pub popped_next : IsUnderWay targets [] marks path (pending ++ number ∷ []) groups
        → ((group : Group) → Contains groups group → group.pending ≤ length pending) → IsNext targets path groups number
    popped_next s of_last =
        let from = s.source (length pending) (omega (arith, length-append pending (number ∷ []))) in (
          from.0,
          from.1,
          subst (IsTarget targets (get_or path from.0 0)) (get_or-append_seam pending number [] 0) from.2,
          λ group among. (from.3 group among).0 (of_last group among),
        )

    module _ (s : IsUnderWay targets (number ∷ []) marks path pending groups) where
      -- a number that is done is passed over
      pub skipped : IsDone (mark_of marks number) → IsUnderWay targets [] marks path pending groups
      skipped is_done = record {
        len = s.len;
        opened = s.opened;
        on_path = s.on_path;
        parts = s.parts;
        passed = s.passed;
        sound = s.sound;
        complete = s.complete;
        reach = s.reach;
        source = s.source;
        explored = λ group among i to from below edge. elim (s.explored group among i to from below edge) [
          | inl done ↦ inl done
          | inr (inl opens) ↦ inr (inl opens)
          | inr (inr (inl waits)) ↦ inr (inr (inl waits))
          | inr (inr (inr left)) ↦
              let Done : ℕ → Type 0 = λ each. IsDone (mark_of marks each) in
              inl (subst Done (Contains-single number to left) is_done)
        ];
      }

      module _ (numbers : List ℕ) (fresh : mark_of marks number ≡ Fresh) (has_list : number < length targets)
          (next : (i : ℕ) → i < length path → IsNext targets path groups number)
          (same : (to : ℕ) → IsTarget targets number to ↔ Contains numbers to) where
        abbrev marked : List Mark
        marked = set marks number (Open (length path))

        abbrev group_of : Group
        group_of = record { path = length path; pending = length pending }

        here : mark_of marked number ≡ Open (length path)
        here = mark_here marks number (Open (length path)) (omega (arith, has_list, s.len))

        there : (other : ℕ) → other ≢ number → mark_of marked other ≡ mark_of marks other
        there other apart = mark_there marks number other (Open (length path)) apart

        -- what is done stays so
        still_done : (other : ℕ) → IsDone (mark_of marks other) → IsDone (mark_of marked other)
        still_done other done =
            subst IsDone (sym (there other (apart_from marks number other _ fresh refl (done_isnt_fresh _ done)))) done

        -- and was
        was_done : (other : ℕ) → IsDone (mark_of marked other) → (other ≢ number) × IsDone (mark_of marks other)
        was_done other done = elim (cases_eq other number) [
          | inl same_one ↦ absurd (done_isnt_open _ (length path) done (ap (mark_of marked) same_one ∙ here))
          | inr apart ↦ (apart, subst IsDone (there other apart) done)
        ]

        -- what is open stays so
        still_open : (other place : ℕ) → mark_of marks other ≡ Open place → mark_of marked other ≡ Open place
        still_open other place is = there other (apart_from marks number other (Open place) fresh is (open_isnt_fresh place)) ∙ is

        -- what was marked otherwise was so
        was : (mark : Mark) → ((place : ℕ) → mark ≢ Open place) → (other : ℕ) → mark_of marked other ≡ mark → mark_of marks other ≡ mark
        was mark isnt other is = elim (cases_eq other number) [
          | inl same_one ↦ absurd (isnt (length path) (sym is ∙ (ap (mark_of marked) same_one ∙ here)))
          | inr apart ↦ sym (there other apart) ∙ is
        ]

        -- chains between the numbers on the path
        reaches : (i j : ℕ) → i < length (path ++ number ∷ []) → j < length (path ++ number ∷ [])
            → ((group : Group) → Contains (groups ++ group_of ∷ []) group → group.path ≤ i → group.path ≤ j)
            → IsOrReaches targets (get_or (path ++ number ∷ []) i 0) (get_or (path ++ number ∷ []) j 0)
        reaches i j below below' premise = elim (snoc_read path number i below) [
          | inl old ↦ elim (snoc_read path number j below') [
            | inl also ↦ rw (old.1, also.1) (s.reach i j old.0 also.0 (λ group among. premise group (Contains-append_left groups (group_of ∷ []) group among)))
            | inr last ↦
                let from = next i old.0 in
                rw (old.1, last.1) (elim (s.reach i from.0 old.0 from.1 (λ group among le. from.3 group among)) [
                  | inl same_one ↦ inr (one (subst (λ each. IsTarget targets each number) (sym same_one) from.2))
                  | inr chain ↦ inr (joined chain (one from.2))
                ])
          ]
          | inr last ↦ elim (snoc_read path number j below') [
            | inl also ↦
                let le : length path ≤ j = premise group_of (Contains-append_right groups (group_of ∷ []) group_of (0, omega arith, refl)) (omega (arith, last.0)) in
                absurd (omega (arith, le, also.0))
            | inr again ↦ inl (last.1 ∙ sym again.1)
          ]
        ]

        -- a fresh number is entered
        pub entered : IsUnderWay targets [] marked (path ++ number ∷ []) (pending ++ numbers) (groups ++ group_of ∷ [])
        entered =
            let long : length (path ++ number ∷ []) ≡ length path + 1 = length-append path (number ∷ []) in
            let waiting : length (pending ++ numbers) ≡ length pending + length numbers = length-append pending numbers in
            record {
              len = length-set marks number (Open (length path)) ∙ s.len;
              opened = λ place below. elim (snoc_read path number place below) [
                | inl old ↦ ap (mark_of marked) old.1 ∙ still_open (get_or path place 0) place (s.opened place old.0)
                | inr last ↦ ap (mark_of marked) last.1 ∙ (here ∙ ap Open (sym last.0))
              ];
              on_path = λ other place is. elim (cases_eq other number) [
                | inl same_one ↦
                    let at : length path ≡ place = open_same (length path) place (sym here ∙ (ap (mark_of marked) (sym same_one) ∙ is)) in
                    (omega (arith, at, long), ap (λ k. get_or (path ++ number ∷ []) k 0) (sym at) ∙ (get_or-append_seam path number [] 0 ∙ sym same_one))
                | inr apart ↦
                    let stands = s.on_path other place (sym (there other apart) ∙ is) in
                    (omega (arith, stands.0, long), get_or-append path (number ∷ []) 0 place stands.0 ∙ stands.1)
              ];
              parts = record {
                within = λ group among. elim (snoc_member groups group_of group among) [
                  | inl old ↦ let within = s.parts.within group old in (omega (arith, within.0, long), omega (arith, within.1, waiting))
                  | inr last ↦
                      let Within : Group → Type 0 = λ each. (each.path < length (path ++ number ∷ [])) × (each.pending ≤ length (pending ++ numbers)) in
                      subst Within last (omega (arith, long), omega (arith, waiting))
                ];
                in_order = order_snoc groups group_of s.parts.in_order (λ group among. s.parts.within group among);
                whole = λ place below. elim (snoc_read path number place below) [
                  | inl old ↦
                      let found = s.parts.whole place old.0 in (found.0, Contains-append_left groups (group_of ∷ []) found.0 found.1, found.2)
                  | inr last ↦ (group_of, Contains-append_right groups (group_of ∷ []) group_of (0, omega arith, refl), omega (arith, last.0))
                ];
              };
              passed = λ other to done edge. still_done to (s.passed other to (was_done other done).1 edge);
              sound = λ other is. s.sound other (was OnCycle (λ place. done_isnt_open OnCycle place tt) other is);
              complete = λ other is. s.complete other (was Passed (λ place. done_isnt_open Passed place tt) other is);
              reach = reaches;
              source = λ k below. elim (below_or_not k (length pending)) [
                | inl old ↦
                    let from = s.source k old in (
                      from.0,
                      omega (arith, from.1, long),
                      rw (get_or-append path (number ∷ []) 0 from.0 from.1, get_or-append pending numbers 0 k old) from.2,
                      λ group among. elim (snoc_member groups group_of group among) [
                        | inl before ↦ from.3 group before
                        | inr last ↦
                            let Tied : Group → Type 0 = λ each. (each.pending ≤ k → each.path ≤ from.0) × (each.path ≤ from.0 → each.pending ≤ k) in
                            subst Tied last (λ le. absurd (omega (arith, le, old)), λ le. absurd (omega (arith, le, from.1)))
                      ],
                    )
                | inr new ↦
                    let i = k - length pending in
                    let inside : i < length numbers = omega (arith, below, new, waiting) in (
                      length path,
                      omega (arith, long),
                      rw (get_or-append_seam path number [] 0, get_or-append_right pending numbers (length pending) k 0 refl new)
                          ((same (get_or numbers i 0)).1 (Contains-get_or numbers i 0 inside)),
                      λ group among. elim (snoc_member groups group_of group among) [
                        | inl before ↦
                            let within = s.parts.within group before in (λ le. omega (arith, within.0), λ le. omega (arith, within.1, new))
                        | inr last ↦
                            let Tied : Group → Type 0 = λ each. (each.pending ≤ k → each.path ≤ length path) × (each.path ≤ length path → each.pending ≤ k) in
                            subst Tied last (λ le. omega arith, λ le. omega (arith, new))
                      ],
                    )
              ];
              explored = λ group among i to from below edge. elim (snoc_read path number i below) [
                | inl old ↦ elim (snoc_member groups group_of group among) [
                  | inl before ↦
                      elim (s.explored group before i to from old.0 (subst (λ each. IsTarget targets each to) old.1 edge)) [
                        | inl done ↦ inl (still_done to done)
                        | inr (inl opens) ↦ inr (inl (opens.0, opens.1, still_open to opens.0 opens.2))
                        | inr (inr (inl waits)) ↦ inr (inr (inl (stands_still pending numbers group.pending to waits)))
                        | inr (inr (inr left)) ↦
                            let within = s.parts.within group before in
                            inr (inl (length path, omega (arith, within.0), ap (mark_of marked) (sym (Contains-single number to left)) ∙ here))
                      ]
                  | inr last ↦
                      let le : length path ≤ i = subst (λ (each : Group). each.path ≤ i) (sym last) from in
                      absurd (omega (arith, le, old.0))
                ]
                | inr new ↦
                    let among_targets : Contains numbers to = (same to).0 (subst (λ each. IsTarget targets each to) new.1 edge) in
                    let le : group.pending ≤ length pending = elim (snoc_member groups group_of group among) [
                      | inl before ↦ (s.parts.within group before).1
                      | inr last ↦ subst (λ (each : Group). each.pending ≤ length pending) last (omega arith)
                    ] in
                    inr (inr (inl (stands_after pending numbers group.pending to le among_targets)))
              ];
            }
