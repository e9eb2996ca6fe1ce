-- What merging and leaving groups makes of a search.
use Rattle.std.proofs.Common.{◌≡◌, ◌≢◌, ◌⊎◌, ◌++◌, ◌+◌, ◌<◌, ◌≤◌, ℕ, List, [], ◌∷◌, Contains, Vec, length, get_or, set, arith, ap, inl, inr, refl, sym, ◌∙◌, subst}
use Rattle.std.proofs.Math.ListN.{get_or-append}
use Rattle.std.proofs.lemmas.List.{get_or-set_same, get_or-set_other, length-append, length-set}
use Rattle.std.proofs.lemmas.Bool.{cases_eq}
use Rattle.std.proofs.lemmas.List.Elements.{Contains-append_left, Contains-append_right, Contains-append_cases}
use Rattle.cedar_ast.proofs.Basics.{Contains-single}
use Rattle.cedar_ast.proofs.Chains.{joined, kept_along}
use Rattle.cedar_ast.specs.Chain.{Chain, one, more}
use Rattle.cedar_cycles.proofs.Reading.{below_or_not, order_front, order_last, snoc_member}
use Rattle.cedar_cycles.proofs.Steps.{done_isnt_fresh, done_isnt_open, open_same}
use Rattle.cedar_cycles.specs.Search.{IsDone, IsMarkOf, IsMarked, IsNext, IsOrReaches, IsUnderWay, mark_of}
use Rattle.cedar_cycles.specs.declared.search.Group.{Group}
use Rattle.cedar_cycles.specs.declared.search.Mark.{Mark}
use Rattle.cedar_cycles.specs.declared.search.Mark.TheVariants.{Fresh, OnCycle, Open, Passed}
use Rattle.cedar_graph.specs.Numbered.{IsTarget}

module _ {Z : Type 0} (targets : List (Vec ℕ Z)) (number : ℕ) (marks : List Mark) (path pending : List ℕ) (kept rest : List Group)
    (s : IsUnderWay targets (number ∷ []) marks path pending (kept ++ rest)) (place : ℕ) (is : mark_of marks number ≡ Open place)
    (next : (i : ℕ) → i < length path → IsNext targets path (kept ++ rest) number)
    (later : (group : Group) → Contains rest group → place < group.path)
    (earlier : (group : Group) → Contains kept group → group.path ≤ place) where
  in_all : (group : Group) → Contains kept group → Contains (kept ++ rest) group
  in_all group among = Contains-append_left kept rest group among

  -- a group that begins by the place is kept
  kept_by : (group : Group) → Contains (kept ++ rest) group → group.path ≤ place → Contains kept group
  kept_by group among le = elim (Contains-append_cases kept rest group among) [
    | inl here ↦ here
    | inr there ↦ let after = later group there in absurd (omega (arith, le, after))
  ]

  on_path : (place < length path) × (get_or path place 0 ≡ number)
  on_path = s.on_path number place is

  -- numbers of groups that are merged reach one another, round the cycle
  reaches : (i j : ℕ) → i < length path → j < length path → ((group : Group) → Contains kept group → group.path ≤ i → group.path ≤ j)
      → IsOrReaches targets (get_or path i 0) (get_or path j 0)
  reaches i j below below' premise = elim (below_or_not place i) [
    | inr before ↦ s.reach i j below below' (λ group among le. premise group (kept_by group among (omega (arith, le, before))) le)
    | inl after ↦
        let from = next i below in
        let on = s.reach place j on_path.0 below' (λ group among le. premise group (kept_by group among le) (omega (arith, le, after))) in
        let step : IsTarget targets (get_or path from.0 0) (get_or path place 0) = subst (IsTarget targets (get_or path from.0 0)) (sym on_path.1) from.2 in
        let back : Chain (IsTarget targets) (get_or path from.0 0) (get_or path j 0) = elim on [
          | inl same ↦ one (subst (IsTarget targets (get_or path from.0 0)) same step)
          | inr chain ↦ more step chain
        ] in
        elim (s.reach i from.0 below from.1 (λ group among le. from.3 group among)) [
          | inl same ↦ inr (subst (λ each. Chain (IsTarget targets) each (get_or path j 0)) (sym same) back)
          | inr chain ↦ inr (joined chain back)
        ]
  ]

  -- an open number was met again: the groups from its own on become one
  pub merged : IsUnderWay targets [] marks path pending kept
  merged = record {
    len = s.len;
    opened = s.opened;
    on_path = s.on_path;
    passed = s.passed;
    sound = s.sound;
    complete = s.complete;
    parts = record {
      within = λ group among. s.parts.within group (in_all group among);
      in_order = order_front kept rest s.parts.in_order;
      whole = λ p below.
          let found = s.parts.whole p below in
          elim (below_or_not place p) [
            | inr before ↦ (found.0, kept_by found.0 found.1 (omega (arith, found.2, before)), found.2)
            | inl after ↦
                let other = s.parts.whole place on_path.0 in (other.0, kept_by other.0 other.1 other.2, omega (arith, other.2, after))
          ];
    };
    reach = reaches;
    source = λ k below. let from = s.source k below in (from.0, from.1, from.2, λ group among. from.3 group (in_all group among));
    explored = λ group among i to from below edge. elim (s.explored group (in_all group among) i to from below edge) [
      | inl done ↦ inl done
      | inr (inl opens) ↦ inr (inl opens)
      | inr (inr (inl waits)) ↦ inr (inr (inl waits))
      | inr (inr (inr left)) ↦ inr (inl (place, earlier group among, ap (mark_of marks) (sym (Contains-single number to left)) ∙ is))
    ];
  }

-- a number is open from a place on or isn't
open_or_not : (marks : List Mark) (start number : ℕ)
    → ((place : ℕ) × (mark_of marks number ≡ Open place) × (start ≤ place))
    ⊎ ((place : ℕ) → mark_of marks number ≡ Open place → place < start)
open_or_not marks start number = of_mark (mark_of marks number) where
  of_mark : (mark : Mark) → ((place : ℕ) × (mark ≡ Open place) × (start ≤ place)) ⊎ ((place : ℕ) → mark ≡ Open place → place < start)
  of_mark Fresh = inr (λ place wrong. cc)
  of_mark Passed = inr (λ place wrong. cc)
  of_mark OnCycle = inr (λ place wrong. cc)
  of_mark (Open at) = elim (below_or_not at start) [
    | inl below ↦ inr (λ place same. omega (arith, below, open_same at place same))
    | inr from ↦ inl (at, refl, from)
  ]

-- what the mark of a group is, it is done
mark_done : {Z : Type 0} (targets : List (Vec ℕ Z)) (path : List ℕ) (start : ℕ) (mark : Mark) → IsMarkOf targets path start mark → IsDone mark
mark_done targets path start mark of = elim of [
  | inl cycle ↦ subst IsDone (sym cycle.0) tt
  | inr passed ↦ subst IsDone (sym passed.0) tt
]

module _ {Z : Type 0} (targets : List (Vec ℕ Z)) (marks after : List Mark) (front numbers pending : List ℕ) (others : List Group)
    (group : Group) (mark : Mark) (s : IsUnderWay targets [] marks (front ++ numbers) pending (others ++ group ∷ []))
    (starts : length front ≡ group.path) (waits_none : length pending ≤ group.pending)
    (marked : IsMarked mark group.path marks after) (of : IsMarkOf targets (front ++ numbers) group.path mark) where
  abbrev path : List ℕ
  path = front ++ numbers

  long : length path ≡ length front + length numbers
  long = length-append front numbers

  is_last : Contains (others ++ group ∷ []) group
  is_last = Contains-append_right others (group ∷ []) group (0, omega arith, refl)

  other_in : (each : Group) → Contains others each → Contains (others ++ group ∷ []) each
  other_in each among = Contains-append_left others (group ∷ []) each among

  -- each group begins by where the last does
  by_last : (each : Group) → Contains (others ++ group ∷ []) each → each.path ≤ group.path
  by_last each among = elim (snoc_member others group each among) [
    | inl before ↦ let less = order_last others group each s.parts.in_order before in omega (arith, less.0)
    | inr same ↦ subst (λ (g : Group). g.path ≤ group.path) same (omega arith)
  ]

  -- where a target of the group leads
  leads : (i to : ℕ) → group.path ≤ i → i < length path → IsTarget targets (get_or path i 0) to
      → IsDone (mark_of marks to) ⊎ ((place : ℕ) × (group.path ≤ place) × (mark_of marks to ≡ Open place))
  leads i to from below edge = elim (s.explored group is_last i to from below edge) [
    | inl done ↦ inl done
    | inr (inl opens) ↦ inr opens
    | inr (inr (inl waits)) ↦ absurd (omega (arith, waits.1, waits.2, waits_none))
    | inr (inr (inr none)) ↦ absurd (omega (arith, none.1))
  ]

  -- what is done stays so
  still_done : (number : ℕ) → IsDone (mark_of marks number) → IsDone (mark_of after number)
  still_done number done = subst IsDone (sym (marked.outside number (λ place is. absurd (done_isnt_open _ place done is)))) done

  -- and the numbers of the group are done
  now_done : (number place : ℕ) → mark_of marks number ≡ Open place → group.path ≤ place → IsDone (mark_of after number)
  now_done number place is from = subst IsDone (sym (marked.inside number place is from)) (mark_done targets path group.path mark of)

  -- two numbers of the group, at different places, are on a cycle
  two_on_cycle : (p q : ℕ) → p ≢ q → group.path ≤ p → group.path ≤ q → p < length path → q < length path
      → Chain (IsTarget targets) (get_or path p 0) (get_or path p 0)
  two_on_cycle p q apart from from' below below' =
      let there = s.reach p q below below' (λ each among le. omega (arith, by_last each among, from')) in
      let back = s.reach q p below' below (λ each among le. omega (arith, by_last each among, from)) in
      let differ : get_or path p 0 ≢ get_or path q 0 =
      λ (same : get_or path p 0 ≡ get_or path q 0). apart (open_same p q (sym (s.opened p below) ∙ (ap (mark_of marks) same ∙ s.opened q below'))) in
      elim there [
        | inl same ↦ absurd (differ same)
        | inr chain ↦ elim back [ inl same ↦ absurd (differ (sym same)) | inr other ↦ joined chain other ]
      ]

  -- each number of a group of more is on a cycle
  of_more : group.path + 1 < length path → (p : ℕ) → group.path ≤ p → p < length path → Chain (IsTarget targets) (get_or path p 0) (get_or path p 0)
  of_more many p from below = elim (below_or_not group.path p) [
    | inl after ↦ two_on_cycle p group.path (λ (same : p ≡ group.path). omega (arith, same, after)) from (omega arith) below (omega (arith, many))
    | inr at ↦ two_on_cycle p (group.path + 1) (λ (same : p ≡ group.path + 1). omega (arith, same, at)) from (omega arith) below (omega (arith, many))
  ]

  -- a number of the group that is marked as on a cycle is
  sound_in : mark ≡ OnCycle → (p : ℕ) → group.path ≤ p → p < length path → Chain (IsTarget targets) (get_or path p 0) (get_or path p 0)
  sound_in is p from below = elim of [
    | inr passed ↦ let wrong : OnCycle ≡ Passed = sym is ∙ passed.0 in absurd cc
    | inl (cycle, inl many) ↦ of_more many p from below
    | inl (cycle, inr itself) ↦ elim (below_or_not (group.path + 1) (length path)) [
      | inl many ↦ of_more many p from below
      | inr single ↦
          let at : group.path ≡ p = omega (arith, single, from, below) in
          one (subst (λ k. IsTarget targets (get_or path k 0) (get_or path k 0)) at itself)
    ]
  ]

  -- one that is marked as on none is on none
  complete_in : mark ≡ Passed → (p : ℕ) → group.path ≤ p → p < length path → ¬ Chain (IsTarget targets) (get_or path p 0) (get_or path p 0)
  complete_in is p from below chain = elim of [
    | inl cycle ↦ let wrong : OnCycle ≡ Passed = sym cycle.0 ∙ is in absurd cc
    | inr passed ↦
        let at : group.path ≡ p = omega (arith, passed.1, from, below) in
        let Done : ℕ → Type 0 = λ each. IsDone (mark_of marks each) in
        let keeps : (k l : ℕ) → Done k → IsTarget targets k l → Done l = λ k l done edge. s.passed k l done edge in
        let not_done : ¬ Done (get_or path p 0) = λ done. done_isnt_open _ p done (s.opened p below) in
        let target_of : (to : ℕ) → IsTarget targets (get_or path p 0) to → Done to ⊎ (to ≡ get_or path p 0) = λ to edge. elim (leads p to from below edge) [
          | inl done ↦ inl done
          | inr opens ↦
              let stands = s.on_path to opens.0 opens.2 in
              let place : opens.0 ≡ p = omega (arith, opens.1, at, stands.0, passed.1) in
              inr (sym stands.1 ∙ ap (λ k. get_or path k 0) place)
        ] in
        let not_itself : ¬ IsTarget targets (get_or path p 0) (get_or path p 0) = λ edge. passed.2 (subst (λ k. IsTarget targets (get_or path k 0) (get_or path k 0)) (sym at) edge) in
        first_leads (get_or path p 0) Done keeps not_done target_of not_itself chain
  ]
    where
      first_leads : (n : ℕ) (Done : ℕ → Type 0) → ((k l : ℕ) → Done k → IsTarget targets k l → Done l) → (¬ Done n)
          → ((to : ℕ) → IsTarget targets n to → Done to ⊎ (to ≡ n)) → (¬ IsTarget targets n n) → ¬ Chain (IsTarget targets) n n
      first_leads n Done keeps not_done target_of not_itself (one edge) = not_itself edge
      first_leads n Done keeps not_done target_of not_itself (more {b = b} edge onwards) = elim (target_of b edge) [
        | inl done ↦ not_done (kept_along Done keeps done onwards)
        | inr same ↦ not_itself (subst (IsTarget targets n) same edge)
      ]

  -- the group is left
  pub left_group : IsUnderWay targets [] after front pending others
  left_group = record {
    len = marked.len ∙ s.len;
    opened = λ place below.
        let read : get_or path place 0 ≡ get_or front place 0 = get_or-append front numbers 0 place below in
        let was : mark_of marks (get_or front place 0) ≡ Open place = ap (mark_of marks) (sym read) ∙ s.opened place (omega (arith, below, long)) in
        marked.outside (get_or front place 0) (λ other is. omega (arith, open_same place other (sym was ∙ is), below, starts)) ∙ was;
    on_path = λ number place is. elim (open_or_not marks group.path number) [
      | inl inside ↦ absurd (done_isnt_open _ place (now_done number inside.0 inside.1 inside.2) is)
      | inr outside ↦
          let was : mark_of marks number ≡ Open place = sym (marked.outside number outside) ∙ is in
          let stands = s.on_path number place was in
          let before : place < length front = omega (arith, outside place was, starts) in
          (before, sym (get_or-append front numbers 0 place before) ∙ stands.1)
    ];
    parts = record {
      within = λ each among.
          let less = order_last others group each s.parts.in_order among in
          (omega (arith, less.0, starts), (s.parts.within each (other_in each among)).1);
      in_order = order_front others (group ∷ []) s.parts.in_order;
      whole = λ place below.
          let found = s.parts.whole place (omega (arith, below, long)) in
          elim (snoc_member others group found.0 found.1) [
            | inl before ↦ (found.0, before, found.2)
            | inr same ↦ let from : group.path ≤ place = subst (λ (g : Group). g.path ≤ place) (sym same) found.2 in absurd (omega (arith, from, below, starts))
          ];
    };
    passed = λ number to done edge. elim (open_or_not marks group.path number) [
      | inl inside ↦
          let stands = s.on_path number inside.0 inside.1 in
          elim (leads inside.0 to inside.2 stands.0 (subst (λ each. IsTarget targets each to) (sym stands.1) edge)) [
            | inl was ↦ still_done to was
            | inr opens ↦ now_done to opens.0 opens.2 opens.1
          ]
      | inr outside ↦ still_done to (s.passed number to (subst IsDone (marked.outside number outside) done) edge)
    ];
    sound = λ number is. elim (open_or_not marks group.path number) [
      | inl inside ↦
          let stands = s.on_path number inside.0 inside.1 in
          subst (λ each. Chain (IsTarget targets) each each) stands.1
          (sound_in (sym (marked.inside number inside.0 inside.1 inside.2) ∙ is) inside.0 inside.2 stands.0)
      | inr outside ↦ s.sound number (sym (marked.outside number outside) ∙ is)
    ];
    complete = λ number is. elim (open_or_not marks group.path number) [
      | inl inside ↦
          let stands = s.on_path number inside.0 inside.1 in
          subst (λ each. ¬ Chain (IsTarget targets) each each) stands.1
          (complete_in (sym (marked.inside number inside.0 inside.1 inside.2) ∙ is) inside.0 inside.2 stands.0)
      | inr outside ↦ s.complete number (sym (marked.outside number outside) ∙ is)
    ];
    reach = λ i j below below' premise.
        rw (sym (get_or-append front numbers 0 i below), sym (get_or-append front numbers 0 j below'))
        (s.reach i j (omega (arith, below, long)) (omega (arith, below', long))
        (λ each among le. elim (snoc_member others group each among) [
          | inl before ↦ premise each before le
          | inr same ↦ let from : group.path ≤ i = subst (λ (g : Group). g.path ≤ i) (sym same) le in absurd (omega (arith, from, below, starts))
        ]));
    source = λ k below.
        let from = s.source k below in
        let before : from.0 < length front = elim (below_or_not from.0 group.path) [
          | inl less ↦ omega (arith, less, starts)
          | inr not ↦ let waits = (from.3 group is_last).1 not in absurd (omega (arith, waits, below, waits_none))
        ] in
        (from.0, before, subst (λ each. IsTarget targets each (get_or pending k 0)) (get_or-append front numbers 0 from.0 before) from.2, λ each among. from.3 each (other_in each among));
    explored = λ each among i to from below edge.
        elim (s.explored each (other_in each among) i to from (omega (arith, below, long)) (subst (λ x. IsTarget targets x to) (sym (get_or-append front numbers 0 i below)) edge)) [
          | inl done ↦ inl (still_done to done)
          | inr (inl opens) ↦ elim (open_or_not marks group.path to) [
            | inl inside ↦ inl (now_done to inside.0 inside.1 inside.2)
            | inr outside ↦ inr (inl (opens.0, opens.1, marked.outside to outside ∙ opens.2))
          ]
          | inr (inr others_wait) ↦ inr (inr others_wait)
        ];
  }

-- one more number from the end of the path is marked
pub marked_more : (mark : Mark) (number place : ℕ) (before now : List Mark) → number < length now → mark_of before number ≡ Open place
    → ((other : ℕ) → mark_of before other ≡ Open place → other ≡ number) → IsMarked mark (place + 1) before now
    → IsMarked mark place before (set now number mark)
marked_more mark number place before now within is only marked = record {
  len = length-set now number mark ∙ marked.len;
  inside = λ other at opens from. elim (cases_eq other number) [
    | inl same ↦ ap (mark_of (set now number mark)) same ∙ get_or-set_same now number mark Fresh within
    | inr apart ↦ elim (below_or_not place at) [
      | inl after ↦ get_or-set_other now number other mark Fresh apart ∙ marked.inside other at opens (omega (arith, after))
      | inr not ↦ absurd (apart (only other (opens ∙ ap Open (omega (arith, from, not)))))
    ]
  ];
  outside = λ other none. elim (cases_eq other number) [
    | inl same ↦ let below = none place (ap (mark_of before) same ∙ is) in absurd (omega (arith, below))
    | inr apart ↦ get_or-set_other now number other mark Fresh apart
        ∙ marked.outside other (λ at opens. let below = none at opens in omega (arith, below))
  ];
}

-- where no number is on the path from a place on, none is marked
pub marked_none : (mark : Mark) (start : ℕ) (marks : List Mark) → ((number place : ℕ) → mark_of marks number ≡ Open place → place < start)
    → IsMarked mark start marks marks
marked_none mark start marks none = record {
  len = refl;
  inside = λ number place opens from. let below = none number place opens in absurd (omega (arith, below, from));
  outside = λ number others. refl;
}

-- what is fresh once a group was marked was so before
pub fresh_before : {Z : Type 0} (targets : List (Vec ℕ Z)) (path : List ℕ) (start : ℕ) (mark : Mark) (before after : List Mark)
    → IsMarkOf targets path start mark → IsMarked mark start before after → (number : ℕ) → mark_of after number ≡ Fresh
    → mark_of before number ≡ Fresh
fresh_before targets path start mark before after of marked number fresh = elim (open_or_not before start number) [
  | inl inside ↦
      let done : IsDone (mark_of after number) = subst IsDone (sym (marked.inside number inside.0 inside.1 inside.2)) (mark_done targets path start mark of) in
      absurd (done_isnt_fresh _ done fresh)
  | inr outside ↦ sym (marked.outside number outside) ∙ fresh
]
