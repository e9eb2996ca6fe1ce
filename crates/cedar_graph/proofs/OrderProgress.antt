-- How far numbers are ordered, and what each step makes of it.
use Rattle.std.proofs.Common.{◌≡◌, ◌≢◌, ◌⊎◌, ◌↔◌, ◌<◌, ◌≤◌, ◌+◌, ℕ, zero, suc, List, [], ◌∷◌, ◌++◌, Option, None, Some, Vec, AllPairs, Contains, length, map, get_or, set, ap, sym, subst, ◌∙◌, refl, inl, inr, ⊎_elim, arith, IfSome}
use Rattle.std.proofs.Math.ListN.{get_or-append}
use Rattle.std.proofs.Math.Seq.{get_or-append_seam}
use Rattle.std.proofs.lemmas.List.{append_assoc, map-append, get_or-set_same, get_or-set_other, length-set, length-append}
use Rattle.std.proofs.lemmas.List.Elements.{Contains-append_left, Contains-append_right, Contains-append_cases}
use Rattle.std.specs.Option.{option_or}
use Rattle.cedar_ast.proofs.Basics.{Contains-image, Contains-single}
use Rattle.cedar_ast.proofs.Chains.{last_step}
use Rattle.cedar_ast.proofs.Lists.{Contains-cons, Contains-cons_cases}
use Rattle.cedar_graph.proofs.OrderSteps.{number_of, enter_or_leave, enters_leave_none, AreSteps, steps_before, steps_opened, left_once, left_covered, left_within, leads_back}
use Rattle.cedar_graph.specs.Words.{Chain, Enter, IsLowestFirst, IsOrder, IsPast, IsTarget, IsWalked, LeadsTo, Leave, Mark, Open, Step, Walk, items_at, more, one}
use Rattle.cedar_graph.specs.declared.ordering.Mark.TheVariants.{Fresh, Done}

-- the mark of a number
abbrev pub mark_at : List Mark → ℕ → Mark
mark_at marks n = get_or marks n Done

-- a mark that was read is that of its number
pub mark_read : (marks : List Mark) (n : ℕ) (mark : Mark) → n < length marks → mark ≡ get_or marks n mark → mark_at marks n ≡ mark
mark_read marks n mark within read = any_default marks n Done mark within ∙ sym read where
  any_default : (list : List Mark) (k : ℕ) (a b : Mark) → k < length list → get_or list k a ≡ get_or list k b
  any_default [] k a b inside = absurd (omega (arith, inside))
  any_default (y ∷ ys) zero a b inside = refl
  any_default (y ∷ ys) (suc k) a b inside = any_default ys k a b (omega (arith, inside))

-- marks differ
open_isnt_done : ¬ (Open ≡ Done)
open_isnt_done same = cc

-- and so do these
fresh_isnt_open : ¬ (Fresh ≡ Open)
fresh_isnt_open same = cc

-- and these
fresh_isnt_done : ¬ (Fresh ≡ Done)
fresh_isnt_done same = cc

-- a number that was marked has its mark, and others have theirs
mark_set : (P : ℕ → Mark → Type 0) (marks : List Mark) (n : ℕ) (mark : Mark) → n < length marks → P n mark
    → ((m : ℕ) → m ≢ n → P m (mark_at marks m)) → (m : ℕ) → P m (mark_at (set marks n mark) m)
mark_set P marks n mark within here others m =
    elim (same_or_not m n) [
      | inl same ↦ let Q : ℕ → Type 0 = λ each. P each (mark_at (set marks n mark) each) in
          subst Q (sym same) (subst (P n) (sym (get_or-set_same marks n mark Done within)) here)
      | inr apart ↦ subst (P m) (sym (get_or-set_other marks n m mark Done apart)) (others m apart)
    ]
  where
    same_or_not : (a b : ℕ) → (a ≡ b) ⊎ (a ≢ b)
    same_or_not zero zero = inl refl
    same_or_not zero (suc b) = inr (λ same. omega (arith, same))
    same_or_not (suc a) zero = inr (λ same. omega (arith, same))
    same_or_not (suc a) (suc b) =
        elim (same_or_not a b) [ inl same ↦ inl (ap suc same) | inr apart ↦ inr (λ same. apart (omega (arith, same))) ]

-- a list with one more item that is taken apart at some item is so at an earlier one or at the last
snoc_cases : (xs : List ℕ) (x : ℕ) (before : List ℕ) (y : ℕ) (after : List ℕ) → xs ++ x ∷ [] ≡ before ++ y ∷ after
    → ((xs ≡ before) × (x ≡ y)) ⊎ ((rest : List ℕ) × (xs ≡ before ++ y ∷ rest))
snoc_cases [] x [] y after same = inl (refl, ap head same) where
  head : List ℕ → ℕ
  head [] = x
  head (first ∷ others) = first
snoc_cases [] x (b ∷ before) y after same = absurd (no_end before (ap tail same)) where
  tail : List ℕ → List ℕ
  tail [] = []
  tail (first ∷ others) = others

  no_end : (before : List ℕ) → ¬ ([] ≡ before ++ y ∷ after)
  no_end [] wrong = cc
  no_end (b ∷ before) wrong = cc
snoc_cases (first ∷ xs) x [] y after same = inr (xs, λ i. head (same i) ∷ xs) where
  head : List ℕ → ℕ
  head [] = first
  head (each ∷ others) = each
snoc_cases (first ∷ xs) x (b ∷ before) y after same =
    elim (snoc_cases xs x before y after (ap tail same)) [ inl whole ↦ inl ((λ i. head (same i) ∷ whole.0 i), whole.1) | inr part ↦ inr (part.0, λ i. head (same i) ∷ part.1 i) ]
  where
    head : List ℕ → ℕ
    head [] = first
    head (each ∷ others) = each

    tail : List ℕ → List ℕ
    tail [] = []
    tail (each ∷ others) = others

-- distinct items stay so with another at the end
pub distinct_snoc : (xs : List ℕ) (x : ℕ) → AllPairs (λ a b. a ≢ b) xs → (¬ Contains xs x) → AllPairs (λ a b. a ≢ b) (xs ++ x ∷ [])
distinct_snoc xs x distinct other i j d below within same =
    let long : length (xs ++ x ∷ []) ≡ length xs + 1 = length-append xs (x ∷ []) in
    let first = get_or-append xs (x ∷ []) d i in
    elim (below_or_last j (length xs) (omega (arith, within, long))) [
      | inl inside ↦ distinct i j d below inside (sym (first (omega (arith, below, inside))) ∙ (same ∙ get_or-append xs (x ∷ []) d j inside))
      | inr last ↦ let inside : i < length xs = omega (arith, below, last) in
          other (i, inside, any_default xs i x d inside ∙ (sym (first inside) ∙ (rw last at same ∙ get_or-append_seam xs x [] d)))
    ]
  where
    any_default : (list : List ℕ) (k a b : ℕ) → k < length list → get_or list k a ≡ get_or list k b
    any_default [] k a b inside = absurd (omega (arith, inside))
    any_default (y ∷ ys) zero a b inside = refl
    any_default (y ∷ ys) (suc k) a b inside = any_default ys k a b (omega (arith, inside))

    below_or_last : (k n : ℕ) → k < n + 1 → (k < n) ⊎ (k ≡ n)
    below_or_last zero zero within = inr refl
    below_or_last zero (suc n) within = inl (omega arith)
    below_or_last (suc k) zero within = absurd (omega (arith, within))
    below_or_last (suc k) (suc n) within =
        elim (below_or_last k n (omega (arith, within))) [ inl less ↦ inl (omega (arith, less)) | inr same ↦ inr (ap suc same) ]

module _ {Z : Type 0} (targets : List (Vec ℕ Z)) where
  -- what stands before is past
  past_there : (on_cycle : Option ℕ) (before : List ℕ) (n : ℕ) → Contains before n → IsPast targets on_cycle before n
  past_there None before n there = there
  past_there (Some number) before n there = inl there

  -- what is past stays so as more numbers are ordered
  past_stays : (on_cycle : Option ℕ) (order : List ℕ) (x n : ℕ) → IsPast targets on_cycle order n
      → IsPast targets on_cycle (order ++ x ∷ []) n
  past_stays None order x n there = Contains-append_left order (x ∷ []) n there
  past_stays (Some number) order x n past =
      elim past [ inl there ↦ inl (Contains-append_left order (x ∷ []) n there) | inr back ↦ inr back ]

  -- and as a number on a cycle is known
  past_named : (on_cycle : Option ℕ) (named : ℕ) (order : List ℕ) (n : ℕ) → IsPast targets on_cycle order n
      → IsPast targets (Some named) order n
  past_named None named order n there = inl there
  past_named (Some number) named order n past = past

  -- how far the numbers are ordered: which are done and open, what is to be done, the order so far,
  -- and a number on a cycle, if one was met
  pub record Progress (marks : List Mark) (steps : List Step) (order : List ℕ) (on_cycle : Option ℕ) : Type 0 where
    pub len : length marks ≡ length targets
    pub within : (n : ℕ) → Contains order n → n < length targets
    pub done : (n : ℕ) → n < length targets → Contains order n ↔ (mark_at marks n ≡ Done)
    pub open_ : (n : ℕ) → n < length targets → Contains steps (Leave n) ↔ (mark_at marks n ≡ Open)
    pub waits : (n : ℕ) → n < length targets → Contains order n ⊎ Contains (map number_of steps) n
    pub are_steps : AreSteps targets (IsPast targets on_cycle order) None steps
    pub after : (before rest : List ℕ) (n to : ℕ) → order ≡ before ++ n ∷ rest → LeadsTo targets n to → IsPast targets on_cycle before to
    pub once : AllPairs (λ a b. a ≢ b) order
    pub named : IfSome on_cycle (λ number. Chain (LeadsTo targets) number number)

  -- a number of the steps but the last is one of all
  number_cases : (rest : List Step) (step : Step) (n : ℕ) → Contains (map number_of (rest ++ step ∷ [])) n
      → Contains (map number_of rest) n ⊎ (number_of step ≡ n)
  number_cases rest step n among =
      elim (Contains-append_cases (map number_of rest) (number_of step ∷ []) n (rw (map-append number_of rest (step ∷ [])) at among)) [ inl here ↦ inl here | inr last ↦ inr (elim (Contains-cons_cases (number_of step) [] n last) [ inl same ↦ same | inr none ↦ absurd (omega (arith, none.1)) ]) ]

  -- a step that leaves a number is the last or among the others
  leave_cases : (rest : List Step) (step : Step) (n : ℕ) → Contains (rest ++ step ∷ []) (Leave n)
      → Contains rest (Leave n) ⊎ (step ≡ Leave n)
  leave_cases rest step n among =
      elim (Contains-append_cases rest (step ∷ []) (Leave n) among) [ inl here ↦ inl here | inr last ↦ inr (elim (Contains-cons_cases step [] (Leave n) last) [ inl same ↦ same | inr none ↦ absurd (omega (arith, none.1)) ]) ]

  -- at first nothing is done
  pub at_first : (marks : List Mark) (steps : List Step) → length marks ≡ length targets
      → ((n : ℕ) → n < length targets → mark_at marks n ≡ Fresh) → ((n : ℕ) → n < length targets → Contains steps (Enter n))
      → ((n : ℕ) → ¬ Contains steps (Leave n)) → Progress marks steps [] None
  at_first marks steps len fresh each only = record {
    len = len;
    within = λ n none. absurd (omega (arith, none.1));
    done = λ n within. (λ none. absurd (omega (arith, none.1)), λ is. absurd (fresh_isnt_done (sym (fresh n within) ∙ is)));
    open_ = λ n within. (λ leaves. absurd (only n leaves), λ is. absurd (fresh_isnt_open (sym (fresh n within) ∙ is)));
    waits = λ n within. inr (Contains-image number_of steps (Enter n) (each n within));
    are_steps = enters steps only;
    after = λ before rest n to none leads. absurd (no_end before n rest none);
    once = λ i j d below within. absurd (omega (arith, within));
    named = tt;
  }
    where
      enters : (some : List Step) → ((n : ℕ) → ¬ Contains some (Leave n)) → AreSteps targets (Contains []) None some
      enters [] none = tt
      enters (Enter n ∷ rest) none = (tt, enters rest (λ m there. none m (Contains-cons (Enter n) rest (Leave m) (inr there))))
      enters (Leave n ∷ rest) none = absurd (none n (Contains-cons (Leave n) rest (Leave n) (inl refl)))

      no_end : (before : List ℕ) (y : ℕ) (after : List ℕ) → ¬ ([] ≡ before ++ y ∷ after)
      no_end [] y after wrong = cc
      no_end (b ∷ before) y after wrong = cc

  -- a step that enters an open number has found a cycle
  cycle : (marks : List Mark) (rest : List Step) (n : ℕ) (order : List ℕ) (on_cycle : Option ℕ) → n < length targets
      → mark_at marks n ≡ Open → Progress marks (rest ++ Enter n ∷ []) order on_cycle → Chain (LeadsTo targets) n n
  cycle marks rest n order on_cycle within is so_far =
      elim (leave_cases rest (Enter n) n ((so_far.open_ n within).1 is)) [ inl here ↦ leads_back targets (IsPast targets on_cycle order) rest n within so_far.are_steps here | inr wrong ↦ absurd (enter_or_leave n n wrong) ]

  -- without a step that enters a number, open numbers are still to be left
  still_left : (marks : List Mark) (rest : List Step) (n : ℕ) (order : List ℕ) (on_cycle : Option ℕ)
      → Progress marks (rest ++ Enter n ∷ []) order on_cycle → (m : ℕ) → m < length targets
      → Contains rest (Leave m) ↔ (mark_at marks m ≡ Open)
  still_left marks rest n order on_cycle so_far m within = (
    λ leaves. (so_far.open_ m within).0 (Contains-append_left rest (Enter n ∷ []) (Leave m) leaves),
    λ is. elim (leave_cases rest (Enter n) m ((so_far.open_ m within).1 is)) [ inl here ↦ here | inr same ↦ absurd (enter_or_leave n m same) ],
  )

  -- a step that enters a number that is done, or that has no list, is done
  pub skipped : (marks : List Mark) (rest : List Step) (n : ℕ) (order : List ℕ) (on_cycle : Option ℕ)
      → (n < length targets → Contains order n)
      → Progress marks (rest ++ Enter n ∷ []) order on_cycle → Progress marks rest order on_cycle
  skipped marks rest n order on_cycle done so_far = record {
    len = so_far.len;
    within = so_far.within;
    done = so_far.done;
    open_ = still_left marks rest n order on_cycle so_far;
    waits = λ m within. elim (so_far.waits m within) [
      | inl there ↦ inl there
      | inr waiting ↦ elim (number_cases rest (Enter n) m waiting) [
        | inl here ↦ inr here
        | inr same ↦ inl (rw same at (done (omega (arith, same, within))))
      ]
    ];
    are_steps = steps_before targets (IsPast targets on_cycle order) (IsPast targets on_cycle order) (λ m past. past) None rest (Enter n)
        (λ within. past_there on_cycle order n (done within)) so_far.are_steps;
    after = so_far.after;
    once = so_far.once;
    named = so_far.named;
  }

  -- so is one that enters an open number, where the number on a cycle that was met is known
  skipped_open : (marks : List Mark) (rest : List Step) (n : ℕ) (order : List ℕ) (on_cycle : Option ℕ) (named : ℕ)
      → n < length targets → mark_at marks n ≡ Open → Chain (LeadsTo targets) named named
      → Progress marks (rest ++ Enter n ∷ []) order on_cycle → Progress marks rest order (Some named)
  skipped_open marks rest n order on_cycle named within_n is is_named so_far = record {
    len = so_far.len;
    within = so_far.within;
    done = so_far.done;
    open_ = still_left marks rest n order on_cycle so_far;
    waits = λ m within. elim (so_far.waits m within) [
      | inl there ↦ inl there
      | inr waiting ↦ elim (number_cases rest (Enter n) m waiting) [
        | inl here ↦ inr here
        | inr same ↦
            let Waits : ℕ → Type 0 = Contains (map number_of rest) in
            let leaves = (still_left marks rest n order on_cycle so_far n within_n).1 is in
            inr (subst Waits same (Contains-image number_of rest (Leave n) leaves))
      ]
    ];
    are_steps = steps_before targets (IsPast targets on_cycle order) (IsPast targets (Some named) order)
        (past_named on_cycle named order) None rest (Enter n)
        (λ within. inr (cycle marks rest n order on_cycle within is so_far)) so_far.are_steps;
    after = λ before others m to same leads. past_named on_cycle named before to (so_far.after before others m to same leads);
    once = so_far.once;
    named = is_named;
  }

  -- a step that enters an open number is done, and the number is known, unless one was known before
  pub came_back : (marks : List Mark) (rest : List Step) (n : ℕ) (order : List ℕ) (on_cycle : Option ℕ) → n < length targets
      → mark_at marks n ≡ Open → Progress marks (rest ++ Enter n ∷ []) order on_cycle
      → Progress marks rest order (option_or on_cycle (Some n))
  came_back marks rest n order None within is so_far =
      skipped_open marks rest n order None n within is (cycle marks rest n order None within is so_far) so_far
  came_back marks rest n order (Some number) within is so_far =
      skipped_open marks rest n order (Some number) number within is so_far.named so_far

  -- a step that leaves a number puts it into the order
  pub left : (marks : List Mark) (rest : List Step) (n : ℕ) (order : List ℕ) (on_cycle : Option ℕ)
      → Progress marks (rest ++ Leave n ∷ []) order on_cycle
      → Progress (set marks n Done) rest (order ++ n ∷ []) on_cycle
  left marks rest n order on_cycle so_far =
      let within_n = left_within targets (IsPast targets on_cycle order) None rest n so_far.are_steps in
      let not_again = left_once targets (IsPast targets on_cycle order) None rest n so_far.are_steps in
      let last = Contains-append_right rest (Leave n ∷ []) (Leave n) (Contains-cons (Leave n) [] (Leave n) (inl refl)) in
      let is_open = (so_far.open_ n within_n).0 last in
      let not_done : ¬ Contains order n = λ there. open_isnt_done (sym is_open ∙ (so_far.done n within_n).0 there) in
      let here = Contains-append_right order (n ∷ []) n (Contains-cons n [] n (inl refl)) in
      let Q : ℕ → Type 0 = Contains (order ++ n ∷ []) in
      record {
        len = length-set marks n Done ∙ so_far.len;
        within = λ m there. ⊎_elim (so_far.within m)
            (λ same. let R : ℕ → Type 0 = λ each. each < length targets in subst R (Contains-single n m same) within_n)
            (Contains-append_cases order (n ∷ []) m there);
        done = mark_set (λ m mark. m < length targets → Contains (order ++ n ∷ []) m ↔ (mark ≡ Done)) marks n Done
            (omega (arith, within_n, so_far.len)) (λ within. (λ there. refl, λ same. here))
            (λ m apart within. (
              λ there. elim (Contains-append_cases order (n ∷ []) m there) [ inl before ↦ (so_far.done m within).0 before | inr same ↦ absurd (apart (sym (Contains-single n m same))) ],
              λ is. Contains-append_left order (n ∷ []) m ((so_far.done m within).1 is),
            ));
        open_ = mark_set (λ m mark. m < length targets → Contains rest (Leave m) ↔ (mark ≡ Open)) marks n Done
            (omega (arith, within_n, so_far.len))
            (λ within. (λ there. absurd (not_again there), λ same. absurd (open_isnt_done (sym same))))
            (λ m apart within. (
              λ there. (so_far.open_ m within).0 (Contains-append_left rest (Leave n ∷ []) (Leave m) there),
              λ is. elim (leave_cases rest (Leave n) m ((so_far.open_ m within).1 is)) [ inl before ↦ before | inr same ↦ absurd (apart (sym (ap number_of same))) ],
            ));
        waits = λ m within. elim (so_far.waits m within) [ inl there ↦ inl (Contains-append_left order (n ∷ []) m there) | inr waiting ↦ elim (number_cases rest (Leave n) m waiting) [ inl before ↦ inr before | inr same ↦ inl (subst Q same here) ] ];
        are_steps = steps_before targets (IsPast targets on_cycle order) (IsPast targets on_cycle (order ++ n ∷ []))
            (past_stays on_cycle order n) None rest (Leave n) (λ within. past_there on_cycle (order ++ n ∷ []) n here) so_far.are_steps;
        after = λ before others m to same leads. elim (snoc_cases order n before m others same) [
          | inl whole ↦ let R : List ℕ → Type 0 = λ list. IsPast targets on_cycle list to in
              let S : ℕ → Type 0 = λ each. LeadsTo targets each to in
              subst R whole.0 (left_covered targets (IsPast targets on_cycle order) None rest n so_far.are_steps to (subst S (sym whole.1) leads))
          | inr part ↦ so_far.after before part.0 m to part.1 leads
        ];
        once = distinct_snoc order n so_far.once not_done;
        named = so_far.named;
      }

  -- a step that enters a fresh number opens it
  pub opened : (marks : List Mark) (rest : List Step) (n : ℕ) (order numbers : List ℕ) (on_cycle : Option ℕ) → n < length targets
      → mark_at marks n ≡ Fresh → ((to : ℕ) → IsTarget targets n to ↔ Contains numbers to)
      → Progress marks (rest ++ Enter n ∷ []) order on_cycle
      → Progress (set marks n Open) (rest ++ Leave n ∷ map Enter numbers) order on_cycle
  opened marks rest n order numbers on_cycle within_n fresh same so_far =
      let not_again : ¬ Contains rest (Leave n) = λ there.
      fresh_isnt_open (sym fresh ∙ (so_far.open_ n within_n).0 (Contains-append_left rest (Enter n ∷ []) (Leave n) there)) in
      let not_done : ¬ Contains order n = λ there. fresh_isnt_done (sym fresh ∙ (so_far.done n within_n).0 there) in
      let added = Leave n ∷ map Enter numbers in
      let here = Contains-append_right rest added (Leave n) (Contains-cons (Leave n) (map Enter numbers) (Leave n) (inl refl)) in
      let Q : ℕ → Type 0 = Contains (map number_of (rest ++ added)) in
      let P : ℕ → List ℕ → Type 0 = λ m list. Contains list m in
      record {
        len = length-set marks n Open ∙ so_far.len;
        within = so_far.within;
        done = mark_set (λ m mark. m < length targets → Contains order m ↔ (mark ≡ Done)) marks n Open
            (omega (arith, within_n, so_far.len)) (λ within. (λ there. absurd (not_done there), λ is. absurd (open_isnt_done is)))
            (λ m apart within. so_far.done m within);
        open_ = mark_set (λ m mark. m < length targets → Contains (rest ++ added) (Leave m) ↔ (mark ≡ Open)) marks n Open
            (omega (arith, within_n, so_far.len)) (λ within. (λ there. refl, λ is. here))
            (λ m apart within. (
              λ there. elim (Contains-append_cases rest added (Leave m) there) [ inl before ↦ (so_far.open_ m within).0 (Contains-append_left rest (Enter n ∷ []) (Leave m) before) | inr new ↦ elim (Contains-cons_cases (Leave n) (map Enter numbers) (Leave m) new) [ inl is ↦ absurd (apart (sym (ap number_of is))) | inr later ↦ absurd (enters_leave_none numbers m later) ] ],
              λ is. elim (leave_cases rest (Enter n) m ((so_far.open_ m within).1 is)) [ inl before ↦ Contains-append_left rest added (Leave m) before | inr wrong ↦ absurd (enter_or_leave n m wrong) ],
            ));
        waits = λ m within. elim (so_far.waits m within) [
          | inl there ↦ inl there
          | inr waiting ↦ elim (number_cases rest (Enter n) m waiting) [
            | inl before ↦ inr (subst (P m) (sym (map-append number_of rest added))
                (Contains-append_left (map number_of rest) (map number_of added) m before))
            | inr is ↦ inr (subst Q is (Contains-image number_of (rest ++ added) (Leave n) here))
          ]
        ];
        are_steps = steps_opened targets (IsPast targets on_cycle order) None rest n numbers within_n not_again
            (λ to leads. (same to).0 leads) (λ to there. (same to).1 there) so_far.are_steps;
        after = so_far.after;
        once = so_far.once;
        named = so_far.named;
      }

  -- where no step is left all is gone through
  pub whole : (marks : List Mark) (walk : Walk) → Progress marks [] walk.order.items walk.on_cycle → IsWalked targets walk
  whole marks walk so_far = record {
    each = λ n. (λ there. so_far.within n there, λ within. elim (so_far.waits n within) [ inl there ↦ there | inr none ↦ absurd (omega (arith, none.1)) ]);
    once = so_far.once;
    after = so_far.after;
    named = so_far.named;
  }

  -- what is past stands before, or leads back to itself
  past_or_back : (on_cycle : Option ℕ) (before : List ℕ) (n : ℕ) → IsPast targets on_cycle before n
      → Contains before n ⊎ Chain (LeadsTo targets) n n
  past_or_back None before n there = inl there
  past_or_back (Some number) before n past = past

  -- so what was gone through is in an order that passes over cycles
  pub passes_cycles : (walk : Walk) → IsWalked targets walk → IsLowestFirst targets walk.order.items
  passes_cycles walk walked = record {
    each = walked.each;
    once = walked.once;
    after = λ before rest number to is leads.
        past_or_back walk.on_cycle before to (walked.after before rest number to is leads);
  }

  -- and, where no number on a cycle was met, in one with no cycle
  pub has_order : (walk : Walk) → walk.on_cycle ≡ None → IsWalked targets walk → IsOrder targets walk.order.items
  has_order walk none walked = record {
    each = walked.each;
    once = walked.once;
    after = λ before rest number to is leads.
        let P : Option ℕ → Type 0 = λ on_cycle. IsPast targets on_cycle before to in
        subst P none (walked.after before rest number to is leads);
  }

-- where an item stands in a list, the list is taken apart there
taken_apart : (xs : List ℕ) (x : ℕ) → Contains xs x → (before : List ℕ) × (rest : List ℕ) × (xs ≡ before ++ x ∷ rest)
taken_apart [] x among = absurd (omega (arith, among.1))
taken_apart (y ∷ ys) x among =
    elim (Contains-cons_cases y ys x among) [ inl here ↦ ([], ys, ap (λ each. each ∷ ys) here) | inr later ↦ let found = taken_apart ys x later in (y ∷ found.0, found.1, ap (λ others. y ∷ others) found.2) ]

-- of distinct items none stands before itself
stands_once : (before : List ℕ) (x : ℕ) (rest : List ℕ) → AllPairs (λ a b. a ≢ b) (before ++ x ∷ rest) → ¬ Contains before x
stands_once before x rest distinct (k, below, is) =
    distinct k (length before) x below (omega (arith, length-append before (x ∷ rest)))
    (get_or-append before (x ∷ rest) x k below ∙ (is ∙ sym (get_or-append_seam before x rest x)))

module _ {Z : Type 0} (targets : List (Vec ℕ Z)) (order : List ℕ) (ordered : IsOrder targets order) where
  -- what a chain leads to stands before
  chain_before : (a b : ℕ) → Chain (LeadsTo targets) a b → (before rest : List ℕ) → order ≡ before ++ a ∷ rest → Contains before b
  chain_before a b (one leads) before rest is = ordered.after before rest a b is leads
  chain_before a b (more {b = c} leads chain) before rest is =
      let at = taken_apart before c (ordered.after before rest a c is leads) in
      let apart : order ≡ at.0 ++ c ∷ (at.1 ++ a ∷ rest) =
      is ∙ (ap (λ list. list ++ a ∷ rest) at.2 ∙ append_assoc at.0 (c ∷ at.1) (a ∷ rest)) in
      rw (sym at.2) at (Contains-append_left at.0 (c ∷ at.1) b (chain_before c b chain at.0 (at.1 ++ a ∷ rest) apart))

  -- where there is an order no number is on a cycle
  pub no_cycle : (number : ℕ) → ¬ Chain (LeadsTo targets) number number
  no_cycle number chain =
      let last = (last_step (LeadsTo targets) number number chain).1 in
      let at = taken_apart order number ((ordered.each number).1 last.1) in
      stands_once at.0 number at.1 (rw at.2 at ordered.once) (chain_before number number chain at.0 at.1 at.2)

-- what is still to be paid for a mark of a number that leads to so many: a fresh one will take a
-- step for itself and one for each
abbrev pub cost : Mark → ℕ → ℕ
cost Fresh count = suc count
cost _ count = 0

module _ {Z : Type 0} where
  -- what is still to be paid for the marks
  abbrev pub fresh_cost : List Mark → List (Vec ℕ Z) → ℕ
  fresh_cost [] targets = 0
  fresh_cost (mark ∷ marks) [] = 0
  fresh_cost (mark ∷ marks) (numbers ∷ targets) = cost mark (length numbers.items) + fresh_cost marks targets

  -- to open a fresh number pays for it
  pub opening_pays : (marks : List Mark) (targets : List (Vec ℕ Z)) (n : ℕ) → n < length marks → n < length targets
      → mark_at marks n ≡ Fresh
      → fresh_cost marks targets ≡ suc (length (items_at targets n)) + fresh_cost (set marks n Open) targets
  unfolding items_at
  opening_pays [] targets n within within' fresh = absurd (omega (arith, within))
  opening_pays (mark ∷ marks) [] n within within' fresh = absurd (omega (arith, within'))
  opening_pays (mark ∷ marks) (numbers ∷ targets) zero within within' fresh =
      let is : mark ≡ Fresh = fresh in
      let paid : cost mark (length numbers.items) ≡ suc (length numbers.items) = ap (λ each. cost each (length numbers.items)) is in
      omega (arith, paid)
  opening_pays (mark ∷ marks) (numbers ∷ targets) (suc n) within within' fresh =
      omega (arith, opening_pays marks targets n (omega (arith, within)) (omega (arith, within')) fresh)

  -- to leave a number costs nothing more
  pub leaving_is_free : (marks : List Mark) (targets : List (Vec ℕ Z)) (n : ℕ) → fresh_cost (set marks n Done) targets ≤ fresh_cost marks targets
  leaving_is_free [] targets n = omega arith
  leaving_is_free (mark ∷ marks) [] zero = omega arith
  leaving_is_free (mark ∷ marks) [] (suc n) = omega arith
  leaving_is_free (mark ∷ marks) (numbers ∷ targets) zero = omega arith
  leaving_is_free (mark ∷ marks) (numbers ∷ targets) (suc n) = omega (arith, leaving_is_free marks targets n)
