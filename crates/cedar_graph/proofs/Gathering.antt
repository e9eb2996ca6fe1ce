-- Numbers gathered one after another, and how far each is gone through.
use Rattle.std.proofs.Common.{◌≡◌, ◌≢◌, ◌⊎◌, ◌↔◌, ◌++◌, ◌<◌, ◌≤◌, ℕ, zero, suc, Bool, true, false, List, [], ◌∷◌, Vec, Contains, length, get_or, set, replicate, refl, sym, ◌∙◌, ap, subst, inl, inr, arith}
use Rattle.std.proofs.lemmas.Bool.{cases_eq}
use Rattle.std.proofs.lemmas.Bool.Decides.{Decides-eqb}
use Rattle.std.proofs.lemmas.List.{append_assoc, append-nil, get_or-set_same, get_or-set_other, length-set}
use Rattle.std.proofs.lemmas.List.Elements.{Contains-append_left, Contains-append_right, Contains-append_cases}
use Rattle.std.proofs.lemmas.Map.Made.{IsDistinct-from_AllPairs}
use Rattle.std.proofs.lemmas.Map.Steps.{length-le_from_distinct_below}
use Rattle.std.proofs.lemmas.Map.Views.{Contains-from_any}
use Rattle.cedar_ast.proofs.Basics.{Contains-single}
use Rattle.cedar_ast.proofs.Chains.{held_after, joined}
use Rattle.cedar_ast.proofs.Lists.{Contains-cons}
use Rattle.cedar_graph.proofs.OrderProgress.{distinct_snoc}
use Rattle.cedar_graph.specs.Words.{AreGathered, AreReached, Chain, Done, Fresh, GathersMore, IsTarget, Met, mark_of, one}
use Rattle.cedar_graph.specs.declared.closing.Mark.{Mark}

-- a mark that was read is that of its number
pub mark_read : (marks : List Mark) (n : ℕ) (mark : Mark) → n < length marks → mark ≡ get_or marks n mark → mark_of marks n ≡ mark
mark_read [] n mark within read = absurd (omega (arith, within))
mark_read (first ∷ rest) zero mark within read = sym read
mark_read (first ∷ rest) (suc n) mark within read = mark_read rest n mark (omega (arith, within)) read

-- a fresh number isn't met, nor done
pub fresh_isnt_met : Met ≢ Fresh
fresh_isnt_met same = cc

pub fresh_isnt_done : Done ≢ Fresh
fresh_isnt_done same = cc

pub met_isnt_done : Met ≢ Done
met_isnt_done same = cc

-- only a number that has a mark can be more than fresh
pub marked_within : (marks : List Mark) (n : ℕ) → mark_of marks n ≢ Fresh → n < length marks
marked_within [] n marked = absurd (marked refl)
marked_within (first ∷ rest) zero marked = omega arith
marked_within (first ∷ rest) (suc n) marked = let within = marked_within rest n marked in omega (arith, within)

-- the mark isn't that of a number that is done
undone : Mark → Bool
undone Done = false
undone mark = true

-- the number isn't done
pub is_undone : List Mark → ℕ → Bool
is_undone marks n = undone (mark_of marks n)

-- the last of a list is in it
pub last_of : (xs : List ℕ) (x : ℕ) → Contains (xs ++ x ∷ []) x
last_of xs x = Contains-append_right xs (x ∷ []) x (Contains-cons x [] x (inl refl))

module _ (mark : Mark) (not_fresh : mark ≢ Fresh) (marks : List Mark) (found : List ℕ) (are : AreGathered marks found)
    (number : ℕ) (within : number < length marks) where
  -- the number has its mark, and others have theirs
  here : mark_of (set marks number mark) number ≡ mark
  here = get_or-set_same marks number mark Fresh within

  others : (other : ℕ) → other ≢ number → mark_of (set marks number mark) other ≡ mark_of marks other
  others other apart = get_or-set_other marks number other mark Fresh apart

  -- a number that is gathered already, and isn't done, is marked
  pub gathers_met : mark_of marks number ≢ Fresh → mark_of marks number ≢ Done
      → GathersMore mark (λ passes. passes ≡ number) marks found (set marks number mark) found
  gathers_met met undone = record {
    len = length-set marks number mark;
    gathered = record { marked = λ n. (gathered_marked n (cases_eq n number), marked_gathered n (cases_eq n number)); once = are.once };
    grown = ([], sym (append-nil found));
    has = λ n same. subst (Contains found) (sym same) ((are.marked number).1 met);
    only = λ n among. inl among;
    stays = λ n done. others n (λ same. undone (ap (mark_of marks) (sym same) ∙ done)) ∙ done;
    newly = λ n done. elim (cases_eq n number) [
      | inl same ↦ inr (sym here ∙ ap (mark_of (set marks number mark)) (sym same) ∙ done, same)
      | inr apart ↦ inl (sym (others n apart) ∙ done)
    ];
  }
    where
      gathered_marked : (n : ℕ) → (n ≡ number) ⊎ (n ≢ number) → Contains found n → mark_of (set marks number mark) n ≢ Fresh
      gathered_marked n (inl same) among fresh = not_fresh (sym here ∙ ap (mark_of (set marks number mark)) (sym same) ∙ fresh)
      gathered_marked n (inr apart) among fresh = (are.marked n).0 among (sym (others n apart) ∙ fresh)

      marked_gathered : (n : ℕ) → (n ≡ number) ⊎ (n ≢ number) → mark_of (set marks number mark) n ≢ Fresh → Contains found n
      marked_gathered n (inl same) marked = subst (Contains found) (sym same) ((are.marked number).1 met)
      marked_gathered n (inr apart) marked = (are.marked n).1 (λ fresh. marked (others n apart ∙ fresh))

  -- a fresh number is gathered last, and marked
  pub gathers_fresh : mark_of marks number ≡ Fresh
      → GathersMore mark (λ passes. passes ≡ number) marks found (set marks number mark) (found ++ number ∷ [])
  gathers_fresh fresh_before = record {
    len = length-set marks number mark;
    gathered = record {
      marked = λ n. (gathered_marked n (cases_eq n number), marked_gathered n (cases_eq n number));
      once = distinct_snoc found number are.once (λ among. (are.marked number).0 among fresh_before);
    };
    grown = (number ∷ [], refl);
    has = λ n same. subst (Contains (found ++ number ∷ [])) (sym same) (last_of found number);
    only = λ n among. elim (Contains-append_cases found (number ∷ []) n among) [
      | inl before ↦ inl before
      | inr last ↦ inr (sym (Contains-single number n last))
    ];
    stays = λ n done. others n (λ same. fresh_isnt_done (sym done ∙ ap (mark_of marks) same ∙ fresh_before)) ∙ done;
    newly = λ n done. elim (cases_eq n number) [
      | inl same ↦ inr (sym here ∙ ap (mark_of (set marks number mark)) (sym same) ∙ done, same)
      | inr apart ↦ inl (sym (others n apart) ∙ done)
    ];
  }
    where
      gathered_marked : (n : ℕ) → (n ≡ number) ⊎ (n ≢ number) → Contains (found ++ number ∷ []) n
          → mark_of (set marks number mark) n ≢ Fresh
      gathered_marked n (inl same) among fresh = not_fresh (sym here ∙ ap (mark_of (set marks number mark)) (sym same) ∙ fresh)
      gathered_marked n (inr apart) among fresh = elim (Contains-append_cases found (number ∷ []) n among) [
        | inl before ↦ (are.marked n).0 before (sym (others n apart) ∙ fresh)
        | inr last ↦ apart (sym (Contains-single number n last))
      ]

      marked_gathered : (n : ℕ) → (n ≡ number) ⊎ (n ≢ number) → mark_of (set marks number mark) n ≢ Fresh
          → Contains (found ++ number ∷ []) n
      marked_gathered n (inl same) marked = subst (Contains (found ++ number ∷ [])) (sym same) (last_of found number)
      marked_gathered n (inr apart) marked =
          Contains-append_left found (number ∷ []) n ((are.marked n).1 (λ fresh. marked (others n apart ∙ fresh)))

-- a number that is done stays as it is
pub gathers_done : (mark : Mark) (marks : List Mark) (found : List ℕ) → AreGathered marks found → (number : ℕ)
    → mark_of marks number ≡ Done → GathersMore mark (λ passes. passes ≡ number) marks found marks found
gathers_done mark marks found are number done = record {
  len = refl;
  gathered = are;
  grown = ([], sym (append-nil found));
  has = λ n same. subst (Contains found) (sym same) ((are.marked number).1 (λ fresh. fresh_isnt_done (sym done ∙ fresh)));
  only = λ n among. inl among;
  stays = λ n done. done;
  newly = λ n done. inl done;
}

-- where no number passes, none is gathered
pub gathers_none : (mark : Mark) (Passes : ℕ → Type 0) → ((n : ℕ) → ¬ Passes n) → (marks : List Mark) (found : List ℕ)
    → AreGathered marks found → GathersMore mark Passes marks found marks found
gathers_none mark Passes none marks found are = record {
  len = refl;
  gathered = are;
  grown = ([], sym (append-nil found));
  has = λ n passes. absurd (none n passes);
  only = λ n among. inl among;
  stays = λ n done. done;
  newly = λ n done. inl done;
}

-- some numbers are gathered after others
pub gathers_onwards : (mark : Mark) (First Second All : ℕ → Type 0) → ((n : ℕ) → All n ↔ (First n ⊎ Second n))
    → (marks : List Mark) (found : List ℕ) (between : List Mark) (between_found : List ℕ) (last : List Mark) (last_found : List ℕ)
    → GathersMore mark First marks found between between_found → GathersMore mark Second between between_found last last_found
    → GathersMore mark All marks found last last_found
gathers_onwards mark First Second All either marks found between between_found last last_found early late = record {
  len = late.len ∙ early.len;
  gathered = late.gathered;
  grown = (
    early.grown.0 ++ late.grown.0,
    late.grown.1 ∙ ap (λ xs. xs ++ late.grown.0) early.grown.1
        ∙ append_assoc found early.grown.0 late.grown.0,
  );
  has = λ n passes. elim ((either n).0 passes) [ inl first ↦ stays_found n (early.has n first) | inr second ↦ late.has n second ];
  only = λ n among. elim (late.only n among) [
    | inl before ↦ elim (early.only n before) [ inl old ↦ inl old | inr first ↦ inr ((either n).1 (inl first)) ]
    | inr second ↦ inr ((either n).1 (inr second))
  ];
  stays = λ n done. late.stays n (early.stays n done);
  newly = λ n done. elim (late.newly n done) [
    | inl before ↦ elim (early.newly n before) [ inl old ↦ inl old | inr first ↦ inr (first.0, (either n).1 (inl first.1)) ]
    | inr second ↦ inr (second.0, (either n).1 (inr second.1))
  ];
}
  where
    stays_found : (n : ℕ) → Contains between_found n → Contains last_found n
    stays_found n among = subst (λ xs. Contains xs n) (sym late.grown.1) (Contains-append_left between_found late.grown.0 n among)

-- numbers that pass one test pass another
pub gathers_same : (mark : Mark) (Passes Other : ℕ → Type 0) → ((n : ℕ) → Other n ↔ Passes n) → (marks : List Mark) (found : List ℕ)
    (new : List Mark) (new_found : List ℕ) → GathersMore mark Passes marks found new new_found
    → GathersMore mark Other marks found new new_found
gathers_same mark Passes Other same marks found new new_found gathers = record {
  len = gathers.len;
  gathered = gathers.gathered;
  grown = gathers.grown;
  has = λ n passes. gathers.has n ((same n).0 passes);
  only = λ n among. elim (gathers.only n among) [ inl before ↦ inl before | inr passes ↦ inr ((same n).1 passes) ];
  stays = gathers.stays;
  newly = λ n done. elim (gathers.newly n done) [ inl before ↦ inl before | inr passes ↦ inr (passes.0, (same n).1 passes.1) ];
}

-- all marks of a list of fresh ones are fresh
pub all_fresh : (count n : ℕ) → mark_of (replicate count Fresh) n ≡ Fresh
all_fresh zero n = refl
all_fresh (suc count) zero = refl
all_fresh (suc count) (suc n) = all_fresh count n

-- where all are fresh, nothing is gathered
pub nothing_gathered : (marks : List Mark) → ((n : ℕ) → mark_of marks n ≡ Fresh) → AreGathered marks []
nothing_gathered marks fresh = record {
  marked = λ n. (λ among. absurd (omega (arith, among.1)), λ marked. absurd (marked (fresh n)));
  once = λ i j d below within. absurd (omega (arith, within));
}

module _ {Z : Type 0} (targets : List (Vec ℕ Z)) (from : ℕ) where
  -- the targets of the number are the first to be gathered
  pub reached_first : (marks new : List Mark) (found : List ℕ) → ((n : ℕ) → mark_of marks n ≡ Fresh)
      → GathersMore Met (IsTarget targets from) marks [] new found → AreReached targets from new found
  reached_first marks new found fresh further = record {
    gathered = further.gathered;
    sound = λ to among. elim (further.only to among) [ inl none ↦ absurd (omega (arith, none.1)) | inr target ↦ one target ];
    begun = further.has;
    done = λ number to done _. elim (further.newly number done) [
      | inl before ↦ absurd (fresh_isnt_done (sym before ∙ fresh number))
      | inr never ↦ absurd (met_isnt_done never.0)
    ];
  }

  module _ (mark : Mark) (numbers : List ℕ) (number : ℕ)
      (sound : (to : ℕ) → Contains numbers to → Chain (IsTarget targets) number to)
      (complete : (to : ℕ) → IsTarget targets number to → Contains numbers to)
      (whole : mark ≡ Done → (via to : ℕ) → Contains numbers via → IsTarget targets via to → Contains numbers to)
      (marks : List Mark) (found : List ℕ) (new : List Mark) (new_found : List ℕ)
      (so_far : AreReached targets from marks found) (among : Contains found number)
      (further : GathersMore mark (Contains numbers) marks found new new_found) where
    stays_found : (n : ℕ) → Contains found n → Contains new_found n
    stays_found n before = subst (λ xs. Contains xs n) (sym further.grown.1) (Contains-append_left found further.grown.0 n before)

    -- a number that is gathered has a mark
    pub followed_within : number < length new
    followed_within = marked_within new number ((further.gathered.marked number).0 (stays_found number among))

    -- once what a number leads to is gathered, it is done
    pub reached_more : AreReached targets from (set new number Done) new_found
    reached_more = record {
      gathered = record {
        marked = λ n. (gathered_marked n (cases_eq n number), marked_gathered n (cases_eq n number));
        once = further.gathered.once;
      };
      sound = λ to stands. elim (further.only to stands) [
        | inl before ↦ so_far.sound to before
        | inr added ↦ joined (so_far.sound number among) (sound to added)
      ];
      begun = λ to target. stays_found to (so_far.begun to target);
      done = λ n to done edge. elim (cases_eq n number) [
        | inl same ↦ further.has to (complete to (subst (λ k. IsTarget targets k to) same edge))
        | inr apart ↦ elim (further.newly n (sym (others n apart) ∙ done)) [
          | inl before ↦ stays_found to (so_far.done n to before edge)
          | inr added ↦ further.has to (whole added.0 n to added.1 edge)
        ]
      ];
    }
      where
        others : (n : ℕ) → n ≢ number → mark_of (set new number Done) n ≡ mark_of new n
        others n apart = get_or-set_other new number n Done Fresh apart

        here : mark_of (set new number Done) number ≡ Done
        here = get_or-set_same new number Done Fresh followed_within

        gathered_marked : (n : ℕ) → (n ≡ number) ⊎ (n ≢ number) → Contains new_found n → mark_of (set new number Done) n ≢ Fresh
        gathered_marked n (inl same) stands fresh =
            fresh_isnt_done (sym here ∙ ap (mark_of (set new number Done)) (sym same) ∙ fresh)
        gathered_marked n (inr apart) stands fresh = (further.gathered.marked n).0 stands (sym (others n apart) ∙ fresh)

        marked_gathered : (n : ℕ) → (n ≡ number) ⊎ (n ≢ number) → mark_of (set new number Done) n ≢ Fresh → Contains new_found n
        marked_gathered n (inl same) marked = subst (Contains new_found) (sym same) (stays_found number among)
        marked_gathered n (inr apart) marked = (further.gathered.marked n).1 (λ fresh. marked (others n apart ∙ fresh))

    -- a number that is done stays so, and this one is
    pub done_more : (n : ℕ) → mark_of marks n ≡ Done → mark_of (set new number Done) n ≡ Done
    done_more n done = elim (cases_eq n number) [
      | inl same ↦ ap (mark_of (set new number Done)) same ∙ get_or-set_same new number Done Fresh followed_within
      | inr apart ↦ get_or-set_other new number n Done Fresh apart ∙ further.stays n done
    ]

  -- where what each gathered number leads to is gathered, all that chains reach is
  pub reached_all : (marks : List Mark) (found : List ℕ) → AreReached targets from marks found
      → ((n to : ℕ) → Contains found n → IsTarget targets n to → Contains found to)
      → (to : ℕ) → Contains found to ↔ Chain (IsTarget targets) from to
  reached_all marks found are closed to =
      (are.sound to, λ chain. held_after (Contains found) from are.begun (λ k l. closed k l) chain)

-- a number that stands at a place of a list is read there
pub read_any : (xs : List ℕ) (k d x : ℕ) → k < length xs → get_or xs k x ≡ x → get_or xs k d ≡ x
read_any [] k d x below same = absurd (omega (arith, below))
read_any (first ∷ rest) zero d x below same = same
read_any (first ∷ rest) (suc k) d x below same = read_any rest k d x (omega (arith, below)) same

pub read_at : (xs : List ℕ) (k x : ℕ) → k < length xs → get_or xs k x ≡ x → get_or xs k 0 ≡ x
read_at xs k x = read_any xs k 0 x

-- no more numbers are gathered than have marks
pub found_few : (marks : List Mark) (found : List ℕ) → AreGathered marks found → length found ≤ length marks
found_few marks found are = length-le_from_distinct_below found (length marks)
    (IsDistinct-from_AllPairs Decides-eqb found are.once)
    (λ n among. marked_within marks n ((are.marked n).0
    (Contains-from_any (λ x y same. (Decides-eqb x y).0 same) n found among)))

-- a mark is the one or isn't
pub done_or_not : (mark : Mark) → (mark ≡ Done) ⊎ (mark ≢ Done)
done_or_not Fresh = inr (λ same. cc)
done_or_not Met = inr met_isnt_done
done_or_not Done = inl refl

pub fresh_or_not : (mark : Mark) → (mark ≡ Fresh) ⊎ (mark ≢ Fresh)
fresh_or_not Fresh = inl refl
fresh_or_not Met = inr fresh_isnt_met
fresh_or_not Done = inr fresh_isnt_done

-- a number that isn't done is told so, and one that is done too
pub told_undone : (marks : List Mark) (n : ℕ) → mark_of marks n ≢ Done → is_undone marks n ≡ true
unfolding is_undone undone
told_undone marks n apart = told (mark_of marks n) apart where
  told : (mark : Mark) → mark ≢ Done → undone mark ≡ true
  told Fresh other = refl
  told Met other = refl
  told Done other = absurd (other refl)

pub told_done : (marks : List Mark) (n : ℕ) → mark_of marks n ≡ Done → is_undone marks n ≡ false
unfolding is_undone undone
told_done marks n same = ap undone same
