-- Differences that are reported one after another.
use Rattle.std.proofs.Common.{◌≡◌, ◌⊎◌, List, [], ◌∷◌, ◌++◌, append_assoc, inl, inr, refl, ap, subst, sym, ◌∙◌, ⊎_elim, map, Contains}
use Rattle.std.proofs.lemmas.List.{append-nil, map-append}
use Rattle.std.proofs.lemmas.List.Elements.{Contains-append_cases, Contains-append_left, Contains-append_right}
use Rattle.std.specs.List.Sorted.{IsStrictlySortedBy}
use Rattle.std.specs.declared.cmp.Ordering.TheVariants.{Less}
use Rattle.cedar_ast.proofs.Basics.{Contains-none}
use Rattle.cedar_ast.proofs.Lists.{Contains-cons, Contains-cons_cases}
use Rattle.cedar_compare.proofs.SortedLemmas.{sorted_append, sorted_without}
use Rattle.cedar_compare.specs.Words.{AreAnswers, Extensions, IsLoss, KeepsOf, PlainDifference, PlainSchema, Subject, subject_cmp, subject_of}

module _ (extensions : Extensions) (old new : PlainSchema) where
  -- some subjects are answered, but for those that are left
  pub record AnswersSoFar (all left : List Subject) (reported : List PlainDifference) : Type 0 where
    pub each : (subject : Subject) → Contains all subject
        → Contains left subject ⊎ (KeepsOf extensions old new subject ⊎ Contains (map subject_of reported) subject)
    pub true_ones : (it : PlainDifference) → Contains reported it → IsLoss extensions old new it
    pub among : (subject : Subject) → Contains (map subject_of reported ++ left) subject → Contains all subject
    pub in_order : IsStrictlySortedBy subject_cmp (map subject_of reported ++ left)

  -- at first all are left
  pub reported_none : (all : List Subject) → IsStrictlySortedBy subject_cmp all → AnswersSoFar all all []
  reported_none all sorted = record {
    each = λ subject there. inl there;
    true_ones = λ it there. absurd (Contains-none it there);
    among = λ subject there. there;
    in_order = sorted;
  }

  -- one that is kept
  pub reported_kept : (all rest : List Subject) (reported : List PlainDifference) (first : Subject) → KeepsOf extensions old new first
      → AnswersSoFar all (first ∷ rest) reported → AnswersSoFar all rest reported
  reported_kept all rest reported first keeps so_far = record {
    each = λ subject there. ⊎_elim
        (λ here. ⊎_elim
        (λ same. inr (inl (subst (KeepsOf extensions old new) same keeps)))
        (λ later. inl later)
        (Contains-cons_cases first rest subject here))
        (λ answered. inr answered)
        (so_far.each subject there);
    true_ones = so_far.true_ones;
    among = λ subject there. so_far.among subject (⊎_elim
        (λ one. Contains-append_left (map subject_of reported) (first ∷ rest) subject one)
        (λ later. Contains-append_right (map subject_of reported) (first ∷ rest) subject (Contains-cons first rest subject (inr later)))
        (Contains-append_cases (map subject_of reported) rest subject there));
    in_order = sorted_without subject_cmp (map subject_of reported) first rest so_far.in_order;
  }

  -- one that is reported
  pub reported_lost : (all rest : List Subject) (reported : List PlainDifference) (first : Subject) (it : PlainDifference)
      → subject_of it ≡ first → IsLoss extensions old new it
      → AnswersSoFar all (first ∷ rest) reported → AnswersSoFar all rest (reported ++ it ∷ [])
  reported_lost all rest reported first it is loss so_far =
      let subjects = map subject_of reported in
      let more : map subject_of (reported ++ it ∷ []) ≡ subjects ++ first ∷ [] =
      map-append subject_of reported (it ∷ []) ∙ ap (λ s. subjects ++ s ∷ []) is in
      let together : map subject_of (reported ++ it ∷ []) ++ rest ≡ subjects ++ first ∷ rest =
      ap (λ xs. xs ++ rest) more ∙ append_assoc subjects (first ∷ []) rest in
      record {
        each = λ subject there. ⊎_elim
            (λ here. ⊎_elim
            (λ same. inr (inr (subst (λ xs. Contains xs subject) (sym more)
            (Contains-append_right subjects (first ∷ []) subject (Contains-cons first [] subject (inl same))))))
            (λ later. inl later)
            (Contains-cons_cases first rest subject here))
            (λ answered. inr (⊎_elim (λ kept. inl kept)
            (λ there'. inr (subst (λ xs. Contains xs subject) (sym more) (Contains-append_left subjects (first ∷ []) subject there')))
            answered))
            (so_far.each subject there);
        true_ones = λ other there. ⊎_elim
            (λ before. so_far.true_ones other before)
            (λ last. ⊎_elim (λ same. subst (IsLoss extensions old new) same loss) (λ none. absurd (Contains-none other none))
            (Contains-cons_cases it [] other last))
            (Contains-append_cases reported (it ∷ []) other there);
        among = λ subject there. so_far.among subject (subst (λ xs. Contains xs subject) together there);
        in_order = subst (IsStrictlySortedBy subject_cmp) (sym together) so_far.in_order;
      }

  -- where none is left, all are answered
  pub reported_all : (all left : List Subject) (reported : List PlainDifference) → left ≡ [] → AnswersSoFar all left reported
      → AreAnswers extensions old new all reported
  reported_all all left reported none so_far =
      let so_far : AnswersSoFar all [] reported = subst (λ xs. AnswersSoFar all xs reported) none so_far in
      record {
        each = λ subject there. ⊎_elim (λ still. absurd (Contains-none subject still)) (λ answered. answered) (so_far.each subject there);
        true_ones = so_far.true_ones;
        among = λ subject there. so_far.among subject (Contains-append_left (map subject_of reported) [] subject there);
        in_order = subst (IsStrictlySortedBy subject_cmp) (append-nil (map subject_of reported)) so_far.in_order;
      }

  -- no subjects are answered by nothing
  pub answered_none : AreAnswers extensions old new [] []
  unfolding IsStrictlySortedBy
  answered_none = reported_all [] [] [] refl (reported_none [] tt)

  -- the answers to two lists of subjects, the one below the other, are those to both together
  pub answered_append : (subjects others : List Subject) (reported more : List PlainDifference)
      → ((one other : Subject) → Contains subjects one → Contains others other → subject_cmp one other ≡ Less)
      → AreAnswers extensions old new subjects reported → AreAnswers extensions old new others more
      → AreAnswers extensions old new (subjects ++ others) (reported ++ more)
  answered_append subjects others reported more below one other =
      let both = map-append subject_of reported more in
      record {
        each = λ subject there. ⊎_elim
            (λ first. ⊎_elim (λ kept. inl kept)
            (λ reported'. inr (subst (λ xs. Contains xs subject) (sym both) (Contains-append_left (map subject_of reported) (map subject_of more) subject reported')))
            (one.each subject first))
            (λ second. ⊎_elim (λ kept. inl kept)
            (λ reported'. inr (subst (λ xs. Contains xs subject) (sym both) (Contains-append_right (map subject_of reported) (map subject_of more) subject reported')))
            (other.each subject second))
            (Contains-append_cases subjects others subject there);
        true_ones = λ it there. ⊎_elim (one.true_ones it) (other.true_ones it) (Contains-append_cases reported more it there);
        among = λ subject there. ⊎_elim
            (λ first. Contains-append_left subjects others subject (one.among subject first))
            (λ second. Contains-append_right subjects others subject (other.among subject second))
            (Contains-append_cases (map subject_of reported) (map subject_of more) subject (subst (λ xs. Contains xs subject) both there));
        in_order = subst (IsStrictlySortedBy subject_cmp) (sym both)
            (sorted_append subject_cmp (map subject_of reported) (map subject_of more) one.in_order other.in_order
            (λ x y first second. below x y (one.among x first) (other.among y second)));
      }
