-- Steps that enter and leave numbers, and the order that they give.
use Rattle.std.proofs.Common.{◌≡◌, ◌⊎◌, ◌<◌, ℕ, List, [], ◌∷◌, ◌++◌, Option, None, Some, Vec, Contains, length, map, ap, sym, subst, refl, inl, inr, arith}
use Rattle.std.proofs.lemmas.List.{map-append}
use Rattle.std.proofs.lemmas.List.Elements.{Contains-append_left, Contains-append_right, Contains-append_cases}
use Rattle.cedar_ast.proofs.Basics.{Contains-single}
use Rattle.cedar_ast.proofs.Lists.{Contains-cons, Contains-cons_cases}
use Rattle.cedar_graph.specs.Words.{Chain, Enter, IsTarget, LeadsTo, Leave, Step, more, one}

-- the number of a step
abbrev pub number_of : Step → ℕ
number_of (Enter number) = number
number_of (Leave number) = number

-- a step that enters isn't one that leaves
pub enter_or_leave : (a b : ℕ) → ¬ (Enter a ≡ Leave b)
enter_or_leave a b same = cc

-- no step leaves in steps that enter
pub enters_leave_none : (numbers : List ℕ) (n : ℕ) → ¬ Contains (map Enter numbers) (Leave n)
enters_leave_none [] n among = omega (arith, among.1)
enters_leave_none (m ∷ rest) n among =
    elim (Contains-cons_cases (Enter m) (map Enter rest) (Leave n) among) [ inl here ↦ enter_or_leave m n here | inr later ↦ enters_leave_none rest n later ]

-- steps that enter numbers have those numbers
pub enters_have : (numbers : List ℕ) → map number_of (map Enter numbers) ≡ numbers
enters_have [] = refl
enters_have (n ∷ rest) = ap (λ others. n ∷ others) (enters_have rest)

module _ {Z : Type 0} (targets : List (Vec ℕ Z)) where
  -- what was left last, if anything, leads to the number
  abbrev pub Leads : Option ℕ → ℕ → Type 0
  Leads None to = Unit {0}
  Leads (Some from) to = IsTarget targets from to

  -- each step is for a number to which the nearest number below leads that is to be left; what a
  -- number leads to that is to be left is done, or has a step above; and no number is to be left
  -- twice
  abbrev pub AreSteps : (ℕ → Type 0) → Option ℕ → List Step → Type 0
  AreSteps IsDone from [] = Unit {0}
  AreSteps IsDone from (Enter n ∷ rest) = Leads from n × AreSteps IsDone from rest
  AreSteps IsDone from (Leave n ∷ rest) =
      Leads from n × (n < length targets)
      × ((to : ℕ) → LeadsTo targets n to → IsDone to ⊎ Contains (map number_of rest) to)
      × (¬ Contains rest (Leave n)) × AreSteps IsDone (Some n) rest

  -- the number that is to be left next
  abbrev pub last_left : Option ℕ → List Step → Option ℕ
  last_left from [] = from
  last_left from (Enter n ∷ rest) = last_left from rest
  last_left from (Leave n ∷ rest) = last_left (Some n) rest

  -- the number that is to be left next leads to that of the last step
  last_leads : (IsDone : ℕ → Type 0) (from : Option ℕ) (rest : List Step) (step : Step) → AreSteps IsDone from (rest ++ step ∷ [])
      → Leads (last_left from rest) (number_of step)
  last_leads IsDone from [] (Enter n) steps = steps.0
  last_leads IsDone from [] (Leave n) steps = steps.0
  last_leads IsDone from (Enter m ∷ rest) step steps = last_leads IsDone from rest step steps.1
  last_leads IsDone from (Leave m ∷ rest) step steps = last_leads IsDone (Some m) rest step steps.4

  -- without the last step the steps are steps, where its number is done
  pub steps_before : (IsDone NowDone : ℕ → Type 0) → ((n : ℕ) → IsDone n → NowDone n) → (from : Option ℕ) (rest : List Step)
      (step : Step) → (number_of step < length targets → NowDone (number_of step)) → AreSteps IsDone from (rest ++ step ∷ [])
      → AreSteps NowDone from rest
  steps_before IsDone NowDone stays from [] step done steps = tt
  steps_before IsDone NowDone stays from (Enter m ∷ rest) step done steps =
      (steps.0, steps_before IsDone NowDone stays from rest step done steps.1)
  steps_before IsDone NowDone stays from (Leave m ∷ rest) step done steps = (
    steps.0,
    steps.1,
    λ to leads. elim (steps.2 to leads) [ inl before ↦ inl (stays to before) | inr above ↦ covered to leads.1 above ],
    λ again. steps.3 (Contains-append_left rest (step ∷ []) (Leave m) again),
    steps_before IsDone NowDone stays (Some m) rest step done steps.4,
  )
    where
      covered : (to : ℕ) → to < length targets → Contains (map number_of (rest ++ step ∷ [])) to
          → NowDone to ⊎ Contains (map number_of rest) to
      covered to within above =
          elim (Contains-append_cases (map number_of rest) (number_of step ∷ []) to (rw (map-append number_of rest (step ∷ [])) at above)) [
            | inl here ↦ inr here
            | inr last ↦ let same = Contains-single (number_of step) to last in
                inl (rw same at (done (omega (arith, same, within))))
          ]

  -- steps that enter what a number leads to are steps
  enters_are_steps : (IsDone : ℕ → Type 0) (n : ℕ) (numbers : List ℕ) → ((to : ℕ) → Contains numbers to → IsTarget targets n to)
      → AreSteps IsDone (Some n) (map Enter numbers)
  enters_are_steps IsDone n [] each = tt
  enters_are_steps IsDone n (m ∷ rest) each = (
    each m (Contains-cons m rest m (inl refl)),
    enters_are_steps IsDone n rest (λ to among. each to (Contains-cons m rest to (inr among))),
  )

  -- the last step, which enters a number, may give way to one that leaves it and steps that enter
  -- what it leads to
  pub steps_opened : (IsDone : ℕ → Type 0) (from : Option ℕ) (rest : List Step) (n : ℕ) (numbers : List ℕ) → n < length targets
      → (¬ Contains rest (Leave n)) → ((to : ℕ) → IsTarget targets n to → Contains numbers to)
      → ((to : ℕ) → Contains numbers to → IsTarget targets n to) → AreSteps IsDone from (rest ++ Enter n ∷ [])
      → AreSteps IsDone from (rest ++ Leave n ∷ map Enter numbers)
  steps_opened IsDone from [] n numbers within fresh all each steps = (
    steps.0,
    within,
    λ to leads. let P : List ℕ → Type 0 = λ list. Contains list to in
        inr (subst P (sym (enters_have numbers)) (all to leads.0)),
    enters_leave_none numbers n,
    enters_are_steps IsDone n numbers each,
  )
  steps_opened IsDone from (Enter m ∷ rest) n numbers within fresh all each steps = (
    steps.0,
    steps_opened IsDone from rest n numbers within (λ again. fresh (Contains-cons (Enter m) rest (Leave n) (inr again))) all each steps.1,
  )
  steps_opened IsDone from (Leave m ∷ rest) n numbers within fresh all each steps = (
    steps.0,
    steps.1,
    λ to leads. elim (steps.2 to leads) [ inl before ↦ inl before | inr above ↦ inr (covered to above) ],
    λ again. not_again (Contains-append_cases rest (Leave n ∷ map Enter numbers) (Leave m) again),
    steps_opened IsDone (Some m) rest n numbers within (λ again. fresh (Contains-cons (Leave m) rest (Leave n) (inr again))) all each steps.4,
  )
    where
      covered : (to : ℕ) → Contains (map number_of (rest ++ Enter n ∷ [])) to
          → Contains (map number_of (rest ++ Leave n ∷ map Enter numbers)) to
      covered to above =
          let P : List ℕ → Type 0 = λ list. Contains list to in
          let before = map number_of rest in
          let after = n ∷ map number_of (map Enter numbers) in
          subst P (sym (map-append number_of rest (Leave n ∷ map Enter numbers)))
          (elim (Contains-append_cases before (n ∷ []) to (subst P (map-append number_of rest (Enter n ∷ [])) above)) [ inl here ↦ Contains-append_left before after to here | inr last ↦ Contains-append_right before after to (Contains-cons n (map number_of (map Enter numbers)) to (inl (Contains-single n to last))) ])

      not_again : ¬ (Contains rest (Leave m) ⊎ Contains (Leave n ∷ map Enter numbers) (Leave m))
      not_again (inl here) = steps.3 (Contains-append_left rest (Enter n ∷ []) (Leave m) here)
      not_again (inr there) =
          elim (Contains-cons_cases (Leave n) (map Enter numbers) (Leave m) there) [ inl same ↦ fresh (Contains-cons (Leave m) rest (Leave n) (inl (sym same))) | inr later ↦ enters_leave_none numbers m later ]

  -- what the last step leaves no other does
  pub left_once : (IsDone : ℕ → Type 0) (from : Option ℕ) (rest : List Step) (n : ℕ) → AreSteps IsDone from (rest ++ Leave n ∷ [])
      → ¬ Contains rest (Leave n)
  left_once IsDone from [] n steps among = omega (arith, among.1)
  left_once IsDone from (Enter m ∷ rest) n steps among =
      elim (Contains-cons_cases (Enter m) rest (Leave n) among) [ inl here ↦ enter_or_leave m n here | inr later ↦ left_once IsDone from rest n steps.1 later ]
  left_once IsDone from (Leave m ∷ rest) n steps among =
      elim (Contains-cons_cases (Leave m) rest (Leave n) among) [
        | inl here ↦ let P : Step → Type 0 = Contains (rest ++ Leave n ∷ []) in
            steps.3 (subst P (sym here) (Contains-append_right rest (Leave n ∷ []) (Leave n) (Contains-cons (Leave n) [] (Leave n) (inl refl))))
        | inr later ↦ left_once IsDone (Some m) rest n steps.4 later
      ]

  -- what the number that the last step leaves leads to is done
  pub left_covered : (IsDone : ℕ → Type 0) (from : Option ℕ) (rest : List Step) (n : ℕ) → AreSteps IsDone from (rest ++ Leave n ∷ [])
      → (to : ℕ) → LeadsTo targets n to → IsDone to
  left_covered IsDone from [] n steps to leads = elim (steps.2 to leads) [ inl before ↦ before | inr none ↦ absurd (omega (arith, none.1)) ]
  left_covered IsDone from (Enter m ∷ rest) n steps to leads = left_covered IsDone from rest n steps.1 to leads
  left_covered IsDone from (Leave m ∷ rest) n steps to leads = left_covered IsDone (Some m) rest n steps.4 to leads

  -- the number that the last step leaves has a list
  pub left_within : (IsDone : ℕ → Type 0) (from : Option ℕ) (rest : List Step) (n : ℕ) → AreSteps IsDone from (rest ++ Leave n ∷ [])
      → n < length targets
  left_within IsDone from [] n steps = steps.1
  left_within IsDone from (Enter m ∷ rest) n steps = left_within IsDone from rest n steps.1
  left_within IsDone from (Leave m ∷ rest) n steps = left_within IsDone (Some m) rest n steps.4

  -- a number is the one that is to be left next, or a chain leads from it there
  abbrev Reaches : ℕ → Option ℕ → Type 0
  Reaches n last = (l : ℕ) × (last ≡ Some l) × ((n ≡ l) ⊎ Chain (LeadsTo targets) n l)

  -- so it is of the number that was left last
  reaches_last : (IsDone : ℕ → Type 0) (q : ℕ) (rest : List Step) → AreSteps IsDone (Some q) rest → Reaches q (last_left (Some q) rest)
  reaches_last IsDone q [] steps = (q, refl, inl refl)
  reaches_last IsDone q (Enter m ∷ rest) steps = reaches_last IsDone q rest steps.1
  reaches_last IsDone q (Leave m ∷ rest) steps =
      let found = reaches_last IsDone m rest steps.4 in
      let P : ℕ → Type 0 = Chain (LeadsTo targets) q in (
        found.0,
        found.1,
        inr (elim found.2 [ inl same ↦ subst P same (one (steps.0, steps.1)) | inr chain ↦ more (steps.0, steps.1) chain ]),
      )

  -- and of each that is to be left
  reaches_left : (IsDone : ℕ → Type 0) (from : Option ℕ) (rest : List Step) (n : ℕ) → AreSteps IsDone from rest
      → Contains rest (Leave n) → Reaches n (last_left from rest)
  reaches_left IsDone from [] n steps among = absurd (omega (arith, among.1))
  reaches_left IsDone from (Enter m ∷ rest) n steps among =
      elim (Contains-cons_cases (Enter m) rest (Leave n) among) [ inl here ↦ absurd (enter_or_leave m n here) | inr later ↦ reaches_left IsDone from rest n steps.1 later ]
  reaches_left IsDone from (Leave m ∷ rest) n steps among =
      elim (Contains-cons_cases (Leave m) rest (Leave n) among) [
        | inl here ↦ let P : ℕ → Type 0 = λ each. Reaches each (last_left (Some m) rest) in
            subst P (ap number_of here) (reaches_last IsDone m rest steps.4)
        | inr later ↦ reaches_left IsDone (Some m) rest n steps.4 later
      ]

  -- a number that is to be left and is to be entered above is on a cycle
  pub leads_back : (IsDone : ℕ → Type 0) (rest : List Step) (n : ℕ) → n < length targets
      → AreSteps IsDone None (rest ++ Enter n ∷ []) → Contains rest (Leave n) → Chain (LeadsTo targets) n n
  leads_back IsDone rest n within steps among =
      let before = steps_before IsDone (λ each. Unit {0}) (λ each done. tt) None rest (Enter n) (λ each. tt) steps in
      let found = reaches_left (λ each. Unit {0}) None rest n before among in
      let P : Option ℕ → Type 0 = λ last. Leads last n in
      let last = subst P found.1 (last_leads IsDone None rest (Enter n) steps) in
      let Q : ℕ → Type 0 = λ each. Chain (LeadsTo targets) each n in
      elim found.2 [ inl same ↦ subst Q (sym same) (one (last, within)) | inr chain ↦ after n found.0 chain (last, within) ]
    where
      after : (a b : ℕ) → Chain (LeadsTo targets) a b → LeadsTo targets b n → Chain (LeadsTo targets) a n
      after a b (one step) last = more step (one last)
      after a b (more step chain) last = more step (after _ b chain last)
