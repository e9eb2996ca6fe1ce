-- The place to which a hint leads: there is one at most, and none where no row of those looked at
-- has a hint to it.
use Rattle.std.proofs.Common.{Bool, IfSome, IsTrue, ◌≡◌, ◌<◌, ℕ, IsSomeAnd, List, None, Option, Some, arith, get_or, length, slice_get, subst, sym, ◌∙◌, inl, inr}
use Rattle.std.proofs.lemmas.Bool.{cases_eq, cases_lt}
use Rattle.std.proofs.lemmas.Option.{slice_get-get_or}
use Rattle.std.specs.Cmp.{Equal-is}
use Rattle.std.specs.Hash.{HashWrites}
use Rattle.std.specs.Ordering.{is_eq}
use Rattle.std.specs.declared.cmp.Ordering.{Ordering}
use Rattle.cedar_table.specs.Words.{AreHinted, Hint, Hints, IsPassed, KeyStandsAt, HintLeadsTo, RowIs, hash_by, row_of, tag_of}

-- a row that passes in two ways
both : (row : Option Hint) (First Second : Hint → Type 0) → IsSomeAnd row First → IsSomeAnd row Second
    → (hint : Hint) × First hint × Second hint
both (Some hint) First Second first second = (hint, first, second)
both None First Second first second = absurd first

-- a row that passes also passes where less is asked
weaker : (row : Option Hint) (First Second : Hint → Type 0) → ((hint : Hint) → First hint → Second hint)
    → IsSomeAnd row First → IsSomeAnd row Second
weaker (Some hint) First Second onwards first = onwards hint first
weaker None First Second onwards first = absurd first

module _ (rows : List Hint) (hash : ℕ) where
  -- the row that is looked at in a step
  abbrev row : ℕ → Option Hint
  row step = slice_get rows (row_of (length rows) hash step)

  -- the row has the tag of the hash
  abbrev HasTag : Hint → Type 0
  HasTag hint = hint.tag ≡ tag_of hash

  -- the row has the tag of the hash, and the place
  abbrev IsTo : ℕ → Hint → Type 0
  IsTo place hint = HasTag hint × (hint.place ≡ place)

  -- no row that is passed has a hint to a place
  apart : (place step : ℕ) → RowIs rows hash step (IsPassed hash) → ¬ RowIs rows hash step (IsTo place)
  apart place step passed here =
      let it = both (row step) (IsPassed hash) (IsTo place) passed here in
      it.1.0 it.2.0

  -- two places to which hints lead are the same
  pub leads_once : (first second : ℕ) → HintLeadsTo rows hash first → HintLeadsTo rows hash second → first ≡ second
  leads_once first second one two = elim (cases_eq one.step two.step) [
    | inl same ↦
        let it = both (row two.step) (IsTo first) (IsTo second)
        (subst (λ step. RowIs rows hash step (IsTo first)) same one.here) two.here in
        sym it.1.1 ∙ it.2.1
    | inr other ↦ elim (cases_lt one.step two.step) [
      | inl less ↦ absurd (apart first one.step (two.before one.step less) one.here)
      | inr most ↦ absurd (apart second two.step (one.before two.step (omega (arith, other, most))) two.here)
    ]
  ]

  -- no hint leads on where a row neither has the tag nor is passed, after rows that are passed
  pub ends_here : (step : ℕ) → (¬ RowIs rows hash step HasTag) → (¬ RowIs rows hash step (IsPassed hash))
      → ((earlier : ℕ) → earlier < step → RowIs rows hash earlier (IsPassed hash))
      → (place : ℕ) → ¬ HintLeadsTo rows hash place
  ends_here step untagged unpassed before place leads = elim (cases_eq leads.step step) [
    | inl same ↦
        untagged (subst (λ each. RowIs rows hash each HasTag) same
        (weaker (row leads.step) (IsTo place) HasTag (λ hint it. it.0) leads.here))
    | inr other ↦ elim (cases_lt leads.step step) [
      | inl less ↦ apart place leads.step (before leads.step less) leads.here
      | inr most ↦ unpassed (leads.before step (omega (arith, other, most)))
    ]
  ]

  -- nor where all rows that are looked at are passed
  pub ends_full : ((earlier : ℕ) → earlier < 64 → RowIs rows hash earlier (IsPassed hash))
      → (place : ℕ) → ¬ HintLeadsTo rows hash place
  ends_full before place leads = apart place leads.step (before leads.step leads.near) leads.here

module _ {K : Type 0} (eq : K → K → Bool) (cmp : K → K → Ordering) (writes : K → HashWrites)
    (ties : (a b : K) → eq a b ≡ is_eq (cmp a b)) (hints : Hints) (keys : List K)
    (hinted : AreHinted writes hints keys) (complete : IsTrue hints.complete) (key : K)
    (alike : (other : K) → IsTrue (eq key other) → writes key ≡ writes other) where
  -- where hints are complete, a key isn't there if it stands at no place to which a hint leads
  pub not_there : ((place : ℕ) → HintLeadsTo hints.rows.items (hash_by hints.begun (writes key)) place
      → ¬ KeyStandsAt cmp keys key place)
      → (place : ℕ) → ¬ KeyStandsAt cmp keys key place
  not_there nowhere place stands =
      let other = get_or keys place key in
      let same : writes key ≡ writes other = alike other (ties key other ∙ (Equal-is (cmp key other)).1 (stands.1 key)) in
      let Leads : HashWrites → Type 0 = λ input. HintLeadsTo hints.rows.items (hash_by hints.begun input) place in
      nowhere place (subst Leads (sym same)
      (subst (λ each. IfSome each (λ it. Leads (writes it))) (slice_get-get_or keys place key stands.0) (hinted complete place)))
      stands
