-- What entries of a map list, and what they list as plain data.
use Rattle.std.proofs.Common.{◌≡◌, ◌↔◌, List, map, ap, sym, ◌∙◌, Contains}
use Rattle.cedar_ast.proofs.Basics.{Contains-image}
use Rattle.cedar_ast.proofs.Chains.{refined}
use Rattle.cedar_ast.proofs.Lists.{Contains-preimage}
use Rattle.cedar_ast.proofs.TurnLemmas.{turn_weaker}
use Rattle.cedar_validation.proofs.Pairwise.{pairwise_map}
use Rattle.cedar_validation.specs.Words.{Chain, HoldsPairwise, IsClosedOf, DescendsTo, ListsIn, one}

module _ {K V P Q : Type 0} (under : K → P) (below : V → List P) (plain : K × V → P × Q) (listed : Q → List P)
    (keyed : (e : K × V) → (plain e).0 ≡ under e.0) (lists : (e : K × V) → listed (plain e).1 ≡ below e.1) (entries : List (K × V)) where
  -- the plain data under the second name list the first
  abbrev Lists : P → P → Type 0
  Lists lower upper = (it : Q) × Contains (map plain entries) (upper, it) × Contains (listed it) lower

  -- what an entry lists its plain data list
  pub lists_plain : (lower upper : P) → ListsIn under below entries lower upper → Lists lower upper
  lists_plain lower upper step =
      let it = (plain step.0).1 in
      (it, rw (keyed step.0 ∙ step.2) at (Contains-image plain entries step.0 step.1), rw (sym (lists step.0)) at step.3)

  -- and the other way round
  here : (lower upper : P) → Lists lower upper → ListsIn under below entries lower upper
  here lower upper step =
      let entry = Contains-preimage plain entries (upper, step.0) step.1 in (
        entry.0,
        entry.1,
        sym (keyed entry.0) ∙ ap (λ (it : P × Q). it.0) entry.2,
        rw (lists entry.0) at (rw (sym (ap (λ (it : P × Q). it.1) entry.2)) at step.2),
      )

  -- so chains of both lead to the same names
  pub leads_alike : (lower upper : P) → DescendsTo under below entries lower upper ↔ Chain Lists lower upper
  leads_alike lower upper = (
    λ chain. refined (λ k l step. one (lists_plain k l step)) chain,
    λ chain. refined (λ k l step. one (here k l step)) chain,
  )

  -- so what follows from this of the plain data of each entry and its closed one holds in turn
  pub closed_plain : (is_alike : V → V → Type 0) (closed : List (K × V))
      → HoldsPairwise (IsClosedOf under below is_alike entries) entries closed → (R : P × Q → P × Q → Type 0)
      → ((it other : K × V) → under it.0 ≡ under other.0 → is_alike it.1 other.1
      → ((lower : P) → Contains (below other.1) lower ↔ Chain Lists lower (under it.0)) → R (plain it) (plain other))
      → HoldsPairwise R (map plain entries) (map plain closed)
  closed_plain is_alike closed turn R to =
      pairwise_map R plain plain entries closed
      (turn_weaker (IsClosedOf under below is_alike entries) (λ it other. R (plain it) (plain other))
      (λ it other is. to it other is.key is.alike (λ lower.
      let leads = leads_alike lower (under it.0) in
      (λ listed. leads.0 ((is.below_it lower).0 listed), λ chain. (is.below_it lower).1 (leads.1 chain))))
      entries closed turn)

-- a name that no entry has is none of those of the plain data
pub none_plain : {K V P Q : Type 0} (under : K → P) (plain : K × V → P × Q) → ((e : K × V) → (plain e).0 ≡ under e.0)
    → (entries : List (K × V)) (name : P) → ¬ ((entry : K × V) × Contains entries entry × (under entry.0 ≡ name))
    → ¬ Contains (map (λ (it : P × Q). it.0) (map plain entries)) name
none_plain {P = P} {Q = Q} under plain keyed entries name none among =
    let it = Contains-preimage (λ (it : P × Q). it.0) (map plain entries) name among in
    let entry = Contains-preimage plain entries it.0 it.1 in
    none (entry.0, entry.1, sym (keyed entry.0) ∙ (ap (λ (it : P × Q). it.0) entry.2 ∙ it.2))
