-- Keys in order are those of different faults.
use Rattle.std.proofs.Common.{◌≡◌, ◌↔◌, ◌++◌, Result, Ok, Err, OnOk, List, [], ◌∷◌, map, sym, ◌∙◌, inl, inr}
use Rattle.std.proofs.lemmas.List.Elements.{All-contains, All-from_recursion}
use Rattle.std.specs.List.Sorted.{IsStrictlySortedBy}
use Rattle.std.specs.declared.cmp.Ordering.{Ordering}
use Rattle.std.specs.declared.cmp.Ordering.TheVariants.{Less, Equal}
use Rattle.cedar_ast.proofs.Lists.{Contains-preimage}
use Rattle.cedar_ast.specs.Words.{Twice}
use Rattle.cedar_diagnosis.specs.Adding.{Adds, TellsJust}

-- keys in strict order, which tie where they stand for the same, stand for it once
pub once_in_order : {K P : Type 0} (R : K → K → Ordering) (f : K → P) → ((a b : K) → (R a b ≡ Equal) ↔ (f a ≡ f b))
    → (keys : List K) → IsStrictlySortedBy R keys → (item : P) → ¬ Twice (map f keys) item
unfolding IsStrictlySortedBy
once_in_order R f tie [] sorted item twice = twice
once_in_order R f tie (first ∷ rest) sorted item twice =
    elim twice [
      | inl here ↦
          let found = Contains-preimage f rest item here.1 in
          let less : R first found.0 ≡ Less =
          All-contains (λ each. R first each ≡ Less) rest found.0 (All-from_recursion (λ each. R first each ≡ Less) rest sorted.0) found.1 in
          let equal : R first found.0 ≡ Equal = (tie first found.0).1 (here.0 ∙ sym found.2) in
          cc
      | inr later ↦ once_in_order R f tie rest sorted.1 item later
    ]

-- where what is told are just some items, each once, it tells just what these are
pub tells_just : {P E : Type 0} (result : Result Unit E) (Holds : P → Type 0) (before after more : List P)
    → OnOk result (after ≡ before ++ more) → Adds Holds [] more → OnOk result ((item : P) → ¬ Twice more item)
    → OnOk result (TellsJust Holds before after)
tells_just (Ok x) Holds before after more told just once = record { more = more; told = told; just = just; once = once }
tells_just (Err x) Holds before after more told just once = tt
