-- What was read of a part of a value.
use Rattle.std.proofs.Common.{◌≡◌, ◌≢◌, Option, Some, None, Result, Ok, Err, MatchResult, ap, subst, sym, ◌∙◌}
use Rattle.cedar_json.specs.Words.{Fault, IsReadFrom, IsSeenFrom, IsTrueOf}
use Rattle.cedar_json.specs.declared.fault.Fault.TheVariants.{Memory}
use Rattle.json.specs.Json.{Json}

-- what is described was made, or memory ran out
pub made : {T A : Type 0} (r : Result T Fault) (j : Json) {described : Option A} (shown : T → A) (plain : A) → described ≡ Some plain
    → MatchResult r (λ it. shown it ≡ plain) (λ refusal. refusal ≡ Memory) → IsReadFrom j described shown r
made (Ok it) j shown plain is said = is ∙ ap Some (sym said)
made (Err refusal) j shown plain is said = (λ other. absurd (other said), subst (λ it. IsTrueOf it j) (sym said) tt)

module _ {T A : Type 0} (read : Result T Fault) (part : Json) (described : Option A) (shown : T → A) where
  -- a refusal of what was read of a part is one of the whole
  pub refused_inside : (whole : Json) (Holds : Json → Json → Type 0) (fault : Fault) → IsReadFrom part described shown read
      → MatchResult read (λ it. fault ≡ Memory) (λ inner. IsSeenFrom Holds inner fault) → Holds whole part
      → (fault ≢ Memory → described ≡ None) × IsTrueOf fault whole
  refused_inside whole Holds fault said seen held = by read said seen
    where
      by : (r : Result T Fault) → IsReadFrom part described shown r
          → MatchResult r (λ it. fault ≡ Memory) (λ inner. IsSeenFrom Holds inner fault)
          → (fault ≢ Memory → described ≡ None) × IsTrueOf fault whole
      by (Ok it) is out = (λ other. absurd (other out), subst (λ f. IsTrueOf f whole) (sym out) tt)
      by (Err inner) is seen_from = (λ other. is.0 (seen_from.0 other), seen_from.1 whole part held is.1)

  -- what was read of a part and taken over
  pub read_inside : (IsTaken : T → Type 0) → IsReadFrom part described shown read → MatchResult read IsTaken (λ inner. ⊥)
      → (it : T) × (described ≡ Some (shown it)) × IsTaken it
  read_inside IsTaken said taken = by read said taken
    where
      by : (r : Result T Fault) → IsReadFrom part described shown r → MatchResult r IsTaken (λ inner. ⊥)
          → (it : T) × (described ≡ Some (shown it)) × IsTaken it
      by (Ok it) is is_taken = (it, is, is_taken)
      by (Err inner) is is_taken = absurd is_taken
