-- Entries of a table that are copied in order, each put behind the others.
use Rattle.std.proofs.Common.{◌≡◌, ◌++◌, List, [], ◌∷◌, Ok, Result, ap, append_assoc, sym, ◌∙◌}
use Rattle.std.proofs.lemmas.List.{append-nil}
use Rattle.std.specs.Cmp.{IsTotalOrder}
use Rattle.std.specs.List.{AllByRecursion}
use Rattle.std.specs.List.Sorted.{IsStrictlySortedBy}
use Rattle.std.specs.Map.{keys_of}
use Rattle.std.specs.Ordering.{ordering_reverse}
use Rattle.std.specs.declared.cmp.Ordering.{Ordering}
use Rattle.std.specs.declared.cmp.Ordering.TheVariants.{Equal, Less}
use Rattle.cedar_ast.proofs.TurnLemmas.{turn_more, turn_weaker}
use Rattle.cedar_table.specs.Words.{HoldsPairwise, Memory}

-- an entry is what calls give of another, with whose key its own ties
abbrev IsCopied : {K V : Type 0} → (K → K → Ordering) → (K → Result K Memory → Type 0) → (V → Result V Memory → Type 0)
    → K × V → K × V → Type 0
IsCopied R IsKey IsValue entry other = (R entry.0 other.0 ≡ Equal) × IsKey entry.0 (Ok other.0) × IsValue entry.1 (Ok other.1)

-- of the entries of a table some were copied, and the others are left
pub record CopiedSoFar {K V : Type 0} (R : K → K → Ordering) (IsKey : K → Result K Memory → Type 0)
    (IsValue : V → Result V Memory → Type 0) (all copies left : List (K × V)) : Type 0 where
  pub done : List (K × V)
  pub split : all ≡ done ++ left
  pub copied : HoldsPairwise (IsCopied R IsKey IsValue) done copies

module _ {K V : Type 0} (R : K → K → Ordering) (IsKey : K → Result K Memory → Type 0) (IsValue : V → Result V Memory → Type 0)
    (all : List (K × V)) where
  -- at first none was
  pub copied_none : (copies left : List (K × V)) → left ≡ all → copies ≡ [] → CopiedSoFar R IsKey IsValue all copies left
  copied_none copies left same empty = record { done = []; split = sym same; copied = rw empty tt }

  -- one more was
  pub copied_more : (copies after left rest : List (K × V)) (key copy : K) (value other : V) → left ≡ (key, value) ∷ rest
      → R key copy ≡ Equal → IsKey key (Ok copy) → IsValue value (Ok other) → after ≡ copies ++ (copy, other) ∷ []
      → CopiedSoFar R IsKey IsValue all copies left → CopiedSoFar R IsKey IsValue all after rest
  copied_more copies after left rest key copy value other is ties of_key of_value pushed so_far = record {
    done = so_far.done ++ (key, value) ∷ [];
    split = so_far.split ∙ (ap (λ others. so_far.done ++ others) is ∙ sym (append_assoc so_far.done ((key, value) ∷ []) rest));
    copied = rw pushed
        (turn_more (IsCopied R IsKey IsValue) so_far.done copies (key, value) (copy, other) so_far.copied (ties, of_key, of_value));
  }

  -- where none is left, all were
  copied_all : (copies left : List (K × V)) → left ≡ [] → CopiedSoFar R IsKey IsValue all copies left
      → HoldsPairwise (IsCopied R IsKey IsValue) all copies
  copied_all copies left nothing so_far =
      rw (so_far.split ∙ (ap (λ others. so_far.done ++ others) nothing ∙ append-nil so_far.done)) so_far.copied

  -- so calls give each of its entry
  pub copies_given : (copies left : List (K × V)) → left ≡ [] → CopiedSoFar R IsKey IsValue all copies left
      → HoldsPairwise (λ entry other. IsKey entry.0 (Ok other.0) × IsValue entry.1 (Ok other.1)) all copies
  copies_given copies left nothing so_far =
      turn_weaker (IsCopied R IsKey IsValue) (λ entry other. IsKey entry.0 (Ok other.0) × IsValue entry.1 (Ok other.1))
      (λ entry other copied. (copied.1, copied.2)) all copies (copied_all copies left nothing so_far)

module _ {K V : Type 0} (R : K → K → Ordering) (total : IsTotalOrder R) (IsKey : K → Result K Memory → Type 0)
    (IsValue : V → Result V Memory → Type 0) where
  -- what ties with a key is below what ties with what the key is below
  below_tied : (key copy other tied : K) → R key copy ≡ Equal → R other tied ≡ Equal → R key other ≡ Less → R copy tied ≡ Less
  below_tied key copy other tied ties also below =
      sym (total.congr key copy tied ties) ∙ (total.antisymm key tied
      ∙ (ap ordering_reverse (sym (total.congr other tied key also)) ∙ (sym (total.antisymm key other) ∙ below)))

  -- what ties with a key that is below others is below the copies of these
  below_copies : (entries copies : List (K × V)) (key copy : K) → R key copy ≡ Equal
      → HoldsPairwise (IsCopied R IsKey IsValue) entries copies
      → AllByRecursion (λ other. R key other ≡ Less) (keys_of entries) → AllByRecursion (λ other. R copy other ≡ Less) (keys_of copies)
  below_copies [] [] key copy ties turn below = tt
  below_copies (entry ∷ entries) (other ∷ copies) key copy ties turn below = (
    below_tied key copy entry.0 other.0 ties turn.0.0 below.0,
    below_copies entries copies key copy ties turn.1 below.1,
  )
  below_copies _ _ _ _ _ turn _ = absurd turn

  -- copies of entries in the order of their keys are so too
  in_order : (entries copies : List (K × V)) → HoldsPairwise (IsCopied R IsKey IsValue) entries copies
      → IsStrictlySortedBy R (keys_of entries) → IsStrictlySortedBy R (keys_of copies)
  unfolding IsStrictlySortedBy
  in_order [] [] turn sorted = tt
  in_order (entry ∷ entries) (other ∷ copies) turn sorted = (
    below_copies entries copies entry.0 other.0 turn.0.0 turn.1 sorted.0,
    in_order entries copies turn.1 sorted.1,
  )
  in_order _ _ turn _ = absurd turn

  -- where none is left, the copies are in the order of their keys
  pub copies_sorted : (all copies left : List (K × V)) → left ≡ [] → CopiedSoFar R IsKey IsValue all copies left
      → IsStrictlySortedBy R (keys_of all) → IsStrictlySortedBy R (keys_of copies)
  copies_sorted all copies left nothing so_far sorted =
      in_order all copies (copied_all R IsKey IsValue all copies left nothing so_far) sorted
