-- Entries of a map that are copied in order, so that each copy is put behind the others.
use Rattle.std.proofs.Common.{◌≡◌, ◌++◌, List, [], ◌∷◌, Ok, Result, ap, append_assoc, sym, ◌∙◌}
use Rattle.std.proofs.lemmas.List.{append-nil, map-append}
use Rattle.std.specs.BTreeMap.{insert_entry}
use Rattle.std.specs.Cmp.{IsTotalOrder}
use Rattle.std.specs.List.{AllByRecursion}
use Rattle.std.specs.List.Sorted.{IsStrictlySortedBy}
use Rattle.std.specs.Map.{keys_of}
use Rattle.std.specs.Ordering.{ordering_reverse}
use Rattle.std.specs.declared.cmp.Ordering.{Ordering}
use Rattle.std.specs.declared.cmp.Ordering.TheVariants.{Equal, Greater}
use Rattle.cedar_ast.proofs.Ordered.{above_front, insert_entry-end}
use Rattle.cedar_ast.proofs.TurnLemmas.{turn_more}
use Rattle.cedar_ast.specs.Words.{HoldsPairwise, Memory}

-- a copy ties with the key of an entry
abbrev Ties : {K V : Type 0} → (K → K → Ordering) → K × V → K × V → Type 0
Ties R entry other = R entry.0 other.0 ≡ Equal

module _ {K : Type 0} (R : K → K → Ordering) (total : IsTotalOrder R) where
  -- what ties with a key is above what ties with what the key is above
  above_tied : (key copy other tied : K) → R key copy ≡ Equal → R other tied ≡ Equal → R key other ≡ Greater → R copy tied ≡ Greater
  above_tied key copy other tied ties also above =
      sym (total.congr key copy tied ties) ∙ (total.antisymm key tied
      ∙ (ap ordering_reverse (sym (total.congr other tied key also)) ∙ (sym (total.antisymm key other) ∙ above)))

  -- what ties with a key that is above others is above those that tie with these
  above_copies : {V : Type 0} (done copies : List (K × V)) (key copy : K) → R key copy ≡ Equal
      → HoldsPairwise (Ties R) done copies
      → AllByRecursion (λ other. R key other ≡ Greater) (keys_of done) → AllByRecursion (λ other. R copy other ≡ Greater) (keys_of copies)
  above_copies [] [] key copy ties turn above = tt
  above_copies (entry ∷ done) (other ∷ copies) key copy ties turn above = (
    above_tied key copy entry.0 other.0 ties turn.0 above.0,
    above_copies done copies key copy ties turn.1 above.1,
  )
  above_copies _ _ _ _ _ turn _ = absurd turn

-- an entry is what calls give of another
abbrev IsCopied : {K V : Type 0} → (K → Result K Memory → Type 0) → (V → Result V Memory → Type 0) → K × V → K × V → Type 0
IsCopied IsKey IsValue entry other = IsKey entry.0 (Ok other.0) × IsValue entry.1 (Ok other.1)

-- of the entries of a map, which are in order, some were copied, and the others are left
pub record CopiedSoFar {K V : Type 0} (R : K → K → Ordering) (IsKey : K → Result K Memory → Type 0)
    (IsValue : V → Result V Memory → Type 0) (all copies left : List (K × V)) : Type 0 where
  pub done : List (K × V)
  pub split : all ≡ done ++ left
  pub ordered : IsStrictlySortedBy R (keys_of all)
  pub tied : HoldsPairwise (Ties R) done copies
  pub copied : HoldsPairwise (IsCopied IsKey IsValue) done copies

module _ {K V : Type 0} (R : K → K → Ordering) (total : IsTotalOrder R) (IsKey : K → Result K Memory → Type 0)
    (IsValue : V → Result V Memory → Type 0) (all : List (K × V)) where
  -- at first none was
  pub copied_none : (copies left : List (K × V)) → left ≡ all → copies ≡ [] → IsStrictlySortedBy R (keys_of all)
      → CopiedSoFar R IsKey IsValue all copies left
  copied_none copies left same empty ordered = record {
    done = [];
    split = sym same;
    ordered = ordered;
    tied = rw empty tt;
    copied = rw empty tt;
  }

  -- one more was
  pub copied_more : (copies after left rest : List (K × V)) (key copy : K) (value other : V) → left ≡ (key, value) ∷ rest
      → R key copy ≡ Equal → IsKey key (Ok copy) → IsValue value (Ok other) → after ≡ insert_entry R copies copy other
      → CopiedSoFar R IsKey IsValue all copies left → CopiedSoFar R IsKey IsValue all after rest
  copied_more copies after left rest key copy value other is ties of_key of_value inserted so_far =
      let split : all ≡ so_far.done ++ (key, value) ∷ rest = so_far.split ∙ ap (λ others. so_far.done ++ others) is in
      let sorted : IsStrictlySortedBy R (keys_of so_far.done ++ key ∷ keys_of rest) =
      rw (ap keys_of split ∙ map-append (λ entry. entry.0) so_far.done ((key, value) ∷ rest)) at so_far.ordered in
      let above = above_copies R total so_far.done copies key copy ties so_far.tied
      (above_front total (keys_of so_far.done) key (keys_of rest) sorted) in
      let behind : copies ++ (copy, other) ∷ [] ≡ after = sym (inserted ∙ insert_entry-end R copies copy other above) in
      record {
        done = so_far.done ++ (key, value) ∷ [];
        split = split ∙ sym (append_assoc so_far.done ((key, value) ∷ []) rest);
        ordered = so_far.ordered;
        tied = rw behind at (turn_more (Ties R) so_far.done copies (key, value) (copy, other) so_far.tied ties);
        copied = rw behind at (turn_more (IsCopied IsKey IsValue) so_far.done copies (key, value) (copy, other) so_far.copied (of_key, of_value));
      }

  -- where none is left, all were
  pub copied_all : (copies left : List (K × V)) → left ≡ [] → CopiedSoFar R IsKey IsValue all copies left
      → HoldsPairwise (IsCopied IsKey IsValue) all copies
  copied_all copies left nothing so_far =
      rw (so_far.split ∙ (ap (λ others. so_far.done ++ others) nothing ∙ append-nil so_far.done)) so_far.copied
