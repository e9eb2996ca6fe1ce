-- Maps of pairs of which some still wait.
use Rattle.std.specs.BTreeMap.{insert_entry}
use Rattle.std.specs.List.{AllPairs}
use Rattle.std.specs.Prelude.{◌≡◌, List, [], ◌∷◌}
use Rattle.std.specs.declared.cmp.Ordering.{Ordering}
use Rattle.std.specs.declared.cmp.Ordering.TheVariants.{Less}

-- entries with pairs that are put to them in turn
abbrev pub all_put : {K V : Type 0} → (K → K → Ordering) → List (K × V) → List (K × V)
    → List (K × V)
all_put cmp entries [] = entries
all_put cmp entries (pair ∷ pairs) =
    all_put cmp (insert_entry cmp entries pair.0 pair.1) pairs

-- each key is less than those behind it
abbrev pub IsAscending : {K V : Type 0} → (K → K → Ordering) → List (K × V) → Type 0
IsAscending cmp pairs = AllPairs (λ one other. cmp one.0 other.0 ≡ Less) pairs
