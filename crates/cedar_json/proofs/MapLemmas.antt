-- Entries that are put into maps, as plain data.
use Rattle.std.proofs.Common.{◌≡◌, List, [], ◌∷◌, map, refl, ap, ◌∙◌}
use Rattle.std.specs.BTreeMap.{insert_entry}
use Rattle.std.specs.Ordering.{match_ordering}
use Rattle.std.specs.declared.cmp.Ordering.{Ordering}
use Rattle.std.specs.declared.cmp.Ordering.TheVariants.{Less, Equal, Greater}

module _ {K X L Y : Type 0} (R : K → K → Ordering) (S : L → L → Ordering) (key : K → L) (value : X → Y)
    (same : (a b : K) → R a b ≡ S (key a) (key b)) where
  -- what entries stand for
  abbrev pub seen : List (K × X) → List (L × Y)
  seen entries = map (λ entry. (key entry.0, value entry.1)) entries

  -- an entry that is put into a map is put among those that the map stands for
  pub seen-insert : (entries : List (K × X)) (k : K) (x : X)
      → seen (insert_entry R entries k x) ≡ insert_entry S (seen entries) (key k) (value x)
  seen-insert [] k x = refl
  seen-insert (entry ∷ entries) k x = by (R k entry.0) (seen-insert entries k x) ∙ ap choice (same k entry.0)
    where
      choice : Ordering → List (L × Y)
      choice order = match_ordering order ((key k, value x) ∷ seen (entry ∷ entries)) ((key entry.0, value x) ∷ seen entries)
          ((key entry.0, value entry.1) ∷ insert_entry S (seen entries) (key k) (value x))

      by : (order : Ordering) → seen (insert_entry R entries k x) ≡ insert_entry S (seen entries) (key k) (value x)
          → seen (match_ordering order ((k, x) ∷ entry ∷ entries) ((entry.0, x) ∷ entries) (entry ∷ insert_entry R entries k x)) ≡ choice order
      by Less rest = refl
      by Equal rest = refl
      by Greater rest = ap (λ others. (key entry.0, value entry.1) ∷ others) rest
