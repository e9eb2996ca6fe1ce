-- Lists that are gone through to their end.
use Rattle.std.proofs.Common.{◌≡◌, ◌∙◌, List, None, ap, length, refl, sym}
use Rattle.std.proofs.lemmas.Iterator.Adapters.{YieldsList-from_vec}
use Rattle.std.proofs.lemmas.Iterator.Consumers.{YieldsList-end}
use Rattle.std.proofs.lemmas.List.{map-id}
use Rattle.std.specs.Iterator.{Yields}
use Rattle.std.specs.Vec.Iter.{into_iter_items, into_iter_len, into_iter_steps}

-- once none is left, all items were yielded
pub all_yielded : {A Z : Type 0} (s t u : _) (all yielded : List A) → into_iter_items s ≡ all → into_iter_len s ≡ length (into_iter_items s)
    → Yields (into_iter_steps {X = A} {Z = Z}) s yielded t → into_iter_steps t None u → yielded ≡ all
all_yielded s t u all yielded begins fits so_far ended =
    sym (map-id yielded)
    ∙ (YieldsList-end (YieldsList-from_vec {s = s} all begins (fits ∙ ap length begins)) yielded t so_far None u refl ended).0
