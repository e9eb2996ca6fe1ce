-- Lists to whose ends the items of others are put, one after another.
use Rattle.std.proofs.Common.{◌≡◌, List, [], ◌∷◌, ◌++◌, map, ap, sym, ◌∙◌, append_assoc}
use Rattle.std.proofs.lemmas.List.{map-append, append-nil}

module _ {A B C : Type 0} (g : B → C) (h : A → C) where
  -- at first all items are left
  pub add_none : (before made : List B) (left : List A) (others : List C) → made ≡ before → map h left ≡ others
      → map g made ++ map h left ≡ map g before ++ others
  add_none before made left others same shown = (λ i. map g (same i) ++ shown i)

  -- one more is put, which shows the same
  pub add_next : (made pushed : List B) (left rest : List A) (x : A) (y : B) (whole : List C) → left ≡ x ∷ rest → pushed ≡ made ++ y ∷ []
      → g y ≡ h x → map g made ++ map h left ≡ whole → map g pushed ++ map h rest ≡ whole
  add_next made pushed left rest x y whole is grown one so_far =
      cc (grown, map-append g made (y ∷ []), append_assoc (map g made) (g y ∷ []) (map h rest), one, is, so_far)

  -- where none is left, all are put
  pub add_all : (made : List B) (left : List A) (whole : List C) → left ≡ [] → map g made ++ map h left ≡ whole → map g made ≡ whole
  add_all made left whole nothing so_far =
      sym (append-nil (map g made)) ∙ (ap (λ items. map g made ++ map h items) (sym nothing) ∙ so_far)
