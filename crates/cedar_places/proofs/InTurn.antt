-- What is listed entry by entry.
use Rattle.std.proofs.Common.{◌≡◌, List, [], ◌∷◌, ◌++◌, ap, sym, ◌∙◌, append_assoc}
use Rattle.std.proofs.lemmas.List.{append-nil}
use Rattle.std.specs.List.{flat_map}

module _ {X A : Type 0} (f : X → List A) where
  -- what is listed so far and what the entries that are left give are the whole
  abbrev pub IsListing : List A → List X → List A → Type 0
  IsListing so_far left whole = so_far ++ flat_map f left ≡ whole

  -- once an entry's part is listed, the others are left
  pub IsListing-next : (so_far more whole : List A) (entry : X) (left rest : List X) → left ≡ entry ∷ rest
      → more ≡ so_far ++ f entry → IsListing so_far left whole → IsListing more rest whole
  IsListing-next so_far more whole entry left rest is listed listing =
      ap (λ it. it ++ flat_map f rest) listed
      ∙ (append_assoc so_far (f entry) (flat_map f rest)
      ∙ (sym (ap (λ it. so_far ++ flat_map f it) is) ∙ listing))

  -- once no entry is left, the whole is listed
  pub IsListing-done : (so_far whole : List A) (left : List X) → left ≡ [] → IsListing so_far left whole → so_far ≡ whole
  IsListing-done so_far whole left none listing =
      sym (append-nil so_far) ∙ (sym (ap (λ it. so_far ++ flat_map f it) none) ∙ listing)
