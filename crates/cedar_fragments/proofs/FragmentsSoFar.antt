-- Definitions of a fragment that are made one after another.
use Rattle.std.proofs.Common.{◌≡◌, List, ◌∷◌, ◌++◌, Contains, Option, refl, arith, ap}
use Rattle.std.proofs.lemmas.List.Elements.{Contains-append_right}
use Rattle.std.specs.List.{AllByRecursion}
use Rattle.cedar_fragments.specs.Words.{Bag, IsSound, Name, NamespaceDefinition, RawName, ValidatorNamespaceDef, entry_declarations}
use Rattle.cedar_name_resolution.proofs.ListedSoFar.{ListedSoFar}

-- the entries of a fragment
abbrev pub Written : Type 0
Written = List (Option Name × NamespaceDefinition RawName)

module _ {N A : Type 0} (declare : ValidatorNamespaceDef N A → Bag) where
  -- some entries have given definitions that declare the same, and others are left
  abbrev pub FragmentsSoFar : Written → List (ValidatorNamespaceDef N A) → Written → Type 0
  FragmentsSoFar all made left = ListedSoFar (AllByRecursion IsSound) entry_declarations declare all made left

  -- the next entry is among all
  pub next_entry : (all left rest : Written) (made : List (ValidatorNamespaceDef N A))
      (entry : Option Name × NamespaceDefinition RawName) → left ≡ entry ∷ rest → FragmentsSoFar all made left → Contains all entry
  next_entry all left rest made entry is so_far =
      rw (so_far.split, ap (λ others. so_far.done ++ others) is)
      (Contains-append_right so_far.done (entry ∷ rest) entry (0, omega arith, refl))
