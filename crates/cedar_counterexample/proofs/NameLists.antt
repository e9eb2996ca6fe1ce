-- Lists whose members are looked for in others, one after another.
use Rattle.std.proofs.Common.{List, ◌∷◌, Contains}
use Rattle.cedar_ast.proofs.Inclusion.{Included-cons, Included-head, Included-tail}
use Rattle.cedar_ast.specs.Lists.{Included}

-- what is left of a list decides whether all of it is included in another, and is part of it
abbrev pub IncludedSoFar : {A : Type 0} → List A → List A → List A → Type 0
IncludedSoFar lower upper left = (Included left upper → Included lower upper) × Included left lower

module _ {A : Type 0} (lower upper : List A) where
  -- the next member is one of the list
  pub included_here : (x : A) (rest : List A) → IncludedSoFar lower upper (x ∷ rest) → Contains lower x
  included_here x rest so_far = Included-head x rest lower so_far.1

  -- past a member of the other the rest decides
  pub included_next : (x : A) (rest : List A) → IncludedSoFar lower upper (x ∷ rest) → Contains upper x → IncludedSoFar lower upper rest
  included_next x rest so_far there =
      ((λ others. so_far.0 (Included-cons x rest upper there others)), Included-tail x rest lower so_far.1)
