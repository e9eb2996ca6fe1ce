-- What is reported of each choice of an enumerated entity type.
use Rattle.std.proofs.Common.{List, ◌∷◌, All, map, subst, ap, ◌∙◌, ⊎_elim, Contains}
use Rattle.cedar_ast.proofs.Lists.{Contains-cons_cases, Contains-preimage}

-- what holds of the first image and of each of the others holds of all
pub each_image : {A B : Type 0} (P : B → Type 0) (f : A → B) (first : A) (rest : List A) → P (f first) → All (λ x. P (f x)) rest
    → (y : B) → Contains (f first ∷ map f rest) y → P y
each_image P f first rest here all y among = ⊎_elim
    (λ same. subst P same here)
    (λ later. (let found = Contains-preimage f rest y later in
    let at = found.1 in
    subst P (ap f at.2 ∙ found.2) (all at.0 found.0 at.1)))
    (Contains-cons_cases (f first) (map f rest) y among)
