-- Lists that show the same through two functions.
use Rattle.std.proofs.Common.{◌≡◌, List, [], ◌∷◌, ◌++◌, map, ap, sym, ◌∙◌}
use Rattle.std.proofs.lemmas.Grind.{flat_map-append}
use Rattle.std.proofs.lemmas.List.{map-append}
use Rattle.std.specs.List.{flat_map}

-- with one more item each, where these show the same
pub one_more : {A B C : Type 0} (f : A → C) (g : B → C) (made pushed : List A) (done : List B) (x : A) (y : B)
    → pushed ≡ made ++ x ∷ [] → map f made ≡ map g done → f x ≡ g y → map f pushed ≡ map g (done ++ y ∷ [])
one_more f g made pushed done x y is same one =
    ap (map f) is ∙ (map-append f made (x ∷ []) ∙ ((λ i. same i ++ one i ∷ []) ∙ sym (map-append g done (y ∷ []))))

-- the same where the items show several each
pub flat_one_more : {A B C : Type 0} (f : A → List C) (g : B → List C) (made pushed : List A) (done : List B) (x : A) (y : B)
    → pushed ≡ made ++ x ∷ [] → flat_map f made ≡ flat_map g done → f x ≡ g y → flat_map f pushed ≡ flat_map g (done ++ y ∷ [])
flat_one_more f g made pushed done x y is same one =
    ap (flat_map f) is ∙ (flat_map-append f made (x ∷ [])
    ∙ ((λ i. same i ++ (one i ++ [])) ∙ sym (flat_map-append g done (y ∷ []))))
