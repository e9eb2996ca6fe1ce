-- The last item of a list that begins with one item and goes on with the images of others.
use Rattle.std.proofs.Common.{◌≡◌, ◌-◌, suc, List, [], ◌∷◌, Some, map, length, slice_get, ap, sym, ◌∙◌, arith}
use Rattle.std.proofs.lemmas.List.{length-map}
use Rattle.std.proofs.lemmas.Option.{slice_get-map}
use Rattle.std.specs.Option.{option_map}

-- where there are others, it is the image of the last of them
pub last-image : {A B : Type 0} (f : A → B) (first : B) (others : List A) (last : A)
    → slice_get others (length others - 1) ≡ Some last → slice_get (first ∷ map f others)
    (length (first ∷ map f others) - 1) ≡ Some (f last)
last-image f first [] last is-last = cc
last-image f first (next ∷ rest) last is-last =
    let place : length (first ∷ map f (next ∷ rest)) - 1 ≡ suc (length rest) = omega (arith, length-map rest f) in
    let before : length (next ∷ rest) - 1 ≡ length rest = omega arith in
    ap (slice_get (first ∷ map f (next ∷ rest))) place ∙ slice_get-map f (next ∷ rest) (length rest)
    ∙ ap (option_map f) (sym (ap (slice_get (next ∷ rest)) before) ∙ is-last)
