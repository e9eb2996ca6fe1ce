-- Faults of definitions, passed on to the whole, and bags of several definitions.
use Rattle.std.proofs.Common.{◌≡◌, ◌⊎◌, List, [], ◌∷◌, ◌++◌, map, ap, sym, ◌∙◌, refl, inl, inr, Contains, arith}
use Rattle.std.proofs.lemmas.List.Elements.{Contains-append_left, Contains-append_right}
use Rattle.std.specs.List.{AllByRecursion, flat_map}
use Rattle.cedar_ast.proofs.Lists.{Contains-cons_cases}
use Rattle.cedar_fragments.proofs.SoundLemmas.{fault_included}
use Rattle.cedar_fragments.specs.Words.{Bag, Declaration, Fault, Included, IsDefinitionFault, out_of_memory}
use Rattle.cedar_name_resolution.proofs.EachLemmas.{AllByRecursion-append}

-- the refusal of some declarations is that of all of them
pub refusal_included : (part whole : Bag) → Included part whole → (fault : Fault)
    → (fault ≡ out_of_memory) ⊎ IsDefinitionFault part fault → (fault ≡ out_of_memory) ⊎ IsDefinitionFault whole fault
refusal_included part whole included fault =
    elim [ inl memory ↦ inl memory | inr at_fault ↦ inr (fault_included part whole included fault at_fault) ]

-- the parts of three lists that are put together
pub first_included : (xs ys zs : Bag) → Included xs (xs ++ ys ++ zs)
first_included xs ys zs it among = Contains-append_left (xs ++ ys) zs it (Contains-append_left xs ys it among)

pub second_included : (xs ys zs : Bag) → Included ys (xs ++ ys ++ zs)
second_included xs ys zs it among = Contains-append_left (xs ++ ys) zs it (Contains-append_right xs ys it among)

pub third_included : (xs ys zs : Bag) → Included zs (xs ++ ys ++ zs)
third_included xs ys zs it among = Contains-append_right (xs ++ ys) zs it among

-- what several show is what each shows in turn
flat_map-map : {A C : Type 0} (f : A → List C) (xs : List A) → flat_map f xs ≡ flat_map (λ shown. shown) (map f xs)
flat_map-map f [] = refl
flat_map-map f (x ∷ xs) = ap (λ others. f x ++ others) (flat_map-map f xs)

module _ {A : Type 0} (f : A → Bag) where
  -- those of one are among those of all
  pub flat_map-included : (xs : List A) (x : A) → Contains xs x → Included (f x) (flat_map f xs)
  flat_map-included [] x here it among = absurd (omega (arith, here.1))
  flat_map-included (first ∷ rest) x here it among = elim (Contains-cons_cases first rest x here) [
    | inl same ↦ Contains-append_left (f first) (flat_map f rest) it (rw same among)
    | inr later ↦ Contains-append_right (f first) (flat_map f rest) it (flat_map-included rest x later it among)
  ]

  -- what holds of each declaration of each holds of each of all
  pub flat_map-each : (P : Declaration → Type 0) (xs : List A) → AllByRecursion (AllByRecursion P) (map f xs) → AllByRecursion P (flat_map f xs)
  flat_map-each P [] all = tt
  flat_map-each P (x ∷ xs) all = AllByRecursion-append P (f x) (flat_map f xs) all.0 (flat_map-each P xs all.1)

-- the same lists in turn are the same together
pub flat_map-same : {A B C : Type 0} (f : A → List C) (g : B → List C) (xs : List A) (ys : List B) → map f xs ≡ map g ys → flat_map f xs ≡ flat_map g ys
flat_map-same f g xs ys same = flat_map-map f xs ∙ (ap (flat_map (λ bag. bag)) same ∙ sym (flat_map-map g ys))
