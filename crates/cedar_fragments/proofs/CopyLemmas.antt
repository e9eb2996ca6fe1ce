-- Copies of fragments: of the names in them, and of lists whose items show others.
use Rattle.std.proofs.Common.{◌≡◌, ◌++◌, List, [], ◌∷◌, Option, None, Some, map, refl, ap}
use Rattle.std.specs.List.{flat_map}
use Rattle.std.specs.Option.{option_map}
use Rattle.cedar_ast.proofs.ShownLemmas.{same_shown}
use Rattle.cedar_fragments.specs.Words.{AlikeConditional, AlikeEntity, AlikeFull, ConditionalName, EntityType, HoldsPairwise, InternalName, LocatedName, LocatesAlike, Locs, Reference, ReferenceType, RefersAlike, located_name, name_of, own_reference, positional_reference, reference_to_one, resolved_action_type, resolved_reference}

-- what alike names refer to is the same, of the kinds that they say themselves
pub own_alike : RefersAlike ConditionalName AlikeConditional own_reference
own_alike kind name copy alike = λ i. record { possibilities = alike.possibilities i; kind = alike.reference_type i }

-- of the kinds that their places permit
pub positional_alike : RefersAlike ConditionalName AlikeConditional positional_reference
positional_alike kind name copy alike = λ i. record { possibilities = alike.possibilities i; kind = kind }

-- by full names
pub resolved_alike : RefersAlike InternalName AlikeFull resolved_reference
resolved_alike kind name copy alike = ap (reference_to_one kind) alike.name

-- and by the types of actions
pub action_type_alike : RefersAlike EntityType AlikeEntity resolved_action_type
action_type_alike kind name copy alike = ap (reference_to_one kind) alike.name

-- lists show the same one after another where each item shows the same as that of the other in turn
pub same_flat : {A P : Type 0} (R : A → A → Type 0) (shown : A → List P) → ((x y : A) → R x y → shown y ≡ shown x) → (xs ys : List A)
    → HoldsPairwise R xs ys → flat_map shown ys ≡ flat_map shown xs
same_flat R shown same [] [] turn = refl
same_flat R shown same (x ∷ xs) (y ∷ ys) turn = λ i. same x y turn.0 i ++ same_flat R shown same xs ys turn.1 i
same_flat R shown same _ _ turn = absurd turn

module _ (N : Type 0) (alike : N → N → Type 0) where
  -- names that are alike pairwise refer to the same
  pub refer_same : (refer : ReferenceType → N → Reference) → RefersAlike N alike refer → (kind : ReferenceType)
      → (names copies : List N) → HoldsPairwise alike names copies → map (refer kind) copies ≡ map (refer kind) names
  refer_same refer fair kind = same_shown alike (refer kind) (fair kind)

  -- and the same locations stand in them
  pub locate_same : (locs : N → Locs) → LocatesAlike N alike locs
      → (names copies : List N) → HoldsPairwise alike names copies → flat_map locs copies ≡ flat_map locs names
  locate_same locs fair = same_flat alike locs fair

-- a namespace of the same name at the same location has the same name
pub same_namespace : (namespace copy : Option InternalName) → option_map located_name copy ≡ option_map located_name namespace
    → option_map name_of copy ≡ option_map name_of namespace
same_namespace None None e = refl
same_namespace (Some name) (Some copy) e = ap (option_map (λ (it : LocatedName). it.name)) e
same_namespace _ _ e = cc
