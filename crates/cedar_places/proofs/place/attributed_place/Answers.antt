use Rattle.std.proofs.Common.{◌≡◌, List, [], ◌∷◌, Option, Some, map, string_bytes, subst, ap, ◌∙◌}
use Rattle.std.specs.List.{slice_get}
use Rattle.std.specs.declared.alloc.Global.{Global}
use Rattle.std.specs.declared.string.String.{String}
use Rattle.cedar_places.proofs.place.attributed_place.Goals as goal
use Rattle.cedar_places.specs.Words.{IsAttributedAction, IsAttributedPlace, IsFirstPlace, Loc, Mark, Marks, Text, marked}

-- the place of the first action that has attributes and an id
abbrev Found : Marks → Option Loc → Text → Type 0
Found table place id = IsFirstPlace (λ (mark : Mark) (loc : Loc). IsAttributedAction id mark) table place

-- it is the place of the attributed action, where the id is the first
of_the_first : (table : Marks) (ids : List (String Global)) (id : String Global) (place : Option Loc)
    → Some id ≡ slice_get ids 0 → Found table place (string_bytes id) → IsAttributedPlace table ids place
of_the_first table [] id place first found = absurd cc
of_the_first table (other ∷ rest) id place first found =
    let same : id ≡ other = cc in subst (Found table place) (ap string_bytes same) found

pub returns-in-Some : goal.returns-in-Some
returns-in-Some c =
    let table = map marked c.args.places.now.0.items in
    of_the_first table c.args.ids.now.items c.in-Some.id.now c.first_place.result
    (c.in-Some.ensures.value ∙ ap (λ ids. slice_get ids 0) c.deref.ensures.value)
    (subst (Found table c.first_place.result) c.as_str.ensures.value c.first_place.ensures)
