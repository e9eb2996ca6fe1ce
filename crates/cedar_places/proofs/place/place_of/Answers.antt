use Rattle.std.proofs.Common.{subst, sym, ◌∙◌, map}
use Rattle.cedar_places.proofs.place.place_of.Goals as goal
use Rattle.cedar_places.specs.Words.{IsExtensionType, IsFirstPlace, IsPlaceOf, Loc, Mark, SchemaError, Text, marked}

pub returns-in-UnknownExtensionType : goal.returns-in-UnknownExtensionType
returns-in-UnknownExtensionType c =
    let table = map marked c.args.places.now.0.items in
    let place = c.first_place-in-UnknownExtensionType.result in
    let P : SchemaError → Type 0 = λ error. IsPlaceOf table error place in
    let Q : Text → Type 0 = λ name. IsFirstPlace (λ (mark : Mark) (loc : Loc). IsExtensionType name mark) table place in
    subst P (sym c.in-UnknownExtensionType.is)
    (subst Q (c.as_str.ensures.text ∙ c.basename.ensures) c.first_place-in-UnknownExtensionType.ensures)
