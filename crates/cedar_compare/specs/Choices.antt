-- The ids that entities of a type may have.
use Rattle.std.specs.Prelude.{List, Option, Some, None, Contains, map}
use Rattle.cedar_ast.specs.Words.{Text, eid_text, items_of}
use Rattle.cedar_ast.specs.declared.eid.Eid.{Eid}
use Rattle.cedar_ast.specs.declared.non_empty.NonEmpty.{NonEmpty}
use Rattle.cedar_schema_semantics.specs.EntityTypeKind.{EntityTypeKind, standard_kind, enumerated_kind, external_kind}

-- the choices of a kind; only enumerated entity types have some
abbrev pub kind_choices : EntityTypeKind → Option (List Text)
kind_choices (standard_kind fields openness tags) = None
kind_choices (enumerated_kind choices) = Some choices
kind_choices external_kind = None

-- the texts of some choices
abbrev pub choice_texts : NonEmpty Eid → List Text
choice_texts choices = map eid_text (items_of choices)

-- an entity may have the id, where these are the choices, if there are some
abbrev pub MayHave : Option (List Text) → Text → Type 0
MayHave None id = Unit {0}
MayHave (Some choices) id = Contains choices id

-- what is found of the choices of two types: an id that the first may have and the second may not,
-- or there is none
abbrev pub IsIdOutside : Option (List Text) → Option (List Text) → Option Text → Type 0
IsIdOutside old new None = (id : Text) → MayHave old id → MayHave new id
IsIdOutside old new (Some id) = MayHave old id × ¬ MayHave new id
