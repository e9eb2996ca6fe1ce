use Rattle.std.specs.List.Sorted.{IsStrictlySortedBy}
use Rattle.std.specs.Prelude.{◌≡◌, Bool, List, [], ◌∷◌}
use Rattle.cedar_ast.specs.Words.{Text, last_named, text_cmp}
use Rattle.cedar_type_rules.specs.Ty.{Ty, record_of, Fields, end, field, field_at}
use Rattle.cedar_type_rules.specs.declared.open_tag.OpenTag.{OpenTag}

-- the names of a record's attributes
abbrev pub field_names : Fields → List Text
field_names end = []
field_names (field name required ty rest) = name ∷ field_names rest

-- the names are sorted without duplicates, so that none stands twice
abbrev pub IsSortedByName : Fields → Type 0
IsSortedByName fields = IsStrictlySortedBy text_cmp (field_names fields)

-- the attributes are those of the pairs, and of repeated names the last
abbrev pub HoldsLast : List (Text × (Bool × Ty)) → Fields → Type 0
HoldsLast items fields = (name : Text) → field_at name fields ≡ last_named name items

-- the record type of some pairs: its attributes are the last of each name, in order, and it has the
-- openness
abbrev pub IsRecordOf : List (Text × (Bool × Ty)) → OpenTag → Ty → Type 0
IsRecordOf items openness ty =
    (fields : Fields) × (ty ≡ record_of fields openness) × HoldsLast items fields
    × IsSortedByName fields
