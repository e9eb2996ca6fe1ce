-- When a fault is told.
use Rattle.std.specs.Prelude.{◌≡◌, List, [], ◌∷◌, Option, Contains}
use Rattle.cedar_ast.specs.Words.{PlainName, Text}
use Rattle.cedar_schema_ast.specs.Words.{Reference}
use Rattle.cedar_schema_semantics.specs.Words.{Fault, action_attributes, action_not_defined, external_below_enumerated, type_not_defined, undeclared_entity_types}

-- the list has one item
abbrev pub IsSingle : {A : Type 0} → List A → Type 0
IsSingle {A = A} items = (item : A) × (items ≡ item ∷ [])

-- a fault that may name several of a kind names one
abbrev pub NamesOne : Fault → Type 0
NamesOne (action_attributes ids) = IsSingle ids
NamesOne (undeclared_entity_types names) = IsSingle names
NamesOne (type_not_defined references) = IsSingle references
NamesOne (action_not_defined actions) = IsSingle actions
NamesOne fault = Unit {0}

-- the fault is told: one that names several of a kind is told one by one; of an external type below
-- an enumerated one each of the two is told with some other; any other fault is told as it is
abbrev pub IsTold : List Fault → Fault → Type 0
IsTold told (action_attributes ids) =
    (id : Text) → Contains ids id → Contains told (action_attributes (id ∷ []))
IsTold told (undeclared_entity_types names) =
    (name : PlainName) → Contains names name → Contains told (undeclared_entity_types (name ∷ []))
IsTold told (type_not_defined references) =
    (reference : Reference) → Contains references reference
    → Contains told (type_not_defined (reference ∷ []))
IsTold told (action_not_defined actions) =
    (action : Text × Option Reference) → Contains actions action
    → Contains told (action_not_defined (action ∷ []))
IsTold told (external_below_enumerated lower upper) =
    ((other : PlainName) × Contains told (external_below_enumerated lower other))
    × ((other : PlainName) × Contains told (external_below_enumerated other upper))
IsTold told fault = Contains told fault
