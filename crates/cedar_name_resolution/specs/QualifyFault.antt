use Rattle.std.specs.Prelude.{◌≡◌, ◌≢◌, ◌⊎◌, [], Some, Option, Contains}
use Rattle.cedar_ast.specs.Words.{IsReserved, PlainName, Text}
use Rattle.cedar_schema_ast.specs.Words.{ActionReference, Body, Declaration, Expr, Reference, Requests, action}
use Rattle.cedar_schema_semantics.specs.Words.{Bag, CountsIn, CountsInRequests, Fault, HasToResolve, IsEntityTypePosition, IsPrincipalOrResource, IsUnresolved, Names, NamesNoAction, Refers, ResolvesTo, action_not_defined, out_of_memory, reserved_name, type_not_defined}

-- the reference has to name something: it stands in an expression that counts in what is declared,
-- or at the position of an entity type
abbrev pub HasToResolveIn : Body → Reference → Type 0
HasToResolveIn body reference =
    ((expr : Expr) × CountsIn body expr × Refers expr reference)
    ⊎ IsEntityTypePosition body reference

-- the reference has to name something in requests: it stands in their context, or is to a principal
-- or a resource
abbrev pub HasToResolveFor : Requests → Reference → Type 0
HasToResolveFor it reference =
    ((expr : Expr) × CountsInRequests it expr × Refers expr reference)
    ⊎ IsPrincipalOrResource it reference

-- the reference is to a parent of the action that is declared
abbrev pub IsParentIn : Body → ActionReference → Type 0
IsParentIn (action body) parent = Contains body.parents parent
IsParentIn _ parent = ⊥

-- the reference is to a principal or a resource of the action that is declared
abbrev pub IsRequestedIn : Body → Reference → Type 0
IsRequestedIn (action body) reference = IsPrincipalOrResource body.applies_to reference
IsRequestedIn _ reference = ⊥

-- the reference is to a parent of some action that is declared
abbrev pub IsAnyParent : Bag → ActionReference → Type 0
IsAnyParent bag parent = (it : Declaration) × Contains bag it × IsParentIn it.body parent

-- the reference is to a principal or a resource of some action that is declared
abbrev pub IsRequested : Bag → Reference → Type 0
IsRequested bag reference = (it : Declaration) × Contains bag it × IsRequestedIn it.body reference

-- over the names that are defined, and over what has to resolve: references, parents of actions,
-- and principals and resources
module _ (names : Names) (HasTo : Reference → Type 0) (IsParent : ActionReference → Type 0)
    (IsOfRequest : Reference → Type 0) where
  -- the refusal names what can't be resolved: references that name nothing, parents of actions that
  -- name nothing, or a reserved name that a principal or a resource resolves to; or memory ran out
  abbrev pub IsUnresolvable : Fault → Type 0
  IsUnresolvable (type_not_defined references) =
      (references ≢ [])
      × ((reference : Reference) → Contains references reference
      → HasTo reference × IsUnresolved names reference)
  IsUnresolvable (action_not_defined actions) =
      (actions ≢ [])
      × ((carried : Text × Option Reference) → Contains actions carried
      → (parent : ActionReference) × IsParent parent × (carried ≡ (parent.id, Some parent.ty))
      × NamesNoAction names.actions parent)
  IsUnresolvable (reserved_name name) =
      (reference : Reference) × IsOfRequest reference × ResolvesTo names reference name
      × IsReserved name
  IsUnresolvable out_of_memory = Unit {0}
  IsUnresolvable _ = ⊥

-- over the names that are defined, none of some principals and resources resolves to a reserved
-- name
abbrev pub NoneIsReserved : Names → (Reference → Type 0) → Type 0
NoneIsReserved names IsOfRequest =
    (reference : Reference) (name : PlainName) → IsOfRequest reference
    → ResolvesTo names reference name → ¬ IsReserved name

-- the refusal names what can't be resolved in what is declared
abbrev pub IsUnresolvableIn : Names → Body → Fault → Type 0
IsUnresolvableIn names body = IsUnresolvable names (HasToResolveIn body) (IsParentIn body)
    (IsRequestedIn body)

-- the refusal names what can't be resolved in a bag
abbrev pub IsUnresolvableBag : Names → Bag → Fault → Type 0
IsUnresolvableBag names bag = IsUnresolvable names (HasToResolve bag) (IsAnyParent bag)
    (IsRequested bag)
