use Rattle.std.specs.Prelude.{◌≡◌, ◌⊎◌, List, [], Some, Contains}
use Rattle.cedar_schema_ast.specs.Words.{Body, Declaration, EntityBody, Expr, Reference, Requests, action, common_type, elsewhere, entity_type, enumerated, external, requests, standard}
use Rattle.cedar_schema_ast.specs.declared.json_schema.reference_type.ReferenceType.TheVariants.{Entity}
use Rattle.cedar_schema_semantics.specs.Bag.{Bag}
use Rattle.cedar_schema_semantics.specs.Mentions.{Refers}

-- the expression counts in what is declared of an entity type: it is the shape, or the type of the
-- tags (RFC 82)
abbrev pub CountsInEntity : EntityBody → Expr → Type 0
CountsInEntity (standard parents shape tags) expr = (shape ≡ expr) ⊎ (tags ≡ Some expr)
CountsInEntity _ expr = ⊥

-- the expression counts in the requests of an action: it is the context
abbrev pub CountsInRequests : Requests → Expr → Type 0
CountsInRequests (requests principals resources context) expr = context ≡ expr
CountsInRequests elsewhere expr = ⊥

-- the expression counts in what is declared: the definition of a common type, and what isn't
-- external otherwise (RFC 116)
abbrev pub CountsIn : Body → Expr → Type 0
CountsIn (common_type definition) expr = definition ≡ expr
CountsIn (entity_type body) expr = CountsInEntity body expr
CountsIn (action body) expr = CountsInRequests body.applies_to expr

-- the parents of an entity type
abbrev pub entity_parents : EntityBody → List Reference
entity_parents (standard parents shape tags) = parents
entity_parents (enumerated choices) = []
entity_parents (external parents) = parents

-- the reference is to a principal or a resource of the requests
abbrev pub IsPrincipalOrResource : Requests → Reference → Type 0
IsPrincipalOrResource (requests principals resources context) reference =
    Contains principals reference
    ⊎ Contains resources reference
IsPrincipalOrResource elsewhere reference = ⊥

-- the reference has to name an entity type: it is to a parent of an entity type, external ones too,
-- or to a principal or a resource of an action that isn't external
abbrev pub IsEntityTypePosition : Body → Reference → Type 0
IsEntityTypePosition (common_type definition) reference = ⊥
IsEntityTypePosition (entity_type body) reference = Contains (entity_parents body) reference
IsEntityTypePosition (action body) reference = IsPrincipalOrResource body.applies_to reference

-- the expression counts in some declaration of the bag
abbrev pub IsCounted : Bag → Expr → Type 0
IsCounted bag expr = (it : Declaration) × Contains bag it × CountsIn it.body expr

-- the reference stands at a position of some declaration of the bag that has to name an entity type
abbrev pub IsAtEntityTypePosition : Bag → Reference → Type 0
IsAtEntityTypePosition bag reference =
    (it : Declaration) × Contains bag it × IsEntityTypePosition it.body reference

-- the reference has to name something: it stands in an expression that counts, or at the position
-- of an entity type
abbrev pub HasToResolve : Bag → Reference → Type 0
HasToResolve bag reference = ((expr : Expr) × IsCounted bag expr × Refers expr reference)
    ⊎ IsAtEntityTypePosition bag reference

-- the references at the positions of entity types are to entity types, as a fragment writes them
abbrev pub PositionsFit : Bag → Type 0
PositionsFit bag = (reference : Reference) → IsAtEntityTypePosition bag reference
    → reference.kind ≡ Entity
