-- What a new version of a schema keeps of an old one.
use Rattle.std.specs.Prelude.{◌≡◌}
use Rattle.cedar_ast.specs.Words.{PlainName, PlainUid}
use Rattle.cedar_ast.specs.declared.extension.Extensions.{Extensions}
use Rattle.cedar_entities.specs.Entities.{IsEntityIn, IsEntityOfType, IsReal}
use Rattle.cedar_entities.specs.Requests.{IsOfTypes, IsRealRequest, IsRequestIn, PlainRequest}
use Rattle.cedar_schema_semantics.specs.Words.{ActionEntity, IsEntityOfAction, PlainSchema}

-- every entity and every request of the old schema is one of the new
pub record Keeps (extensions : Extensions) (old new : PlainSchema) : Type 0 where
  pub entities : (it : ActionEntity) → IsReal it → IsEntityIn extensions old it
      → IsEntityIn extensions new it
  pub requests : (it : PlainRequest) → IsRealRequest it → IsRequestIn extensions old it
      → IsRequestIn extensions new it

-- the new schema lacks the entity, which is of one of the old one's entity types
abbrev pub IsLostEntity : Extensions → PlainSchema → PlainSchema → ActionEntity → Type 0
IsLostEntity extensions old new it =
    IsReal it × IsEntityOfType extensions old it × ¬ IsEntityIn extensions new it

-- the new schema lacks the entity, which is that of one of the old one's actions
abbrev pub IsLostAction : Extensions → PlainSchema → PlainSchema → ActionEntity → Type 0
IsLostAction extensions old new it =
    IsReal it × IsEntityOfAction old it × ¬ IsEntityIn extensions new it

-- the new schema lacks the request, which is one of the old one
abbrev pub IsLostRequest : Extensions → PlainSchema → PlainSchema → PlainRequest → Type 0
IsLostRequest extensions old new it =
    IsRealRequest it × IsRequestIn extensions old it × ¬ IsRequestIn extensions new it

-- the new schema lacks an entity that is of the old one's entity type of that name
abbrev pub LosesEntityType : Extensions → PlainSchema → PlainSchema → PlainName → Type 0
LosesEntityType extensions old new name =
    (it : ActionEntity) × (it.uid.ty ≡ name) × IsLostEntity extensions old new it

-- the new schema lacks the entity of the old one's action of that uid
abbrev pub LosesAction : Extensions → PlainSchema → PlainSchema → PlainUid → Type 0
LosesAction extensions old new uid =
    (it : ActionEntity) × (it.uid ≡ uid) × IsLostAction extensions old new it

-- the new schema lacks a request of the old one with these types of principal and resource, and
-- this action
abbrev pub LosesRequest :
    Extensions → PlainSchema → PlainSchema → PlainName → PlainUid → PlainName → Type 0
LosesRequest extensions old new principal action resource =
    (it : PlainRequest) × IsOfTypes principal action resource it
    × IsLostRequest extensions old new it

-- each entity of the old one's entity type of that name is one of the new schema
abbrev pub KeepsEntityType : Extensions → PlainSchema → PlainSchema → PlainName → Type 0
KeepsEntityType extensions old new name =
    (it : ActionEntity) → it.uid.ty ≡ name → IsReal it → IsEntityOfType extensions old it
    → IsEntityIn extensions new it

-- the entity of the old one's action of that uid is one of the new schema
abbrev pub KeepsAction : Extensions → PlainSchema → PlainSchema → PlainUid → Type 0
KeepsAction extensions old new uid =
    (it : ActionEntity) → it.uid ≡ uid → IsReal it → IsEntityOfAction old it
    → IsEntityIn extensions new it

-- each request of the old schema with these types of principal and resource, and this action, is
-- one of the new
abbrev pub KeepsRequest :
    Extensions → PlainSchema → PlainSchema → PlainName → PlainUid → PlainName → Type 0
KeepsRequest extensions old new principal action resource =
    (it : PlainRequest) → IsOfTypes principal action resource it → IsRealRequest it
    → IsRequestIn extensions old it → IsRequestIn extensions new it
