use Rattle.std.specs.BTreeMap.{values}
use Rattle.std.specs.Ordering.{is_eq}
use Rattle.std.specs.Prelude.{Option, List, find}
use Rattle.cedar_ast.specs.Entity.{entity_uid}
use Rattle.cedar_ast.specs.PlainUid.{PlainUid, uid_cmp}
use Rattle.cedar_ast.specs.declared.entities.Entities.{Entities}
use Rattle.cedar_ast.specs.declared.entity.Entity.{Entity}

-- the entities of a collection, in uid order
abbrev pub entities_of : Entities → List Entity
entities_of it = values it.entities

-- the entity of this uid
abbrev pub entity_at : Entities → PlainUid → Option Entity
entity_at it uid = find (λ entity. is_eq (uid_cmp uid (entity_uid entity))) (entities_of it)
