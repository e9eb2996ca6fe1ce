use Rattle.std.specs.BTreeMap.{BTreeMap}
use Rattle.std.specs.Prelude.{List, Option, String, map}
use Rattle.std.specs.declared.alloc.Global.{Global}
use Rattle.cedar_ast.specs.EntityUID.{uid_loc, uid_of, uid_type_loc}
use Rattle.cedar_ast.specs.PlainUid.{PlainUid}
use Rattle.cedar_ast.specs.declared.entity.Entity.{Entity}
use Rattle.cedar_ast.specs.declared.loc.Loc.{Loc}
use Rattle.cedar_ast.specs.declared.value.Value.{Value}

-- the uid of an entity
abbrev pub entity_uid : Entity → PlainUid
entity_uid entity = uid_of entity.uid

-- where the uid of an entity was written
abbrev pub entity_uid_loc : Entity → Option Loc
entity_uid_loc entity = uid_loc entity.uid

-- where the type in the uid of an entity was written
abbrev pub entity_uid_type_loc : Entity → Option Loc
entity_uid_type_loc entity = uid_type_loc entity.uid

-- the attributes of an entity
abbrev pub entity_attrs : Entity → BTreeMap (String Global) Value
entity_attrs entity = entity.attrs

-- the tags of an entity
abbrev pub entity_tags : Entity → BTreeMap (String Global) Value
entity_tags entity = entity.tags

-- the uids of an entity's ancestors, in uid order
abbrev pub entity_ancestors : Entity → List PlainUid
entity_ancestors entity = map uid_of entity.ancestors.keys
