use Rattle.std.specs.BTreeMap.{BTreeMap}
use Rattle.std.specs.Prelude.{◌≡◌, All}
use Rattle.cedar_ast.specs.Entity.{entity_uid}
use Rattle.cedar_ast.specs.EntityUID.{uid_of}
use Rattle.cedar_ast.specs.declared.entity.Entity.{Entity}
use Rattle.cedar_ast.specs.declared.entity_uid.EntityUID.{EntityUID}

-- each entity stands at its own uid
abbrev pub IsKeyed : BTreeMap EntityUID Entity → Type 0
IsKeyed entities = All (λ entry. uid_of entry.0 ≡ entity_uid entry.1) entities.entries
